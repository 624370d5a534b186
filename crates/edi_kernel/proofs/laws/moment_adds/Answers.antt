-- The law as proved.
use Rattle.edi_kernel.proofs.Passed.{moment_adds_news}
use Rattle.edi_kernel.proofs.laws.moment_adds.Goals as goal

pub returns : goal.returns
returns c = record { law = moment_adds_news }
