-- The law as proved.
use Rattle.edi_kernel.proofs.Passed.{moment_is_newest}
use Rattle.edi_kernel.proofs.laws.moment_is_newest.Goals as goal

pub returns : goal.returns
returns c = record { law = moment_is_newest }
