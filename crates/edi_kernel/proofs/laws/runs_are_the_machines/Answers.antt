-- The law as proved.
use Rattle.edi_kernel.proofs.Machines.{runs_are_the_machines}
use Rattle.edi_kernel.proofs.laws.runs_are_the_machines.Goals as goal

pub returns : goal.returns
returns c = record { law = runs_are_the_machines }
