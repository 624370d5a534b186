-- Words of contracts. What loading a code file answers, by the step of commands.
use Rattle.std.specs.Prelude.{ℕ, List, Result, Ok, Err, ⊤}
use Rattle.edi_target.specs.declared.code_fault.CodeFault.{CodeFault}
use Rattle.edi_target.specs.declared.code_fault.CodeFault.TheVariants.{NoMemory}
use Rattle.edi_target.specs.Check.{CodeParts}
use Rattle.edi_statuses.specs.declared.status.Status.{Status}
use Rattle.edi_statuses.specs.declared.status.Status.TheVariants as status
use Rattle.edi_statuses.specs.Steps.{goes, stops, Loads}

-- the code of these bytes, or their first fault; memory may be wanting
abbrev pub LoadStep : (bytes : List ℕ) → Result CodeParts Status → Type 0
LoadStep bytes (Ok code) = Loads bytes (goes code)
LoadStep bytes (Err status.NoMemory) = ⊤
LoadStep bytes (Err s) = Loads bytes (stops s)

-- the status of a code file that is not loaded
abbrev pub load_status : CodeFault → Status
load_status NoMemory = status.NoMemory
load_status broken = status.BadCode broken
