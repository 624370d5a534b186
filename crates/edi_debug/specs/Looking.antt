-- Words of contracts. What is looked at behind a stint: the memory, and the activity of the process that has arrived.
use Rattle.std.specs.Prelude.{ℕ, ◌-◌, List, [], Option, Some, None}
use Rattle.edi_unit.specs.Tree.{ProgramUnit}
use Rattle.edi_target.specs.Mach.{activity_of, at_when}
use Rattle.edi_machine.specs.declared.activity.Activity.{Activity}
use Rattle.edi_machine.specs.Activities.{local_of}
use Rattle.edi_target.specs.Arrivals.{Arrived}
use Rattle.edi_debug.specs.stops.Stops.{Watched}
use Rattle.edi_debug.specs.stops.Watching.{stop_lines}

-- the arrival that a process with this activity is; lines do not look at its name and its forks
abbrev pub arrived_now : List ℕ → Activity → (turns : ℕ) → Arrived
arrived_now memory a turns = record { process = []; activity = activity_of (local_of [] a) 0 at_when; memory = memory; turns = turns }

-- the lines behind a stint, where so many turns are used
abbrev pub stop_now : ProgramUnit → (bound : ℕ) → List ℕ → Option Activity → (used : ℕ) → List Watched → List (List ℕ)
stop_now unit bound memory None used points = []
stop_now unit bound memory (Some a) used points = stop_lines unit bound points (arrived_now memory a (bound - used))
