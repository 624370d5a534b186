-- Definition. WHO RAN LAST: the process whose instruction ended a run. The program's entry is an instruction of the first process.
use Rattle.std.specs.Prelude.{ℕ, zero, suc, ◌++◌, List, [], Option, Some, None}
use Rattle.edi_calls.specs.Choice.{Choices}
use Rattle.edi_calls.specs.Names.{Name}
use Rattle.edi_calls.specs.Ready.{stays, joins, Taking, nobody, taking, take_next}
use Rattle.edi_calls.specs.State.{State}
use Rattle.edi_target.specs.Op.{Instruction}
use Rattle.edi_target.specs.Mach.{Machine, Stepped, went, ended, step, entered}

abbrev pub ender_on : Taking → (Name → List Name → ℕ → Option Name) → Option Name
ender_on nobody more = None
ender_on (taking p others drawn) more = more p others drawn

-- by this step of p, or after it
abbrev pub ender_after : Choices → (Machine → Name → List Name → ℕ → Option Name) → Name → List Name → ℕ → Stepped → Option Name
ender_after choices more p others drawn (ended ending m) = Some p
ender_after choices more p others drawn (went m stays) = more m p others drawn
ender_after choices more p others drawn (went m (joins ps)) = ender_on (take_next choices drawn (others ++ ps)) (more m)

-- within n instructions from here
abbrev pub ender : (ℕ → Option (Instruction × ℕ)) → Choices → ℕ → Machine → Name → List Name → ℕ → Option Name
ender fetch choices zero m p others drawn = None
ender fetch choices (suc n) m p others drawn = ender_after choices (ender fetch choices n) p others drawn (step fetch m p others)

-- within n instructions from the start, where so many choices had been drawn before it
abbrev pub ender_from_start : (ℕ → Option (Instruction × ℕ)) → (entry : ℕ) → List ℕ → State → ℕ → Choices → (before n : ℕ) → Option Name
ender_from_start fetch entry calls system bound choices before n =
    ender_after choices (ender fetch choices n) [] [] before (entered (fetch entry) entry calls bound system)
