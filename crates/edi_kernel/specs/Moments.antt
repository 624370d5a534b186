-- Words of contracts. How far a run has come: what it is after a number of instructions.
use Rattle.std.specs.Prelude.{ℕ, zero, suc, ◌++◌, List, [], Option, Some, None}
use Rattle.edi_calls.specs.Choice.{Choices}
use Rattle.edi_calls.specs.Names.{Name}
use Rattle.edi_calls.specs.Ready.{stays, joins, Taking, nobody, taking, take_next}
use Rattle.edi_calls.specs.State.{State}
use Rattle.edi_target.specs.Op.{Instruction}
use Rattle.edi_target.specs.Check.{CodeParts}
use Rattle.edi_target.specs.Fetch.{fetch}
use Rattle.edi_target.specs.Mach.{Machine, Stepped, went, ended, step, entered}

-- a run between two instructions: this process is taken, these are ready, and so many choices have been drawn
pub record Moment : Type 0 where
  pub machine : Machine
  pub name : Name
  pub others : List Name
  pub drawn : ℕ

abbrev pub moment_at : Machine → Name → List Name → ℕ → Moment
moment_at m p others drawn = record { machine = m; name = p; others = others; drawn = drawn }

abbrev pub moment_on : Taking → (Name → List Name → ℕ → Option Moment) → Option Moment
moment_on nobody more = None
moment_on (taking p others drawn) more = more p others drawn

-- after a step, where the run goes on
abbrev pub moment_after : Choices → (Machine → Name → List Name → ℕ → Option Moment) → Name → List Name → ℕ → Stepped → Option Moment
moment_after choices more p others drawn (ended ending m) = None
moment_after choices more p others drawn (went m stays) = more m p others drawn
moment_after choices more p others drawn (went m (joins ps)) = moment_on (take_next choices drawn (others ++ ps)) (more m)

-- after n instructions from here, if the run has not ended before
abbrev pub moment : (ℕ → Option (Instruction × ℕ)) → Choices → ℕ → Machine → Name → List Name → ℕ → Option Moment
moment fetch choices zero m p others drawn = Some (moment_at m p others drawn)
moment fetch choices (suc n) m p others drawn = moment_after choices (moment fetch choices n) p others drawn (step fetch m p others)

-- after n instructions of this code from its start, where so many choices had been drawn before it
abbrev pub moment_of : CodeParts → State → (bound : ℕ) → Choices → (before n : ℕ) → Option Moment
moment_of code system bound choices before n =
    moment_after choices (moment (fetch code.words) choices n) [] [] before
    (entered (fetch code.words code.entry) code.entry code.calls bound system)
