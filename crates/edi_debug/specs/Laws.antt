-- Words of contracts. What a watched run logs, in the words of the program's meaning.
use Rattle.std.specs.Prelude.{◌≡◌, ℕ, List, ◌++◌, Some}
use Rattle.edi_calls.specs.Choice.{Choices}
use Rattle.edi_calls.specs.Names.{Name}
use Rattle.edi_calls.specs.Outcome.{Ending}
use Rattle.edi_calls.specs.State.{State, Traced}
use Rattle.edi_trace.specs.Drawn.{Drawn}
use Rattle.edi_tree.specs.Tree as text
use Rattle.edi_unit.specs.Tree.{ProgramUnit}
use Rattle.edi_static.specs.Programs.{Resolved, Sound}
use Rattle.edi_meaning.specs.Select as selection
use Rattle.edi_scheme.specs.Awaits.{await_address}
use Rattle.edi_follows.specs.Theorem.{CanBeCoded}
use Rattle.edi_debug.specs.stops.Kept.{Kept, nothing_kept}
use Rattle.edi_debug.specs.stops.Stops.{Watched, log_of}
use Rattle.edi_debug.specs.stops.Watching.{LogsAll, LogsSome}
use Rattle.edi_debug.specs.Points.{read_of, read}

-- different `when`s of a program have different addresses
abbrev pub WhensStandApart : Type 0
WhensStandApart =
    (unit : ProgramUnit) (b i c j at : ℕ) → await_address unit b i ≡ Some at → await_address unit c j ≡ Some at → (b ≡ c) × (i ≡ j)

-- the choices first, of which none has been drawn
abbrev pub none_drawn : Choices → Drawn
none_drawn choices = record { source = choices; drawn = 0 }

-- of a sound program and its points, whose unit can be coded, and of one of its executions
module _ (tree : text.Program) (unit : ProgramUnit) (points : List Watched) (system : State) (bound : ℕ) (choices : Choices) (order : List Name) where
  pub record IsExecution : Type 0 where
    pub sound : Sound tree
    pub resolved : Resolved tree unit
    pub coded : CanBeCoded unit
    pub bytes : List ℕ
    pub reads : read_of tree bytes ≡ read points
    pub ending : Ending
    pub end : Traced
    pub turns : ℕ
    pub drawn : ℕ
    pub selected : selection.Ends unit system bound choices ending end turns drawn order

-- THE LOG of a run that ended is that of the program's execution
abbrev pub LogsAreMeant : Type 0
LogsAreMeant =
    (tree : text.Program) (unit : ProgramUnit) (points : List Watched) (system : State) (bound : ℕ) (choices : Choices) (order : List Name)
    → IsExecution tree unit points system bound choices order →
    (new : Kept) → LogsAll unit system bound (none_drawn choices) points nothing_kept new → new.bytes ≡ log_of unit system bound order points

-- and of one in which an object outside failed a beginning of it
abbrev pub LogsBegin : Type 0
LogsBegin =
    (tree : text.Program) (unit : ProgramUnit) (points : List Watched) (system : State) (bound : ℕ) (choices : Choices) (order : List Name)
    → IsExecution tree unit points system bound choices order →
    (used : ℕ) (now : State) (after : Drawn) (new : Kept) → LogsSome unit system bound (none_drawn choices) used now after points nothing_kept new →
    (more : List ℕ) × (log_of unit system bound order points ≡ new.bytes ++ more)
