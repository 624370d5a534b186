-- Words of contracts. What a walk leaves of the system, and of the four objects that a program sees.
use Rattle.std.specs.Prelude.{◌≡◌, ◌⊎◌, ℕ, Bool, true, false, List, drop, length, Option, Some, None, ⊤}
use Rattle.edi_told.specs.Told.{WhereTold}
use Rattle.edi_calls.specs.declared.ends.Outside.{Outside}
use Rattle.edi_calls.specs.Asked.{may_have_done, Asks, IsFollowed}
use Rattle.edi_calls.specs.Names.{Name}
use Rattle.edi_calls.specs.Outcome.{Ending}
use Rattle.edi_calls.specs.State.{State, Traced}
use Rattle.edi_system.specs.AsCalls.{LeavesByte}
use Rattle.edi_system.specs.Parts.{due_after, ToldStays}
use Rattle.edi_trace.specs.Drawn.{Drawn}
use Rattle.edi_unit.specs.Tree.{ProgramUnit}
use Rattle.edi_walk.specs.Ends.{WalksTo}
use Rattle.edi_walk.specs.Walk.{WalkEnds}
use Rattle.edi_walk.specs.declared.walking.WalkEnd.{WalkEnd}
use Rattle.edi_walk.specs.declared.walking.WalkEnd.TheVariants as end
use Rattle.edi_execute.specs.Objects.{Contents, Objects, Show, contents_of, system_on}
use Rattle.edi_runs.specs.declared.walk.run.Walked.{Walked}

-- an object outside has failed in the walk
abbrev pub is_fault_end : WalkEnd → Bool
is_fault_end end.Fault = true
is_fault_end other = false

-- The program was walked through on these objects, and in the end they have what the walk leaves.
pub record HasWalked (unit : ProgramUnit) (bound : ℕ) (old : Drawn) (e : WalkEnd) (new : Drawn) (before after : Contents) : Type 0 where
  pub state : State
  pub walks : WalksTo unit (system_on before) bound old e state new
  pub shows : Show state after

-- The walk was broken off in a call that uses this object: the objects have what the state before that call has, or, unless it is the
-- input, the one that it was to leave. The input has failed before its end.
pub record BrokeAtCall (outside : Outside) (unit : ProgramUnit) (bound : ℕ) (old : Drawn) (before after : Contents) : Type 0 where
  pub ending : Ending
  pub last : Traced
  pub turns : ℕ
  pub drawn : ℕ
  pub order : List Name
  pub is : WalkEnds unit (system_on before) bound old.source old.drawn ending last turns drawn order
  pub one : State
  pub next : State
  pub followed : IsFollowed (system_on before) last.past one next
  pub asks : Asks outside one next
  pub left : LeavesByte outside one.input
  pub shows : Show one after ⊎ ((may_have_done outside ≡ true) × Show next after)

-- so it was where an object has failed
abbrev pub BrokeAtCallOf : Option Outside → ProgramUnit → (bound : ℕ) → (old : Drawn) → (before after : Contents) → Type 0
BrokeAtCallOf None unit bound old before after = ⊤
BrokeAtCallOf (Some outside) unit bound old before after = BrokeAtCall outside unit bound old before after

-- What a walk leaves, where the four objects tell what they hold: what the walk of the unit leaves, and after a fault what a call of it leaves
-- that uses the object. What is told in the end was told at the start. The input only loses its first bytes, what the terminal and the printer
-- have taken only grows, and the drive is a valid image. Whether a line is due is told by the bytes that the terminal has taken in between.
pub record WalkLeaves {D S T P : Type 0} (contents : D → Option (List (List ℕ))) (left : S → Option (List ℕ)) (shown : T → Option (List ℕ))
    (printed : P → Option (List ℕ)) (unit : ProgramUnit) (bound : ℕ) (old : Drawn) (walked : Walked) (new : Drawn)
    (before after : Objects D S T P) : Type 0 where
  pub walks : WhereTold (contents_of contents left shown printed before) (contents_of contents left shown printed after)
      (HasWalked unit bound old walked.end new)
  pub broke : WhereTold (contents_of contents left shown printed before) (contents_of contents left shown printed after)
      (BrokeAtCallOf walked.failed unit bound old)
  pub told : ToldStays (contents before.drive) (contents after.drive) (left before.input) (left after.input) (shown before.terminal) (shown after.terminal)
      (printed before.printer) (printed after.printer)
  pub due : WhereTold (shown before.terminal) (shown after.terminal) (λ taken now. walked.due ≡ due_after false (drop (length taken) now))
