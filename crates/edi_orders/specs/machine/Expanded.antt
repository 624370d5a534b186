-- Words of contracts. What a breadth-first search has found of all orders of steps.
use Rattle.std.specs.Prelude.{ℕ, List}
use Rattle.edi_calls.specs.Outcome.{Ending}
use Rattle.edi_calls.specs.State.{State}
use Rattle.edi_unit.specs.Tree.{ProgramUnit}
use Rattle.edi_target.specs.Check.{CodeParts}
use Rattle.edi_follows.specs.Theorem.{CanBeCoded}
use Rattle.edi_disjoint.specs.steps.Inner.{InnerStepsKeep}
use Rattle.edi_explored.specs.Covered.{endings}
use Rattle.edi_explored.specs.machine.Kernels.{IsUnitCode}
use Rattle.edi_explored.specs.machine.Levels.{StateTable, IsClosed}
use Rattle.edi_orders.specs.Orders.{AreCalm, AreAllBySteps}

-- where it has expanded each of its states, and these lead to no other, its endings are calm, and inner steps keep to themselves, they are all endings by
-- steps
abbrev pub ExpandedIsEnough : Type 0
ExpandedIsEnough =
    (unit : ProgramUnit) → CanBeCoded unit → (code : CodeParts) → IsUnitCode unit code → (start : State) (bound : ℕ) (es : List Ending) (table : StateTable)
    (count : ℕ) → IsClosed code start bound (endings es) table count → AreCalm es → InnerStepsKeep unit start → AreAllBySteps unit start es
