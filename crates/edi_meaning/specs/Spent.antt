-- Words of contracts. Where a program ends by its turns, none is left: no other end is called so.
use Rattle.std.specs.Prelude.{◌≡◌, ℕ, List}
use Rattle.edi_calls.specs.Choice.{Choices}
use Rattle.edi_calls.specs.Names.{Name}
use Rattle.edi_calls.specs.Outcome as outcome
use Rattle.edi_calls.specs.State.{State, Traced}
use Rattle.edi_unit.specs.Tree.{ProgramUnit}
use Rattle.edi_meaning.specs.Step.{start}
use Rattle.edi_meaning.specs.Permitted.{over, permitted}
use Rattle.edi_meaning.specs.Select.{Ends}

-- of whatever permitted steps
abbrev pub PermittedEndsSpent : Type 0
PermittedEndsSpent =
    (unit : ProgramUnit) (system : State) (bound : ℕ) (order : List Name) (end : Traced) (turns : ℕ) →
    permitted unit order (start unit system bound) ≡ over outcome.turns end turns → turns ≡ 0

-- and of those that the choices select
abbrev pub SelectionEndsSpent : Type 0
SelectionEndsSpent =
    (unit : ProgramUnit) (system : State) (bound : ℕ) (choices : Choices) (end : Traced) (turns drawn : ℕ) (order : List Name) →
    Ends unit system bound choices outcome.turns end turns drawn order → turns ≡ 0
