-- Words of contracts. The laws that no program is ever bad.
use Rattle.std.specs.Prelude.{◌≡◌, ℕ, List}
use Rattle.edi_calls.specs.Choice.{Choices}
use Rattle.edi_calls.specs.Names.{Name}
use Rattle.edi_calls.specs.Outcome.{Ending}
use Rattle.edi_calls.specs.State.{State, Traced}
use Rattle.edi_unit.specs.Tree.{ProgramUnit}
use Rattle.edi_meaning.specs.Step.{Processes}
use Rattle.edi_meaning.specs.Permitted.{over, permitted}
use Rattle.edi_meaning.specs.Select.{Ends}
use Rattle.edi_meaning.specs.Bad.{IsNoBad}

-- whatever permitted steps end a program, from whatever state
abbrev pub PermittedIsNeverBad : Type 0
PermittedIsNeverBad =
    (unit : ProgramUnit) (order : List Name) (s : Processes) (ending : Ending) (end : Traced) (turns : ℕ) →
    permitted unit order s ≡ over ending end turns → IsNoBad ending

-- and those that the choices select
abbrev pub SelectionIsNeverBad : Type 0
SelectionIsNeverBad =
    (unit : ProgramUnit) (system : State) (bound : ℕ) (choices : Choices) (ending : Ending) (end : Traced) (turns drawn : ℕ) (order : List Name) →
    Ends unit system bound choices ending end turns drawn order → IsNoBad ending
