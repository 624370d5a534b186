-- Words of contracts. What is true of the walk of every accepted text.
use Rattle.std.specs.Prelude.{◌≡◌, ℕ, List}
use Rattle.edi_calls.specs.Choice.{Choices}
use Rattle.edi_calls.specs.Names.{Name}
use Rattle.edi_calls.specs.Outcome.{Ending}
use Rattle.edi_calls.specs.State.{State, Traced}
use Rattle.edi_unit.specs.Tree.{ProgramUnit}
use Rattle.edi_meaning.specs.Step.{start}
use Rattle.edi_meaning.specs.Permitted.{over, permitted}
use Rattle.edi_walk.specs.Walk.{WalkEnds}
use Rattle.edi_texts.specs.Texts.{IsUnit}
use Rattle.edi_runs.specs.walk.Walks.{IsWalkOf}

-- it has one, on every system, with every bound on the turns and all choices
abbrev pub AcceptedTextsWalk : Type 0
AcceptedTextsWalk =
    (text : List ℕ) (unit : ProgramUnit) → IsUnit text unit → (system : State) (bound : ℕ) (choices : Choices) →
    (ending : Ending) × (last : State) × IsWalkOf text system bound choices ending last

-- and no two
abbrev pub TextsHaveOneWalk : Type 0
TextsHaveOneWalk =
    (text : List ℕ) (system : State) (bound : ℕ) (choices : Choices) (one other : Ending) (last behind : State) →
    IsWalkOf text system bound choices one last → IsWalkOf text system bound choices other behind → (one ≡ other) × (last ≡ behind)

-- It is one of the executions that the report permits: the steps of its order, each of a process that is ready or at its `when`, lead to its end.
abbrev pub WalksOfTextsArePermitted : Type 0
WalksOfTextsArePermitted =
    (text : List ℕ) (unit : ProgramUnit) → IsUnit text unit → (system : State) (bound : ℕ) (choices : Choices) (before : ℕ) (ending : Ending)
    (end : Traced) (turns drawn : ℕ) (order : List Name) →
    WalkEnds unit system bound choices before ending end turns drawn order → permitted unit order (start unit system bound) ≡ over ending end turns
