-- Words of contracts. ALL ORDERS OF STEPS: what a search that follows stints has found of every order in which processes may step, and not only of
-- those in which one goes on until it arrives, fails an attempt, forks or ends.
use Rattle.std.specs.Prelude.{◌≡◌, ◌⊎◌, ℕ, suc, true, List, ◌∷◌, Contains, ⊤}
use Rattle.edi_calls.specs.declared.kinds.Cause.TheVariants as cause
use Rattle.edi_calls.specs.Names.{Name}
use Rattle.edi_calls.specs.Outcome as outcome
use Rattle.edi_calls.specs.Outcome.{Ending}
use Rattle.edi_calls.specs.State.{State, Traced}
use Rattle.edi_unit.specs.Tree.{ProgramUnit}
use Rattle.edi_meaning.specs.Step.{Processes, start}
use Rattle.edi_meaning.specs.Permitted.{may_step, at, over, permitted}
use Rattle.edi_disjoint.specs.steps.Inner.{InnerStepsKeep}
use Rattle.edi_explored.specs.Covered.{SameButTurns, CannotGo, Followed, BeginsWith, endings}
use Rattle.edi_explored.specs.Reached.{IsCutOr}
use Rattle.edi_explored.specs.Stint as stint
use Rattle.edi_explored.specs.Stint.{Stinted}

-- ---- endings

-- these steps end the program so; a standstill is a state in which each process that may step only fails a quiet attempt
abbrev pub EndsBySteps : ProgramUnit → State → (bound : ℕ) → (order : List Name) → Ending → Type 0
EndsBySteps unit system bound order outcome.standstill =
    (s : Processes) × (permitted unit order (start unit system bound) ≡ at s) × ((p : Name) → may_step s p ≡ true → CannotGo unit s p)
EndsBySteps unit system bound order ending =
    (end : Traced) × (turns : ℕ) × (permitted unit order (start unit system bound) ≡ over ending end turns)

-- a fork that the limit of processes forbids
abbrev pub IsProcessLimit : Ending → Type 0
IsProcessLimit ending = (line : ℕ) × (ending ≡ outcome.failed cause.ProcessLimit line)

-- THESE ARE ALL ENDINGS BY STEPS: whatever the order and the bound, but for orders that turns cut, and for a fork that the limit of processes
-- forbids
abbrev pub AreAllBySteps : ProgramUnit → State → List Ending → Type 0
AreAllBySteps unit system es =
    (bound : ℕ) (order : List Name) (ending : Ending) → EndsBySteps unit system bound order ending → IsCutOr es ending ⊎ IsProcessLimit ending

-- ---- what is asked of the search

-- the end of the program, or a standstill
abbrev pub IsCalm : Ending → Type 0
IsCalm outcome.done = ⊤
IsCalm (outcome.halted line) = ⊥
IsCalm (outcome.failed c line) = ⊥
IsCalm outcome.turns = ⊥
IsCalm outcome.standstill = ⊤
IsCalm (outcome.bad address) = ⊥

abbrev pub AreCalm : List Ending → Type 0
AreCalm es = (ending : Ending) → Contains es ending → IsCalm ending

-- the stint is over, and no want of turns has cut it
abbrev pub IsWhole : Stinted → Type 0
IsWhole stint.goes_on = ⊥
IsWhole (stint.behind t joined quiet) = ⊤
IsWhole (stint.over ending shown) = ending ≡ outcome.turns → ⊥

-- EACH STINT from what the search has IS WHOLE, if it has turns enough
abbrev pub Completes : (unit : ProgramUnit) (V : Type 0) (Covers : V → Processes → List Name → Type 0) (Has : ℕ → V → Type 0) → Type 0
Completes unit V Covers Has =
    (n : ℕ) (v : V) (s : Processes) (p : Name) (others : List Name) → Has (suc n) v → Covers v s (p ∷ others) →
    (t : Processes) × SameButTurns s t × (steps : ℕ) × IsWhole (stint.stint unit steps t p)

-- so it is where with some number of turns no stint is cut
abbrev pub AreUncut : (unit : ProgramUnit) (V : Type 0) (Covers : V → Processes → List Name → Type 0) (Has : ℕ → V → Type 0) → Type 0
AreUncut unit V Covers Has =
    (n : ℕ) (v : V) (s : Processes) (p : Name) (others : List Name) → Has (suc n) v → Covers v s (p ∷ others) →
    (t : Processes) × SameButTurns s t × ((steps : ℕ) (shown : List ℕ) → stint.stint unit steps t p ≡ stint.over outcome.turns shown → ⊥)

-- ---- the law

-- FROM STINTS TO ALL ORDERS OF STEPS: where a search has followed all stints, each of them is whole, the endings are calm, and inner steps keep to
-- themselves, its endings are all endings by steps
abbrev pub StintsAreEnough : (V : Type 0) (Covers : V → Processes → List Name → Type 0) (Has : ℕ → V → Type 0) → Type 0
StintsAreEnough V Covers Has =
    (unit : ProgramUnit) (system : State) (es : List Ending) (v : V) → Followed unit (endings es) V Covers Has → BeginsWith unit system V Covers v →
    ((n : ℕ) → Has n v) → Completes unit V Covers Has → AreCalm es → InnerStepsKeep unit system → AreAllBySteps unit system es
