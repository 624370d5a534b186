-- Words of contracts. When a search has followed everything. A search keeps representatives, of whatever form; each of them covers states
-- of the meaning, with the processes that are ready in them. It covers them whatever the turns, the marks, the order of the ready ones
-- and the output are, and whatever the processes are called: that is for the one who says what covers what.
use Rattle.std.specs.Prelude.{◌≡◌, ◌⊎◌, ℕ, suc, ◌<◌, Bool, true, false, List, [], ◌∷◌, ◌++◌, length, Contains, Some}
use Rattle.edi_calls.specs.State.{State, Traced}
use Rattle.edi_calls.specs.Choice.{Choices}
use Rattle.edi_calls.specs.Names.{Name, find}
use Rattle.edi_calls.specs.Outcome as outcome
use Rattle.edi_calls.specs.Outcome.{Ending}
use Rattle.edi_calls.specs.Ready.{has}
use Rattle.edi_calls.proofs.Names.{Once}
use Rattle.edi_unit.specs.Tree.{Acts, Clauses, ProgramUnit}
use Rattle.edi_meaning.specs.Evaluation.{World, Evaluation, gives}
use Rattle.edi_meaning.specs.Whole.{first}
use Rattle.edi_meaning.specs.Step.{Position, at_when, Process, Processes, is_quiet, start}
use Rattle.edi_meaning.specs.Select.{Ends}
use Rattle.edi_explored.specs.Moves.{moves_of}
use Rattle.edi_explored.specs.Stint.{stint, behind, over}

-- nothing but the turns differs
pub record SameButTurns (s t : Processes) : Type 0 where
  pub live : t.live ≡ s.live
  pub store : t.world.store ≡ s.world.store
  pub system : t.world.system ≡ s.world.system

-- the same processes are in both lists, each once where it was once
pub record Reordered (ready other : List Name) : Type 0 where
  pub members : (p : Name) → has other p ≡ has ready p
  pub once : Once ready → Once other

-- p stands at a `when` whose conditions call nothing, and none of them is true: its attempt fails, in this state and whatever turns
-- are left
pub record CannotGo (unit : ProgramUnit) (s : Processes) (p : Name) : Type 0 where
  pub process : Process
  pub found : find s.live p ≡ Some process
  pub clauses : Clauses
  pub position : Position
  pub standing : process.standing ≡ at_when clauses position
  pub quiet : is_quiet clauses ≡ true
  pub none : (deeper : Acts → World → Evaluation (Unit {0})) (w : World) → w.store ≡ s.world.store → first unit p process.size deeper clauses w ≡ gives false w

-- what a search reports: endings, or endings each with all that was shown by then
pub data Report : Type 0 where
  endings : List Ending → Report
  shown_endings : List (Ending × List ℕ) → Report

abbrev pub Tells : Report → Ending → (shown : List ℕ) → Type 0
Tells (endings es) ending shown = Contains es ending
Tells (shown_endings es) ending shown = Contains es (ending, shown)

-- whether it tells what was shown
abbrev pub tells_shown : Report → Bool
tells_shown (endings es) = false
tells_shown (shown_endings es) = true

-- the execution is cut by its turns, or the report tells its ending
abbrev pub IsCutOrTold : Report → Ending → (shown : List ℕ) → Type 0
IsCutOrTold report ending shown = (ending ≡ outcome.turns) ⊎ Tells report ending shown

-- THE REPORT TELLS ALL: whatever the choices and the bound, the execution ends in a way that is told, or its bound cuts it. Of endings this is
-- `AreAll`, of endings with what was shown `AreAllShown`.
abbrev pub AllTold : ProgramUnit → State → Report → Type 0
AllTold unit system report =
    (bound : ℕ) (choices : Choices) (ending : Ending) (end : Traced) (turns drawn : ℕ) (order : List Name) →
    Ends unit system bound choices ending end turns drawn order → IsCutOrTold report ending end.now.shown

-- and all of the executions of fewer than so many moves
abbrev pub AllToldBelow : ℕ → ProgramUnit → State → Report → Type 0
AllToldBelow most unit system report =
    (bound : ℕ) (choices : Choices) (ending : Ending) (end : Traced) (turns drawn : ℕ) (order : List Name) →
    Ends unit system bound choices ending end turns drawn order → moves_of unit system bound choices (length order) < most →
    IsCutOrTold report ending end.now.shown

-- THE SEARCH HAS FOLLOWED EVERYTHING within `n` moves of what it has: `Has n v` says that it has v, and all that fewer than n moves lead to
-- from there.
pub record Followed (unit : ProgramUnit) (report : Report) (V : Type 0) (Covers : V → Processes → List Name → Type 0)
    (Has : ℕ → V → Type 0) : Type 0 where
  -- what covers a state covers it with other turns, and with its ready ones in another order
  pub forgets : (v : V) (s t : Processes) (ready other : List Name) → Covers v s ready → SameButTurns s t → Reordered ready other → Covers v t other
  -- each stint from what it has ends in a way that is told, or is cut by its turns
  pub reports : (n : ℕ) (v : V) (s : Processes) (p : Name) (others : List Name) (steps : ℕ) (ending : Ending) (shown : List ℕ) → Has (suc n) v →
      Covers v s (p ∷ others) → stint unit steps s p ≡ over ending shown → IsCutOrTold report ending shown
  -- or leads to what it has
  pub leads : (n : ℕ) (v : V) (s t : Processes) (p : Name) (others joined : List Name) (steps : ℕ) → Has (suc n) v → Covers v s (p ∷ others) →
      stint unit steps s p ≡ behind t joined false → (w : V) × Has n w × Covers w t (others ++ joined)
  -- where none of the ready ones can go, a standstill is told
  pub stands : (n : ℕ) (v : V) (s : Processes) (ready : List Name) → Has (suc n) v → Covers v s ready →
      ((p : Name) → has ready p ≡ true → CannotGo unit s p) → Tells report outcome.standstill s.world.system.now.shown

-- it begins with something that covers the start, whatever the bound on the turns
abbrev pub BeginsWith : (unit : ProgramUnit) (system : State) (V : Type 0) (Covers : V → Processes → List Name → Type 0) → V → Type 0
BeginsWith unit system V Covers v = (bound : ℕ) → Covers v (start unit system bound) ([] ∷ [])
