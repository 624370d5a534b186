-- Words of contracts. What the one step of an attempt at a `when` does.
use Rattle.std.specs.Prelude.{◌≡◌, ℕ, zero, suc, false, if◌then◌else◌, List, [], ◌∷◌, ◌++◌, Option, Some, None}
use Rattle.edi_calls.specs.Names.{Name, find}
use Rattle.edi_calls.specs.Outcome as outcome
use Rattle.edi_calls.specs.Ready.{stays, joins}
use Rattle.edi_calls.specs.State.{State}
use Rattle.edi_unit.specs.Values.{is_true}
use Rattle.edi_unit.specs.Tree.{Acts, Clauses, no_clause, clause_then, clause, ProgramUnit}
use Rattle.edi_meaning.specs.Evaluation.{World, Evaluation, gives, ends, ◌>>=◌}
use Rattle.edi_meaning.specs.Whole.{expression, acts, below}
use Rattle.edi_meaning.specs.Step.{Position, ready, at_when, Process, Processes, back, Stepped, went, ended, is_quiet, step, start}
use Rattle.edi_meaning.specs.Permitted.{at, onward, permitted}

-- the list behind the first of these conditions that is true, if one is; no condition behind it is evaluated
abbrev pub tested : ProgramUnit → Name → (size : ℕ) → (deeper : Acts → World → Evaluation (Unit {0})) → Clauses → World → Evaluation (Option Acts)
tested unit p size deeper no_clause w = gives None w
tested unit p size deeper (clause_then (clause e s) cs) w =
    expression unit p size deeper e w >>= λ v w. if is_true v then gives (Some s) w else tested unit p size deeper cs w

-- the body has been executed, and p goes on behind the `when`; or its end ended the program
abbrev pub IsExecuted : Processes → Name → Process → Evaluation (Unit {0}) → Stepped → Type 0
IsExecuted s p q (gives done w) x = x ≡ went (back s p (record q { standing = ready }) w) stays false
IsExecuted s p q (ends ending system turns) x = x ≡ ended ending system turns

-- none of the conditions is true: a turn is taken, so many being left, and p stands at the `when` again
abbrev pub IsFailed : Processes → Name → Process → Clauses → Position → World → (turns : ℕ) → Stepped → Type 0
IsFailed s p q cs position w zero x = x ≡ ended outcome.turns w.system w.turns
IsFailed s p q cs position w (suc n) x =
    x ≡ went (back s p (record q { standing = at_when cs position }) (record w { turns = n })) (joins (p ∷ [])) (is_quiet cs)

-- where a condition is true, its whole body is executed in the same step
abbrev pub IsAttempt : ProgramUnit → Processes → Name → Process → Clauses → Position → Evaluation (Option Acts) → Stepped → Type 0
IsAttempt unit s p q cs position (gives None w) x = IsFailed s p q cs position w w.turns x
IsAttempt unit s p q cs position (gives (Some body) w) x = IsExecuted s p q (acts unit p q.size (below unit p q.size s.world) body w) x
IsAttempt unit s p q cs position (ends ending system turns) x = x ≡ ended ending system turns

-- so does each attempt
abbrev pub AttemptsExecute : Type 0
AttemptsExecute =
    (unit : ProgramUnit) (s : Processes) (p : Name) (q : Process) (cs : Clauses) (position : Position) →
    find s.live p ≡ Some q → q.standing ≡ at_when cs position →
    IsAttempt unit s p q cs position (tested unit p q.size (below unit p q.size s.world) cs s.world) (step unit s p)

-- In an order of steps each attempt is one: where p stands at a `when` behind the steps before, the next step of the order is
-- that whole attempt, and the steps behind it begin where it leads.
abbrev pub AttemptsAreOneStep : Type 0
AttemptsAreOneStep =
    (unit : ProgramUnit) (system : State) (bound : ℕ) (before behind : List Name)
    (s : Processes) (p : Name) (q : Process) (cs : Clauses) (position : Position) →
    permitted unit before (start unit system bound) ≡ at s → find s.live p ≡ Some q → q.standing ≡ at_when cs position →
    permitted unit (before ++ p ∷ behind) (start unit system bound) ≡ onward (step unit s p) behind (permitted unit behind)
