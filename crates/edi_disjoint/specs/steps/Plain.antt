-- Words of contracts. Steps that read and assign to variables of the process itself alone, and call no function.
use Rattle.std.specs.Prelude.{◌≡◌, ℕ, Bool, List, [], ◌∷◌, Some, ⊤}
use Rattle.edi_calls.specs.Names.{Name, find}
use Rattle.edi_calls.specs.Ready.{Next}
use Rattle.edi_calls.specs.State.{State}
use Rattle.edi_unit.specs.declared.expressions.Callee.{Callee}
use Rattle.edi_unit.specs.declared.expressions.Callee.TheVariants as callee
use Rattle.edi_unit.specs.Tree.{Act, skip, assign, call, halt, if_act, while_act, when_act, cobegin, Clauses, no_clause, clause_then, clause, ProgramUnit}
use Rattle.edi_meaning.specs.Store.{Store, now, reached, shape, slot}
use Rattle.edi_meaning.specs.Step.{Process, Processes, went, Work, doing, loop_end, procedure_end, branch_end, program_entry, program_end, ready, step, start}
use Rattle.edi_meaning.specs.Permitted.{at, permitted}
use Rattle.edi_disjoint.specs.Leaves.{Way, reads, assigns, lends, Leaves, ExpressionMay, PlaceMay, ArgumentsMay}
use Rattle.edi_disjoint.specs.steps.Own.{KeepsToItself}

-- the variable is one of an instance of p
abbrev pub IsHeld : Store → Name → (levels : ℕ) → Type 0
IsHeld store p levels = (reached (shape store) levels (now (shape store) p)).0 ≡ p

-- and so is what it means, if it is a `var` parameter
pub record IsOwn (store : Store) (p : Name) (levels variable : ℕ) : Type 0 where
  pub held : IsHeld store p levels
  pub means : (slot store p levels variable).spot.0 ≡ p

-- to lend a variable, whosever it is, is no use of its value
abbrev pub NamesOwn : Store → Name → Way → (levels variable : ℕ) → Type 0
NamesOwn store p reads levels variable = IsOwn store p levels variable
NamesOwn store p assigns levels variable = IsOwn store p levels variable
NamesOwn store p lends levels variable = ⊤

-- a procedure by its name
abbrev pub IsByName : Callee → Type 0
IsByName (callee.Block levels number) = ⊤
IsByName (callee.Formal levels variable) = ⊥

-- what may stand in a plain text
abbrev pub plain : Store → Name → Leaves
plain store p = record { Names = NamesOwn store p; Calls = λ c es. ⊥; Passes = IsByName; Forks = λ bs. ⊥ }

abbrev pub ConditionsMay : Leaves → Clauses → Type 0
ConditionsMay t no_clause = ⊤
ConditionsMay t (clause_then (clause e s) cs) = ExpressionMay t e × ConditionsMay t cs

-- an assignment, a call of a procedure by its name, or the conditions of an `if` or a `while`
abbrev pub IsPlainAct : Leaves → Act → Type 0
IsPlainAct t skip = ⊥
IsPlainAct t (assign v e) = PlaceMay t assigns v × ExpressionMay t e
IsPlainAct t (call c es line) = IsByName c × ArgumentsMay t es
IsPlainAct t (halt line) = ⊥
IsPlainAct t (if_act cs) = ConditionsMay t cs
IsPlainAct t (while_act cs) = ConditionsMay t cs
IsPlainAct t (when_act cs line) = ⊥
IsPlainAct t (cobegin bs line) = ⊥

abbrev pub IsPlain : Leaves → List Work → Type 0
IsPlain t [] = ⊥
IsPlain t (doing a position ∷ work) = IsPlainAct t a
IsPlain t (loop_end cs position ∷ work) = ⊥
IsPlain t (procedure_end line ∷ work) = ⊥
IsPlain t (branch_end ∷ work) = ⊥
IsPlain t (program_entry ∷ work) = ⊥
IsPlain t (program_end ∷ work) = ⊥

-- SUCH A STEP KEEPS TO ITSELF, where it goes on
abbrev pub PlainStepsKeep : Type 0
PlainStepsKeep =
    (unit : ProgramUnit) (system : State) (bound : ℕ) (order : List Name) (s : Processes) (p : Name) (q : Process) (after : Processes) (n : Next) (quiet : Bool) →
    permitted unit order (start unit system bound) ≡ at s → find s.live p ≡ Some q → q.standing ≡ ready → IsPlain (plain s.world.store p) q.work →
    step unit s p ≡ went after n quiet → KeepsToItself unit s p
