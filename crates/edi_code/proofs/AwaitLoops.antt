-- The loops that find the `when`s of statements and of clauses, one behind another.
use Rattle.std.proofs.Common.{◌≡◌, ℕ, ◌+◌, List, ◌∷◌, ◌++◌, drop, sym, ap, subst, ◌∙◌, arith, append_assoc}
use Rattle.std.specs.Prelude.{map}
use Rattle.edi_unit.specs.declared.statements.Act as code_act
use Rattle.edi_unit.specs.declared.statements.Clause as code_clause
use Rattle.edi_unit.specs.Tree.{Clauses}
use Rattle.edi_unit.specs.View.{acts, act_of, clauses, clause_of}
use Rattle.edi_scheme.specs.Pieces.{ClauseKind, code_length, close_code}
use Rattle.edi_code.specs.InScope.{act_length, acts_length, clause_length, clauses_length}
use Rattle.edi_code.specs.Mapped.{act_awaits, acts_awaits, clause_awaits, clauses_awaits}
use Rattle.edi_code.specs.declared.scope.Scope.{Scope}

-- one statement more
pub acts_behind : (s : Scope) (items : List code_act.Act) (i : ℕ) (x : code_act.Act) (first out after : List ℕ) (at here behind : ℕ) →
    drop i items ≡ x ∷ drop (i + 1) items →
    here + acts_length s (acts (map act_of (drop i items))) ≡ at + acts_length s (acts (map act_of items)) →
    out ++ acts_awaits s (acts (map act_of (drop i items))) here ≡ first ++ acts_awaits s (acts (map act_of items)) at →
    behind ≡ here + act_length s (act_of x) → after ≡ out ++ act_awaits s (act_of x) here →
    (behind + acts_length s (acts (map act_of (drop (i + 1) items))) ≡ at + acts_length s (acts (map act_of items)))
    × (after ++ acts_awaits s (acts (map act_of (drop (i + 1) items))) behind ≡ first ++ acts_awaits s (acts (map act_of items)) at)
acts_behind s items i x first out after at here behind cut room awaits place found =
    let rest : List code_act.Act = drop (i + 1) items in
    let sum : here + acts_length s (acts (map act_of (x ∷ rest))) ≡ at + acts_length s (acts (map act_of items)) =
    subst (λ l. here + acts_length s (acts (map act_of l)) ≡ at + acts_length s (acts (map act_of items))) cut room in
    let all : out ++ acts_awaits s (acts (map act_of (x ∷ rest))) here ≡ first ++ acts_awaits s (acts (map act_of items)) at =
    subst (λ l. out ++ acts_awaits s (acts (map act_of l)) here ≡ first ++ acts_awaits s (acts (map act_of items)) at) cut awaits in (
      omega (arith, sum, place),
      (λ j. found j ++ acts_awaits s (acts (map act_of rest)) (place j))
          ∙ append_assoc out (act_awaits s (act_of x) here) (acts_awaits s (acts (map act_of rest)) (here + act_length s (act_of x))) ∙ all,
    )

-- one clause more
pub clauses_behind : (s : Scope) (kind : ClauseKind) (items : List code_clause.Clause) (i : ℕ) (x : code_clause.Clause) (first out after : List ℕ)
    (at here later : ℕ) → drop i items ≡ x ∷ drop (i + 1) items →
    out ++ clauses_awaits s kind (clauses (map clause_of (drop i items))) here ≡ first ++ clauses_awaits s kind (clauses (map clause_of items)) at →
    later ≡ here + clause_length s (clause_of x) + code_length (close_code kind 0 (clauses (map clause_of (drop (i + 1) items)))) →
    after ≡ out ++ clause_awaits s (clause_of x) here →
    after ++ clauses_awaits s kind (clauses (map clause_of (drop (i + 1) items))) later ≡ first ++ clauses_awaits s kind (clauses (map clause_of items)) at
clauses_behind s kind items i x first out after at here later cut awaits place found =
    let rest : List code_clause.Clause = drop (i + 1) items in
    let all : out ++ clauses_awaits s kind (clauses (map clause_of (x ∷ rest))) here ≡ first ++ clauses_awaits s kind (clauses (map clause_of items)) at =
    subst (λ l. out ++ clauses_awaits s kind (clauses (map clause_of l)) here ≡ first ++ clauses_awaits s kind (clauses (map clause_of items)) at) cut awaits in
    (λ j. found j ++ clauses_awaits s kind (clauses (map clause_of rest)) (place j))
    ∙ append_assoc out (clause_awaits s (clause_of x) here) (clauses_awaits s kind (clauses (map clause_of rest))
    (here + clause_length s (clause_of x) + code_length (close_code kind 0 (clauses (map clause_of rest))))) ∙ all
