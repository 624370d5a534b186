-- The `when`s of lists of constructs, met one after another.
use Rattle.std.proofs.Common.{◌≡◌, ℕ, ◌≤◌, List, [], ◌∷◌, length, map, drop, refl, ap, sym, ◌∙◌}
use Rattle.std.proofs.Math.ListN.{drop_of_length-le}
use Rattle.edi_tree.specs.Tree as text
use Rattle.edi_tree.specs.View.{ClosedBranch}
use Rattle.edi_tree.specs.View as tree
use Rattle.edi_static.specs.Environment.{Environment}
use Rattle.edi_sights.specs.Counted.{Met, statement_counted, statements_counted, condition_counted, elses_counted, branch_counted, branches_counted}
use Rattle.edi_sights.specs.Folded.{folded}

pub statements_folded : (name : List ℕ) (ss : List text.Statement) (env : Environment) (met : Met) →
    statements_counted name (tree.statements ss) env met ≡ folded (λ s. statement_counted name s env) ss met
statements_folded name [] env met = refl
statements_folded name (s ∷ ss) env met = statements_folded name ss env (statement_counted name s env met)

pub elses_folded : (name : List ℕ) (cs : List text.Condition) (env : Environment) (met : Met) →
    elses_counted name (tree.else_list cs) env met ≡ folded (λ c. condition_counted name c env) cs met
elses_folded name [] env met = refl
elses_folded name (c ∷ cs) env met = elses_folded name cs env (condition_counted name c env met)

pub branches_folded : (name : List ℕ) (end : ℕ) (bs : List ClosedBranch) (env : Environment) (met : Met) →
    branches_counted name (tree.branches end bs) env met ≡ folded (λ b. branch_counted name b.opened env) bs met
branches_folded name end [] env met = refl
branches_folded name end (b ∷ bs) env met = branches_folded name b.end bs env (branch_counted name b.opened env met)

-- ---- loops

pub folded_next : {X : Type 0} (step : X → Met → Met) (rest xs : List X) (x : X) (now after whole : Met) →
    folded step rest now ≡ whole → rest ≡ x ∷ xs → after ≡ step x now → folded step xs after ≡ whole
folded_next step rest xs x now after whole h r e =
    ap (folded step xs) e ∙ (ap (λ rest. folded step rest now) (sym r) ∙ h)

-- at the end of a loop over what the code has
pub loop_done : {C X : Type 0} (see : C → X) (step : X → Met → Met) (items : List C) (i : ℕ) (now whole : Met) →
    folded step (map see (drop i items)) now ≡ whole → length items ≤ i → now ≡ whole
loop_done see step items i now whole h none = ap (λ rest. folded step (map see rest) now) (sym (drop_of_length-le items none)) ∙ h

-- the rest of a loop is what it was at its start
abbrev pub FoldsOn : {X : Type 0} → (X → Met → Met) → (rest all : List X) → (now first : Met) → Type 0
FoldsOn step rest all now first = folded step rest now ≡ folded step all first
