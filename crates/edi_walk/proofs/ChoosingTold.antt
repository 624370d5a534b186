-- The loop over conditions, where the system is told.
use Rattle.std.proofs.Common.{◌≡◌, ℕ, zero, suc, ◌<◌, ◌≤◌, ◌+◌, arith, [], true, false, List, ◌∷◌, length, Option, Some, None, Ok, Err, refl, sym, subst, ap, ◌∙◌, drop, get_or}
use Rattle.std.specs.Prelude.{map}
use Rattle.std.specs.Borrow.{Bor}
use Rattle.edi_told.specs.Told.{WhereTold}
use Rattle.edi_told.proofs.Told.{WhereTold-map, WhereTold-then}
use Rattle.edi_calls.specs.State.{State}
use Rattle.edi_unit.proofs.Limits.{drop_item}
use Rattle.edi_unit.specs.declared.statements.Act as code_act
use Rattle.edi_unit.specs.declared.statements.Clause as code_clause
use Rattle.edi_unit.specs.Lists.{list_items}
use Rattle.edi_unit.specs.Tree as tree
use Rattle.edi_unit.specs.Tree.{Clauses}
use Rattle.edi_unit.specs.View.{acts, act_of, clauses, clause_of, expression_of}
use Rattle.edi_walk.specs.declared.evaluation.Evaluation as code
use Rattle.edi_walk.specs.declared.stop.Stop.{Stop}
use Rattle.edi_walk.specs.Machine.{IsSameProcess}
use Rattle.edi_walk.specs.Steps.{Chosen, Condition}
use Rattle.edi_walk.proofs.Calls.{WhereTold-same}
use Rattle.edi_walk.proofs.Choosing.{FarOn, far_false, far_true, far_stops}
use Rattle.edi_walk.proofs.Layers.{clause_seen}

-- the clauses from a place on
abbrev pub from_on : ℕ → List code_clause.Clause → Clauses
from_on k cs = clauses (map clause_of (drop k cs))

pub first_of : (k : ℕ) (cs : List code_clause.Clause) (c : code_clause.Clause) → k < length cs → c ≡ get_or cs k c →
    from_on k cs ≡ tree.clause_then (tree.clause (expression_of c.condition) (acts (map act_of (list_items c.body)))) (from_on (k + 1) cs)
first_of k cs c h is =
    ap (λ l. clauses (map clause_of l)) (drop_item cs k c h is) ∙ ap (λ x. tree.clause_then x (from_on (k + 1) cs)) (clause_seen c)

pub told_far : (all : Clauses) (old : code.Evaluation) (o : Option State) → WhereTold o o (λ s t. FarOn all all old old s t)
told_far all old o =
    WhereTold-same _ o (λ s system i n. record { system = system; system_is = i; grew = ([], refl, refl); number = n; is = refl })

module _ (cs : List code_clause.Clause) (k : ℕ) (c : code_clause.Clause) (h : k < length cs) (is : c ≡ get_or cs k c) (all : Clauses) (old mid new : code.Evaluation)
    (x y z : Option State) (same : IsSameProcess old mid) (far : WhereTold x y (λ s t. FarOn all (from_on k cs) old mid s t)) where
  cut : WhereTold x y (λ s t. FarOn all
      (tree.clause_then (tree.clause (expression_of c.condition) (acts (map act_of (list_items c.body)))) (from_on (k + 1) cs)) old mid s t)
  cut = subst (λ r. WhereTold x y (λ s t. FarOn all r old mid s t)) (first_of k cs c h is) far

  pub told_false : WhereTold y z (λ s t. Condition (expression_of c.condition) (Ok false) mid new s t) →
      WhereTold x z (λ s t. FarOn all (from_on (k + 1) cs) old new s t)
  told_false next =
      WhereTold-then _ _ _ x y z (λ a b d f g. far_false all (from_on (k + 1) cs) (expression_of c.condition) (acts (map act_of (list_items c.body))) old mid new a b d
      same f g) cut next

  pub told_true : (body : Bor (List code_act.Act)) → body.now ≡ list_items c.body →
      WhereTold y z (λ s t. Condition (expression_of c.condition) (Ok true) mid new s t) → WhereTold x z (λ s t. Chosen all (Ok (Some body)) old new s t)
  told_true body e next =
      WhereTold-then _ _ _ x y z
      (λ a b d f g system i n.
      let m = far_true all (from_on (k + 1) cs) (expression_of c.condition) (acts (map act_of (list_items c.body))) old mid new a b d same f g system i n in
      record {
        value = Some (acts (map act_of (list_items c.body)), m.related.0);
        related = ap (λ l. acts (map act_of l)) (sym e);
        system = m.system;
        system_is = m.system_is;
        grew = m.grew;
        is = m.is ∙ ap (λ v. Rattle.edi_meaning.specs.Evaluation.gives v (Rattle.edi_walk.specs.Machine.world_of new m.system)) m.related.1;
      }) cut next

  pub told_stops : (s : Stop) → WhereTold y z (λ a t. Condition (expression_of c.condition) (Err s) mid new a t) →
      WhereTold x z (λ a t. Chosen all (Err s) old new a t)
  told_stops s next =
      WhereTold-then _ _ _ x y z (λ a b d f g system i n. far_stops all (from_on (k + 1) cs) (expression_of c.condition) (acts (map act_of (list_items c.body))) old mid
      new a b d same f s g system i n) cut next

-- none was true
pub told_none : (all : Clauses) (old mid : code.Evaluation) (x y : Option State) → WhereTold x y (λ s t. FarOn all tree.no_clause old mid s t) →
    WhereTold x y (λ s t. Chosen all (Ok None) old mid s t)
told_none all old mid x y far =
    WhereTold-map _ _ x y
    (λ s t f system i n. let g = f system i n in
    record { value = None; related = tt; system = g.system; system_is = g.system_is; grew = g.grew; is = g.is }) far

pub past_all : (cs : List code_clause.Clause) (k : ℕ) → length cs ≤ k → from_on k cs ≡ tree.no_clause
past_all [] zero h = refl
past_all [] (suc k) h = refl
past_all (c ∷ cs) zero h = absurd (omega (arith, h))
past_all (c ∷ cs) (suc k) h = past_all cs k (omega (arith, h))
