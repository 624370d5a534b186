-- Lists of variables with one more, and what tests put together decide.
use Rattle.std.proofs.Common.{◌≡◌, ℕ, ◌⊎◌, inl, inr, Bool, true, false, ◌&&◌, ◌||◌, ◌==◌, if◌then◌else◌, List, [], ◌∷◌, ◌++◌, Option, Some, None}
use Rattle.std.proofs.Common.{refl, subst, ap, ◌∙◌}
use Rattle.std.specs.Prelude.{Contains}
use Rattle.std.specs.Bool.{Decides}
use Rattle.std.proofs.lemmas.Bool.{eqb-true}
use Rattle.edi_unit.specs.declared.units.Parameter.{Parameter}
use Rattle.edi_unit.specs.declared.units.Parameter.TheVariants as parameter
use Rattle.edi_disjoint.specs.Footprints.{Variable, IsVar}
use Rattle.edi_disjoint.specs.Found.{Lists}
use Rattle.edi_disjoint.specs.Apart.{with_view, has_view, is_same_view, is_var_slot}
use Rattle.edi_disjoint.proofs.Contained.{contains_append, contains_first, contains_last, contains_later, contains_more}
use Rattle.edi_disjoint.proofs.Deciding.{or_true, and_true, both_true, left_true, right_true}

pub same_then : (x v : Variable) → is_same_view x v ≡ true → x ≡ v
same_then x v e =
    let both : ((x.home == v.home) ≡ true) × ((x.number == v.number) ≡ true) = and_true (x.home == v.home) (x.number == v.number) e in
    ap (λ (h : ℕ). record { home = h; number = x.number }) (eqb-true x.home v.home both.0) ∙ ap (λ (n : ℕ). record { home = v.home; number = n }) (eqb-true x.number v.number both.1)

pub view_then : (xs : List Variable) (v : Variable) → has_view xs v ≡ true → Contains xs v
view_then [] v e = absurd (cc)
view_then (x ∷ xs) v e = go (or_true (is_same_view x v) (has_view xs v) e) (view_then xs v)
  where
    go : (is_same_view x v ≡ true) ⊎ (has_view xs v ≡ true) → (has_view xs v ≡ true → Contains xs v) → Contains (x ∷ xs) v
    go (inl h) more = subst (Contains (x ∷ xs)) (same_then x v h) (contains_first x xs)
    go (inr h) more = contains_later x v xs (more h)

-- a list of all with P, with one more
pub lists_with : (xs : List Variable) (v : Variable) (P : Variable → Type 0) → Lists xs P → Lists (with_view xs v) (λ x. P x ⊎ (v ≡ x))
lists_with xs v P l = go (has_view xs v) refl
  where
    go : (b : Bool) → has_view xs v ≡ b → Lists (if b then xs else xs ++ v ∷ []) (λ x. P x ⊎ (v ≡ x))
    go true e = (λ x h. inl (l.0 x h), λ x h. elim h [ inl k ↦ l.1 x k | inr q ↦ subst (Contains xs) q (view_then xs v e) ])
    go false e = (
      λ x h. elim (contains_more xs v x h) [ inl k ↦ inl (l.0 x k) | inr q ↦ inr q ],
      λ x h. elim h [ inl k ↦ contains_append xs (v ∷ []) x (l.1 x k) | inr q ↦ subst (Contains (xs ++ v ∷ [])) q (contains_last xs v) ],
    )

pub lists_as : {P Q : Variable → Type 0} (xs : List Variable) → ((x : Variable) → P x → Q x) → ((x : Variable) → Q x → P x) → Lists xs P → Lists xs Q
lists_as xs f g l = (λ x h. f x (l.0 x h), λ x h. l.1 x (g x h))

-- with one more, where a test says so
pub lists_if : (xs : List Variable) (v : Variable) (P : Variable → Type 0) (b : Bool) (B : Type 0) → Decides b B → Lists xs P →
    Lists (if b then with_view xs v else xs) (λ x. P x ⊎ (B × (v ≡ x)))
lists_if xs v P true B d l =
    lists_as (with_view xs v) (λ x h. elim h [ inl k ↦ inl k | inr q ↦ inr (d.0 refl, q) ]) (λ x h. elim h [ inl k ↦ inl k | inr q ↦ inr q.1 ]) (lists_with xs v P l)
lists_if xs v P false B d l = lists_as xs (λ x h. inl h) (λ x h. elim h [ inl k ↦ k | inr q ↦ absurd (not_so (d.1 q.0)) ]) l
  where
    not_so : false ≡ true → ⊥
    not_so e = cc

-- ---- truth values

pub decides_or : (a b : Bool) (A B : Type 0) → Decides a A → Decides b B → Decides (a || b) (A ⊎ B)
decides_or a b A B f g =
    (λ e. elim (or_true a b e) [ inl h ↦ inl (f.0 h) | inr h ↦ inr (g.0 h) ], λ h. elim h [ inl k ↦ left_true a b (f.1 k) | inr k ↦ right_true a b (g.1 k) ])

pub decides_and : (a b : Bool) (A B : Type 0) → Decides a A → Decides b B → Decides (a && b) (A × B)
decides_and a b A B f g = (λ e. let both : (a ≡ true) × (b ≡ true) = and_true a b e in (f.0 both.0, g.0 both.1), λ h. both_true a b (f.1 h.0) (g.1 h.1))

pub decides_as : (a : Bool) (A B : Type 0) → (A → B) → (B → A) → Decides a A → Decides a B
decides_as a A B f g d = (λ e. f (d.0 e), λ h. d.1 (g h))

pub var_decides : (o : Option Parameter) → Decides (is_var_slot o) (IsVar o)
var_decides None = (λ e. absurd (cc), λ h. absurd h)
var_decides (Some (parameter.Value t)) = (λ e. absurd (cc), λ h. absurd h)
var_decides (Some (parameter.Var t)) = (λ e. tt, λ h. refl)
var_decides (Some (parameter.Formal r)) = (λ e. absurd (cc), λ h. absurd h)
