-- What the code answers of two footprints decides whether the branches are disjoint.
use Rattle.std.proofs.Common.{◌≡◌, ℕ, ◌⊎◌, inl, inr, Bool, true, false, not, ◌&&◌, ◌||◌, ◌==◌, List, [], ◌∷◌, map, Option, Some, None, refl, sym, subst, ap, ◌∙◌}
use Rattle.std.specs.Prelude.{Contains, slice_get}
use Rattle.std.specs.Bool.{Decides}
use Rattle.std.proofs.lemmas.Bool.{eqb-true, eq-eqb}
use Rattle.edi_unit.specs.Fits.{Fits}
use Rattle.edi_unit.specs.Tree.{ProgramUnit}
use Rattle.edi_disjoint.specs.declared.touching.Variable as code_variable
use Rattle.edi_disjoint.specs.declared.touching.Footprint.{Footprint}
use Rattle.edi_disjoint.specs.declared.touching.Footprints.{Footprints}
use Rattle.edi_disjoint.specs.Footprints.{Variable, NamesProgram, Disjoint}
use Rattle.edi_disjoint.specs.Exchange.{Exchanges}
use Rattle.edi_disjoint.specs.Found.{variable_of, IsFootprint, IsFootprintAt, AreFootprints}
use Rattle.edi_disjoint.specs.Footprints.{IsBranch}
use Rattle.edi_disjoint.specs.Apart.{is_same, has_variable, do_meet, apart, both_apart, answer_of}
use Rattle.edi_disjoint.proofs.Contained.{contains_either, contains_first, contains_later, contains_none}
use Rattle.edi_disjoint.proofs.Theorem.{disjoint_exchange}

-- ---- truth values

pub and_true : (a b : Bool) → (a && b) ≡ true → (a ≡ true) × (b ≡ true)
and_true true b e = (refl, e)
and_true false b e = absurd (cc)

pub both_true : (a b : Bool) → a ≡ true → b ≡ true → (a && b) ≡ true
both_true a b e f = ap (λ x. x && b) e ∙ f

pub or_true : (a b : Bool) → (a || b) ≡ true → (a ≡ true) ⊎ (b ≡ true)
or_true true b e = inl refl
or_true false b e = inr e

pub left_true : (a b : Bool) → a ≡ true → (a || b) ≡ true
left_true a b e = ap (λ x. x || b) e

pub right_true : (a b : Bool) → b ≡ true → (a || b) ≡ true
right_true true b e = refl
right_true false b e = e

pub not_true : (a : Bool) → not a ≡ true → a ≡ true → ⊥
not_true true e f = absurd (cc)
not_true false e f = absurd (cc)

pub true_not : (a : Bool) → (a ≡ true → ⊥) → not a ≡ true
true_not true h = absurd (h refl)
true_not false h = refl

-- ---- variables

same_variable : (x v : code_variable.Variable) → is_same x v ≡ true → variable_of x ≡ variable_of v
same_variable x v e =
    let both : ((x.home == v.home) ≡ true) × ((x.number == v.number) ≡ true) = and_true (x.home == v.home) (x.number == v.number) e in
    ap (λ (h : ℕ). record { home = h; number = x.number }) (eqb-true x.home v.home both.0) ∙ ap (λ (n : ℕ). record { home = v.home; number = n }) (eqb-true x.number v.number both.1)

variable_same : (x v : code_variable.Variable) → variable_of x ≡ variable_of v → is_same x v ≡ true
variable_same x v e =
    both_true (x.home == v.home) (x.number == v.number) (eq-eqb x.home v.home (ap (λ y. y.home) e)) (eq-eqb x.number v.number (ap (λ y. y.number) e))

abbrev views : List code_variable.Variable → List Variable
views xs = map variable_of xs

has_then : (xs : List code_variable.Variable) (v : code_variable.Variable) → has_variable xs v ≡ true → Contains (views xs) (variable_of v)
has_then [] v e = absurd (cc)
has_then (x ∷ xs) v e = go (or_true (is_same x v) (has_variable xs v) e) (has_then xs v)
  where
    go : (is_same x v ≡ true) ⊎ (has_variable xs v ≡ true) → (has_variable xs v ≡ true → Contains (views xs) (variable_of v)) → Contains (views (x ∷ xs)) (variable_of v)
    go (inl h) more = subst (Contains (views (x ∷ xs))) (same_variable x v h) (contains_first (variable_of x) (views xs))
    go (inr h) more = contains_later (variable_of x) (variable_of v) (views xs) (more h)

then_has : (xs : List code_variable.Variable) (v : code_variable.Variable) → Contains (views xs) (variable_of v) → has_variable xs v ≡ true
then_has [] v h = absurd (contains_none (variable_of v) h)
then_has (x ∷ xs) v h = go (contains_either (variable_of x) (variable_of v) (views xs) h) (then_has xs v)
  where
    go : (variable_of x ≡ variable_of v) ⊎ Contains (views xs) (variable_of v) → (Contains (views xs) (variable_of v) → has_variable xs v ≡ true) → has_variable (x ∷ xs) v ≡ true
    go (inl e) more = left_true (is_same x v) (has_variable xs v) (variable_same x v e)
    go (inr k) more = right_true (is_same x v) (has_variable xs v) (more k)

-- a variable of both lists
abbrev Common : List code_variable.Variable → List code_variable.Variable → Type 0
Common xs ys = (v : Variable) × Contains (views xs) v × Contains (views ys) v

meet_then : (xs ys : List code_variable.Variable) → do_meet xs ys ≡ true → Common xs ys
meet_then [] ys e = absurd (cc)
meet_then (x ∷ xs) ys e = go (or_true (has_variable ys x) (do_meet xs ys) e) (meet_then xs ys)
  where
    go : (has_variable ys x ≡ true) ⊎ (do_meet xs ys ≡ true) → (do_meet xs ys ≡ true → (v : Variable) × Contains (views xs) v × Contains (views ys) v)
        → (v : Variable) × Contains (views (x ∷ xs)) v × Contains (views ys) v
    go (inl h) more = (variable_of x, contains_first (variable_of x) (views xs), has_then ys x h)
    go (inr h) more =
        let c : (v : Variable) × Contains (views xs) v × Contains (views ys) v = more h in
        (c.0, contains_later (variable_of x) c.0 (views xs) c.1, c.2)

then_meet : (xs ys : List code_variable.Variable) (v : Variable) → Contains (views xs) v → Contains (views ys) v → do_meet xs ys ≡ true
then_meet [] ys v h k = absurd (contains_none v h)
then_meet (x ∷ xs) ys v h k = go (contains_either (variable_of x) v (views xs) h) (then_meet xs ys v)
  where
    go : (variable_of x ≡ v) ⊎ Contains (views xs) v → (Contains (views xs) v → Contains (views ys) v → do_meet xs ys ≡ true) → do_meet (x ∷ xs) ys ≡ true
    go (inl e) more = left_true (has_variable ys x) (do_meet xs ys) (then_has ys x (subst (Contains (views ys)) (sym e) k))
    go (inr c) more = right_true (has_variable ys x) (do_meet xs ys) (more c k)

-- ---- two branches

module _ (unit : ProgramUnit) (a b : ℕ) (one other : Footprint) (f : IsFootprint unit a one) (g : IsFootprint unit b other) where
  abbrev no_others : Bool
  no_others = not (one.calls_parameter || other.calls_parameter)

  abbrev one_system : Bool
  one_system = not (one.calls_system && other.calls_system)

  abbrev first_apart : Bool
  first_apart = not (do_meet one.written.items other.seen.items)

  abbrev second_apart : Bool
  second_apart = not (do_meet one.seen.items other.written.items)

  apart_then : (NamesProgram unit → ⊥) → apart one other ≡ true → Disjoint unit a b
  apart_then unnamed e =
      let x : (no_others ≡ true) × ((one_system && (first_apart && second_apart)) ≡ true) = and_true no_others _ e in
      let y : (one_system ≡ true) × ((first_apart && second_apart) ≡ true) = and_true one_system _ x.1 in
      let z : (first_apart ≡ true) × (second_apart ≡ true) = and_true first_apart second_apart y.1 in
      record {
        unnamed = unnamed;
        first_writes = λ v h k. not_true (do_meet one.written.items other.seen.items) z.0 (then_meet one.written.items other.seen.items v (f.written.1 v h) (g.seen.1 v k));
        second_writes = λ v h k. not_true (do_meet one.seen.items other.written.items) z.1 (then_meet one.seen.items other.written.items v (f.seen.1 v h) (g.written.1 v k));
        one_calls = λ h k. not_true (one.calls_system && other.calls_system) y.0 (both_true one.calls_system other.calls_system (f.system.1 h) (g.system.1 k));
        first_others = λ h. not_true (one.calls_parameter || other.calls_parameter) x.0 (left_true one.calls_parameter other.calls_parameter (f.parameter.1 h));
        second_others = λ h. not_true (one.calls_parameter || other.calls_parameter) x.0 (right_true one.calls_parameter other.calls_parameter (g.parameter.1 h));
      }

  then_apart : Disjoint unit a b → apart one other ≡ true
  then_apart d =
      both_true no_others _ (true_not (one.calls_parameter || other.calls_parameter) (λ e. calls (or_true one.calls_parameter other.calls_parameter e)))
      (both_true one_system _ (true_not (one.calls_system && other.calls_system) (λ e. systems (and_true one.calls_system other.calls_system e)))
      (both_true first_apart second_apart (true_not (do_meet one.written.items other.seen.items) (λ e. first (meet_then one.written.items other.seen.items e)))
      (true_not (do_meet one.seen.items other.written.items) (λ e. second (meet_then one.seen.items other.written.items e)))))
    where
      calls : (one.calls_parameter ≡ true) ⊎ (other.calls_parameter ≡ true) → ⊥
      calls (inl e) = d.first_others (f.parameter.0 e)
      calls (inr e) = d.second_others (g.parameter.0 e)

      systems : (one.calls_system ≡ true) × (other.calls_system ≡ true) → ⊥
      systems e = d.one_calls (f.system.0 e.0) (g.system.0 e.1)

      first : Common one.written.items other.seen.items → ⊥
      first c = d.first_writes c.0 (f.written.0 c.0 c.1) (g.seen.0 c.0 c.2)

      second : Common one.seen.items other.written.items → ⊥
      second c = d.second_writes c.0 (f.seen.0 c.0 c.1) (g.written.0 c.0 c.2)

pub deciding : (unit : ProgramUnit) (found : Footprints) → AreFootprints unit found → (a b : ℕ) → IsBranch unit a → IsBranch unit b → Decides (answer_of found a b) (Disjoint unit a b)
deciding unit found h a b ia ib = go (slice_get found.branches.items a) (slice_get found.branches.items b) (h.branches a ia) (h.branches b ib)
  where
    go : (x y : Option Footprint) → IsFootprintAt unit a x → IsFootprintAt unit b y → Decides (not found.named && both_apart x y) (Disjoint unit a b)
    go None y f g = absurd f
    go (Some one) None f g = absurd g
    go (Some one) (Some other) f g = (
      λ e. (
          let both : (not found.named ≡ true) × (apart one other ≡ true) = and_true (not found.named) (apart one other) e in
          apart_then unit a b one other f g (λ n. not_true found.named both.0 (h.named.1 n)) both.1),
      λ d. both_true (not found.named) (apart one other) (true_not found.named (λ e. d.unnamed (h.named.0 e))) (then_apart unit a b one other f g d),
    )

-- where the answer is yes, steps may be exchanged
pub answer_exchanges : (unit : ProgramUnit) (found : Footprints) → AreFootprints unit found → Fits unit → (a b : ℕ) → IsBranch unit a → IsBranch unit b → answer_of found a b ≡ true
    → Exchanges unit a b
answer_exchanges unit found h ok a b ia ib e = disjoint_exchange unit ok a b ((deciding unit found h a b ia ib).0 e)
