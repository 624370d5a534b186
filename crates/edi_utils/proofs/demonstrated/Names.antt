-- The names that the program of the demonstration has declared, and what each means.
use Rattle.std.proofs.Common.{◌≡◌, ℕ, zero, suc, ◌+◌, ◌<◌, ◌≤◌, Bool, true, false, cond, List, [], ◌∷◌, ◌++◌, drop, Some, None, refl, sym, ap, ◌∙◌, arith}
use Rattle.std.specs.Prelude.{codes}
use Rattle.std.specs.Str.{bytes_eq}
use Rattle.std.proofs.lemmas.Fmt.{decimal_injective}
use Rattle.std.proofs.lemmas.Slice.Eq.{bytes_eq-Decides}
use Rattle.edi_scope.specs.declared.entity.Entity.{Entity}
use Rattle.edi_scope.specs.declared.entity.Entity.TheVariants as entity
use Rattle.edi_scope.specs.Scope.{meaning}
use Rattle.edi_unit.specs.Headings.{Heading}
use Rattle.edi_static.specs.Environment.{no_heading, heading_at}
use Rattle.edi_utils.specs.demonstrated.Symbols.{procedure_name}

abbrev pub Names : Type 0
Names = List (List ℕ × Entity)

-- the variable of the program
abbrev pub counter : Entity
counter = entity.Variable 0 0 0

-- the variable is declared, and the procedures up to this one, with the blocks behind that of the program, which are so many
pub record Declared (next count : ℕ) (names : Names) : Type 0 where
  pub counter_is : meaning names (codes "x") ≡ Some counter
  pub there : (j : ℕ) → 1 ≤ j → j < next → (b : ℕ) × (b < count) × (meaning names (procedure_name j) ≡ Some (entity.Procedure (suc b)))
  pub fresh : (j : ℕ) → next ≤ j → j ≤ 1000 → meaning names (procedure_name j) ≡ None

pub at_first : Declared 1 0 ((codes "x", counter) ∷ [])
at_first = record { counter_is = refl; there = λ j some less. absurd (omega (arith, some, less)); fresh = λ j more few. refl }

same_bytes : (a b : List ℕ) → a ≡ b → bytes_eq a b ≡ true
same_bytes a b e = (bytes_eq-Decides a b).1 e

other_bytes : (a b : List ℕ) → (a ≡ b → ⊥) → bytes_eq a b ≡ false
other_bytes a b h = go (bytes_eq a b) refl
  where
    go : (t : Bool) → bytes_eq a b ≡ t → bytes_eq a b ≡ false
    go true e = absurd (h ((bytes_eq-Decides a b).0 e))
    go false e = e

-- names of different procedures are different
names_apart : (i j : ℕ) → i ≤ 1000 → j ≤ 1000 → (j ≡ i → ⊥) → bytes_eq (procedure_name j) (procedure_name i) ≡ false
names_apart i j low few other =
    other_bytes (procedure_name j) (procedure_name i) (λ e. other (decimal_injective j i (omega (arith, few)) (omega (arith, low)) (ap (drop 1) e)))

smaller : (j i : ℕ) → j < suc i → (j ≡ i → ⊥) → j < i
smaller j i less other = grind (arith)

-- one procedure more
pub one_more : (i count : ℕ) (names : Names) → i ≤ 1000 → Declared i count names
    → Declared (suc i) (count + 1) ((procedure_name i, entity.Procedure (suc count)) ∷ names)
one_more i count names low d = record {
  counter_is = d.counter_is;
  there = λ j some less. is_there j some less (bytes_eq (procedure_name j) (procedure_name i)) refl;
  fresh = λ j more few. rw (names_apart i j low few (λ e. omega (arith, more, e))) (d.fresh j (omega (arith, more)) few);
} where
  is_there : (j : ℕ) → 1 ≤ j → j < suc i → (t : Bool) → bytes_eq (procedure_name j) (procedure_name i) ≡ t
      → (b : ℕ) × (b < count + 1) × (meaning ((procedure_name i, entity.Procedure (suc count)) ∷ names) (procedure_name j) ≡ Some (entity.Procedure (suc b)))
  is_there j some less true e = (count, omega arith, ap (λ t. cond t (Some (entity.Procedure (suc count))) (meaning names (procedure_name j))) e)
  is_there j some less false e =
      let other : j ≡ i → ⊥ = λ s. absurd (let both : true ≡ false = sym (same_bytes (procedure_name j) (procedure_name i) (ap procedure_name s)) ∙ e in
      cc) in
      let before = d.there j some (smaller j i less other) in
      (before.0, omega (arith, before.1), ap (λ t. cond t (Some (entity.Procedure (suc count))) (meaning names (procedure_name j))) e ∙ before.2)

-- ---- headings without parameters

abbrev pub ArePlain : List Heading → Type 0
ArePlain [] = Unit {0}
ArePlain (h ∷ hs) = (h ≡ no_heading) × ArePlain hs

pub plain_at : (hs : List Heading) → ArePlain hs → (b : ℕ) → heading_at hs b ≡ no_heading
plain_at [] p b = refl
plain_at (h ∷ hs) p zero = p.0
plain_at (h ∷ hs) p (suc b) = plain_at hs p.1 b

pub plain_more : (hs : List Heading) → ArePlain hs → ArePlain (hs ++ no_heading ∷ [])
plain_more [] p = (refl, tt)
plain_more (h ∷ hs) p = (p.0, plain_more hs p.1)
