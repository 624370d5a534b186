-- The value with which a variable starts.
use Rattle.std.proofs.Common.{◌≡◌, ℕ, zero, suc, ◌<◌, pos, List, [], ◌∷◌, ◌++◌, length, take, drop, refl, sym, ap, ◌∙◌, subst, arith}
use Rattle.std.specs.Prelude.{All, map, replicate, true}
use Rattle.std.proofs.lemmas.Int.{ints}
use Rattle.edi_unit.proofs.Entries.{entries-before, entries-at}
use Rattle.edi_unit.proofs.Tables.{types-split, length-before}
use Rattle.edi_unit.specs.Types.{Shape, int, char, bool, enumeration, record_of, array_of, set_of, shape_at, element_count, is_ordinal_of}
use Rattle.edi_unit.specs.TypeTables.{named_types}
use Rattle.edi_unit.specs.Types.{is_set_shape}
use Rattle.edi_unit.specs.TypeTables.{has_parts, part_types, IsTypeTable}
use Rattle.edi_unit.specs.Values.{Value, ordinal, compound, values, shape_zero, zero_value, IsOf, AreOf}
use Rattle.edi_unit.specs.Fits.{ShapeFits, ShapesFit}

zero-before : (types more : List Shape) (t : ℕ) → t < length types → zero_value (types ++ more) t ≡ zero_value types t
unfolding zero_value
zero-before types more t before = entries-before shape_zero (ordinal (pos 0)) types more t before

zero-at : (types : List Shape) (s : Shape) (more : List Shape) → zero_value (types ++ s ∷ more) (length types) ≡ shape_zero (zero_value types) s
unfolding zero_value
zero-at types s more = entries-at shape_zero (ordinal (pos 0)) types s more

map-same : (f g : ℕ → Value) (n : ℕ) (ts : List ℕ) → All (λ t. t < n) ts → ((t : ℕ) → t < n → f t ≡ g t) → map f ts ≡ map g ts
map-same f g n [] below same = refl
map-same f g n (t ∷ ts) below same =
    ap (λ v. v ∷ map f ts) (same t (below 0 0 (omega arith)))
    ∙ ap (λ vs. g t ∷ vs) (map-same f g n ts (λ k d h. below (suc k) d (omega arith)) same)

shape_zero-same : (f g : ℕ → Value) (n : ℕ) (s : Shape) → All (λ t. t < n) (named_types s) → ((t : ℕ) → t < n → f t ≡ g t) → shape_zero f s ≡ shape_zero g s
shape_zero-same f g n int below same = refl
shape_zero-same f g n char below same = refl
shape_zero-same f g n bool below same = refl
shape_zero-same f g n (enumeration k) below same = refl
shape_zero-same f g n (record_of fs) below same = ap (λ vs. compound (values vs)) (map-same f g n fs below same)
shape_zero-same f g n (array_of i lo hi e) below same = ap (λ v. compound (values (replicate (element_count lo hi) v))) (same e (below 1 0 (omega arith)))
shape_zero-same f g n (set_of b) below same = refl

-- the value with which a type starts is made from those of the types that it names
pub zero-is : (types : List Shape) (t : ℕ) → IsTypeTable types → t < length types → zero_value types t ≡ shape_zero (zero_value types) (shape_at types t)
zero-is types t table known =
    let before = take t types in
    let s = shape_at types t in
    let split = types-split types t known in
    ap (λ l. zero_value l t) split
    ∙ ap (λ n. zero_value (before ++ s ∷ drop (suc t) types) n) (sym (length-before types t known))
    ∙ zero-at before s (drop (suc t) types)
    ∙ shape_zero-same (zero_value before) (zero_value types) (length before) s (table.declared t known).known
    (λ u below. sym (ap (λ l. zero_value l u) split ∙ zero-before before (s ∷ drop (suc t) types) u below))

first_constant : (k : ℕ) → 0 < k → is_ordinal_of (enumeration k) (pos 0) ≡ true
first_constant k some = grind (arith, ints)

module _ (types : List Shape) where
  zero_fields : (n : ℕ) (ts : List ℕ) → All (λ t. t < n) ts → ((t : ℕ) → t < n → IsOf types (zero_value types t) t)
      → AreOf types (values (map (zero_value types) ts)) ts
  zero_fields n [] below earlier = tt
  zero_fields n (t ∷ ts) below earlier = (earlier t (below 0 0 (omega arith)), zero_fields n ts (λ k d h. below (suc k) d (omega arith)) earlier)

  zero_elements : (v : Value) (t k : ℕ) → IsOf types v t → AreOf types (values (replicate k v)) (replicate k t)
  zero_elements v t zero is = tt
  zero_elements v t (suc k) is = (is, zero_elements v t k is)

  zero_of_shape : (t : ℕ) (s : Shape) → shape_at types t ≡ s → All (λ u. u < t) (named_types s) → ShapeFits types s
      → ((u : ℕ) → u < t → IsOf types (zero_value types u) u) → IsOf types (shape_zero (zero_value types) s) t
  zero_of_shape t int e below fits earlier = ap (λ s. is_ordinal_of s (pos 0)) e
  zero_of_shape t char e below fits earlier = ap (λ s. is_ordinal_of s (pos 0)) e
  zero_of_shape t bool e below fits earlier = ap (λ s. is_ordinal_of s (pos 0)) e
  zero_of_shape t (enumeration k) e below fits earlier = ap (λ s. is_ordinal_of s (pos 0)) e ∙ first_constant k fits.0
  zero_of_shape t (record_of fs) e below fits earlier =
      (ap has_parts e, subst (λ s. AreOf types (values (map (zero_value types) fs)) (part_types s)) (sym e) (zero_fields t fs below earlier))
  zero_of_shape t (array_of i lo hi x) e below fits earlier = (
    ap has_parts e,
    subst (λ s. AreOf types (values (replicate (element_count lo hi) (zero_value types x))) (part_types s)) (sym e)
        (zero_elements (zero_value types x) x (element_count lo hi) (earlier x (below 1 0 (omega arith)))),
  )
  zero_of_shape t (set_of b) e below fits earlier = (ap is_set_shape e, tt)

  zero_below : (n t : ℕ) → IsTypeTable types → ShapesFit types → t < n → t < length types → IsOf types (zero_value types t) t
  zero_below zero t table fits below known = absurd (omega arith)
  zero_below (suc n) t table fits below known =
      let long = length-before types t known in
      subst (λ v. IsOf types v t) (sym (zero-is types t table known))
      (zero_of_shape t (shape_at types t) refl
      (λ k d h. let named = (table.declared t known).known k d h in omega (arith, named, long))
      (fits t known)
      (λ u earlier. zero_below n u table fits (omega arith) (omega arith)))

-- a variable starts with a value of its type
pub zero_is_of : (types : List Shape) (t : ℕ) → IsTypeTable types → ShapesFit types → t < length types → IsOf types (zero_value types t) t
zero_is_of types t table fits known = zero_below types (suc t) t table fits (omega arith) known
