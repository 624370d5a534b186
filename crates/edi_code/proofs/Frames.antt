-- Places in frames and records are words.
use Rattle.std.proofs.Common.{◌≡◌, ℕ, zero, suc, ◌+◌, ◌<◌, ◌≤◌, List, [], ◌∷◌, length, take, refl, sym, ap, ◌∙◌, arith}
use Rattle.std.proofs.Common.{◌⊎◌, inl, inr}
use Rattle.std.proofs.Math.ListN.{get_or-eq_default}
use Rattle.std.proofs.Math.Seq.{take-nil}
use Rattle.std.proofs.lemmas.Bool.{cases_lt}
use Rattle.std.proofs.lemmas.List.Sums.{sum_by-cons, sum_by-take-le}
use Rattle.std.specs.Prelude.{sum_by, map, slice_get}
use Rattle.std.specs.Option.{option_map_or}
use Rattle.edi_unit.specs.declared.units.Parameter.TheVariants as slot
use Rattle.edi_unit.specs.Types.{Shape, int, char, bool, enumeration, record_of, array_of, set_of, shape_at, fields_of, size, shape_size, greatest_size}
use Rattle.edi_unit.specs.TypeTables.{IsTypeTable}
use Rattle.edi_unit.specs.Tree.{Block}
use Rattle.edi_unit.specs.Need.{block_at, no_block, slots, slot_words, link_words, variable_words}
use Rattle.edi_unit.proofs.Tables.{size-is, size-small}
use Rattle.edi_scheme.proofs.Known.{words_sum}
use Rattle.edi_code.specs.Writable.{FrameFits, IsRoomy}

-- ---- sums over the first items

pub sum_next : {X : Type 0} (f : X → ℕ) (xs : List X) (i : ℕ) → sum_by f (take (suc i) xs) ≡ sum_by f (take i xs) + option_map_or f (slice_get xs i) 0
sum_next f [] i = omega (arith, ap (sum_by f) (take-nil (suc i)), ap (sum_by f) (take-nil i))
sum_next f (x ∷ xs) zero = omega (arith, sum_by-cons f x [])
sum_next f (x ∷ xs) (suc i) =
    omega (arith, sum_by-cons f x (take (suc i) xs), sum_by-cons f x (take i xs), sum_next f xs i)

-- ---- variables

module _ (types : List Shape) where
  -- the fields of a type take no more words than a type may have
  pub fields_small : (t : ℕ) → IsTypeTable types → t < length types → sum_by (size types) (fields_of (shape_at types t)) ≤ greatest_size
  fields_small t table known = by_shape (shape_at types t) (size-is types t table known) (size-small types t table known)
    where
      by_shape : (shape : Shape) → size types t ≡ shape_size (size types) shape → size types t ≤ greatest_size → sum_by (size types) (fields_of shape) ≤
          greatest_size
      by_shape int is small = omega arith
      by_shape char is small = omega arith
      by_shape bool is small = omega arith
      by_shape (enumeration n) is small = omega arith
      by_shape (record_of fs) is small = omega (arith, is, small)
      by_shape (array_of i lo hi e) is small = omega arith
      by_shape (set_of b) is small = omega arith

  pub field_small : (t n : ℕ) → IsTypeTable types → t < length types → sum_by (size types) (take n (fields_of (shape_at types t))) ≤ greatest_size
  field_small t n table known =
      omega (arith, fields_small t table known, sum_by-take-le (size types) (fields_of (shape_at types t)) n)

-- the frame of every block is small, also of one that is not there
pub frame_small : (types : List Shape) (blocks : List Block) (n : ℕ) → ((k : ℕ) → k < length blocks → FrameFits types blocks k)
    → link_words + variable_words types (block_at blocks n) ≤ greatest_size
frame_small types blocks n fits = go (cases_lt n (length blocks))
  where
    go : (n < length blocks) ⊎ (length blocks ≤ n) → link_words + variable_words types (block_at blocks n) ≤ greatest_size
    go (inl l) = let f = fits n l in omega (arith, f.roomy, f.small)
    go (inr g) =
        let none : variable_words types (block_at blocks n) ≡ 0 = ap (variable_words types) (get_or-eq_default blocks no_block g) in
        omega (arith, none)

-- so is the place of each variable
pub offset_small : (types : List Shape) (blocks : List Block) (n v : ℕ) → ((k : ℕ) → k < length blocks → FrameFits types blocks k)
    → link_words + sum_by (slot_words types) (take v (slots (block_at blocks n))) ≤ greatest_size
offset_small types blocks n v fits =
    omega (arith, frame_small types blocks n fits, sum_by-take-le (slot_words types) (slots (block_at blocks n)) v)

-- the words of the variables up to the next one
pub offset_next : (types : List Shape) (block : Block) (before words here : ℕ) → words ≡ link_words + sum_by (slot_words types) (take before (slots block))
    → here ≡ option_map_or (slot_words types) (slice_get (slots block) before) 0 → words + here ≡ link_words + sum_by (slot_words types)
    (take (before + 1) (slots block))
offset_next types block before words here w h =
    let e : before + 1 ≡ suc before = omega arith in
    omega (arith, w, h, sum_next (slot_words types) (slots block) before, ap (λ n. sum_by (slot_words types) (take n (slots block))) e)

pub fields_next : (types : List Shape) (fields : List ℕ) (before words here : ℕ) → words ≡ sum_by (size types) (take before fields)
    → here ≡ option_map_or (size types) (slice_get fields before) 0 → words + here ≡ sum_by (size types) (take (before + 1) fields)
fields_next types fields before words here w h =
    let e : before + 1 ≡ suc before = omega arith in
    omega (arith, w, h, sum_next (size types) fields before, ap (λ n. sum_by (size types) (take n fields)) e)

-- what a block needs holds its result, its parameters and its declared variables
pub frame_roomy : (types : List Shape) (blocks : List Block) (n : ℕ) → FrameFits types blocks n → IsRoomy types (block_at blocks n)
frame_roomy types blocks n f = record { sum = omega (arith, f.roomy, words_sum types (block_at blocks n)); small = f.small }
