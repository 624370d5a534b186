-- The value with which a variable starts has zeros as its words.
use Rattle.std.proofs.Common.{◌≡◌, ℕ, zero, suc, ◌+◌, ◌*◌, ◌<◌, List, [], ◌∷◌, ◌++◌, length, All, map, replicate, sum_by, refl, sym, ap, ap₂, ◌∙◌, arith}
use Rattle.std.proofs.lemmas.List.{replicate-append-replicate}
use Rattle.std.proofs.lemmas.List.Elements.{All-tail}
use Rattle.std.proofs.lemmas.List.Sums.{sum_by-cons}
use Rattle.edi_word.specs.SetWords.{words_where, words_of_members}
use Rattle.edi_unit.specs.Types.{Shape, int, char, bool, enumeration, record_of, array_of, set_of, shape_at, element_count, shape_size, size}
use Rattle.edi_unit.specs.TypeTables.{named_types}
use Rattle.edi_unit.specs.Values.{Value, values, shape_zero, zero_value}
use Rattle.edi_unit.proofs.Tables.{size-is, length-before}
use Rattle.edi_unit.proofs.ZeroValues.{zero-is}
use Rattle.edi_follows.specs.values.Words.{value_words, values_words, IsTable, ZeroIsZeros}

pub empty_set : words_of_members [] ≡ replicate 8 0
unfolding words_where
empty_set = refl

module _ (types : List Shape) where
  zero_fields : (n : ℕ) (ts : List ℕ) → All (λ u. u < n) ts → ((u : ℕ) → u < n → value_words (zero_value types u) ≡ replicate (size types u) 0) →
      values_words (values (map (zero_value types) ts)) ≡ replicate (sum_by (size types) ts) 0
  zero_fields n [] known earlier = refl
  zero_fields n (t ∷ ts) known earlier =
      ap₂ (λ a b. a ++ b) (earlier t (known 0 0 (omega arith))) (zero_fields n ts (All-tail (λ u. u < n) t ts known) earlier)
      ∙ replicate-append-replicate (size types t) (sum_by (size types) ts) 0
      ∙ ap (λ k. replicate k 0) (sym (sum_by-cons (size types) t ts))

  zero_elements : (v : Value) (k n : ℕ) → value_words v ≡ replicate k 0 → values_words (values (replicate n v)) ≡ replicate (n * k) 0
  zero_elements v k zero is = let none : 0 ≡ 0 * k = omega arith in ap (λ j. replicate j 0) none
  zero_elements v k (suc n) is =
      let more : k + n * k ≡ suc n * k = omega arith in
      ap₂ (λ a b. a ++ b) is (zero_elements v k n is)
      ∙ replicate-append-replicate k (n * k) 0
      ∙ ap (λ j. replicate j 0) more

  zero_of_shape : (n : ℕ) (s : Shape) → All (λ u. u < n) (named_types s) →
      ((u : ℕ) → u < n → value_words (zero_value types u) ≡ replicate (size types u) 0) →
      value_words (shape_zero (zero_value types) s) ≡ replicate (shape_size (size types) s) 0
  zero_of_shape n int known earlier = refl
  zero_of_shape n char known earlier = refl
  zero_of_shape n bool known earlier = refl
  zero_of_shape n (enumeration k) known earlier = refl
  zero_of_shape n (record_of fs) known earlier = zero_fields n fs known earlier
  zero_of_shape n (array_of i lo hi e) known earlier =
      zero_elements (zero_value types e) (size types e) (element_count lo hi) (earlier e (known 1 0 (omega arith)))
  zero_of_shape n (set_of b) known earlier = empty_set

  module _ (h : IsTable types) where
    zero_below : (n t : ℕ) → t < n → t < length types → value_words (zero_value types t) ≡ replicate (size types t) 0
    zero_below zero t below known = absurd (omega (arith, below))
    zero_below (suc n) t below known =
        ap value_words (zero-is types t h.table known)
        ∙ zero_of_shape t (shape_at types t)
        (λ k d i. let named = (h.table.declared t known).known k d i in let long = length-before types t known in omega (arith, named, long))
        (λ u earlier. zero_below n u (omega (arith, below, earlier)) (omega (arith, earlier, known)))
        ∙ ap (λ k. replicate k 0) (sym (size-is types t h.table known))

pub zero_is_zeros : ZeroIsZeros
zero_is_zeros types h t known = zero_below types h (suc t) t (omega arith) known
