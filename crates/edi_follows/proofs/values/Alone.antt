-- Elementary values, sets and truth values as words.
use Rattle.std.proofs.Common.{◌≡◌, ℕ, zero, suc, ◌<◌, ◌^◌, ◌⊎◌, inl, inr, ℤ, pos, negsuc, Bool, true, false, not, List, [], ◌∷◌, length, get_or, IsTrue}
use Rattle.std.proofs.Common.{refl, sym, ap, subst, ◌∙◌, arith, get_or-take}
use Rattle.std.specs.Prelude.{nat_eq}
use Rattle.std.proofs.lemmas.Bool.{false≢true}
use Rattle.std.proofs.lemmas.Int.{ints}
use Rattle.edi_word.proofs.IntLaws.{fits_from_is_int, signed-unsigned}
use Rattle.edi_unit.specs.Types.{Shape, int, char, bool, record_of, array_of, set_of, shape_at, int_type, char_type, bool_type, is_elementary}
use Rattle.edi_unit.specs.Types.{is_elementary_shape, is_ordinal_of, is_set_shape}
use Rattle.edi_unit.specs.TypeTables.{has_parts}
use Rattle.edi_unit.specs.Values.{Value, ordinal, compound, members, IsOf, ordinal_of, is_true, truth}
use Rattle.edi_target.specs.Effect as effect
use Rattle.edi_follows.specs.values.Words.{value_words, IsTable}
use Rattle.edi_follows.proofs.values.Lengths.{size_of_ordinal, size_of_set}
use Rattle.edi_follows.proofs.values.Small.{ordinal_int, word_small}
use Rattle.edi_follows.proofs.values.Alike.{ordinal_set, parts_set}
use Rattle.edi_follows.specs.values.Operated.{word_of, ElementaryIsAlone, SetIsMembers, TruthIsWord, TruthIsTested}

-- ---- the standard types

module _ (types : List Shape) (h : IsTable types) where
  standard_at : (k : ℕ) → k < 3 → shape_at types k ≡ get_or (int ∷ char ∷ bool ∷ []) k int
  standard_at k less = sym (get_or-take 3 types k int less) ∙ ap (λ l. get_or l k int) h.table.standard

  pub shape_int : shape_at types int_type ≡ int
  shape_int = standard_at 0 (omega arith)

  pub shape_char : shape_at types char_type ≡ char
  shape_char = standard_at 1 (omega arith)

  pub shape_bool : shape_at types bool_type ≡ bool
  shape_bool = standard_at 2 (omega arith)

  pub standard_known : (k : ℕ) → k < 3 → k < length types
  standard_known k less = let three = h.table.three in omega (arith, less, three)

  pub int_elementary : IsTrue (is_elementary types int_type)
  int_elementary = ap is_elementary_shape shape_int

  pub bool_elementary : IsTrue (is_elementary types bool_type)
  bool_elementary = ap is_elementary_shape shape_bool

-- ---- elementary values

elementary_parts : (s : Shape) → IsTrue (is_elementary_shape s) → IsTrue (has_parts s) → ⊥
elementary_parts (record_of fs) h k = false≢true h
elementary_parts (array_of i lo hi e) h k = false≢true h
elementary_parts (set_of b) h k = false≢true h
elementary_parts s h k = false≢true k

elementary_set : (s : Shape) → IsTrue (is_elementary_shape s) → IsTrue (is_set_shape s) → ⊥
elementary_set (record_of fs) h k = false≢true h
elementary_set (array_of i lo hi e) h k = false≢true h
elementary_set (set_of b) h k = false≢true h
elementary_set s h k = false≢true k

pub elementary_is_alone : ElementaryIsAlone
elementary_is_alone types h (ordinal n) t known elementary is = record {
  words = refl;
  size_is = size_of_ordinal types h t n known is;
  integer = signed-unsigned n (fits_from_is_int n (ordinal_int types h t n known is));
  same = refl;
}
elementary_is_alone types h (compound vs) t known elementary is = absurd (elementary_parts (shape_at types t) elementary is.0)
elementary_is_alone types h (members set) t known elementary is = absurd (elementary_set (shape_at types t) elementary is.0)

-- its ordinal is one of the type, and its word is one
pub elementary_ordinal : (types : List Shape) (v : Value) (t : ℕ) → IsTrue (is_elementary types t) → IsOf types v t →
    IsTrue (is_ordinal_of (shape_at types t) (ordinal_of v))
elementary_ordinal types (ordinal n) t elementary is = is
elementary_ordinal types (compound vs) t elementary is = absurd (elementary_parts (shape_at types t) elementary is.0)
elementary_ordinal types (members set) t elementary is = absurd (elementary_set (shape_at types t) elementary is.0)

pub elementary_small : (types : List Shape) → IsTable types → (v : Value) (t : ℕ) → t < length types → IsTrue (is_elementary types t) →
    IsOf types v t → word_of v < 2 ^ 16
elementary_small types h v t known elementary is =
    word_small (ordinal_of v) (ordinal_int types h t (ordinal_of v) known (elementary_ordinal types v t elementary is))

-- ---- sets

pub set_is_members : SetIsMembers
set_is_members types h (ordinal n) t known set is = absurd (ordinal_set (shape_at types t) n is set)
set_is_members types h (compound vs) t known set is = absurd (parts_set (shape_at types t) is.0 set)
set_is_members types h (members xs) t known set is = (xs, refl, is.1, refl, size_of_set types h t known set)

-- ---- truth values

pub truth_words : (b : Bool) → value_words (truth b) ≡ effect.truth b ∷ []
truth_words true = refl
truth_words false = refl

truth_of : (types : List Shape) → IsTable types → (b : Bool) → IsOf types (truth b) bool_type
truth_of types h true = ap (λ s. is_ordinal_of s (pos 1)) (shape_bool types h)
truth_of types h false = ap (λ s. is_ordinal_of s (pos 0)) (shape_bool types h)

pub truth_is_word : TruthIsWord
truth_is_word types h b = (truth_words b, standard_known types h 2 (omega arith), truth_of types h b)

bool_cases : (n : ℤ) → IsTrue (is_ordinal_of bool n) → (n ≡ pos 0) ⊎ (n ≡ pos 1)
bool_cases (pos zero) h = inl refl
bool_cases (pos (suc zero)) h = inr refl
bool_cases (pos (suc (suc n))) h = absurd (grind (arith, ints, h))
bool_cases (negsuc n) h = absurd (false≢true h)

tested : (v : Value) → (v ≡ ordinal (pos 0)) ⊎ (v ≡ ordinal (pos 1)) → (nat_eq (word_of v) 0 ≡ not (is_true v)) × (v ≡ truth (is_true v))
tested v (inl e) = subst (λ x. (nat_eq (word_of x) 0 ≡ not (is_true x)) × (x ≡ truth (is_true x))) (sym e) (refl, refl)
tested v (inr e) = subst (λ x. (nat_eq (word_of x) 0 ≡ not (is_true x)) × (x ≡ truth (is_true x))) (sym e) (refl, refl)

either_truth : (v : Value) (n : ℤ) → ordinal n ≡ v → (n ≡ pos 0) ⊎ (n ≡ pos 1) → (v ≡ ordinal (pos 0)) ⊎ (v ≡ ordinal (pos 1))
either_truth v n same (inl e) = inl (sym same ∙ ap ordinal e)
either_truth v n same (inr e) = inr (sym same ∙ ap ordinal e)

pub truth_is_tested : TruthIsTested
truth_is_tested types h v is =
    let alone = elementary_is_alone types h v bool_type (standard_known types h 2 (omega arith)) (bool_elementary types h) is in
    let one = elementary_ordinal types v bool_type (bool_elementary types h) is in
    tested v (either_truth v (ordinal_of v) alone.same (bool_cases (ordinal_of v) (sym (ap (λ s. is_ordinal_of s (ordinal_of v)) (shape_bool types h)) ∙ one)))
