-- A value takes as many words as its type has.
use Rattle.std.proofs.Common.{◌≡◌, ℕ, ◌<◌, ℤ, List, [], ◌∷◌, length, All, IsTrue, refl, sym, ◌∙◌, arith, sum_by, length-append}
use Rattle.std.proofs.lemmas.Bool.{false≢true}
use Rattle.std.proofs.lemmas.List.Elements.{All-nil, All-replicate, All-tail, All-get_or}
use Rattle.std.proofs.lemmas.List.Folds.{sum_by-replicate}
use Rattle.std.proofs.lemmas.List.Sums.{sum_by-cons}
use Rattle.edi_word.specs.SetWords.{words_of_members}
use Rattle.edi_word.specs.SetViews.{AreSetWords-words_where}
use Rattle.edi_word.specs.Sets.{set_has}
use Rattle.edi_unit.specs.Types.{Shape, int, char, bool, enumeration, record_of, array_of, set_of, shape_at, int_type, element_count}
use Rattle.edi_unit.specs.TypeTables.{named_types}
use Rattle.edi_unit.specs.Types.{is_set_shape, is_ordinal_of, shape_size, size}
use Rattle.edi_unit.specs.TypeTables.{part_types, has_parts}
use Rattle.edi_unit.specs.Values.{Value, ordinal, compound, members, Values, no_value, value_then, IsOf, AreOf}
use Rattle.edi_unit.proofs.Tables.{size-is}
use Rattle.edi_scheme.proofs.Known.{names_known, size_positive}
use Rattle.edi_follows.specs.values.Words.{value_words, values_words, nth_type, IsTable, ValuesAreLong, TypesTakeWords}

-- ---- the types of parts

parts_known_in : (n : ℕ) (s : Shape) → All (λ u. u < n) (named_types s) → All (λ u. u < n) (part_types s)
parts_known_in n int h = All-nil (λ u. u < n)
parts_known_in n char h = All-nil (λ u. u < n)
parts_known_in n bool h = All-nil (λ u. u < n)
parts_known_in n (enumeration k) h = All-nil (λ u. u < n)
parts_known_in n (record_of fs) h = h
parts_known_in n (array_of i lo hi e) h = All-replicate (λ u. u < n) (element_count lo hi) e (h 1 0 (omega arith))
parts_known_in n (set_of b) h = All-nil (λ u. u < n)

-- the types of the parts of a value are known
pub parts_known : (types : List Shape) → IsTable types → (t : ℕ) → t < length types → All (λ u. u < length types) (part_types (shape_at types t))
parts_known types h t known = parts_known_in (length types) (shape_at types t) (names_known types h.table h.parts t known)

pub nth_known : (types : List Shape) → IsTable types → (t n : ℕ) → t < length types → n < length (part_types (shape_at types t)) →
    nth_type types t n < length types
nth_known types h t n known within = All-get_or (λ u. u < length types) (part_types (shape_at types t)) n int_type within (parts_known types h t known)

-- the sizes of the parts of a record or an array together
pub parts_sum : (of : ℕ → ℕ) (s : Shape) → IsTrue (has_parts s) → sum_by of (part_types s) ≡ shape_size of s
parts_sum of int h = absurd (false≢true h)
parts_sum of char h = absurd (false≢true h)
parts_sum of bool h = absurd (false≢true h)
parts_sum of (enumeration k) h = absurd (false≢true h)
parts_sum of (record_of fs) h = refl
parts_sum of (array_of i lo hi e) h = sum_by-replicate of (element_count lo hi) e
parts_sum of (set_of b) h = absurd (false≢true h)

ordinal_sum : (of : ℕ → ℕ) (s : Shape) (n : ℤ) → IsTrue (is_ordinal_of s n) → 1 ≡ shape_size of s
ordinal_sum of int n h = refl
ordinal_sum of char n h = refl
ordinal_sum of bool n h = refl
ordinal_sum of (enumeration k) n h = refl
ordinal_sum of (record_of fs) n h = absurd (false≢true h)
ordinal_sum of (array_of i lo hi e) n h = absurd (false≢true h)
ordinal_sum of (set_of b) n h = absurd (false≢true h)

set_sum : (of : ℕ → ℕ) (s : Shape) → IsTrue (is_set_shape s) → 8 ≡ shape_size of s
set_sum of int h = absurd (false≢true h)
set_sum of char h = absurd (false≢true h)
set_sum of bool h = absurd (false≢true h)
set_sum of (enumeration k) h = absurd (false≢true h)
set_sum of (record_of fs) h = absurd (false≢true h)
set_sum of (array_of i lo hi e) h = absurd (false≢true h)
set_sum of (set_of b) h = refl

pub length-words_of_members : (set : List ℕ) → length (words_of_members set) ≡ 8
length-words_of_members set = (AreSetWords-words_where (set_has set)).eight

-- a type with this size has values of one word, or of its parts', or of eight
pub size_of_ordinal : (types : List Shape) → IsTable types → (t : ℕ) (n : ℤ) → t < length types → IsTrue (is_ordinal_of (shape_at types t) n) → size types t ≡ 1
size_of_ordinal types h t n known is = size-is types t h.table known ∙ sym (ordinal_sum (size types) (shape_at types t) n is)

pub size_of_parts : (types : List Shape) → IsTable types → (t : ℕ) → t < length types → IsTrue (has_parts (shape_at types t)) →
    size types t ≡ sum_by (size types) (part_types (shape_at types t))
size_of_parts types h t known is = size-is types t h.table known ∙ sym (parts_sum (size types) (shape_at types t) is)

pub size_of_set : (types : List Shape) → IsTable types → (t : ℕ) → t < length types → IsTrue (is_set_shape (shape_at types t)) → size types t ≡ 8
size_of_set types h t known is = size-is types t h.table known ∙ sym (set_sum (size types) (shape_at types t) is)

-- ---- lengths

module _ (types : List Shape) (h : IsTable types) where
  mutual
    pub value_length : (v : Value) (t : ℕ) → t < length types → IsOf types v t → length (value_words v) ≡ size types t
    value_length (ordinal n) t known is = sym (size_of_ordinal types h t n known is)
    value_length (compound vs) t known is = values_length vs (part_types (shape_at types t)) (parts_known types h t known) is.1
        ∙ sym (size_of_parts types h t known is.0)
    value_length (members set) t known is = length-words_of_members set ∙ sym (size_of_set types h t known is.0)

    pub values_length : (vs : Values) (ts : List ℕ) → All (λ u. u < length types) ts → AreOf types vs ts → length (values_words vs) ≡ sum_by (size types) ts
    values_length no_value [] known are = refl
    values_length no_value (t ∷ ts) known are = absurd are
    values_length (value_then v vs) [] known are = absurd are
    values_length (value_then v vs) (t ∷ ts) known are =
        let first : length (value_words v) ≡ size types t = value_length v t (known 0 0 (omega arith)) are.0 in
        let rest : length (values_words vs) ≡ sum_by (size types) ts = values_length vs ts (All-tail (λ u. u < length types) t ts known) are.1 in
        omega (arith, length-append (value_words v) (values_words vs), sum_by-cons (size types) t ts)

pub values_are_long : ValuesAreLong
values_are_long types h v t known is = value_length types h v t known is

pub types_take_words : TypesTakeWords
types_take_words types h t known = size_positive types h.table h.parts t known
