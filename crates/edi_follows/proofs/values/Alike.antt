-- Two values of one type have the same words exactly where they are equal.
use Rattle.std.proofs.Common.{◌≡◌, ℕ, ◌<◌, ℤ, Bool, true, false, ◌&&◌, List, [], ◌∷◌, ◌++◌, length, IsTrue, refl, sym, ap, ap₂, ◌∙◌, arith, eqb, eq-eqb}
use Rattle.std.specs.Prelude.{◌==◌}
use Rattle.std.specs.List.{All}
use Rattle.std.specs.Ordering.{int_eq}
use Rattle.std.specs.Str.{bytes_eq}
use Rattle.std.proofs.lemmas.Bool.{false≢true}
use Rattle.std.proofs.lemmas.Bool.Decides.{Decides-eqb, Decides-int_eq}
use Rattle.std.proofs.lemmas.List.Elements.{All-tail}
use Rattle.std.proofs.lemmas.Slice.Eq.{bytes_eq-Decides}
use Rattle.edi_word.specs.Integers.{is_int}
use Rattle.edi_word.specs.Words.{signed, unsigned}
use Rattle.edi_word.specs.SetWords.{IsOrdinalSet, words_of_members}
use Rattle.edi_word.proofs.IntLaws.{fits_from_is_int, signed-unsigned}
use Rattle.edi_word.proofs.SetLaws.{same_set_from_words}
use Rattle.edi_unit.specs.Types.{Shape, record_of, array_of, set_of, shape_at, is_set_shape, is_ordinal_of}
use Rattle.edi_unit.specs.TypeTables.{part_types, has_parts}
use Rattle.edi_unit.specs.Values.{Value, ordinal, compound, members, Values, no_value, value_then, IsOf, AreOf, same_value, same_values, same_members}
use Rattle.edi_follows.specs.values.Words.{value_words, values_words, IsTable, WordsTellValues}
use Rattle.edi_follows.proofs.values.Lengths.{parts_known, value_length}
use Rattle.edi_follows.proofs.values.Small.{ordinal_int}

-- tests that decide the same are the same
same_tests : (a b : Bool) → (a ≡ true → b ≡ true) → (b ≡ true → a ≡ true) → a ≡ b
same_tests true b there back = sym (there refl)
same_tests false true there back = back refl
same_tests false false there back = refl

and_assoc : (a b c : Bool) → ((a && b) && c) ≡ (a && (b && c))
and_assoc true b c = refl
and_assoc false b c = refl

-- lists are compared part by part, where the parts are equally long
pub bytes_eq-append : (a b c d : List ℕ) → length a ≡ length c → bytes_eq (a ++ b) (c ++ d) ≡ (bytes_eq a c && bytes_eq b d)
bytes_eq-append [] b [] d same = refl
bytes_eq-append [] b (y ∷ c) d same = absurd (omega arith)
bytes_eq-append (x ∷ a) b [] d same = absurd (omega arith)
bytes_eq-append (x ∷ a) b (y ∷ c) d same = ap (λ r. eqb x y && r) (bytes_eq-append a b c d (omega arith))
    ∙ sym (and_assoc (eqb x y) (bytes_eq a c) (bytes_eq b d))

-- ---- elementary values

unsigned_apart : (m n : ℤ) → IsTrue (is_int m) → IsTrue (is_int n) → unsigned m ≡ unsigned n → m ≡ n
unsigned_apart m n is also same = sym (signed-unsigned m (fits_from_is_int m is)) ∙ ap signed same ∙ signed-unsigned n (fits_from_is_int n also)

and_true : (a : Bool) → (a && true) ≡ a
and_true true = refl
and_true false = refl

pub same_ordinals : (m n : ℤ) → IsTrue (is_int m) → IsTrue (is_int n) → eqb (unsigned m) (unsigned n) ≡ int_eq m n
same_ordinals m n is also =
    same_tests (eqb (unsigned m) (unsigned n)) (int_eq m n)
    (λ h. (Decides-int_eq m n).1 (unsigned_apart m n is also ((Decides-eqb (unsigned m) (unsigned n)).0 h)))
    (λ h. (Decides-eqb (unsigned m) (unsigned n)).1 (ap unsigned ((Decides-int_eq m n).0 h)))

-- ---- sets

and_parts : (a b : Bool) → (a && b) ≡ true → (a ≡ true) × (b ≡ true)
and_parts true b h = (refl, h)
and_parts false b h = absurd (false≢true h)

members_same : (s t : List ℕ) → same_members s t ≡ true → s ≡ t
members_same [] [] h = refl
members_same [] (y ∷ t) h = absurd (false≢true h)
members_same (x ∷ s) [] h = absurd (false≢true h)
members_same (x ∷ s) (y ∷ t) h =
    let both = and_parts (x == y) (same_members s t) h in
    ap₂ (λ z zs. z ∷ zs) ((Decides-eqb x y).0 both.0) (members_same s t both.1)

members_itself : (s : List ℕ) → same_members s s ≡ true
members_itself [] = refl
members_itself (x ∷ s) = ap₂ (λ a b. a && b) (eq-eqb x x refl) (members_itself s)

pub same_sets : (s t : List ℕ) → IsOrdinalSet s → IsOrdinalSet t → bytes_eq (words_of_members s) (words_of_members t) ≡ same_members s t
same_sets s t set other =
    same_tests (bytes_eq (words_of_members s) (words_of_members t)) (same_members s t)
    (λ h. let words = (bytes_eq-Decides (words_of_members s) (words_of_members t)).0 h in
    let same : s ≡ t = same_set_from_words s t set other words in
    ap (same_members s) (sym same) ∙ members_itself s)
    (λ h. (bytes_eq-Decides (words_of_members s) (words_of_members t)).1 (ap words_of_members (members_same s t h)))

-- ---- values of different forms are not of one type

pub ordinal_parts : (s : Shape) (n : ℤ) → IsTrue (is_ordinal_of s n) → IsTrue (has_parts s) → ⊥
ordinal_parts (record_of fs) n h k = false≢true h
ordinal_parts (array_of i lo hi e) n h k = false≢true h
ordinal_parts (set_of b) n h k = false≢true h
ordinal_parts s n h k = false≢true k

pub ordinal_set : (s : Shape) (n : ℤ) → IsTrue (is_ordinal_of s n) → IsTrue (is_set_shape s) → ⊥
ordinal_set (record_of fs) n h k = false≢true h
ordinal_set (array_of i lo hi e) n h k = false≢true h
ordinal_set (set_of b) n h k = false≢true h
ordinal_set s n h k = false≢true k

pub parts_set : (s : Shape) → IsTrue (has_parts s) → IsTrue (is_set_shape s) → ⊥
parts_set (record_of fs) h k = false≢true k
parts_set (array_of i lo hi e) h k = false≢true k
parts_set s h k = false≢true h

-- ---- all values

module _ (types : List Shape) (h : IsTable types) where
  mutual
    pub value_alike : (v w : Value) (t : ℕ) → t < length types → IsOf types v t → IsOf types w t → bytes_eq (value_words v) (value_words w) ≡ same_value v w
    value_alike (ordinal m) (ordinal n) t known is also =
        and_true (eqb (unsigned m) (unsigned n)) ∙ same_ordinals m n (ordinal_int types h t m known is) (ordinal_int types h t n known also)
    value_alike (ordinal m) (compound ws) t known is also = absurd (ordinal_parts (shape_at types t) m is also.0)
    value_alike (ordinal m) (members s) t known is also = absurd (ordinal_set (shape_at types t) m is also.0)
    value_alike (compound vs) (ordinal n) t known is also = absurd (ordinal_parts (shape_at types t) n also is.0)
    value_alike (compound vs) (compound ws) t known is also = values_alike vs ws (part_types (shape_at types t)) (parts_known types h t known) is.1 also.1
    value_alike (compound vs) (members s) t known is also = absurd (parts_set (shape_at types t) is.0 also.0)
    value_alike (members s) (ordinal n) t known is also = absurd (ordinal_set (shape_at types t) n also is.0)
    value_alike (members s) (compound ws) t known is also = absurd (parts_set (shape_at types t) also.0 is.0)
    value_alike (members s) (members r) t known is also = same_sets s r is.1 also.1

    values_alike : (vs ws : Values) (ts : List ℕ) → All (λ u. u < length types) ts → AreOf types vs ts → AreOf types ws ts →
        bytes_eq (values_words vs) (values_words ws) ≡ same_values vs ws
    values_alike no_value no_value ts known are also = refl
    values_alike no_value (value_then w ws) [] known are also = absurd also
    values_alike no_value (value_then w ws) (t ∷ ts) known are also = absurd are
    values_alike (value_then v vs) no_value [] known are also = absurd are
    values_alike (value_then v vs) no_value (t ∷ ts) known are also = absurd also
    values_alike (value_then v vs) (value_then w ws) [] known are also = absurd are
    values_alike (value_then v vs) (value_then w ws) (t ∷ ts) known are also =
        let here : t < length types = known 0 0 (omega arith) in
        bytes_eq-append (value_words v) (values_words vs) (value_words w) (values_words ws) (value_length types h v t here are.0
        ∙ sym (value_length types h w t here also.0))
        ∙ ap₂ (λ a b. a && b) (value_alike v w t here are.0 also.0) (values_alike vs ws ts (All-tail (λ u. u < length types) t ts known) are.1 also.1)

pub words_tell_values : WordsTellValues
words_tell_values types h v w t known is also = value_alike types h v w t known is also
