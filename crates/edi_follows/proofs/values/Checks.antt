-- Conversions, members of sets and indices on words.
use Rattle.std.proofs.Common.{◌≡◌, ℕ, suc, ◌-◌, ◌<◌, ◌≤◌, ◌^◌, ℤ, pos, negsuc, ◌-ℤ◌, ◌+ℤ◌, Bool, true, false, ◌&&◌, cond, ltb, inl, inr, List, length}
use Rattle.std.proofs.Common.{IsTrue, refl, sym, ap, subst, ◌∙◌, arith}
use Rattle.std.specs.Prelude.{nat_lt, nat_abs, int_le, if◌then◌else◌, Some, None, IfSome}
use Rattle.std.specs.Option.{option_map}
use Rattle.std.proofs.lemmas.Bool.{false≢true, cases_lt, lt-ltb, le-ltb}
use Rattle.std.proofs.lemmas.Bool.Decides.{Decides-ltb}
use Rattle.std.proofs.lemmas.Int.{ints}
use Rattle.edi_word.specs.Words.{signed}
use Rattle.edi_word.specs.Sets.{words_with, with_member, set_has}
use Rattle.edi_word.specs.SetWords.{IsOrdinalSet, words_of_members}
use Rattle.edi_word.specs.SetViews.{AreSetWords-words_where, words_of_members-members_of}
use Rattle.edi_word.proofs.SetLaws.{members_of-words_of_members, IsOrdinalSet-members_where, with_agrees}
use Rattle.edi_unit.specs.Types.{Shape, int, char, bool, enumeration, record_of, array_of, set_of, shape_at, is_elementary, is_elementary_shape}
use Rattle.edi_unit.specs.Types.{is_ordinal_of, natural, element_count, size}
use Rattle.edi_unit.specs.Values.{Value, ordinal, IsOf, ordinal_of, with_ordinal}
use Rattle.edi_unit.specs.Fits.{ShapeFits}
use Rattle.edi_follows.specs.values.Words.{IsTable}
use Rattle.edi_follows.proofs.values.Lengths.{size_of_ordinal}
use Rattle.edi_follows.proofs.values.Small.{ordinal_int}
use Rattle.edi_follows.specs.values.Operated.{word_of, passes, joined, elements_before, ConversionFollows, MemberFollows, IndexFollows}
use Rattle.edi_follows.proofs.values.Alone.{elementary_is_alone, elementary_ordinal}

-- ---- conversions

-- the constants of an enumeration are counted from 0
last_constant : (n : ℤ) (k : ℕ) → 0 < k → int_le (n +ℤ pos 1) (pos k) ≡ int_le n (pos (k - 1))
last_constant n k some = grind (arith, ints)

-- the check of a word tests its ordinal
test_is : (types : List Shape) (s : Shape) (v : Value) → ShapeFits types s → IsTrue (is_elementary_shape s) → signed (word_of v) ≡ ordinal_of v →
    is_ordinal_of int (ordinal_of v) ≡ true →
    is_ordinal_of s (ordinal_of v) ≡ passes s (word_of v)
test_is types int v fits elementary same is = is
test_is types char v fits elementary same is = ap (λ n. int_le (pos 0) n && int_le n (pos 127)) (sym same)
test_is types bool v fits elementary same is = ap (λ n. int_le (pos 0) n && int_le n (pos 1)) (sym same)
test_is types (enumeration k) v fits elementary same is =
    ap (λ b. int_le (pos 0) (ordinal_of v) && b) (last_constant (ordinal_of v) k fits.0) ∙ ap (λ n. int_le (pos 0) n && int_le n (pos (k - 1))) (sym same)
test_is types (record_of fs) v fits elementary same is = absurd (false≢true elementary)
test_is types (array_of i lo hi e) v fits elementary same is = absurd (false≢true elementary)
test_is types (set_of b) v fits elementary same is = absurd (false≢true elementary)

elementary_size : (types : List Shape) → IsTable types → (t : ℕ) → t < length types → (s : Shape) → shape_at types t ≡ s →
    IsTrue (is_elementary_shape s) → ShapeFits types s → size types t ≡ 1
elementary_size types h t known int e elementary fits = size_of_ordinal types h t (pos 0) known (ap (λ s. is_ordinal_of s (pos 0)) e)
elementary_size types h t known char e elementary fits = size_of_ordinal types h t (pos 0) known (ap (λ s. is_ordinal_of s (pos 0)) e)
elementary_size types h t known bool e elementary fits = size_of_ordinal types h t (pos 0) known (ap (λ s. is_ordinal_of s (pos 0)) e)
elementary_size types h t known (enumeration k) e elementary fits =
    size_of_ordinal types h t (pos 0) known (ap (λ s. is_ordinal_of s (pos 0)) e ∙ first k fits.0)
  where
    first : (k : ℕ) → 0 < k → is_ordinal_of (enumeration k) (pos 0) ≡ true
    first k some = grind (arith, ints)
elementary_size types h t known (record_of fs) e elementary fits = absurd (false≢true elementary)
elementary_size types h t known (array_of i lo hi x) e elementary fits = absurd (false≢true elementary)
elementary_size types h t known (set_of b) e elementary fits = absurd (false≢true elementary)

-- an elementary value takes one word
pub one_word_each : (types : List Shape) → IsTable types → (t : ℕ) → t < length types → IsTrue (is_elementary types t) → size types t ≡ 1
one_word_each types h t known elementary = elementary_size types h t known (shape_at types t) refl elementary (h.shapes t known)

of_ordinal : (types : List Shape) (v : Value) (t : ℕ) → ordinal (ordinal_of v) ≡ v → IsTrue (is_ordinal_of (shape_at types t) (ordinal_of v)) → IsOf types v t
of_ordinal types v t same is = subst (λ x. IsOf types x t) same is

pub conversion_follows : ConversionFollows
conversion_follows types h v s t known also from to is =
    let alone = elementary_is_alone types h v s known from is in
    let integer = ordinal_int types h s (ordinal_of v) known (elementary_ordinal types v s from is) in
    let test = test_is types (shape_at types t) v (h.shapes t also) to alone.integer integer in (
      ap (λ b. if b then Some (ordinal (ordinal_of v)) else None) test ∙ ap (λ x. if passes (shape_at types t) (word_of v) then Some x else None) alone.same,
      λ so. of_ordinal types v t alone.same (test ∙ so),
      one_word_each types h s known from ∙ sym (one_word_each types h t also to),
    )

-- ---- members

joins : (set : List ℕ) (n : ℕ) → IsOrdinalSet set → n < 128 → words_with (words_of_members set) n ≡ words_of_members (with_member set n)
joins set n ordinals less =
    let both = with_agrees (words_of_members set) n (AreSetWords-words_where (set_has set)) less in
    sym (words_of_members-members_of (words_with (words_of_members set) n) both.0)
    ∙ ap words_of_members (both.1 ∙ ap (λ xs. with_member xs n) (members_of-words_of_members set ordinals))

-- what joins a set by a word, and by the integer that the word is
record Joins (set : List ℕ) (word : ℕ) (z : ℤ) : Type 0 where
  words : joined (words_of_members set) word ≡ option_map words_of_members (with_ordinal set z)
  ordinals : IfSome (with_ordinal set z) IsOrdinalSet

joins_so : (set : List ℕ) (word : ℕ) (b : Bool) → (b ≡ true → words_with (words_of_members set) word ≡ words_of_members (with_member set word)) →
    ((if b then Some (words_with (words_of_members set) word) else None) ≡ option_map words_of_members (if b then Some (with_member set word) else None))
    × IfSome (if b then Some (with_member set word) else None) IsOrdinalSet
joins_so set word true same = (ap Some (same refl), IsOrdinalSet-members_where _)
joins_so set word false same = (refl, tt)

joins_natural : (set : List ℕ) (word : ℕ) → IsOrdinalSet set → Joins set word (pos word)
joins_natural set word ordinals =
    let so = joins_so set word (nat_lt word 128) (λ e. joins set word ordinals ((Decides-ltb word 128).0 e)) in
    record { words = so.0; ordinals = so.1 }

joins_never : (set : List ℕ) (word k : ℕ) → 128 ≤ word → Joins set word (negsuc k)
joins_never set word k past = record {
  words = ap (λ b. if b then Some (words_with (words_of_members set) word) else None) (le-ltb word 128 past);
  ordinals = tt;
}

-- by the sign of the integer
joins_signed : (set : List ℕ) (word : ℕ) (b : Bool) → IsOrdinalSet set → (b ≡ false → 128 ≤ word) →
    Joins set word (cond b (pos word) (negsuc (2 ^ 16 - suc word)))
joins_signed set word true ordinals past = joins_natural set word ordinals
joins_signed set word false ordinals past = joins_never set word (2 ^ 16 - suc word) (past refl)

not_below : (word : ℕ) → ltb word (2 ^ 15) ≡ false → 128 ≤ word
not_below word e = elim (cases_lt word 128) [
  | inl less ↦ let small : word < 2 ^ 15 = omega (arith, less) in absurd (false≢true (sym e ∙ lt-ltb word (2 ^ 15) small))
  | inr past ↦ past
]

member_at : (set : List ℕ) (word : ℕ) (z : ℤ) → IsOrdinalSet set → signed word ≡ z → Joins set word z
member_at set word z ordinals same = subst (λ z. Joins set word z) same (joins_signed set word (ltb word (2 ^ 15)) ordinals (not_below word))

pub member_follows : MemberFollows
member_follows types h v t set known elementary is ordinals =
    let alone = elementary_is_alone types h v t known elementary is in
    let so = member_at set (word_of v) (ordinal_of v) ordinals alone.integer in
    (so.words, so.ordinals)

-- ---- indices

counted : (b : Bool) (m n : ℕ) → (b ≡ true → m ≡ n) → (if b then Some m else None) ≡ (if b then Some n else None)
counted true m n same = ap Some (same refl)
counted false m n same = refl

place : (lo hi z : ℤ) → (int_le lo z && int_le z hi) ≡ true → natural (z -ℤ lo) ≡ nat_abs (z -ℤ lo)
place lo hi z is = grind (arith, ints)

place_within : (lo hi z : ℤ) → (int_le lo z && int_le z hi) ≡ true → natural (z -ℤ lo) < element_count lo hi
place_within lo hi z is = grind (arith, ints)

some_within : (b : Bool) (m n : ℕ) → (b ≡ true → m < n) → IfSome (if b then Some m else None) (λ k. k < n)
some_within true m n less = less refl
some_within false m n less = tt

pub index_follows : IndexFollows
index_follows types h v t lo hi known elementary is =
    let alone = elementary_is_alone types h v t known elementary is in
    let z : ℤ = ordinal_of v in (
      counted (int_le lo z && int_le z hi) (natural (z -ℤ lo)) (nat_abs (z -ℤ lo)) (place lo hi z)
          ∙ ap (elements_before lo hi) (sym alone.integer),
      some_within (int_le lo z && int_le z hi) (natural (z -ℤ lo)) (element_count lo hi) (place_within lo hi z),
    )
