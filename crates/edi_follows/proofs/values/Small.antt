-- Each word of a value is a number below 65,536.
use Rattle.std.proofs.Common.{◌≡◌, ℕ, ◌^◌, ◌<◌, ℤ, pos, negsuc, true, List, [], ◌∷◌, length, IsTrue, arith}
use Rattle.std.specs.List.{All}
use Rattle.std.proofs.lemmas.Int.{ints}
use Rattle.std.proofs.lemmas.List.Elements.{All-nil, All-cons, All-append, All-tail}
use Rattle.edi_store.specs.Copied.{IsWord}
use Rattle.edi_word.specs.Integers.{is_int}
use Rattle.edi_word.specs.Words.{unsigned}
use Rattle.edi_word.specs.Sets.{set_has}
use Rattle.edi_word.specs.SetViews.{AreSetWords-words_where}
use Rattle.edi_word.proofs.IntLaws.{fits_from_is_int, unsigned-lt}
use Rattle.edi_unit.specs.Types.{Shape, shape_at, is_ordinal_of}
use Rattle.edi_unit.specs.TypeTables.{part_types}
use Rattle.edi_unit.specs.Values.{Value, ordinal, compound, members, Values, no_value, value_then, IsOf, AreOf}
use Rattle.edi_target.specs.Op.{is_integer}
use Rattle.edi_scheme.proofs.Known.{ordinal_integer}
use Rattle.edi_follows.specs.values.Words.{value_words, values_words, IsTable, ValuesAreWords}
use Rattle.edi_follows.proofs.values.Lengths.{parts_known}

int_of_integer : (n : ℤ) → is_integer n ≡ true → IsTrue (is_int n)
int_of_integer (pos n) h = grind (arith, ints, h)
int_of_integer (negsuc n) h = grind (arith, ints, h)

-- the ordinal of a value is one of `int`
pub ordinal_int : (types : List Shape) → IsTable types → (t : ℕ) (n : ℤ) → t < length types → IsTrue (is_ordinal_of (shape_at types t) n) → IsTrue (is_int n)
ordinal_int types h t n known is = int_of_integer n (ordinal_integer types (shape_at types t) n (h.shapes t known) is)

pub word_small : (n : ℤ) → IsTrue (is_int n) → unsigned n < 2 ^ 16
word_small n is = unsigned-lt n (fits_from_is_int n is)

module _ (types : List Shape) (h : IsTable types) where
  mutual
    pub value_small : (v : Value) (t : ℕ) → t < length types → IsOf types v t → All IsWord (value_words v)
    value_small (ordinal n) t known is = All-cons IsWord (unsigned n) [] (word_small n (ordinal_int types h t n known is)) (All-nil IsWord)
    value_small (compound vs) t known is = values_small vs (part_types (shape_at types t)) (parts_known types h t known) is.1
    value_small (members set) t known is = (AreSetWords-words_where (set_has set)).small

    pub values_small : (vs : Values) (ts : List ℕ) → All (λ u. u < length types) ts → AreOf types vs ts → All IsWord (values_words vs)
    values_small no_value [] known are = All-nil IsWord
    values_small no_value (t ∷ ts) known are = absurd are
    values_small (value_then v vs) [] known are = absurd are
    values_small (value_then v vs) (t ∷ ts) known are =
        All-append IsWord (value_words v) (values_words vs) (value_small v t (known 0 0 (omega arith)) are.0)
        (values_small vs ts (All-tail (λ u. u < length types) t ts known) are.1)

pub values_are_words : ValuesAreWords
values_are_words types h v t known is = value_small types h v t known is
