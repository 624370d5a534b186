-- Words of contracts. What the instructions for operators make of the words of their operands, and that it is what the operators make of the values.
use Rattle.std.specs.Prelude.{◌≡◌, ℕ, ◌-◌, ◌<◌, ℤ, pos, ◌-ℤ◌, nat_abs, nat_eq, nat_lt, int_lt, int_le, Bool, true, false, not, ◌&&◌, if◌then◌else◌, IsTrue}
use Rattle.std.specs.Prelude.{IfSome, List, [], ◌∷◌, length, slice_index, Option, Some, None}
use Rattle.std.specs.Option.{option_map}
use Rattle.std.specs.Str.{bytes_eq}
use Rattle.edi_word.specs.Words.{signed, word_add, word_sub, word_mul, word_div, word_modulo}
use Rattle.edi_word.specs.Sets.{word_has, words_with, words_union, words_minus, words_meet}
use Rattle.edi_word.specs.SetWords.{IsOrdinalSet, words_of_members}
use Rattle.edi_unit.specs.declared.expressions.Operator.{Operator}
use Rattle.edi_unit.specs.declared.expressions.Operator.TheVariants as op
use Rattle.edi_unit.specs.Types.{Shape, char, bool, enumeration, shape_at, int_type, bool_type, is_elementary, is_set_shape, element_count, size}
use Rattle.edi_unit.specs.Values.{Value, ordinal, members, IsOf, ordinal_of, is_true, truth, apply, decides, sign, negation, converted, with_ordinal}
use Rattle.edi_unit.specs.Values.{element_at}
use Rattle.edi_unit.specs.Need.{operator_type}
use Rattle.edi_unit.specs.Fits.{OperatorFits}
use Rattle.edi_target.specs.Op.{word_of_integer}
use Rattle.edi_target.specs.Effect as effect
use Rattle.edi_follows.specs.values.Words.{value_words, IsTable}

-- ---- elementary values

-- the word of an elementary value
abbrev pub word_of : Value → ℕ
word_of v = word_of_integer (ordinal_of v)

-- an elementary value is that word alone, which as an integer is its ordinal
pub record IsAlone (types : List Shape) (v : Value) (t : ℕ) : Type 0 where
  pub words : value_words v ≡ word_of v ∷ []
  pub size_is : size types t ≡ 1
  pub integer : signed (word_of v) ≡ ordinal_of v
  pub same : ordinal (ordinal_of v) ≡ v

abbrev pub ElementaryIsAlone : Type 0
ElementaryIsAlone =
    (types : List Shape) → IsTable types → (v : Value) (t : ℕ) → t < length types → IsTrue (is_elementary types t) → IsOf types v t →
    IsAlone types v t

-- a value of a set type is its members' words
abbrev pub SetIsMembers : Type 0
SetIsMembers =
    (types : List Shape) → IsTable types → (v : Value) (t : ℕ) → t < length types → IsTrue (is_set_shape (shape_at types t)) → IsOf types v t →
    (set : List ℕ) × (v ≡ members set) × IsOrdinalSet set × (value_words v ≡ words_of_members set) × (size types t ≡ 8)

-- the word of a truth value, and that it is one
abbrev pub TruthIsWord : Type 0
TruthIsWord =
    (types : List Shape) → IsTable types → (b : Bool) →
    (value_words (truth b) ≡ effect.truth b ∷ []) × (bool_type < length types) × IsOf types (truth b) bool_type

-- a truth value is 0 exactly where it is false: what FALSE, AND, OR and NOT test
abbrev pub TruthIsTested : Type 0
TruthIsTested =
    (types : List Shape) → IsTable types → (v : Value) → IsOf types v bool_type →
    (nat_eq (word_of v) 0 ≡ not (is_true v)) × (v ≡ truth (is_true v))

-- ---- operators

-- the first of words
abbrev pub first_word : List ℕ → ℕ
first_word words = slice_index words 0

-- one word in a row
abbrev pub one_word : Option ℕ → Option (List ℕ)
one_word = option_map (λ x. x ∷ [])

-- a truth value in a row
abbrev pub truth_word : Bool → Option (List ℕ)
truth_word b = Some (effect.truth b ∷ [])

-- two sets give the words of a set, or two integers a word; the left operand is of this type
abbrev pub on_either : List Shape → ℕ → (List ℕ → List ℕ → List ℕ) → (ℕ → ℕ → Option ℕ) → List ℕ → List ℕ → Option (List ℕ)
on_either types t sets ints xs ys =
    if is_set_shape (shape_at types t) then Some (sets xs ys) else one_word (ints (first_word xs) (first_word ys))

-- what the instruction for an operator, the left operand of this type, makes of the words of both operands; none where the
-- program fails. Behind a left operand that does not decide `and` and `or` leave the right one as it is
abbrev pub operated : List Shape → ℕ → Operator → List ℕ → List ℕ → Option (List ℕ)
operated types t op.Equal xs ys = truth_word (bytes_eq xs ys)
operated types t op.NotEqual xs ys = truth_word (not (bytes_eq xs ys))
operated types t op.Less xs ys = truth_word (int_lt (signed (first_word xs)) (signed (first_word ys)))
operated types t op.LessOrEqual xs ys = truth_word (int_le (signed (first_word xs)) (signed (first_word ys)))
operated types t op.Greater xs ys = truth_word (int_lt (signed (first_word ys)) (signed (first_word xs)))
operated types t op.GreaterOrEqual xs ys = truth_word (int_le (signed (first_word ys)) (signed (first_word xs)))
operated types t op.In xs ys = truth_word (nat_lt (first_word xs) 128 && word_has ys (first_word xs))
operated types t op.Plus xs ys = on_either types t words_union word_add xs ys
operated types t op.Minus xs ys = on_either types t words_minus word_sub xs ys
operated types t op.Times xs ys = on_either types t words_meet word_mul xs ys
operated types t op.Div xs ys = one_word (word_div (first_word xs) (first_word ys))
operated types t op.Mod xs ys = one_word (word_modulo (first_word xs) (first_word ys))
operated types t op.And xs ys = Some ys
operated types t op.Or xs ys = Some ys

-- on the words of two values it gives the words of what the operator gives on the values, and fails where that fails; what it gives
-- is of the operator's type
pub record Follows (types : List Shape) (s : ℕ) (o : Operator) (v w : Value) : Type 0 where
  pub words : operated types s o (value_words v) (value_words w) ≡ option_map value_words (apply o v w)
  pub typed : IfSome (apply o v w) (λ x. IsOf types x (operator_type o s))
  pub known : operator_type o s < length types

abbrev pub OperatorsFollow : Type 0
OperatorsFollow =
    (types : List Shape) → IsTable types → (s t : ℕ) (o : Operator) (v w : Value) → s < length types → t < length types →
    OperatorFits types o s t → IsOf types v s → IsOf types w t → decides o v ≡ false → Follows types s o v w

-- where the left operand decides, it is the result
abbrev pub DecidedIsResult : Type 0
DecidedIsResult =
    (types : List Shape) → IsTable types → (s t : ℕ) (o : Operator) (v w : Value) → OperatorFits types o s t → IsOf types v s → decides o v ≡ true →
    (s ≡ bool_type) × (operator_type o s ≡ bool_type) × (apply o v w ≡ Some v)

-- a leading `-`
abbrev pub SignFollows : Type 0
SignFollows =
    (types : List Shape) → IsTable types → (v : Value) → IsOf types v int_type →
    (word_sub 0 (word_of v) ≡ option_map word_of (sign v))
    × IfSome (sign v) (λ x. IsOf types x int_type × (value_words x ≡ word_of x ∷ []))

-- `not`
abbrev pub NegationFollows : Type 0
NegationFollows =
    (types : List Shape) → IsTable types → (v : Value) → IsOf types v bool_type →
    (value_words (negation v) ≡ effect.truth (nat_eq (word_of v) 0) ∷ []) × IsOf types (negation v) bool_type

-- ---- conversions, sets and indices

-- whether a word passes the check of a conversion to an elementary type
abbrev pub passes : Shape → ℕ → Bool
passes char word = int_le (pos 0) (signed word) && int_le (signed word) (pos 127)
passes bool word = int_le (pos 0) (signed word) && int_le (signed word) (pos 1)
passes (enumeration n) word = int_le (pos 0) (signed word) && int_le (signed word) (pos (n - 1))
passes _ word = true

-- the word of a value that is converted stays, where it passes; and where not, there is no such value
abbrev pub ConversionFollows : Type 0
ConversionFollows =
    (types : List Shape) → IsTable types → (v : Value) (s t : ℕ) → s < length types → t < length types →
    IsTrue (is_elementary types s) → IsTrue (is_elementary types t) → IsOf types v s →
    (converted (shape_at types t) v ≡ (if passes (shape_at types t) (word_of v) then Some v else None))
    × (passes (shape_at types t) (word_of v) ≡ true → IsOf types v t)
    × (size types s ≡ size types t)

-- the words of a set with a word as a member, which has to be 0 to 127
abbrev pub joined : List ℕ → ℕ → Option (List ℕ)
joined set word = if nat_lt word 128 then Some (words_with set word) else None

-- a member joins the words of a set as it joins the set
abbrev pub MemberFollows : Type 0
MemberFollows =
    (types : List Shape) → IsTable types → (v : Value) (t : ℕ) (set : List ℕ) → t < length types → IsTrue (is_elementary types t) → IsOf types v t →
    IsOrdinalSet set →
    (joined (words_of_members set) (word_of v) ≡ option_map words_of_members (with_ordinal set (ordinal_of v)))
    × IfSome (with_ordinal set (ordinal_of v)) IsOrdinalSet

-- how many elements stand before that at an index, which has to be within the bounds
abbrev pub elements_before : ℤ → ℤ → ℤ → Option ℕ
elements_before low high index = if int_le low index && int_le index high then Some (nat_abs (index -ℤ low)) else None

-- an index is within the bounds where the instruction says so, and counts as many elements from the first
abbrev pub IndexFollows : Type 0
IndexFollows =
    (types : List Shape) → IsTable types → (v : Value) (t : ℕ) (lo hi : ℤ) → t < length types → IsTrue (is_elementary types t) → IsOf types v t →
    (element_at lo hi v ≡ elements_before lo hi (signed (word_of v)))
    × IfSome (element_at lo hi v) (λ n. n < element_count lo hi)
