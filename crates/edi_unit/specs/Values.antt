-- Definition. Values, the values that belong to a type, and what the operators give.
use Rattle.std.specs.Prelude.{ℕ, ℤ, pos, negsuc, ◌-ℤ◌, int_le, int_lt, Bool, true, false, not, ◌&&◌, ◌||◌, ◌==◌, nat_lt, IsTrue, if◌then◌else◌, List, []}
use Rattle.std.specs.Prelude.{◌∷◌, map, replicate, slice_index_or, Option, Some, None, option_map}
use Rattle.std.specs.Ordering.{int_eq}
use Rattle.edi_word.specs.Integers.{int_sum, int_difference, int_product, int_quotient, int_remainder}
use Rattle.edi_word.specs.Sets.{set_has_int, with_member, set_union, set_minus, set_meet}
use Rattle.edi_word.specs.SetWords.{IsOrdinalSet}
use Rattle.edi_unit.specs.declared.expressions.Operator.{Operator}
use Rattle.edi_unit.specs.declared.expressions.Operator.TheVariants as op
use Rattle.edi_unit.specs.Types.{Shape, int, char, bool, enumeration, record_of, array_of, set_of, shape_at, is_ordinal_of, element_count}
use Rattle.edi_unit.specs.TypeTables.{part_types}
use Rattle.edi_unit.specs.Types.{is_set_shape, natural, entries}
use Rattle.edi_unit.specs.TypeTables.{has_parts}

mutual
  pub data Value : Type 0 where
    -- a value of an elementary type
    ordinal : ℤ → Value
    -- the fields of a record or the elements of an array
    compound : Values → Value
    -- the members of a set, in increasing order
    members : List ℕ → Value

  pub data Values : Type 0 where
    no_value : Values
    value_then : Value → Values → Values

abbrev pub values : List Value → Values
values [] = no_value
values (v ∷ vs) = value_then v (values vs)

-- ---- the values of a type

-- an elementary value has an ordinal of its type, a record or an array has a value of its type for each part, and a set
-- has the ordinals 0 to 127 as members, in increasing order
abbrev mutual
  pub IsOf : List Shape → Value → ℕ → Type 0
  IsOf types (ordinal n) t = IsTrue (is_ordinal_of (shape_at types t) n)
  IsOf types (compound vs) t = IsTrue (has_parts (shape_at types t)) × AreOf types vs (part_types (shape_at types t))
  IsOf types (members set) t = IsTrue (is_set_shape (shape_at types t)) × IsOrdinalSet set

  pub AreOf : List Shape → Values → List ℕ → Type 0
  AreOf types no_value [] = Unit {0}
  AreOf types no_value (t ∷ ts) = ⊥
  AreOf types (value_then v vs) [] = ⊥
  AreOf types (value_then v vs) (t ∷ ts) = IsOf types v t × AreOf types vs ts

-- the value with which a variable starts, from those of other types: the ordinal 0, the empty set, and so in every part
abbrev pub shape_zero : (ℕ → Value) → Shape → Value
shape_zero of (record_of fs) = compound (values (map of fs))
shape_zero of (array_of i lo hi e) = compound (values (replicate (element_count lo hi) (of e)))
shape_zero of (set_of b) = members []
shape_zero of int = ordinal (pos 0)
shape_zero of char = ordinal (pos 0)
shape_zero of bool = ordinal (pos 0)
shape_zero of (enumeration n) = ordinal (pos 0)

-- the value with which a variable of the type of a number starts
unfoldable pub zero_value : List Shape → ℕ → Value
zero_value types t = slice_index_or (entries shape_zero (ordinal (pos 0)) [] types) t (ordinal (pos 0))

-- ---- reading values

-- the ordinal of an elementary value; no other value has one
abbrev pub ordinal_of : Value → ℤ
ordinal_of (ordinal n) = n
ordinal_of (compound vs) = pos 0
ordinal_of (members set) = pos 0

-- the two values of `bool`: `false` is 0 and `true` is 1
abbrev pub truth : Bool → Value
truth false = ordinal (pos 0)
truth true = ordinal (pos 1)

abbrev pub is_true : Value → Bool
is_true v = int_eq (ordinal_of v) (pos 1)

abbrev pub same_members : List ℕ → List ℕ → Bool
same_members [] [] = true
same_members [] (y ∷ ys) = false
same_members (x ∷ xs) [] = false
same_members (x ∷ xs) (y ∷ ys) = x == y && same_members xs ys

-- whether two values are equal, part by part
abbrev mutual
  pub same_value : Value → Value → Bool
  same_value (ordinal m) (ordinal n) = int_eq m n
  same_value (compound vs) (compound ws) = same_values vs ws
  same_value (members s) (members t) = same_members s t
  same_value v w = false

  pub same_values : Values → Values → Bool
  same_values no_value no_value = true
  same_values no_value (value_then w ws) = false
  same_values (value_then v vs) no_value = false
  same_values (value_then v vs) (value_then w ws) = same_value v w && same_values vs ws

-- ---- operators

-- a value is a member of a set where its ordinal is
abbrev pub is_member : Value → Value → Bool
is_member v (members set) = set_has_int set (ordinal_of v)
is_member v (ordinal n) = false
is_member v (compound ws) = false

-- an operation on the ordinals of two values
abbrev pub on_ints : (ℤ → ℤ → Option ℤ) → Value → Value → Option Value
on_ints f v w = option_map ordinal (f (ordinal_of v) (ordinal_of w))

-- an operation on two integers, or on two sets
abbrev pub on_ints_or_sets : (ℤ → ℤ → Option ℤ) → (List ℕ → List ℕ → List ℕ) → Value → Value → Option Value
on_ints_or_sets f g (members s) (members t) = Some (members (g s t))
on_ints_or_sets f g (members s) (ordinal n) = on_ints f (members s) (ordinal n)
on_ints_or_sets f g (members s) (compound ws) = on_ints f (members s) (compound ws)
on_ints_or_sets f g (ordinal m) w = on_ints f (ordinal m) w
on_ints_or_sets f g (compound vs) w = on_ints f (compound vs) w

-- what an operator gives on two operands, or none where it fails: `=` and `<>` compare whole values, the orders compare
-- by ordinal, `in` asks for a member, `+`, `-` and `*` are the operations of `int`, or union, difference and
-- intersection, and `and` and `or` are those of `bool`
abbrev pub apply : Operator → Value → Value → Option Value
apply op.Equal v w = Some (truth (same_value v w))
apply op.NotEqual v w = Some (truth (not (same_value v w)))
apply op.Less v w = Some (truth (int_lt (ordinal_of v) (ordinal_of w)))
apply op.LessOrEqual v w = Some (truth (int_le (ordinal_of v) (ordinal_of w)))
apply op.Greater v w = Some (truth (int_lt (ordinal_of w) (ordinal_of v)))
apply op.GreaterOrEqual v w = Some (truth (int_le (ordinal_of w) (ordinal_of v)))
apply op.In v w = Some (truth (is_member v w))
apply op.Plus v w = on_ints_or_sets int_sum set_union v w
apply op.Minus v w = on_ints_or_sets int_difference set_minus v w
apply op.Times v w = on_ints_or_sets int_product set_meet v w
apply op.Div v w = on_ints int_quotient v w
apply op.Mod v w = on_ints int_remainder v w
apply op.And v w = Some (truth (is_true v && is_true w))
apply op.Or v w = Some (truth (is_true v || is_true w))

-- whether the left operand alone decides: `false` for `and`, `true` for `or`
abbrev pub decides : Operator → Value → Bool
decides op.And v = not (is_true v)
decides op.Or v = is_true v
decides _ v = false

-- a leading `-`, or none where it fails
abbrev pub sign : Value → Option Value
sign v = option_map ordinal (int_difference (pos 0) (ordinal_of v))

-- `not`
abbrev pub negation : Value → Value
negation v = truth (not (is_true v))

-- ---- constructors and indices

-- the value of an elementary type with the ordinal of a value, or none where the type has no such value
abbrev pub converted : Shape → Value → Option Value
converted shape v = if is_ordinal_of shape (ordinal_of v) then Some (ordinal (ordinal_of v)) else None

-- a set with the ordinal of a value as a member, or none where that is outside 0 to 127
abbrev pub with_ordinal : List ℕ → ℤ → Option (List ℕ)
with_ordinal set (pos n) = if (nat_lt n 128) then Some (with_member set n) else None
with_ordinal set (negsuc n) = None

-- which element of an array an index means, counted from 0, or none where the index is outside the bounds
abbrev pub element_at : ℤ → ℤ → Value → Option ℕ
element_at lo hi v =
    if int_le lo (ordinal_of v) && int_le (ordinal_of v) hi then Some (natural (ordinal_of v -ℤ lo)) else None
