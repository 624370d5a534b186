-- Definition. The rules on operators.
use Rattle.std.specs.Prelude.{ℕ, Bool, false, ◌&&◌, ◌||◌, ◌==◌, List, Option, Some, None}
use Rattle.edi_tree.specs.declared.expressions.Relation.{Relation}
use Rattle.edi_tree.specs.declared.expressions.Relation.TheVariants as relation
use Rattle.edi_tree.specs.declared.expressions.Addition.{Addition}
use Rattle.edi_tree.specs.declared.expressions.Addition.TheVariants as addition
use Rattle.edi_tree.specs.declared.expressions.Multiplication.{Multiplication}
use Rattle.edi_tree.specs.declared.expressions.Multiplication.TheVariants as multiplication
use Rattle.edi_tree.specs.declared.expressions.Sign.{Sign}
use Rattle.edi_tree.specs.declared.expressions.Sign.TheVariants as sign
use Rattle.edi_unit.specs.declared.expressions.Operator.{Operator}
use Rattle.edi_unit.specs.declared.expressions.Operator.TheVariants as op
use Rattle.edi_unit.specs.Types.{Shape, set_of, int_type, bool_type, shape_at, is_elementary, is_set_shape}
use Rattle.edi_unit.specs.Tree.{Expression, sign_of, chain, Link, link, Links, no_link, link_then}
use Rattle.edi_unit.specs.Need.{operator_type}
use Rattle.edi_static.specs.declared.faults.StaticKind.TheVariants as kind
use Rattle.edi_static.specs.Judged.{Judged, gives, ◌>>=◌, must}

-- an expression of the resolved program, with its type
pub record Typed : Type 0 where
  pub what : Expression
  pub of : ℕ

-- ---- operators by their symbols

abbrev pub relation_operator : Relation → Operator
relation_operator relation.Equal = op.Equal
relation_operator relation.NotEqual = op.NotEqual
relation_operator relation.Less = op.Less
relation_operator relation.AtMost = op.LessOrEqual
relation_operator relation.Greater = op.Greater
relation_operator relation.AtLeast = op.GreaterOrEqual
relation_operator relation.In = op.In

abbrev pub addition_operator : Addition → Operator
addition_operator addition.Plus = op.Plus
addition_operator addition.Minus = op.Minus
addition_operator addition.Or = op.Or

abbrev pub multiplication_operator : Multiplication → Operator
multiplication_operator multiplication.Star = op.Times
multiplication_operator multiplication.Div = op.Div
multiplication_operator multiplication.Mod = op.Mod
multiplication_operator multiplication.And = op.And

-- ---- operands

-- whether a type is that of sets of a type
abbrev pub is_set_of : Shape → ℕ → Bool
is_set_of (set_of b) t = b == t
is_set_of _ t = false

-- two operands of `int`, or of one set type
abbrev pub are_ints_or_sets : List Shape → ℕ → ℕ → Bool
are_ints_or_sets types s t = s == t && (s == int_type || is_set_shape (shape_at types s))

abbrev pub are_both : (of s t : ℕ) → Bool
are_both of s t = s == of && t == of

abbrev pub are_ordered : List Shape → ℕ → ℕ → Bool
are_ordered types s t = s == t && is_elementary types s

-- whether an operator takes operands of these types: `=` and `<>` compare two values of one type; the orders compare
-- elementary values of one type; `in` asks for an element of the base type of a set; `+`, `-` and `*` take `int` or one set
-- type, `div` and `mod` take `int`, and `and` and `or` take `bool`
abbrev pub takes : List Shape → Operator → (left right : ℕ) → Bool
takes types op.Equal s t = s == t
takes types op.NotEqual s t = s == t
takes types op.Less s t = are_ordered types s t
takes types op.LessOrEqual s t = are_ordered types s t
takes types op.Greater s t = are_ordered types s t
takes types op.GreaterOrEqual s t = are_ordered types s t
takes types op.In s t = is_set_of (shape_at types t) s
takes types op.Plus s t = are_ints_or_sets types s t
takes types op.Minus s t = are_ints_or_sets types s t
takes types op.Times s t = are_ints_or_sets types s t
takes types op.Div s t = are_both int_type s t
takes types op.Mod s t = are_both int_type s t
takes types op.And s t = are_both bool_type s t
takes types op.Or s t = are_both bool_type s t

-- ---- signs and chains

-- a sign takes `int`; a leading `+` leaves nothing in the resolved program
abbrev pub signed : Option Sign → Typed → Judged Typed
signed None v = gives v
signed (Some (sign.Plus line)) v = must (v.of == int_type) kind.Types line >>= λ _. gives v
signed (Some (sign.Minus line)) v =
    must (v.of == int_type) kind.Types line >>= λ _. gives (record { what = sign_of v.what line; of = int_type })

-- an operator with its right operand, and the type of what it gives
pub record Linked : Type 0 where
  pub what : Link
  pub of : ℕ

-- the operators of a chain with their right operands, and the type of what the last one gives
pub record Chained : Type 0 where
  pub links : Links
  pub of : ℕ

-- an operator between a left operand of a type and a right operand
abbrev pub operated : List Shape → Operator → (line : ℕ) → (left : ℕ) → Typed → Judged Linked
operated types o line left right =
    must (takes types o left right.of) kind.Types line >>= λ _.
    gives (record { what = link o right.what line; of = operator_type o left })

-- a part without an operator is no chain
abbrev pub chain_of : Expression → Links → Expression
chain_of e no_link = e
chain_of e (link_then l ls) = chain e (link_then l ls)

abbrev pub with_links : Typed → Chained → Typed
with_links first more = record { what = chain_of first.what more.links; of = more.of }
