-- Words of contracts. What the operators of each group make of their operands.
use Rattle.std.specs.Prelude.{ℕ, ℤ, Bool, not, int_lt, int_le, if◌then◌else◌, List, Option}
use Rattle.std.specs.Str.{bytes_eq}
use Rattle.edi_word.specs.Integers.{int_sum, int_difference, int_product, int_quotient, int_remainder}
use Rattle.edi_word.specs.Sets.{words_union, words_minus, words_meet}
use Rattle.edi_machine.specs.declared.arithmetic.Operator.{Operator}
use Rattle.edi_machine.specs.declared.arithmetic.Operator.TheVariants as operator
use Rattle.edi_machine.specs.declared.comparisons.Order.{Order}
use Rattle.edi_machine.specs.declared.comparisons.Order.TheVariants as order
use Rattle.edi_machine.specs.declared.sets.SetOperator.{SetOperator}
use Rattle.edi_machine.specs.declared.sets.SetOperator.TheVariants as set_operator

abbrev pub integer_by : Operator → ℤ → ℤ → Option ℤ
integer_by operator.Add x y = int_sum x y
integer_by operator.Sub x y = int_difference x y
integer_by operator.Mul x y = int_product x y
integer_by operator.Div x y = int_quotient x y
integer_by operator.Mod x y = int_remainder x y

abbrev pub stands_in : Order → ℤ → ℤ → Bool
stands_in order.Below x y = int_lt x y
stands_in order.AtMost x y = int_le x y
stands_in order.Above x y = int_lt y x
stands_in order.AtLeast x y = int_le y x

-- whether two values are as they are wanted, equal or different
abbrev pub same_as : (wanted : Bool) → List ℕ → List ℕ → Bool
same_as wanted xs ys = if wanted then bytes_eq xs ys else not (bytes_eq xs ys)

abbrev pub set_by : SetOperator → List ℕ → List ℕ → List ℕ
set_by set_operator.Union xs ys = words_union xs ys
set_by set_operator.Minus xs ys = words_minus xs ys
set_by set_operator.Meet xs ys = words_meet xs ys
