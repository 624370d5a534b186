-- Definition. The arithmetic of `int`, whose values are the integers from -32768 to 32767.
use Rattle.std.specs.Prelude.{zero, ℤ, pos, negsuc, ◌-ℤ◌, ◌+ℤ◌, ◌*ℤ◌, Bool, ◌&&◌, Option, Some, None, int_le, int_div, if◌then◌else◌}
use Rattle.std.specs.Option.{option_map}

-- from -32768 to 32767
abbrev pub is_int : ℤ → Bool
is_int z = int_le (negsuc 32767) z && int_le z (pos 32767)

-- the integer where it is a value of `int`, and otherwise none
abbrev pub within_int : ℤ → Option ℤ
within_int z = if is_int z then Some z else None

abbrev pub int_sum : ℤ → ℤ → Option ℤ
int_sum x y = within_int (x +ℤ y)

abbrev pub int_difference : ℤ → ℤ → Option ℤ
int_difference x y = within_int (x -ℤ y)

abbrev pub int_product : ℤ → ℤ → Option ℤ
int_product x y = within_int (x *ℤ y)

-- x div y, truncated toward zero; nothing is divided by 0
abbrev pub int_quotient : ℤ → ℤ → Option ℤ
int_quotient x (pos zero) = None
int_quotient x y = within_int (int_div x y)

-- x mod y, which is x - (x div y) * y, wherever x div y is a value of `int`
abbrev pub int_remainder : ℤ → ℤ → Option ℤ
int_remainder x y = option_map (λ q. x -ℤ q *ℤ y) (int_quotient x y)
