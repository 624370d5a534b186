-- Definition. The parts of a value, by the numbers that lead to them: of a record the number of a field, of an array the number of
-- an element counted from 0.
use Rattle.std.specs.Prelude.{ℕ, zero, suc, pos, List, [], ◌∷◌}
use Rattle.edi_unit.specs.Values.{Value, ordinal, compound, members, Values, no_value, value_then}

-- what stands for a part that is not there
abbrev pub no_value_there : Value
no_value_there = ordinal (pos 0)

abbrev pub parts_of : Value → Values
parts_of (compound vs) = vs
parts_of (ordinal n) = no_value
parts_of (members set) = no_value

abbrev pub nth : Values → ℕ → Value
nth no_value n = no_value_there
nth (value_then v vs) zero = v
nth (value_then v vs) (suc n) = nth vs n

abbrev pub with_nth : Values → ℕ → Value → Values
with_nth no_value n x = no_value
with_nth (value_then v vs) zero x = value_then x vs
with_nth (value_then v vs) (suc n) x = value_then v (with_nth vs n x)

-- the part that a path leads to, and the value with another part there
abbrev pub part_at : Value → List ℕ → Value
part_at v [] = v
part_at v (n ∷ path) = part_at (nth (parts_of v) n) path

abbrev pub with_part : Value → List ℕ → Value → Value
with_part v [] x = x
with_part v (n ∷ path) x = compound (with_nth (parts_of v) n (with_part (nth (parts_of v) n) path x))
