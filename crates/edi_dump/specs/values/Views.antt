-- Words of contracts. The plain data for which the code's values stand.
use Rattle.std.specs.Prelude.{ℕ, List, map}
use Rattle.std.specs.Global.{Vec}

-- the names of the constants of each type
abbrev pub constants_of : List (Vec (List ℕ)) → List (List (List ℕ))
constants_of constants = map (λ names. names.items) constants
