-- Definition. The choices that the kernel takes, each a number 0 to 255, where several processes may go on.
use Rattle.std.specs.Prelude.{ℕ, zero, suc, ◌+◌, ◌-◌, ◌*◌, ◌/◌, ◌%◌, List, [], ◌∷◌, ◌++◌, slice_index}

-- choices that are listed, or choices without end that a seed generates
pub data Choices : Type 0 where
  listed : List ℕ → Choices
  seeded : ℕ → Choices

-- the number after so many steps of the generator from a seed
abbrev pub generated : ℕ → ℕ → ℕ
generated seed zero = seed
generated seed (suc i) = (25173 * generated seed i + 13849) % 65536

-- the i-th choice, counted from 1; 0 after the end of a list
abbrev pub choice : Choices → ℕ → ℕ
choice (listed values) i = slice_index values (i - 1)
choice (seeded seed) i = generated seed i / 256

-- the first n choices, zeros after the end of a list included
abbrev pub first_choices : Choices → ℕ → List ℕ
first_choices choices zero = []
first_choices choices (suc n) = first_choices choices n ++ choice choices (suc n) ∷ []
