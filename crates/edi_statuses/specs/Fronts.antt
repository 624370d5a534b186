-- Definition. A first part of bytes.
use Rattle.std.specs.Prelude.{◌≡◌, ℕ, List, ◌++◌}

-- these bytes begin those
abbrev pub IsFront : List ℕ → List ℕ → Type 0
IsFront front all = (more : List ℕ) × (all ≡ front ++ more)
