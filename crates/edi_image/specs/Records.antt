-- Definition. What an entry says of a file.
use Rattle.std.specs.Prelude.{ℕ, Bool, List, [], ◌∷◌, Option, Some, None}
use Rattle.edi_calls.specs.declared.kinds.FileKind.{FileKind}

-- its title, without blanks; its map blocks in their order; the number of its bytes
pub record FileRecord : Type 0 where
  pub title : List ℕ
  pub kind : FileKind
  pub protected : Bool
  pub maps : List ℕ
  pub length : ℕ

-- a first map, and a second where there is one
abbrev pub maps_of : ℕ → Option ℕ → List ℕ
maps_of first None = first ∷ []
maps_of first (Some second) = first ∷ second ∷ []
