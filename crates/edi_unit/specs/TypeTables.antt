-- Words of contracts. Tables of types as a program declares them.
use Rattle.std.specs.Prelude.{◌≡◌, ℕ, ◌<◌, ◌≤◌, ◌^◌, ◌≤ℤ◌, Bool, true, false, IsTrue, List, [], ◌∷◌}
use Rattle.std.specs.Prelude.{replicate, length, take, All}
use Rattle.edi_unit.specs.Types.{Shape, array_of, element_count, greatest_size, is_elementary, record_of, set_of, shape_at, shape_size, size, standard_types}

-- the types of the parts of a value: the fields of a record, the elements of an array; no other value has parts
abbrev pub part_types : Shape → List ℕ
part_types (record_of fs) = fs
part_types (array_of i lo hi e) = replicate (element_count lo hi) e
part_types _ = []

-- records and arrays consist of parts
abbrev pub has_parts : Shape → Bool
has_parts (record_of fs) = true
has_parts (array_of i lo hi e) = true
has_parts _ = false

-- the types that a type names
abbrev pub named_types : Shape → List ℕ
named_types (record_of fs) = fs
named_types (array_of i lo hi e) = i ∷ e ∷ []
named_types (set_of b) = b ∷ []
named_types _ = []

-- those of them that have to be elementary: an array's index and a set's base
abbrev pub ordinal_types : Shape → List ℕ
ordinal_types (array_of i lo hi e) = i ∷ []
ordinal_types (set_of b) = b ∷ []
ordinal_types _ = []

-- the lower bound of an array is not above the upper one
abbrev pub HasOrderedBounds : Shape → Type 0
HasOrderedBounds (array_of i lo hi e) = lo ≤ℤ hi
HasOrderedBounds _ = Unit {0}

-- what may be declared behind the types of a table: it names known types, elementary ones where ordinals count, its
-- bounds are in order, and it takes at most 65,535 words
pub record IsDeclarable (types : List Shape) (shape : Shape) : Type 0 where
  pub known : All (λ t. t < length types) (named_types shape)
  pub elementary : All (λ t. IsTrue (is_elementary types t)) (ordinal_types shape)
  pub ordered : HasOrderedBounds shape
  pub small : shape_size (size types) shape ≤ greatest_size

-- each type of the table could be declared behind the types before it
abbrev pub AreDeclared : List Shape → Type 0
AreDeclared types = (t : ℕ) → t < length types → IsDeclarable (take t types) (shape_at types t)

-- a table of types begins with the standard ones, and its numbers are below 2 ^ 32 - 1
pub record IsTypeTable (types : List Shape) : Type 0 where
  pub three : 3 ≤ length types
  pub standard : take 3 types ≡ standard_types
  pub declared : AreDeclared types
  pub bounded : length types < 2 ^ 32
