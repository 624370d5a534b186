-- Definition. Types by number. A table lists what each type is; types 0, 1 and 2 are `int`, `char` and `bool`, and the declared
-- types follow. A type names earlier types by their numbers.
use Rattle.std.specs.Prelude.{ℕ, ◌*◌, ℤ, pos, negsuc, ◌+ℤ◌, ◌-ℤ◌, int_le, Bool, true, false, ◌&&◌, List, [], ◌∷◌, ◌++◌}
use Rattle.std.specs.Prelude.{sum_by, Option, slice_get, slice_index_or}

-- what a type is
pub data Shape : Type 0 where
  int : Shape
  char : Shape
  bool : Shape
  -- an enumeration with so many constants
  enumeration : (constants : ℕ) → Shape
  -- a record with fields of these types
  record_of : (fields : List ℕ) → Shape
  -- an array with an element for each ordinal of the index type from lo to hi
  array_of : (index : ℕ) → (lo hi : ℤ) → (element : ℕ) → Shape
  -- a set of values of an elementary type
  set_of : (base : ℕ) → Shape

-- the numbers of the standard types
abbrev pub int_type : ℕ
int_type = 0

abbrev pub char_type : ℕ
char_type = 1

abbrev pub bool_type : ℕ
bool_type = 2

-- the table without declared types
abbrev pub standard_types : List Shape
standard_types = int ∷ char ∷ bool ∷ []

-- what the type of a number is; a number that is not in the table counts as `int`
abbrev pub shape_at : List Shape → ℕ → Shape
shape_at types t = slice_index_or types t int

-- ---- ordinals

-- `int`, `char`, `bool` and the enumerations are elementary
abbrev pub is_elementary_shape : Shape → Bool
is_elementary_shape int = true
is_elementary_shape char = true
is_elementary_shape bool = true
is_elementary_shape (enumeration n) = true
is_elementary_shape (record_of fs) = false
is_elementary_shape (array_of i lo hi e) = false
is_elementary_shape (set_of b) = false

abbrev pub is_elementary : List Shape → ℕ → Bool
is_elementary types t = is_elementary_shape (shape_at types t)

-- whether this is the ordinal of a value: -32768 to 32767 for `int`, 0 to 127 for `char`, 0 and 1 for `bool`, and from 0
-- as many as there are constants for an enumeration
abbrev pub is_ordinal_of : Shape → ℤ → Bool
is_ordinal_of int n = int_le (negsuc 32767) n && int_le n (pos 32767)
is_ordinal_of char n = int_le (pos 0) n && int_le n (pos 127)
is_ordinal_of bool n = int_le (pos 0) n && int_le n (pos 1)
is_ordinal_of (enumeration k) n = int_le (pos 0) n && int_le (n +ℤ pos 1) (pos k)
is_ordinal_of (record_of fs) n = false
is_ordinal_of (array_of i lo hi e) n = false
is_ordinal_of (set_of b) n = false

-- ---- parts

-- the integer where it is not negative, and otherwise 0
abbrev pub natural : ℤ → ℕ
natural (pos n) = n
natural (negsuc n) = 0

-- the number of ordinals from lo to hi
abbrev pub element_count : ℤ → ℤ → ℕ
element_count lo hi = natural ((hi -ℤ lo) +ℤ pos 1)

-- the types of a record's fields; no other type has fields
abbrev pub fields_of : Shape → List ℕ
fields_of (record_of fs) = fs
fields_of _ = []

-- the type of field i of type t, if t is a record with such a field
abbrev pub field_type : List Shape → ℕ → ℕ → Option ℕ
field_type types t i = slice_get (fields_of (shape_at types t)) i

abbrev pub is_set_shape : Shape → Bool
is_set_shape (set_of b) = true
is_set_shape _ = false

-- ---- sizes

-- the words of a value, from the sizes of other types: a set takes 8 words, a record the sum over its fields, an array
-- the number of its elements times the element's size, and an elementary value one word
abbrev pub shape_size : (ℕ → ℕ) → Shape → ℕ
shape_size of (record_of fs) = sum_by of fs
shape_size of (array_of i lo hi e) = element_count lo hi * of e
shape_size of (set_of b) = 8
shape_size of int = 1
shape_size of char = 1
shape_size of bool = 1
shape_size of (enumeration n) = 1

-- a list with one entry for each type, in their order, after those that are known: the rule makes the entry of a type
-- from the entries of the types before it, a number without an entry counting as the default
abbrev pub entries : {A : Type 0} → ((ℕ → A) → Shape → A) → A → List A → List Shape → List A
entries rule default known [] = known
entries rule default known (shape ∷ types) =
    entries rule default (known ++ rule (λ t. slice_index_or known t default) shape ∷ []) types

-- the size in words of each type
abbrev pub type_sizes : List Shape → List ℕ
type_sizes types = entries shape_size 0 [] types

-- the size in words of the type of a number; a number that is not in the table has size 0
unfoldable pub size : List Shape → ℕ → ℕ
size types t = slice_index_or (type_sizes types) t 0

-- ---- well-formed tables

-- the greatest size that a type may have
abbrev pub greatest_size : ℕ
greatest_size = 65535
