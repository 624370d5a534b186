-- Words of contracts. The words of values, and where the parts of a value stand in them.
use Rattle.std.specs.Prelude.{◌≡◌, ℕ, ◌+◌, ◌<◌, ◌≤◌, List, [], ◌∷◌, ◌++◌, length, take, replicate, sum_by, slice_index_or}
use Rattle.std.specs.List.{All}
use Rattle.std.specs.Str.{bytes_eq}
use Rattle.edi_store.specs.Memory.{words_at, written}
use Rattle.edi_store.specs.Copied.{IsWord}
use Rattle.edi_word.specs.SetWords.{words_of_members}
use Rattle.edi_unit.specs.Types.{Shape, shape_at, int_type, size}
use Rattle.edi_unit.specs.TypeTables.{part_types, IsTypeTable}
use Rattle.edi_unit.specs.Values.{Value, ordinal, compound, members, Values, no_value, value_then, IsOf, zero_value, same_value}
use Rattle.edi_unit.specs.Fits.{ShapesFit}
use Rattle.edi_target.specs.Op.{word_of_integer}
use Rattle.edi_scheme.specs.Laws.{HaveParts}
use Rattle.edi_meaning.specs.Parts.{part_at, with_part}

-- an elementary value takes one word, a record or an array the words of its parts, and a set eight
abbrev mutual
  pub value_words : Value → List ℕ
  value_words (ordinal n) = word_of_integer n ∷ []
  value_words (compound vs) = values_words vs
  value_words (members set) = words_of_members set

  pub values_words : Values → List ℕ
  values_words no_value = []
  values_words (value_then v vs) = value_words v ++ values_words vs

-- ---- parts

-- the type of part n of a value of this type, and the words of the parts before it
abbrev pub nth_type : List Shape → ℕ → ℕ → ℕ
nth_type types t n = slice_index_or (part_types (shape_at types t)) n int_type

abbrev pub nth_offset : List Shape → ℕ → ℕ → ℕ
nth_offset types t n = sum_by (size types) (take n (part_types (shape_at types t)))

-- the same of the part to which the numbers of parts lead
abbrev pub path_type : List Shape → ℕ → List ℕ → ℕ
path_type types t [] = t
path_type types t (n ∷ path) = path_type types (nth_type types t n) path

abbrev pub path_offset : List Shape → ℕ → List ℕ → ℕ
path_offset types t [] = 0
path_offset types t (n ∷ path) = nth_offset types t n + path_offset types (nth_type types t n) path

-- each number is that of a part
abbrev pub IsPath : List Shape → ℕ → List ℕ → Type 0
IsPath types t [] = Unit {0}
IsPath types t (n ∷ path) = (n < length (part_types (shape_at types t))) × IsPath types (nth_type types t n) path

-- the words of a part stand among those of the value, and those of any other value of its type, put in its place, stand there
-- too, between the same words
pub record Splits (types : List Shape) (v : Value) (t : ℕ) (path : List ℕ) : Type 0 where
  pub before : List ℕ
  pub after : List ℕ
  pub long : length before ≡ path_offset types t path
  pub here : value_words v ≡ before ++ (value_words (part_at v path) ++ after)
  pub there : (x : Value) → IsOf types x (path_type types t path) → value_words (with_part v path x) ≡ before ++ (value_words x ++ after)
  pub part : IsOf types (part_at v path) (path_type types t path)
  pub whole : (x : Value) → IsOf types x (path_type types t path) → IsOf types (with_part v path x) t

-- ---- what is true of them

pub record IsTable (types : List Shape) : Type 0 where
  pub table : IsTypeTable types
  pub shapes : ShapesFit types
  pub parts : HaveParts types

abbrev pub ValuesAreLong : Type 0
ValuesAreLong = (types : List Shape) → IsTable types → (v : Value) (t : ℕ) → t < length types → IsOf types v t → length (value_words v) ≡ size types t

abbrev pub ValuesAreWords : Type 0
ValuesAreWords = (types : List Shape) → IsTable types → (v : Value) (t : ℕ) → t < length types → IsOf types v t → All IsWord (value_words v)

-- values of one type are told apart by their words
abbrev pub WordsTellValues : Type 0
WordsTellValues =
    (types : List Shape) → IsTable types → (v w : Value) (t : ℕ) → t < length types → IsOf types v t → IsOf types w t →
    bytes_eq (value_words v) (value_words w) ≡ same_value v w

abbrev pub ZeroIsZeros : Type 0
ZeroIsZeros = (types : List Shape) → IsTable types → (t : ℕ) → t < length types → value_words (zero_value types t) ≡ replicate (size types t) 0

-- a value takes a word at least
abbrev pub TypesTakeWords : Type 0
TypesTakeWords = (types : List Shape) → IsTable types → (t : ℕ) → t < length types → 0 < size types t

abbrev pub PartsStand : Type 0
PartsStand =
    (types : List Shape) → IsTable types → (v : Value) (t : ℕ) (path : List ℕ) → t < length types → IsOf types v t → IsPath types t path →
    Splits types v t path

-- a path may go on at its end: it leads to the type, and to the words, to which the rest leads from there
abbrev pub PathsGoOn : Type 0
PathsGoOn =
    (types : List Shape) (t : ℕ) (p q : List ℕ) →
    (path_type types t (p ++ q) ≡ path_type types (path_type types t p) q)
    × (path_offset types t (p ++ q) ≡ path_offset types t p + path_offset types (path_type types t p) q)
    × (IsPath types t p → IsPath types (path_type types t p) q → IsPath types t (p ++ q))

-- where the words of a value stand in memory, those of its part are read at the offset of the part
abbrev pub PartsAreRead : Type 0
PartsAreRead =
    (types : List Shape) → IsTable types → (v : Value) (t : ℕ) (path : List ℕ) → t < length types → IsOf types v t → IsPath types t path →
    (m : List ℕ) (a : ℕ) → words_at m a (size types t) ≡ value_words v →
    words_at m (a + path_offset types t path) (size types (path_type types t path)) ≡ value_words (part_at v path)

-- and where another value of the part's type is written there, the words are those of the value with that part
abbrev pub PartsAreWritten : Type 0
PartsAreWritten =
    (types : List Shape) → IsTable types → (v : Value) (t : ℕ) (path : List ℕ) → t < length types → IsOf types v t → IsPath types t path →
    (m : List ℕ) (a : ℕ) (x : Value) → a + size types t ≤ length m → words_at m a (size types t) ≡ value_words v →
    IsOf types x (path_type types t path) →
    words_at (written m (a + path_offset types t path) (value_words x)) a (size types t) ≡ value_words (with_part v path x)
