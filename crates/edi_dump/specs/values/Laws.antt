-- Words of contracts. The text that is read off the words of a variable is the text of its value.
use Rattle.std.specs.Prelude.{◌≡◌, ℕ, zero, suc, ◌<◌, Bool, true, false, List, [], ◌∷◌, ◌++◌, length}
use Rattle.edi_unit.specs.Types.{Shape, set_of, shape_at, int_type}
use Rattle.edi_unit.specs.TypeTables.{part_types}
use Rattle.edi_unit.specs.Values.{Value, ordinal, compound, members, Values, no_value, value_then, IsOf}
use Rattle.edi_follows.specs.values.Words.{IsTable, value_words}
use Rattle.edi_dump.specs.values.Texts.{Piece, compound_piece, cut_piece, in_list, most_deep, most_shown, ordinal_piece, set_piece}
use Rattle.edi_dump.specs.values.Words.{words_text}

abbrev pub base_type : Shape → ℕ
base_type (set_of b) = b
base_type _ = int_type

module _ (types : List Shape) (constants : List (List (List ℕ))) where
  abbrev mutual
    -- so many levels of it
    pub value_piece : (deep left t : ℕ) → Value → Piece
    value_piece zero left t v = cut_piece left
    value_piece (suc deep) left t (ordinal n) = ordinal_piece types constants left t n
    value_piece (suc deep) left t (compound vs) = compound_piece (values_piece deep true left (part_types (shape_at types t)) vs)
    value_piece (suc deep) left t (members set) = set_piece types constants left (base_type (shape_at types t)) set

    -- of values of these types
    pub values_piece : (deep : ℕ) → (first : Bool) → (left : ℕ) → List ℕ → Values → Piece
    values_piece deep first left [] vs = record { text = []; left = left }
    values_piece deep first left (t ∷ ts) no_value = record { text = []; left = left }
    values_piece deep first left (t ∷ ts) (value_then v vs) =
        in_list first left (value_piece deep left t v) (λ more. values_piece deep false more ts vs)

  -- THE TEXT OF A VALUE of type t
  abbrev pub value_text : (t : ℕ) → Value → List ℕ
  value_text t v = (value_piece most_deep most_shown t v).text

-- THE TEXT OF WORDS is the text of the value that they hold, whatever stands after them.
abbrev pub TextsAreOfValues : Type 0
TextsAreOfValues =
    (types : List Shape) (constants : List (List (List ℕ))) → IsTable types → (v : Value) (t : ℕ) → t < length types → IsOf types v t → (more : List ℕ) →
    words_text types constants t (value_words v ++ more) ≡ value_text types constants t v
