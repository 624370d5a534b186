-- Definition. The text of a value, read off the words in which a variable holds it.
use Rattle.std.specs.Prelude.{ℕ, zero, suc, Bool, true, false, List, [], ◌∷◌, drop, slice_index}
use Rattle.edi_word.specs.Words.{signed}
use Rattle.edi_word.specs.SetWords.{members_of}
use Rattle.edi_unit.specs.Types.{Shape, record_of, array_of, set_of, shape_at, size}
use Rattle.edi_unit.specs.TypeTables.{part_types}
use Rattle.edi_dump.specs.values.Texts.{Piece, compound_piece, cut_piece, in_list, most_deep, most_shown, ordinal_piece, set_piece}

module _ (types : List Shape) (constants : List (List (List ℕ))) where
  -- of values of these types, which stand one behind another at the front of the words; of gives the text of each
  abbrev pub parts_by : (of : ℕ → ℕ → List ℕ → Piece) → (first : Bool) → (left : ℕ) → List ℕ → (words : List ℕ) → Piece
  parts_by of first left [] words = record { text = []; left = left }
  parts_by of first left (t ∷ ts) words =
      in_list first left (of left t words) (λ more. parts_by of false more ts (drop (size types t) words))

  -- a record or an array
  abbrev pub compound_by : (of : ℕ → ℕ → List ℕ → Piece) → (left : ℕ) → Shape → (words : List ℕ) → Piece
  compound_by of left shape words = compound_piece (parts_by of true left (part_types shape) words)

  -- a value of type t, which is this; of gives the texts of its parts
  abbrev pub shape_piece : (of : ℕ → ℕ → List ℕ → Piece) → (left t : ℕ) → Shape → (words : List ℕ) → Piece
  shape_piece of left t (record_of fs) words = compound_by of left (record_of fs) words
  shape_piece of left t (array_of i lo hi e) words = compound_by of left (array_of i lo hi e) words
  shape_piece of left t (set_of b) words = set_piece types constants left b (members_of words)
  shape_piece of left t _ words = ordinal_piece types constants left t (signed (slice_index words 0))

  -- a value of which so many levels are told: itself, its parts, theirs
  abbrev pub piece_within : (deep left t : ℕ) → (words : List ℕ) → Piece
  piece_within zero left t words = cut_piece left
  piece_within (suc deep) left t words = shape_piece (piece_within deep) left t (shape_at types t) words

  -- a value of type t at the front of the words
  abbrev pub words_text : (t : ℕ) → (words : List ℕ) → List ℕ
  words_text t words = (piece_within most_deep most_shown t words).text
