-- Definition. Where the symbols of a text stand in it. The text is cut into the pieces of `symbols_from`.
use Rattle.std.specs.Prelude.{◌≡◌, ℕ, zero, suc, ◌+◌, List, [], ◌∷◌, length, take, drop, ◌==◌, if◌then◌else◌, ⊤}
use Rattle.edi_lex.specs.declared.symbol.Mark.{Mark}
use Rattle.edi_lex.specs.Bytes.{line_feeds}
use Rattle.edi_lex.specs.Symbols.{Piece, space, stands, stray, too_great, piece_of}

-- where a symbol begins, and where what is after it does, in bytes from the front of the text
abbrev pub Place : Type 0
Place = ℕ × ℕ

abbrev pub by_place : Piece → ℕ → (ℕ → List Place) → List Place
by_place (space k) at go = go k
by_place (stands symbol k) at go = (at, at + suc k) ∷ go k
by_place stray at go = []
by_place too_great at go = []

-- the places of the symbols of a text of which so many bytes stand before it, and whose first k bytes belong to a piece that
-- has been taken already
unfoldable pub places_from : List ℕ → ℕ → ℕ → List Place
places_from [] k at = []
places_from (b ∷ rest) (suc k) at = places_from rest k (suc at)
places_from (b ∷ rest) zero at = by_place (piece_of b rest) at (λ k. places_from rest k (suc at))

abbrev pub places_of : List ℕ → List Place
places_of text = places_from text 0 0

-- the place of the symbol of this index; where the text has no more symbols, the place after its last byte
abbrev pub place_or_end : List Place → ℕ → ℕ → Place
place_or_end [] index end = (end, end)
place_or_end (p ∷ places) zero end = p
place_or_end (p ∷ places) (suc index) end = place_or_end places index end

abbrev pub place_of : List ℕ → ℕ → Place
place_of text index = place_or_end (places_of text) index (length text)

-- the column of the byte after so many, counted from 1: how many bytes stand between the last line feed before it and it, and one
abbrev pub column_from : List ℕ → ℕ → ℕ → ℕ
column_from [] offset column = column
column_from (b ∷ rest) zero column = column
column_from (b ∷ rest) (suc offset) column = column_from rest offset (if b == 10 then 1 else suc column)

abbrev pub column_at : List ℕ → ℕ → ℕ
column_at text offset = column_from text offset 1

-- the line of that byte, counted from 1
abbrev pub line_at : List ℕ → ℕ → ℕ
line_at text offset = 1 + line_feeds (take offset text)

-- at this place of the text stands the symbol of the mark, on the mark's line
pub record StandsAt (text : List ℕ) (m : Mark) (place : Place) : Type 0 where
  pub byte : ℕ
  pub rest : List ℕ
  pub more : ℕ
  pub here : drop place.0 text ≡ byte ∷ rest
  pub piece : piece_of byte rest ≡ stands m.symbol more
  pub behind : place.1 ≡ place.0 + suc more
  pub on_line : m.line ≡ line_at text place.0

-- so each of them, one after another
abbrev pub StandAt : List ℕ → List Mark → List Place → Type 0
StandAt text [] [] = ⊤
StandAt text (m ∷ marks) (place ∷ places) = StandsAt text m place × StandAt text marks places
StandAt text _ _ = ⊥
