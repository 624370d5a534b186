-- Definition. Where in a text the first place is at which no piece stands.
use Rattle.std.specs.Prelude.{ℕ, zero, suc, ◌+◌, List, [], ◌∷◌}
use Rattle.edi_lex.specs.Symbols.{Piece, space, stands, stray, too_great, piece_of}

abbrev pub by_stray : Piece → ℕ → (ℕ → ℕ) → ℕ
by_stray (space k) at go = go k
by_stray (stands symbol k) at go = go k
by_stray stray at go = at
by_stray too_great at go = at

-- of a text of which so many bytes stand before it, and whose first k bytes belong to a piece that has been taken already
unfoldable pub stray_from : List ℕ → ℕ → ℕ → ℕ
stray_from [] k at = at + k
stray_from (b ∷ rest) (suc k) at = stray_from rest k (suc at)
stray_from (b ∷ rest) zero at = by_stray (piece_of b rest) at (λ k. stray_from rest k (suc at))

-- in bytes from the front; the length of the text where all of it is pieces
abbrev pub stray_of : List ℕ → ℕ
stray_of text = stray_from text 0 0
