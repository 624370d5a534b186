-- Behind a piece the first place at which none stands goes on where the piece ends.
use Rattle.std.proofs.Common.{◌≡◌, ℕ, zero, suc, ◌+◌, List, [], ◌∷◌, drop, take, Result, Ok, Err, refl, sym, ap, ◌∙◌, subst, arith}
use Rattle.edi_lex.specs.Bytes.{feeds_at, line_feeds}
use Rattle.edi_lex.specs.Symbols.{Piece, space, stands, stray, too_great, piece_of, with_front, by_piece, symbols_from}
use Rattle.edi_lex.specs.declared.symbol.Mark.{Mark}
use Rattle.edi_lex.specs.declared.fault.LexFault.{LexFault}
use Rattle.edi_explain.specs.places.Cuts.{Cuts}
use Rattle.edi_explain.specs.declared.places.cuts.Cut.TheVariants as cut
use Rattle.edi_explain.specs.told.Stray.{by_stray, stray_from, stray_of}
use Rattle.edi_explain.proofs.places.Skips.{drop_behind, symbols_skip}

stray_skip : (rest : List ℕ) (k at : ℕ) → stray_from rest k at ≡ stray_from (drop k rest) 0 (at + k)
unfolding stray_from
stray_skip [] zero at = let same : at + 0 ≡ (at + 0) + 0 = omega arith in same
stray_skip [] (suc k) at = let same : at + suc k ≡ (at + suc k) + 0 = omega arith in same
stray_skip (b ∷ rest) zero at = let same : at ≡ at + 0 = omega arith in ap (λ at. stray_from (b ∷ rest) 0 at) same
stray_skip (b ∷ rest) (suc k) at = let same : suc at + k ≡ at + suc k = omega arith in
    stray_skip rest k (suc at) ∙ ap (λ at. stray_from (drop k rest) 0 at) same

-- the text has this fault, and it is still to come
abbrev pub Comes : List ℕ → LexFault → ℕ → Type 0
Comes bytes f at = (line : ℕ) × (symbols_from (drop at bytes) 0 line ≡ Err f) × (stray_from (drop at bytes) 0 at ≡ stray_of bytes)

pub begun : (bytes : List ℕ) (f : LexFault) → symbols_from bytes 0 1 ≡ Err f → Comes bytes f 0
begun bytes f e = (1, e, refl)

behind : (bytes : List ℕ) (f : LexFault) (at k b : ℕ) (rest : List ℕ) (line : ℕ) → drop at bytes ≡ b ∷ rest → symbols_from rest k line ≡ Err f
    → stray_from rest k (suc at) ≡ stray_of bytes → Comes bytes f ((at + k) + 1)
behind bytes f at k b rest line d s p =
    let same : suc at + k ≡ (at + k) + 1 = omega arith in
    let there = drop_behind bytes at k b rest d in (
      line + line_feeds (take k rest),
      ap (λ l. symbols_from l 0 (line + line_feeds (take k rest))) there ∙ sym (symbols_skip rest k line) ∙ s,
      ap (λ l. stray_from l 0 ((at + k) + 1)) there ∙ ap (λ n. stray_from (drop k rest) 0 n) (sym same) ∙ sym (stray_skip rest k (suc at)) ∙ p,
    )

here : (bytes : List ℕ) (f : LexFault) (at b : ℕ) (rest : List ℕ) (P : Type 0) → drop at bytes ≡ b ∷ rest → Comes bytes f at
    → ((line : ℕ) → by_piece (piece_of b rest) line (λ k. symbols_from rest k (line + feeds_at b)) ≡ Err f
    → by_stray (piece_of b rest) at (λ k. stray_from rest k (suc at)) ≡ stray_of bytes → P) → P
unfolding symbols_from stray_from
here bytes f at b rest P d g go = go g.0 (ap (λ l. symbols_from l 0 g.0) (sym d) ∙ g.1) (ap (λ l. stray_from l 0 at) (sym d) ∙ g.2)

rest_err : (m : Mark) (r : Result (List Mark × ℕ) LexFault) (f : LexFault) → with_front (m ∷ []) r ≡ Err f → r ≡ Err f
rest_err m (Ok less) f e = cc
rest_err m (Err fault) f e = e

pub over_space : (bytes : List ℕ) (f : LexFault) (at k b : ℕ) (rest : List ℕ) → drop at bytes ≡ b ∷ rest → Cuts (piece_of b rest) (cut.Space k)
    → Comes bytes f at → Comes bytes f ((at + k) + 1)
over_space bytes f at k b rest d c g = here bytes f at b rest (Comes bytes f ((at + k) + 1)) d g (λ line s p. by (piece_of b rest) c line s p) where
  by : (p : Piece) → Cuts p (cut.Space k) → (line : ℕ) → by_piece p line (λ k. symbols_from rest k (line + feeds_at b)) ≡ Err f
      → by_stray p at (λ k. stray_from rest k (suc at)) ≡ stray_of bytes → Comes bytes f ((at + k) + 1)
  by (space j) c line s p = let same : j ≡ k = cc in
      subst (λ j. Comes bytes f ((at + j) + 1)) same (behind bytes f at j b rest (line + feeds_at b) d s p)
  by (stands symbol j) c line s p = cc
  by stray c line s p = cc
  by too_great c line s p = cc

pub over_symbol : (bytes : List ℕ) (f : LexFault) (at k b : ℕ) (rest : List ℕ) → drop at bytes ≡ b ∷ rest → Cuts (piece_of b rest) (cut.Symbol k)
    → Comes bytes f at → Comes bytes f ((at + k) + 1)
over_symbol bytes f at k b rest d c g = here bytes f at b rest (Comes bytes f ((at + k) + 1)) d g (λ line s p. by (piece_of b rest) c line s p) where
  by : (p : Piece) → Cuts p (cut.Symbol k) → (line : ℕ) → by_piece p line (λ k. symbols_from rest k (line + feeds_at b)) ≡ Err f
      → by_stray p at (λ k. stray_from rest k (suc at)) ≡ stray_of bytes → Comes bytes f ((at + k) + 1)
  by (space j) c line s p = cc
  by (stands symbol j) c line s p = let same : j ≡ k = cc in
      let less = rest_err (record { symbol = symbol; line = line }) (symbols_from rest j (line + feeds_at b)) f s in
      subst (λ j. Comes bytes f ((at + j) + 1)) same (behind bytes f at j b rest (line + feeds_at b) d less p)
  by stray c line s p = cc
  by too_great c line s p = cc

pub at_stray : (bytes : List ℕ) (f : LexFault) (at b : ℕ) (rest : List ℕ) → drop at bytes ≡ b ∷ rest → Cuts (piece_of b rest) cut.Stray
    → Comes bytes f at → at ≡ stray_of bytes
at_stray bytes f at b rest d c g = here bytes f at b rest (at ≡ stray_of bytes) d g (λ line s p. by (piece_of b rest) c line s p) where
  by : (p : Piece) → Cuts p cut.Stray → (line : ℕ) → by_piece p line (λ k. symbols_from rest k (line + feeds_at b)) ≡ Err f
      → by_stray p at (λ k. stray_from rest k (suc at)) ≡ stray_of bytes → at ≡ stray_of bytes
  by (space j) c line s p = cc
  by (stands symbol j) c line s p = cc
  by stray c line s p = p
  by too_great c line s p = p

pub not_at_end : (bytes : List ℕ) (f : LexFault) (at : ℕ) → drop at bytes ≡ [] → Comes bytes f at → ⊥
unfolding symbols_from
not_at_end bytes f at d g =
    let never : Ok ([], g.0) ≡ Err f = ap (λ l. symbols_from l 0 g.0) (sym d) ∙ g.1 in absurd cc
