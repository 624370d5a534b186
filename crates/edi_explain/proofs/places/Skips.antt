-- Behind a piece the places and the symbols go on where it ends.
use Rattle.std.proofs.Common.{◌≡◌, ℕ, zero, suc, ◌+◌, List, [], ◌∷◌, drop, take, length, Result, Ok, Err, refl, sym, ap, ◌∙◌, subst, arith}
use Rattle.edi_lex.specs.Bytes.{feeds_at, line_feeds}
use Rattle.edi_lex.specs.Symbols.{Piece, space, stands, stray, too_great, piece_of, with_front, by_piece, symbols_from}
use Rattle.edi_lex.specs.declared.symbol.Mark.{Mark}
use Rattle.edi_lex.specs.declared.fault.LexFault.{LexFault}
use Rattle.edi_explain.specs.places.Places.{by_place, places_from, place_or_end, place_of}
use Rattle.edi_explain.specs.places.Cuts.{Cuts}
use Rattle.edi_explain.specs.declared.places.cuts.Cut.TheVariants as cut

pub places_skip : (rest : List ℕ) (k at : ℕ) → places_from rest k at ≡ places_from (drop k rest) 0 (at + k)
unfolding places_from
places_skip [] zero at = refl
places_skip [] (suc k) at = refl
places_skip (b ∷ rest) zero at = let same : at ≡ at + 0 = omega arith in ap (λ at. places_from (b ∷ rest) 0 at) same
places_skip (b ∷ rest) (suc k) at = let same : suc at + k ≡ at + suc k = omega arith in
    places_skip rest k (suc at) ∙ ap (λ at. places_from (drop k rest) 0 at) same

pub symbols_skip : (rest : List ℕ) (k line : ℕ) → symbols_from rest k line ≡ symbols_from (drop k rest) 0 (line + line_feeds (take k rest))
unfolding symbols_from
symbols_skip [] zero line = let same : line ≡ line + 0 = omega arith in ap (λ line. symbols_from [] 0 line) same
symbols_skip [] (suc k) line = let same : line ≡ line + 0 = omega arith in ap (λ line. symbols_from [] 0 line) same
symbols_skip (b ∷ rest) zero line = let same : line ≡ line + 0 = omega arith in ap (λ line. symbols_from (b ∷ rest) 0 line) same
symbols_skip (b ∷ rest) (suc k) line =
    let same : (line + feeds_at b) + line_feeds (take k rest) ≡ line + (feeds_at b + line_feeds (take k rest)) = omega arith in
    symbols_skip rest k (line + feeds_at b) ∙ ap (λ line. symbols_from (drop k rest) 0 line) same

pub drop_behind : (bytes : List ℕ) (at k b : ℕ) (rest : List ℕ) → drop at bytes ≡ b ∷ rest → drop ((at + k) + 1) bytes ≡ drop k rest
drop_behind bytes zero k b rest e = let same : (0 + k) + 1 ≡ suc k = omega arith in ap (λ n. drop n bytes) same ∙ ap (drop (suc k)) e
drop_behind [] (suc at) k b rest e = let none : [] ≡ b ∷ rest = e in absurd cc
drop_behind (a ∷ bytes) (suc at) k b rest e = let same : (suc at + k) + 1 ≡ suc ((at + k) + 1) = omega arith in
    ap (λ n. drop n (a ∷ bytes)) same ∙ drop_behind bytes at k b rest e

-- at this place symbols are still to come, and among their places is the one that is asked for
abbrev pub Goes : List ℕ → ℕ → ℕ → ℕ → Type 0
Goes bytes index at left = (line : ℕ) × (more : List Mark × ℕ) × (symbols_from (drop at bytes) 0 line ≡ Ok more)
    × (place_or_end (places_from (drop at bytes) 0 at) left (length bytes) ≡ place_of bytes index)

-- the same behind a piece of which k bytes stand behind its first
behind : (bytes : List ℕ) (index at left k b : ℕ) (rest : List ℕ) (line : ℕ) (more : List Mark × ℕ) → drop at bytes ≡ b ∷ rest
    → symbols_from rest k line ≡ Ok more → place_or_end (places_from rest k (suc at)) left (length bytes) ≡ place_of bytes index
    → Goes bytes index ((at + k) + 1) left
behind bytes index at left k b rest line more d s p =
    let same : suc at + k ≡ (at + k) + 1 = omega arith in
    let there = drop_behind bytes at k b rest d in (
      line + line_feeds (take k rest),
      more,
      ap (λ l. symbols_from l 0 (line + line_feeds (take k rest))) there ∙ sym (symbols_skip rest k line) ∙ s,
      ap (λ l. place_or_end (places_from l 0 ((at + k) + 1)) left (length bytes)) there
          ∙ ap (λ n. place_or_end (places_from (drop k rest) 0 n) left (length bytes)) (sym same)
          ∙ ap (λ l. place_or_end l left (length bytes)) (sym (places_skip rest k (suc at))) ∙ p,
    )

here : (bytes : List ℕ) (index at left b : ℕ) (rest : List ℕ) (P : Type 0) → drop at bytes ≡ b ∷ rest → Goes bytes index at left
    → ((line : ℕ) (more : List Mark × ℕ) → by_piece (piece_of b rest) line (λ k. symbols_from rest k (line + feeds_at b)) ≡ Ok more
    → place_or_end (by_place (piece_of b rest) at (λ k. places_from rest k (suc at))) left (length bytes) ≡ place_of bytes index → P) → P
unfolding symbols_from places_from
here bytes index at left b rest P d g f = f g.0 g.1 (ap (λ l. symbols_from l 0 g.0) (sym d) ∙ g.2)
    (ap (λ l. place_or_end (places_from l 0 at) left (length bytes)) (sym d) ∙ g.3)

pub over_space : (bytes : List ℕ) (index at left k b : ℕ) (rest : List ℕ) → drop at bytes ≡ b ∷ rest → Cuts (piece_of b rest) (cut.Space k)
    → Goes bytes index at left → Goes bytes index ((at + k) + 1) left
over_space bytes index at left k b rest d c g = here bytes index at left b rest (Goes bytes index ((at + k) + 1) left) d g
    (λ line more s p. by (piece_of b rest) c line more s p) where
      by : (p : Piece) → Cuts p (cut.Space k) → (line : ℕ) (more : List Mark × ℕ) → by_piece p line (λ k. symbols_from rest k (line + feeds_at b)) ≡ Ok more
          → place_or_end (by_place p at (λ k. places_from rest k (suc at))) left (length bytes) ≡ place_of bytes index → Goes bytes index ((at + k) + 1) left
      by (space j) c line more s p = let same : j ≡ k = cc in
          subst (λ j. Goes bytes index ((at + j) + 1) left) same (behind bytes index at left j b rest (line + feeds_at b) more d s p)
      by (stands symbol j) c line more s p = cc
      by stray c line more s p = cc
      by too_great c line more s p = cc

rest_ok : (m : Mark) (r : Result (List Mark × ℕ) LexFault) (more : List Mark × ℕ) → with_front (m ∷ []) r ≡ Ok more → (less : List Mark × ℕ) × (r ≡ Ok less)
rest_ok m (Ok less) more e = (less, refl)
rest_ok m (Err fault) more e = cc

pub over_symbol : (bytes : List ℕ) (index at left k b : ℕ) (rest : List ℕ) → drop at bytes ≡ b ∷ rest → Cuts (piece_of b rest) (cut.Symbol k)
    → Goes bytes index at (suc left) → Goes bytes index ((at + k) + 1) left
over_symbol bytes index at left k b rest d c g = here bytes index at (suc left) b rest (Goes bytes index ((at + k) + 1) left) d g
    (λ line more s p. by (piece_of b rest) c line more s p) where
      by : (p : Piece) → Cuts p (cut.Symbol k) → (line : ℕ) (more : List Mark × ℕ) → by_piece p line (λ k. symbols_from rest k (line + feeds_at b)) ≡ Ok more
          → place_or_end (by_place p at (λ k. places_from rest k (suc at))) (suc left) (length bytes) ≡ place_of bytes index
          → Goes bytes index ((at + k) + 1) left
      by (space j) c line more s p = cc
      by (stands symbol j) c line more s p = let same : j ≡ k = cc in
          let less = rest_ok (record { symbol = symbol; line = line }) (symbols_from rest j (line + feeds_at b)) more s in
          subst (λ j. Goes bytes index ((at + j) + 1) left) same (behind bytes index at left j b rest (line + feeds_at b) less.0 d less.1 p)
      by stray c line more s p = cc
      by too_great c line more s p = cc

pub at_symbol : (bytes : List ℕ) (index at k b : ℕ) (rest : List ℕ) → drop at bytes ≡ b ∷ rest → Cuts (piece_of b rest) (cut.Symbol k)
    → Goes bytes index at 0 → (at, (at + k) + 1) ≡ place_of bytes index
at_symbol bytes index at k b rest d c g = here bytes index at 0 b rest ((at, (at + k) + 1) ≡ place_of bytes index) d g
    (λ line more s p. by (piece_of b rest) c line more s p) where
      by : (p : Piece) → Cuts p (cut.Symbol k) → (line : ℕ) (more : List Mark × ℕ) → by_piece p line (λ k. symbols_from rest k (line + feeds_at b)) ≡ Ok more
          → place_or_end (by_place p at (λ k. places_from rest k (suc at))) 0 (length bytes) ≡ place_of bytes index → (at, (at + k) + 1) ≡ place_of bytes index
      by (space j) c line more s p = cc
      by (stands symbol j) c line more s p = let same : j ≡ k = cc in let sum : (at + k) + 1 ≡ at + suc j = omega (arith, same) in
          ap (λ n. (at, n)) sum ∙ p
      by stray c line more s p = cc
      by too_great c line more s p = cc

pub no_stray : (bytes : List ℕ) (index at left b : ℕ) (rest : List ℕ) → drop at bytes ≡ b ∷ rest → Cuts (piece_of b rest) cut.Stray
    → Goes bytes index at left → ⊥
no_stray bytes index at left b rest d c g = here bytes index at left b rest ⊥ d g (λ line more s p. by (piece_of b rest) c line more s) where
  by : (p : Piece) → Cuts p cut.Stray → (line : ℕ) (more : List Mark × ℕ) → by_piece p line (λ k. symbols_from rest k (line + feeds_at b)) ≡ Ok more → ⊥
  by (space j) c line more s = cc
  by (stands symbol j) c line more s = cc
  by stray c line more s = cc
  by too_great c line more s = cc

pub at_end : (bytes : List ℕ) (index at left : ℕ) → drop at bytes ≡ [] → Goes bytes index at left → (length bytes, length bytes) ≡ place_of bytes index
unfolding places_from
at_end bytes index at left d g = ap (λ l. place_or_end (places_from l 0 at) left (length bytes)) (sym d) ∙ g.3
