-- Each symbol of a text stands at its place, on its line.
use Rattle.std.proofs.Common.{◌≡◌, ℕ, zero, suc, ◌+◌, List, [], ◌∷◌, drop, take, Result, Ok, Err, refl, ap, ◌∙◌, subst, arith}
use Rattle.edi_lex.specs.Bytes.{feeds_at, line_feeds}
use Rattle.edi_lex.specs.Symbols.{Piece, space, stands, stray, too_great, piece_of, with_front, by_piece, symbols_from}
use Rattle.edi_lex.specs.declared.symbol.Mark.{Mark}
use Rattle.edi_lex.specs.declared.fault.LexFault.{LexFault}
use Rattle.edi_explain.specs.places.Places.{Place, by_place, places_from, line_at, StandsAt, StandAt}
use Rattle.edi_explain.proofs.places.Skips.{drop_behind}

drop_next : (text : List ℕ) (at b : ℕ) (rest : List ℕ) → drop at text ≡ b ∷ rest → drop (suc at) text ≡ rest
drop_next text at b rest d = let same : suc at ≡ (at + 0) + 1 = omega arith in ap (λ n. drop n text) same ∙ drop_behind text at 0 b rest d

feeds_next : (text : List ℕ) (at b : ℕ) (rest : List ℕ) → drop at text ≡ b ∷ rest
    → line_feeds (take (suc at) text) ≡ line_feeds (take at text) + feeds_at b
feeds_next [] zero b rest d = let none : [] ≡ b ∷ rest = d in absurd cc
feeds_next [] (suc at) b rest d = let none : [] ≡ b ∷ rest = d in absurd cc
feeds_next (a ∷ text) zero b rest d =
    let heads : a ∷ text ≡ b ∷ rest = d in
    let one : a ≡ b = cc in
    let same : feeds_at a ≡ feeds_at b = ap (λ x. feeds_at x) one in omega (arith, same)
feeds_next (a ∷ text) (suc at) b rest d = let more = feeds_next text at b rest d in omega (arith, more)

-- a symbol more
one_there : (text : List ℕ) (m : Mark) (r : Result (List Mark × ℕ) LexFault) (found : List Mark × ℕ) (p : Place) (ps : List Place) → StandsAt text m p
    → ((more : List Mark × ℕ) → r ≡ Ok more → StandAt text more.0 ps) → with_front (m ∷ []) r ≡ Ok found → StandAt text found.0 (p ∷ ps)
one_there text m (Ok more) found p ps s h e =
    let same : (m ∷ more.0, more.1) ≡ found = cc in subst (λ (f : List Mark × ℕ). StandAt text f.0 (p ∷ ps)) same (s, h more refl)
one_there text m (Err fault) found p ps s h e = absurd cc

pub there : (text left : List ℕ) (k line at : ℕ) (found : List Mark × ℕ) → drop at text ≡ left → line ≡ line_at text at
    → symbols_from left k line ≡ Ok found → StandAt text found.0 (places_from left k at)
unfolding symbols_from places_from
there text [] k line at found d n e =
    let same : ([], line) ≡ found = cc in subst (λ (f : List Mark × ℕ). StandAt text f.0 []) same tt
there text (b ∷ rest) (suc k) line at found d n e =
    let fed = feeds_next text at b rest d in
    there text rest k (line + feeds_at b) (suc at) found (drop_next text at b rest d) (omega (arith, n, fed)) e
there text (b ∷ rest) zero line at found d n e =
    let fed = feeds_next text at b rest d in
    by (piece_of b rest) refl (λ k other h. there text rest k (line + feeds_at b) (suc at) other (drop_next text at b rest d) (omega (arith, n, fed)) h) e where
      by : (p : Piece) → piece_of b rest ≡ p → ((k : ℕ) (other : List Mark × ℕ) → symbols_from rest k (line + feeds_at b) ≡ Ok other
          → StandAt text other.0 (places_from rest k (suc at))) → by_piece p line (λ k. symbols_from rest k (line + feeds_at b)) ≡ Ok found
          → StandAt text found.0 (by_place p at (λ k. places_from rest k (suc at)))
      by (space k) q again e = again k found e
      by (stands s k) q again e =
          one_there text (record { symbol = s; line = line }) (symbols_from rest k (line + feeds_at b)) found (at, at + suc k) (places_from rest k (suc at))
          (record { byte = b; rest = rest; more = k; here = d; piece = q; behind = refl; on_line = n }) (again k) e
      by stray q again e = absurd cc
      by too_great q again e = absurd cc
