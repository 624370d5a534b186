-- The arrays and the lists that they hold.
use Rattle.std.proofs.Common.{◌≡◌, ℕ, suc, zero, ◌+◌, ◌-◌, ◌<◌, List, [], ◌∷◌, ◌++◌, length, refl, sym, ◌∙◌, ap, arith, subst}
use Rattle.std.proofs.Common.{take, drop, length-set}
use Rattle.std.specs.Prelude.{Option}
use Rattle.std.proofs.Common.{eq-eqb, inl, inr}
use Rattle.std.proofs.lemmas.Bool.{cases_eq, ne_eqb}
use Rattle.std.proofs.lemmas.List.{same_lists, length-map, get_or_default, get_or-map, length-take-le, drop-take, length-drop}
use Rattle.std.proofs.lemmas.List.{drop-append-le, drop-drop, drop-set-add, take_more_set}
use Rattle.std.proofs.lemmas.List.Edits.{length-paste, paste_all, take-paste}
use Rattle.edi_ring.specs.declared.Row.{Row}
use Rattle.edi_ring.specs.Links.{IsListed, IsShort, at_front, count_from, end_of, lengthened, moved, part_of, lists_in, no_row, nodes_of, put_behind}
use Rattle.edi_ring.specs.Links.{rest_of, roomy, shortened}

-- the arrays hold no other lists
pub lists_in-IsListed : (home : List (Option ℕ)) (rows : List Row) (lists : List (List ℕ)) → IsListed home rows lists → lists_in rows ≡ lists
lists_in-IsListed home rows lists h =
    same_lists (lists_in rows) lists (length-map rows nodes_of ∙ sym h.as_many)
    (λ k d lt.
    let within : k < length rows = omega (arith, length-map rows nodes_of) in
    let listed : k < length lists = omega (arith, h.as_many) in
    get_or-map nodes_of rows k no_row d within ∙ (h.stands k within).is ∙ get_or_default lists k [] d listed)

-- what the arrays hold is what callers see
pub IsListed-view : (home : List (Option ℕ)) (rows : List Row) (lists : List (List ℕ)) → IsListed home rows (lists_in rows) → lists_in rows ≡ lists
    → IsListed home rows lists
IsListed-view home rows lists h e = subst (λ (seen : List (List ℕ)). IsListed home rows seen) e h

pub IsListed-again : (home : List (Option ℕ)) (rows : List Row) (lists : List (List ℕ)) → IsListed home rows lists → IsListed home rows (lists_in rows)
IsListed-again home rows lists h = subst (λ (seen : List (List ℕ)). IsListed home rows seen) (sym (lists_in-IsListed home rows lists h)) h

-- a row has the nodes of another one, and a place behind them
pub record IsRoomy (most : ℕ) (r q : Row) : Type 0 where
  pub short : IsShort most q
  pub same : nodes_of q ≡ nodes_of r
  pub as_many : q.len ≡ r.len
  pub room : end_of q < 256

module _ (most : ℕ) (r : Row) (s : IsShort most r) (few : r.len < 256) where
  -- so many nodes are moved to the front
  abbrev count : ℕ
  count = end_of r - r.start

  all_moved : count ≡ r.len
  all_moved = omega arith

  none_further : length (drop r.start r.nodes) ≡ 256 - r.start
  none_further = let rest : length (drop r.start r.nodes) ≡ length r.nodes - r.start = length-drop r.start r.nodes in omega (arith, rest, s.wide)

  IsRoomy-at_front : IsRoomy most r (at_front r)
  IsRoomy-at_front = record {
    short = record {
      wide = length-paste r.nodes 0 (drop r.start r.nodes) count (omega (arith, all_moved, s.wide, few)) (omega (arith, all_moved, none_further, s.ends))
          ∙ s.wide;
      fits = s.fits;
      ends = omega (arith, few);
    };
    same =
        let front : 0 + count ≡ r.len = omega (arith, all_moved) in
        ap (λ k. take k (at_front r).nodes) (sym front)
        ∙ take-paste r.nodes 0 (drop r.start r.nodes) count (omega arith) (omega (arith, all_moved, none_further, s.ends))
        ∙ ap (λ k. take k (drop r.start r.nodes)) all_moved;
    as_many = refl;
    room = omega (arith, few);
  }

  pub IsRoomy-roomy : IsRoomy most r (roomy r)
  IsRoomy-roomy =
      elim (cases_eq (end_of r) 256) [
        | inl last ↦ rw (eq-eqb (end_of r) 256 last) IsRoomy-at_front
        | inr other ↦
            rw (ne_eqb (end_of r) 256 other) (record { short = s; same = refl; as_many = refl; room = let ends = s.ends in omega (arith, ends, other) })
      ]

  pub nodes_of-lengthened : (node : ℕ) → nodes_of (lengthened r node) ≡ nodes_of r ++ node ∷ []
  nodes_of-lengthened node =
      let h : IsRoomy most r (roomy r) = IsRoomy-roomy in behind (roomy r) h.short.wide h.room ∙ ap (λ ys. ys ++ node ∷ []) h.same
    where
      behind : (q : Row) → length q.nodes ≡ 256 → end_of q < 256 → nodes_of (put_behind q node) ≡ nodes_of q ++ node ∷ []
      behind q wide room =
          let rest : length (drop q.start q.nodes) ≡ length q.nodes - q.start = length-drop q.start q.nodes in
          ap (take (q.len + 1)) (drop-set-add q.start q.nodes q.len node)
          ∙ take_more_set (drop q.start q.nodes) q.len node (omega (arith, rest, wide, room))

  pub IsShort-lengthened : (node more : ℕ) → r.len < more → IsShort more (lengthened r node)
  IsShort-lengthened node more lt =
      let h : IsRoomy most r (roomy r) = IsRoomy-roomy in
      record {
        wide = length-set (roomy r).nodes (end_of (roomy r)) node ∙ h.short.wide;
        fits = let n = h.as_many in omega (arith, n, lt);
        ends = let room = h.room in omega (arith, room);
      }

take_front : (xs : List ℕ) (i n : ℕ) → take i (take (i + n) xs) ≡ take i xs
take_front [] zero n = refl
take_front [] (suc i) n = take_none (suc i + n)
  where
    take_none : (k : ℕ) → take (suc i) (take {A = ℕ} k []) ≡ []
    take_none zero = refl
    take_none (suc k) = refl
take_front (x ∷ xs) zero n = refl
take_front (x ∷ xs) (suc i) n =
    let more : suc i + n ≡ suc (i + n) = omega arith in
    ap (λ k. take (suc i) (take k (x ∷ xs))) more ∙ ap (λ ys. x ∷ ys) (take_front xs i n)

-- what stands in front of more
front_of : (front more : List ℕ) (n : ℕ) → n ≡ length front → take n (front ++ more) ≡ front
front_of [] more zero e = refl
front_of [] more (suc n) e = absurd (omega (arith, e))
front_of (x ∷ front) more zero e = absurd (omega (arith, e))
front_of (x ∷ front) more (suc n) e = ap (λ ys. x ∷ ys) (front_of front more n (omega (arith, e)))

next_drop : (xs : List ℕ) (i : ℕ) → drop (suc i) xs ≡ drop 1 (drop i xs)
next_drop xs zero = refl
next_drop [] (suc i) = refl
next_drop (x ∷ xs) (suc i) = next_drop xs i

joined : (a b c : List ℕ) → (a ++ b) ++ c ≡ a ++ (b ++ c)
joined [] b c = refl
joined (x ∷ a) b c = ap (λ ys. x ∷ ys) (joined a b c)

length-joined : (a b : List ℕ) → length (a ++ b) ≡ length a + length b
length-joined [] b = omega arith
length-joined (x ∷ a) b = let e = length-joined a b in omega (arith, e)

-- one place nearer to the front
pub length-moved : (part : List ℕ) → 0 < length part → length (moved part) ≡ length part
length-moved part some =
    let rest : length (drop 1 part) ≡ length part - 1 = length-drop 1 part in
    length-paste part 0 (drop 1 part) (length part - 1) (omega (arith, some)) (omega (arith, rest))

moved_is : (part : List ℕ) → moved part ≡ drop 1 part ++ drop (0 + (length part - 1)) part
moved_is part = paste_all part 0 (drop 1 part) (length part - 1) (sym (length-drop 1 part))

-- a row without its first node
pub nodes_of-rest_of : (r : Row) → 0 < r.len → nodes_of (rest_of r) ≡ take 0 (nodes_of r) ++ drop 1 (nodes_of r)
nodes_of-rest_of r some =
    let all : 1 + (r.len - 1) ≡ r.len = omega (arith, some) in
    ap (take (r.len - 1)) (sym (drop-drop 1 r.start r.nodes)) ∙ sym (drop-take 1 (r.len - 1) (drop r.start r.nodes))
    ∙ ap (λ k. drop 1 (take k (drop r.start r.nodes))) all

pub IsShort-rest_of : (most : ℕ) (r : Row) → IsShort most r → 0 < r.len → IsShort most (rest_of r)
IsShort-rest_of most r s some = record {
  wide = s.wide;
  fits = let fits = s.fits in omega (arith, fits);
  ends = let ends = s.ends in omega (arith, ends, some);
}

-- a row without the node at an index
module _ (most : ℕ) (r : Row) (i : ℕ) (s : IsShort most r) (lt : i < r.len) where
  abbrev part : List ℕ
  part = part_of r i

  abbrev behind : List ℕ
  behind = drop 1 part

  -- the nodes and the places behind them
  abbrev kept : List ℕ
  kept = drop r.start r.nodes

  all_kept : i + count_from r i ≡ r.len
  all_kept = omega (arith, lt)

  length-kept : length kept ≡ 256 - r.start
  length-kept = let rest : length kept ≡ length r.nodes - r.start = length-drop r.start r.nodes in omega (arith, rest, s.wide)

  pub length-part : length part ≡ count_from r i
  length-part =
      let rest : length (drop (r.start + i) r.nodes) ≡ length r.nodes - (r.start + i) = length-drop (r.start + i) r.nodes in
      length-take-le (count_from r i) (drop (r.start + i) r.nodes) (omega (arith, rest, s.wide, s.ends, lt))

  part_is : part ≡ drop i (nodes_of r)
  part_is =
      ap (take (count_from r i)) (sym (drop-drop i r.start r.nodes)) ∙ sym (drop-take i (count_from r i) kept)
      ∙ ap (λ k. drop i (take k kept)) all_kept

  length_moved : length (moved part) ≡ count_from r i
  length_moved = length-moved part (omega (arith, length-part, lt)) ∙ length-part

  pub IsShort-shortened : IsShort most (shortened r i)
  IsShort-shortened = record {
    wide = length-paste r.nodes (r.start + i) (moved part) (count_from r i) (omega (arith, s.wide, s.ends, lt)) (omega (arith, length_moved)) ∙ s.wide;
    fits = let fits = s.fits in omega (arith, fits);
    ends = let ends = s.ends in omega (arith, ends);
  }

  pub nodes_of-shortened : nodes_of (shortened r i) ≡ take i (nodes_of r) ++ drop (suc i) (nodes_of r)
  nodes_of-shortened =
      let before : length (take (r.start + i) r.nodes) ≡ r.start + i = length-take-le (r.start + i) r.nodes (omega (arith, s.wide, s.ends, lt)) in
      let front : length (take i kept) ≡ i = length-take-le i kept (omega (arith, length-kept, s.ends, lt)) in
      let after : length behind ≡ length part - 1 = length-drop 1 part in
      let both : length (take i kept ++ behind) ≡ length (take i kept) + length behind = length-joined (take i kept) behind in
      let last : List ℕ = drop (0 + (length part - 1)) part in
      let past : List ℕ = drop (r.start + i + count_from r i) r.nodes in
      let whole : drop r.start (shortened r i).nodes ≡ (take i kept ++ behind) ++ (last ++ past) =
      ap (drop r.start) (paste_all r.nodes (r.start + i) (moved part) (count_from r i) (sym length_moved))
      ∙ drop-append-le r.start (take (r.start + i) r.nodes) (moved part ++ past) (omega (arith, before))
      ∙ ap (λ ys. ys ++ (moved part ++ past)) (drop-take r.start i r.nodes)
      ∙ ap (λ ys. take i kept ++ (ys ++ past)) (moved_is part)
      ∙ ap (λ ys. take i kept ++ ys) (joined behind last past)
      ∙ sym (joined (take i kept) behind (last ++ past)) in
      ap (take (r.len - 1)) whole
      ∙ front_of (take i kept ++ behind) (last ++ past) (r.len - 1) (omega (arith, both, front, after, length-part, lt))
      ∙ ap (λ ys. ys ++ behind) (sym (take_front kept i (count_from r i)) ∙ ap (λ k. take i (take k kept)) all_kept)
      ∙ ap (λ ys. take i (nodes_of r) ++ ys) (ap (drop 1) part_is ∙ sym (next_drop (nodes_of r) i))

-- how many nodes a row has
pub length-nodes_of : (most : ℕ) (r : Row) → IsShort most r → length (nodes_of r) ≡ r.len
length-nodes_of most r s =
    let rest : length (drop r.start r.nodes) ≡ length r.nodes - r.start = length-drop r.start r.nodes in
    length-take-le r.len (drop r.start r.nodes) (omega (arith, rest, s.wide, s.ends))
