-- What a call leaves behind, as its clauses say it.
use Rattle.std.proofs.Common.{◌≡◌, ℕ, zero, suc, ◌+◌, ◌<◌, ◌≤◌, inl, inr, cond, List, [], ◌∷◌, ◌++◌, length, refl, sym, ◌∙◌, ap, arith, subst, eqb}
use Rattle.std.proofs.Common.{eq-eqb, get_or, set, get_or-set_same, get_or-set_other, length-set}
use Rattle.std.specs.Prelude.{Option, Some, None, IsSome, slice_get}
use Rattle.std.proofs.lemmas.Bool.{cases_eq, ne_eqb}
use Rattle.std.proofs.lemmas.List.{length_push}
use Rattle.std.proofs.lemmas.Map.Steps.{length-le_from_distinct_below}
use Rattle.edi_ring.specs.declared.Row.{Row}
use Rattle.edi_ring.specs.Lists.{list_at, home_of, appended, without, IsSound}
use Rattle.edi_ring.specs.Links.{lists_in, lengthened, rest_of, shortened, nodes_of, row_at, IsListed, IsShort, IsAmong, RowHolds}
pub use Rattle.edi_ring.proofs.Chain.{among_at}
use Rattle.edi_ring.proofs.Chain.{NoneTwice-push, among-push, minus, place_of}
use Rattle.edi_ring.proofs.Arrays.{IsListed-view, IsListed-again, lists_in-IsListed}
use Rattle.edi_ring.proofs.Homes.{IsDistinct-from_NoneTwice, IsSound-IsListed, among-from_has, home_of-IsListed}
use Rattle.edi_ring.proofs.Moves as moves

-- the arrays hold these lists, in which each node has this home
pub record Leaves (nodes count : ℕ) (home : List (Option ℕ)) (rows : List Row) (lists : List (List ℕ)) (homes : ℕ → Option ℕ) : Type 0 where
  pub still_listed : IsListed home rows (lists_in rows)
  pub exact : lists_in rows ≡ lists
  pub homes_are : (q : ℕ) → home_of (lists_in rows) q ≡ homes q
  pub sound : IsSound nodes count (lists_in rows)

leaves : (nodes count : ℕ) (home : List (Option ℕ)) (rows : List Row) (lists : List (List ℕ)) (homes : ℕ → Option ℕ)
    → IsListed home rows lists → length home ≡ nodes → length rows ≡ count → ((q : ℕ) → get_or home q None ≡ homes q)
    → Leaves nodes count home rows lists homes
leaves nodes count home rows lists homes h wide many kept =
    let again = IsListed-again home rows lists h in
    record {
      still_listed = again;
      exact = lists_in-IsListed home rows lists h;
      homes_are = λ q. home_of-IsListed home rows (lists_in rows) again q ∙ kept q;
      sound = IsSound-IsListed nodes count home rows (lists_in rows) again wide many;
    }

pub some_is : {x y : ℕ} → Some x ≡ Some y → x ≡ y
some_is e = cc

-- one home written
home-set : (home : List (Option ℕ)) (node q : ℕ) (v : Option ℕ) → node < length home → get_or (set home node v) q None ≡ cond (eqb q node) v
    (get_or home q None)
home-set home node q v lt =
    elim (cases_eq q node) [
      | inl same ↦ rw (eq-eqb q node same) (subst (λ (n : ℕ). get_or (set home node v) n None ≡ v) (sym same) (get_or-set_same home node v None lt))
      | inr other ↦ rw (ne_eqb q node other) (get_or-set_other home node q v None other)
    ]

module _ (nodes count : ℕ) (home : List (Option ℕ)) (rows : List Row) (lists : List (List ℕ))
    (still_listed : IsListed home rows (lists_in rows)) (seen : lists_in rows ≡ lists)
    (many : length rows ≡ count) (wide_home : length home ≡ nodes) where
  pub listed : IsListed home rows lists
  listed = IsListed-view home rows lists still_listed seen

  pub bytes : nodes ≤ 256
  bytes = let small = listed.bytes in omega (arith, small, wide_home)

  pub sound : IsSound nodes count lists
  sound = IsSound-IsListed nodes count home rows lists listed wide_home many

  pub home_is : (q : ℕ) → home_of lists q ≡ get_or home q None
  home_is q = home_of-IsListed home rows lists listed q

  pub short : (list : ℕ) → list < count → IsShort 256 (row_at rows list)
  short list lt =
      let s = (listed.stands list (omega (arith, many, lt))).short in
      let few = listed.bytes in record { wide = s.wide; fits = let fits = s.fits in omega (arith, fits, few); ends = s.ends }

  pub is : (list : ℕ) → list < count → nodes_of (row_at rows list) ≡ list_at lists list
  is list lt = (listed.stands list (omega (arith, many, lt))).is

  pub counted : (list : ℕ) → list < count → (row_at rows list).len ≡ length (list_at lists list)
  counted list lt = moves.counted home rows lists listed list (omega (arith, many, lt))

  pub index_within : (list k node : ℕ) → slice_get (list_at lists list) k ≡ Some node → node < nodes
  index_within list k node at_k =
      let lt = moves.in_range home rows lists listed list node (among_at (list_at lists list) k node at_k) in omega (arith, lt, wide_home)

  module _ (list node : ℕ) (is_list : list < count) (is_node : node < nodes) (free : home_of lists node ≡ None) where
    is_listed : list < length rows
    is_listed = omega (arith, many, is_list)

    nowhere : get_or home node None ≡ None
    nowhere = sym (home_is node) ∙ free

    -- the list with the node is no longer than there are nodes
    pub room : (row_at rows list).len < nodes
    room =
        let xs : List ℕ = list_at lists list in
        let absent : IsAmong node xs → ⊥ = λ i. let there = listed.homes list node i in let none : None ≡ Some list = sym nowhere ∙ there in absurd (cc) in
        let more : length (xs ++ node ∷ []) ≤ nodes =
        length-le_from_distinct_below (xs ++ node ∷ []) nodes
        (IsDistinct-from_NoneTwice (xs ++ node ∷ []) (NoneTwice-push node xs (listed.once list) absent))
        (λ q t. elim (among-push node q xs (among-from_has q (xs ++ node ∷ []) t)) [
          | inl same ↦ omega (arith, is_node, same)
          | inr i ↦ let lt = moves.in_range home rows lists listed list q i in omega (arith, lt, wide_home)
        ]) in
        omega (arith, more, length_push xs node, counted list is_list)

    pub push_leaves : Leaves nodes count (set home node (Some list)) (set rows list (lengthened (row_at rows list) node))
        (appended lists list node) (λ q. cond (eqb q node) (Some list) (home_of lists q))
    push_leaves =
        leaves nodes count _ _ _ _
        (moves.IsListed-push home rows lists listed list node is_listed (omega (arith, wide_home, is_node)) nowhere (omega (arith, wide_home, room)))
        (length-set home node (Some list) ∙ wide_home)
        (length-set rows list _ ∙ many)
        (λ q. home-set home node q (Some list) (omega (arith, wide_home, is_node)) ∙ ap (λ o. cond (eqb q node) (Some list) o) (sym (home_is q)))

  -- the node at an index of a list
  module _ (list k node : ℕ) (is_list : list < count) (at_k : slice_get (list_at lists list) k ≡ Some node) where
    in_rows : list < length rows
    in_rows = omega (arith, many, is_list)

    pub inside : k < (row_at rows list).len
    inside = moves.inside home rows lists listed list k node in_rows at_k

    gone_leaves : (left : Row) → RowHolds (length home) left (minus node (list_at lists list))
        → Leaves nodes count (set home node None) (set rows list left) (without lists node) (λ q. cond (eqb q node) None (home_of lists q))
    gone_leaves left holds =
        leaves nodes count _ _ _ _
        (moves.IsListed-take home rows lists listed list k node in_rows at_k left holds)
        (length-set home node None ∙ wide_home)
        (length-set rows list left ∙ many)
        (λ q. home-set home node q None (let lt = index_within list k node at_k in omega (arith, wide_home, lt))
        ∙ ap (λ o. cond (eqb q node) None o) (sym (home_is q)))

    pub take_leaves : Leaves nodes count (set home node None) (set rows list (shortened (row_at rows list) k))
        (without lists node) (λ q. cond (eqb q node) None (home_of lists q))
    take_leaves = gone_leaves _ (moves.short_holds home rows lists listed list k node in_rows at_k)

    pub front_leaves : k ≡ 0 → Leaves nodes count (set home node None) (set rows list (rest_of (row_at rows list)))
        (without lists node) (λ q. cond (eqb q node) None (home_of lists q))
    front_leaves first = gone_leaves _ (moves.rest_holds home rows lists listed list k node in_rows at_k first)

  -- a node that has a home
  module _ (node : ℕ) (listed_in : IsSome (home_of lists node)) where
    pub has_home : IsSome (get_or home node None)
    has_home = rw (home_is node) at listed_in

    module _ (list : ℕ) (its_home : get_or home node None ≡ Some list) where
      pub is_list : list < count
      is_list = let lt = moves.is_one home rows lists listed list node its_home in omega (arith, many, lt)

      pub in_list : IsAmong node (list_at lists list)
      in_list = listed.among_list list node its_home

-- a node of a list is at an index of it
pub never : (node : ℕ) (xs : List ℕ) → IsAmong node xs → ((k : ℕ) → k < length xs → slice_get xs k ≡ Some node → ⊥) → ⊥
never node xs i none = let p : (k : ℕ) × (k < length xs) × (slice_get xs k ≡ Some node) = place_of node xs i in none p.0 p.1 p.2

-- those up to an index, where another node is there
pub none_up_to : (node other : ℕ) (xs : List ℕ) (i : ℕ) → ((k : ℕ) → k < i → slice_get xs k ≡ Some node → ⊥) → slice_get xs i ≡ Some other
    → (other ≡ node → ⊥) → (k : ℕ) → k < i + 1 → slice_get xs k ≡ Some node → ⊥
none_up_to node other xs i none here ne k lt at_k =
    elim (cases_eq k i) [
      | inl same ↦ ne (some_is (sym here ∙ ap (slice_get xs) (sym same) ∙ at_k))
      | inr apart ↦ none k (omega (arith, lt, apart)) at_k
    ]

-- from its end on a list has no node
pub past_end : (xs : List ℕ) (i : ℕ) → length xs ≤ i → slice_get xs i ≡ None
past_end [] i le = refl
past_end (x ∷ xs) zero le = absurd (omega (arith, le))
past_end (x ∷ xs) (suc i) le = past_end xs i (omega (arith, le))

-- at an index below its length a list has a node
pub some_at : (xs : List ℕ) (k : ℕ) → k < length xs → IsSome (slice_get xs k)
some_at [] k lt = absurd (omega (arith, lt))
some_at (x ∷ xs) zero lt = refl
some_at (x ∷ xs) (suc k) lt = some_at xs k (omega arith)

-- a node taken out and put at the back of the same list is where it was
pub homes_again : (was mid now : ℕ → Option ℕ) (list node : ℕ) → was node ≡ Some list → ((q : ℕ) → mid q ≡ cond (eqb q node) None (was q))
    → ((q : ℕ) → now q ≡ cond (eqb q node) (Some list) (mid q)) → (q : ℕ) → now q ≡ was q
homes_again was mid now list node here taken put q =
    elim (cases_eq q node) [
      | inl same ↦ rw (eq-eqb q node same) at (put q) ∙ sym here ∙ ap was (sym same)
      | inr other ↦ rw (ne_eqb q node other) at (put q) ∙ rw (ne_eqb q node other) at (taken q)
    ]

-- a node that was taken out has no home
pub gone : (was mid : ℕ → Option ℕ) (node : ℕ) → ((q : ℕ) → mid q ≡ cond (eqb q node) None (was q)) → mid node ≡ None
gone was mid node taken = rw (eq-eqb node node refl) at (taken node)
