-- What a call makes of the arrays and of the lists that they hold.
use Rattle.std.proofs.Common.{◌≡◌, ℕ, suc, ◌<◌, inl, inr, List, [], ◌∷◌, ◌++◌, length, sym, ◌∙◌, ap, arith, subst, get_or, set, get_or-set_same}
use Rattle.std.proofs.Common.{get_or-set_other, length-set, take, drop}
use Rattle.std.specs.Prelude.{Option, Some, None, slice_get}
use Rattle.std.proofs.lemmas.Bool.{cases_eq, cases_lt}
use Rattle.std.proofs.lemmas.List.{length-map, get_or_past}
use Rattle.std.proofs.Math.ListN.{get_or-map as get_or-map_all}
use Rattle.std.proofs.lemmas.Option.{slice_get_within}
use Rattle.edi_ring.specs.declared.Row.{Row}
use Rattle.edi_ring.specs.Lists.{list_at, appended, without}
use Rattle.edi_ring.specs.Links.{IsListed, RowHolds, IsAmong, NoneTwice, lengthened, no_row, rest_of, row_at, shortened}
use Rattle.edi_ring.proofs.Chain.{among_at, minus, minus_none, minus_at, among-minus, minus_gone, minus_keeps}
use Rattle.edi_ring.proofs.Chain.{NoneTwice-minus, among_push, among_kept, among-push, NoneTwice-push}
use Rattle.edi_ring.proofs.Arrays.{IsShort-lengthened, IsShort-rest_of, IsShort-shortened, length-nodes_of, nodes_of-lengthened, nodes_of-rest_of}
use Rattle.edi_ring.proofs.Arrays.{nodes_of-shortened}
use Rattle.edi_ring.proofs.Homes.{within}

-- a list that has a node is one of the lists
listed : (lists : List (List ℕ)) (l q : ℕ) → IsAmong q (list_at lists l) → l < length lists
listed lists l q i =
    elim (cases_lt l (length lists)) [
      | inl lt ↦ lt
      | inr le ↦ absurd (subst (λ (xs : List ℕ). IsAmong q xs) (get_or_past lists l [] le) i)
    ]

module _ (home : List (Option ℕ)) (rows : List Row) (lists : List (List ℕ)) (h : IsListed home rows lists) where
  abbrev nodes : ℕ
  nodes = length home

  -- two lists share no node
  apart : (a b q : ℕ) → IsAmong q (list_at lists a) → IsAmong q (list_at lists b) → a ≡ b
  apart a b q i j = let first = h.homes a q i in let second = h.homes b q j in cc

  pub in_range : (l q : ℕ) → IsAmong q (list_at lists l) → q < nodes
  in_range l q i = within home q l (h.homes l q i)

  -- the home of a node is one of the lists
  pub is_one : (list node : ℕ) → get_or home node None ≡ Some list → list < length rows
  is_one list node its_home = let lt = listed lists list node (h.among_list list node its_home) in let many = h.as_many in omega (arith, lt, many)

  -- the row of a list has as many nodes as the list
  pub counted : (l : ℕ) → l < length rows → (row_at rows l).len ≡ length (list_at lists l)
  counted l lt =
      let s : RowHolds nodes (row_at rows l) (list_at lists l) = h.stands l lt in
      sym (length-nodes_of nodes (row_at rows l) s.short) ∙ ap length s.is

  module _ (list node : ℕ) (is_list : list < length rows) (is_node : node < nodes) (free : get_or home node None ≡ None)
      (room : (row_at rows list).len < nodes) where
    abbrev xs : List ℕ
    xs = list_at lists list

    abbrev longer : Row
    longer = lengthened (row_at rows list) node

    absent : (l : ℕ) → IsAmong node (list_at lists l) → ⊥
    absent l i = let home_is = h.homes l node i in let none : None ≡ Some l = cc in cc

    at_list : list_at (appended lists list node) list ≡ xs ++ node ∷ []
    at_list = get_or-set_same lists list (xs ++ node ∷ []) [] (let many = h.as_many in omega arith)

    at_other : (l : ℕ) → (l ≡ list → ⊥) → list_at (appended lists list node) l ≡ list_at lists l
    at_other l ne = get_or-set_other lists list l (xs ++ node ∷ []) [] ne

    long_holds : RowHolds nodes longer (xs ++ node ∷ [])
    long_holds =
        let old : RowHolds nodes (row_at rows list) xs = h.stands list is_list in
        let few : (row_at rows list).len < 256 = let bytes = h.bytes in omega (arith, room, bytes) in
        record {
          short = IsShort-lengthened nodes (row_at rows list) old.short few node nodes room;
          is = nodes_of-lengthened nodes (row_at rows list) old.short few node ∙ ap (λ ys. ys ++ node ∷ []) old.is;
        }

    pushed_stands : (l : ℕ) → l < length (set rows list longer) → RowHolds (length (set home node (Some list))) (row_at (set rows list longer) l)
        (list_at (appended lists list node) l)
    pushed_stands l lt =
        rw (length-set home node (Some list))
        (elim (cases_eq l list) [
          | inl same ↦
              subst (λ (k : ℕ). RowHolds nodes (row_at (set rows list longer) k) (list_at (appended lists list node) k)) (sym same)
              (rw (at_list, get_or-set_same rows list longer no_row is_list) long_holds)
          | inr ne ↦
              rw (at_other l ne, get_or-set_other rows list l longer no_row ne) (h.stands l (let wide = length-set rows list longer in omega arith))
        ])

    pushed_homes : (l q : ℕ) → IsAmong q (list_at (appended lists list node) l) → get_or (set home node (Some list)) q None ≡ Some l
    pushed_homes l q i =
        elim (cases_eq q node) [
          | inl same ↦
              subst (λ (k : ℕ). get_or (set home node (Some list)) k None ≡ Some l) (sym same)
              (get_or-set_same home node (Some list) None (omega arith)
              ∙ ap (λ k. Some k) (elim (cases_eq l list) [
                | inl k ↦ sym k
                | inr ne ↦ absurd (absent l (subst (λ (n : ℕ). IsAmong n (list_at lists l)) same (rw (at_other l ne) at i)))
              ]))
          | inr other ↦
              get_or-set_other home node q (Some list) None other
              ∙ elim (cases_eq l list) [
                | inl same ↦
                    let here : IsAmong q (xs ++ node ∷ []) = rw (same, at_list) at i in
                    elim (among-push node q xs here) [ inl k ↦ absurd (other k) | inr j ↦ h.homes list q j ∙ ap (λ k. Some k) (sym same) ]
                | inr ne ↦ h.homes l q (rw (at_other l ne) at i)
              ]
        ]

    pushed_among : (l q : ℕ) → get_or (set home node (Some list)) q None ≡ Some l → IsAmong q (list_at (appended lists list node) l)
    pushed_among l q k =
        elim (cases_eq q node) [
          | inl same ↦
              let now : get_or (set home node (Some list)) node None ≡ Some list = get_or-set_same home node (Some list) None (omega arith) in
              let there : get_or (set home node (Some list)) node None ≡ Some l = subst (λ (n : ℕ). get_or (set home node (Some list)) n None ≡ Some l) same
              k in
              let is_it : list ≡ l = cc in
              rw (← is_it, at_list, same) (among_push node xs)
          | inr other ↦
              let old : IsAmong q (list_at lists l) = h.among_list l q (sym (get_or-set_other home node q (Some list) None other) ∙ k) in
              elim (cases_eq l list) [
                | inl same ↦ rw (same, at_list) (among_kept node q xs (rw same at old))
                | inr ne ↦ rw (at_other l ne) old
              ]
        ]

    pushed_once : (l : ℕ) → NoneTwice (list_at (appended lists list node) l)
    pushed_once l =
        elim (cases_eq l list) [
          | inl same ↦ rw (same, at_list) (NoneTwice-push node xs (h.once list) (absent list))
          | inr ne ↦ rw (at_other l ne) (h.once l)
        ]

    pub IsListed-push : IsListed (set home node (Some list)) (set rows list longer) (appended lists list node)
    IsListed-push = record {
      as_many = length-set lists list (xs ++ node ∷ []) ∙ h.as_many ∙ sym (length-set rows list longer);
      bytes = let wide = length-set home node (Some list) in let small = h.bytes in omega (arith, wide, small);
      stands = pushed_stands;
      homes = pushed_homes;
      among_list = pushed_among;
      once = pushed_once;
    }

  module _ (list i node : ℕ) (is_list : list < length rows) (at_i : slice_get (list_at lists list) i ≡ Some node) where
    abbrev ys : List ℕ
    ys = list_at lists list

    in_it : IsAmong node ys
    in_it = among_at ys i node at_i

    pub its_home : get_or home node None ≡ Some list
    its_home = h.homes list node in_it

    pub inside : i < (row_at rows list).len
    inside = let n = counted list is_list in let lt = slice_get_within ys i node at_i in omega (arith, n, lt)

    left_at : (l : ℕ) → list_at (without lists node) l ≡ minus node (list_at lists l)
    left_at l = get_or-map_all (minus node) lists l []

    -- the row without the node, and without its first one
    pub short_holds : RowHolds nodes (shortened (row_at rows list) i) (minus node ys)
    short_holds =
        let old : RowHolds nodes (row_at rows list) ys = h.stands list is_list in
        record {
          short = IsShort-shortened nodes (row_at rows list) i old.short inside;
          is = nodes_of-shortened nodes (row_at rows list) i old.short inside ∙ ap (λ zs. take i zs ++ drop (suc i) zs) old.is
              ∙ minus_at node i ys at_i (h.once list);
        }

    pub rest_holds : i ≡ 0 → RowHolds nodes (rest_of (row_at rows list)) (minus node ys)
    rest_holds first =
        let old : RowHolds nodes (row_at rows list) ys = h.stands list is_list in
        let some : 0 < (row_at rows list).len = let lt = inside in omega (arith, lt) in
        record {
          short = IsShort-rest_of nodes (row_at rows list) old.short some;
          is = nodes_of-rest_of (row_at rows list) some ∙ ap (λ zs. take 0 zs ++ drop 1 zs) old.is
              ∙ minus_at node 0 ys (ap (slice_get ys) (sym first) ∙ at_i) (h.once list);
        }

    module _ (left : Row) (holds : RowHolds nodes left (minus node ys)) where
      left_stands : (l : ℕ) → l < length (set rows list left) → RowHolds (length (set home node None)) (row_at (set rows list left) l)
          (list_at (without lists node) l)
      left_stands l lt =
          rw (length-set home node None)
          (elim (cases_eq l list) [
            | inl same ↦
                subst (λ (k : ℕ). RowHolds nodes (row_at (set rows list left) k) (list_at (without lists node) k)) (sym same)
                (rw (left_at list, get_or-set_same rows list left no_row is_list) holds)
            | inr ne ↦
                rw (left_at l, get_or-set_other rows list l left no_row ne, minus_none node (list_at lists l) (λ j. ne (apart l list node j in_it)))
                (h.stands l (let wide = length-set rows list left in omega arith))
          ])

      left_homes : (l q : ℕ) → IsAmong q (list_at (without lists node) l) → get_or (set home node None) q None ≡ Some l
      left_homes l q i =
          let was : IsAmong q (minus node (list_at lists l)) = rw (left_at l) at i in
          get_or-set_other home node q None None (λ same. minus_gone node (list_at lists l)
          (subst (λ (n : ℕ). IsAmong n (minus node (list_at lists l))) same was))
          ∙ h.homes l q (among-minus node q (list_at lists l) was)

      left_among : (l q : ℕ) → get_or (set home node None) q None ≡ Some l → IsAmong q (list_at (without lists node) l)
      left_among l q k =
          elim (cases_eq q node) [
            | inl same ↦
                let now : get_or (set home node None) node None ≡ None = get_or-set_same home node None None (let lt = within home node list its_home in lt) in
                let there : get_or (set home node None) node None ≡ Some l = subst (λ (n : ℕ). get_or (set home node None) n None ≡ Some l) same k in
                let end : None ≡ Some l = sym now ∙ there in absurd (cc)
            | inr other ↦
                rw (left_at l) (minus_keeps node q (list_at lists l) (h.among_list l q (sym (get_or-set_other home node q None None other) ∙ k)) other)
          ]

      pub IsListed-take : IsListed (set home node None) (set rows list left) (without lists node)
      IsListed-take = record {
        as_many = length-map lists (minus node) ∙ h.as_many ∙ sym (length-set rows list left);
        bytes = let wide = length-set home node None in let small = h.bytes in omega (arith, wide, small);
        stands = left_stands;
        homes = left_homes;
        among_list = left_among;
        once = λ l. rw (left_at l) (NoneTwice-minus node (list_at lists l) (h.once l));
      }
