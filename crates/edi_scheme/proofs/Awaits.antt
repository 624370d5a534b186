-- Each position that leads to a `when` has a number among the `when`s of its block, and the address with that number is where a process
-- stands at it.
use Rattle.std.proofs.Common.{◌≡◌, ℕ, zero, suc, ◌+◌, Bool, true, false, if◌then◌else◌, List, [], ◌∷◌, ◌++◌, Option, Some, None, slice_get, refl, sym, subst, ap}
use Rattle.std.proofs.Common.{◌∙◌, arith, append_assoc}
use Rattle.std.proofs.lemmas.List.{append-nil}
use Rattle.std.specs.Prelude.{⊤}
use Rattle.std.specs.Option.{option_map}
use Rattle.edi_calls.specs.Names.{same}
use Rattle.edi_calls.proofs.Tables.{same-refl, same-equal}
use Rattle.edi_unit.specs.Types.{Shape}
use Rattle.edi_unit.specs.Tree as tree
use Rattle.edi_unit.specs.Tree.{Act, if_act, while_act, when_act, Acts, no_act, act_then, clause, Clauses, no_clause, clause_then, Block, ProgramUnit}
use Rattle.edi_unit.specs.Need.{block_at}
use Rattle.edi_meaning.specs.Step.{Position}
use Rattle.edi_scheme.specs.Pieces.{ClauseKind, once, repeated, released, close_code, code_length}
use Rattle.edi_scheme.specs.Lengths.{expression_length, act_length, clause_length}
use Rattle.edi_scheme.specs.Sites.{Site, statements, statement, nothing_there, nth_statement, nth_list, into, led, body_start, body_site, site_in}
use Rattle.edi_scheme.specs.Awaits.{act_paths, acts_paths, clauses_paths, await_paths, place_of, act_awaits, acts_awaits, clauses_awaits, block_awaits}
use Rattle.edi_scheme.proofs.Sites.{led_behind}

-- ---- lists side by side

module _ (P : List ℕ → ℕ → Type 0) where
  abbrev Fit : List (List ℕ) → List ℕ → Type 0
  Fit [] [] = ⊤
  Fit (p ∷ ps) (a ∷ as') = P p a × Fit ps as'
  Fit _ _ = ⊥

  fit_append : (ps qs : List (List ℕ)) (as' bs : List ℕ) → Fit ps as' → Fit qs bs → Fit (ps ++ qs) (as' ++ bs)
  fit_append [] qs [] bs h k = k
  fit_append [] qs (a ∷ as') bs h k = absurd h
  fit_append (p ∷ ps) qs [] bs h k = absurd h
  fit_append (p ∷ ps) qs (a ∷ as') bs h k = (h.0, fit_append ps qs as' bs h.1 k)

  -- the address with the number of a path
  fit_at : (ps : List (List ℕ)) (as' : List ℕ) (path : List ℕ) (i : ℕ) → Fit ps as' → place_of ps path ≡ Some i →
      (a : ℕ) × (slice_get as' i ≡ Some a) × P path a
  fit_at [] as' path i h e = absurd (cc)
  fit_at (p ∷ ps) [] path i h e = absurd h
  fit_at (p ∷ ps) (a ∷ as') path i h e = go (same p path) refl e (λ j f. fit_at ps as' path j h.1 f)
    where
      behind : (o : Option ℕ) → place_of ps path ≡ o → option_map suc o ≡ Some i →
          ((j : ℕ) → place_of ps path ≡ Some j → (a : ℕ) × (slice_get as' j ≡ Some a) × P path a) →
          (c : ℕ) × (slice_get (a ∷ as') i ≡ Some c) × P path c
      behind None f e k = absurd (cc)
      behind (Some j) f e k =
          let one : suc j ≡ i = (cc) in
          let rest : (c : ℕ) × (slice_get as' j ≡ Some c) × P path c = k j f in
          (rest.0, subst (λ k. slice_get (a ∷ as') k ≡ Some rest.0) one rest.1, rest.2)

      go : (b : Bool) → same p path ≡ b → (if b then Some 0 else option_map suc (place_of ps path)) ≡ Some i →
          ((j : ℕ) → place_of ps path ≡ Some j → (a : ℕ) × (slice_get as' j ≡ Some a) × P path a) →
          (c : ℕ) × (slice_get (a ∷ as') i ≡ Some c) × P path c
      go true b e k = let zero_is : 0 ≡ i = (cc) in (
        a,
        subst (λ k. slice_get (a ∷ as') k ≡ Some a) zero_is refl,
        subst (λ q. P q a) (same-equal p path b) h.0,
      )
      go false b e k = behind (place_of ps path) refl e k

-- ---- a path that is found

abbrev Found : List (List ℕ) → List ℕ → Type 0
Found ps path = (i : ℕ) × (place_of ps path ≡ Some i)

found_first : (p : List ℕ) (ps : List (List ℕ)) (path : List ℕ) → p ≡ path → Found (p ∷ ps) path
found_first p ps path e = (
  0,
  ap (λ b. if b then Some 0 else option_map suc (place_of ps path)) (ap (same p) (sym e) ∙ same-refl p),
)

found_behind : (p : List ℕ) (ps : List (List ℕ)) (path : List ℕ) → Found ps path → Found (p ∷ ps) path
found_behind p ps path h = go (same p path) refl
  where
    go : (b : Bool) → same p path ≡ b → Found (p ∷ ps) path
    go true e = (0, ap (λ b. if b then Some 0 else option_map suc (place_of ps path)) e)
    go false e = (suc h.0, ap (λ b. if b then Some 0 else option_map suc (place_of ps path)) e ∙ ap (option_map suc) h.1)

found_left : (ps qs : List (List ℕ)) (path : List ℕ) → Found ps path → Found (ps ++ qs) path
found_left [] qs path h = absurd (cc)
found_left (p ∷ ps) qs path h = go (same p path) refl h.1 (λ j f. found_left ps qs path (j, f))
  where
    behind : (o : Option ℕ) → place_of ps path ≡ o → option_map suc o ≡ Some h.0 → ((j : ℕ) → place_of ps path ≡ Some j → Found (ps ++ qs) path) →
        Found (p ∷ (ps ++ qs)) path
    behind None f e k = absurd (cc)
    behind (Some j) f e k = found_behind p (ps ++ qs) path (k j f)

    go : (b : Bool) → same p path ≡ b → (if b then Some 0 else option_map suc (place_of ps path)) ≡ Some h.0 →
        ((j : ℕ) → place_of ps path ≡ Some j → Found (ps ++ qs) path) → Found (p ∷ (ps ++ qs)) path
    go true b e k = found_first p (ps ++ qs) path (same-equal p path b)
    go false b e k = behind (place_of ps path) refl e k

found_right : (ps qs : List (List ℕ)) (path : List ℕ) → Found qs path → Found (ps ++ qs) path
found_right [] qs path h = h
found_right (p ∷ ps) qs path h = found_behind p (ps ++ qs) path (found_right ps qs path h)

module _ (types : List Shape) (blocks : List Block) (b : ℕ) where
  -- the path leads to a `when`, at which a process stands there
  pub record IsWhenAt (path : List ℕ) (a : ℕ) : Type 0 where
    pub clauses : Clauses
    pub line : ℕ
    pub at : ℕ
    pub leads : led types blocks b (body_site types blocks b) path ≡ statement (when_act clauses line) at
    pub behind : a ≡ at + 2

  -- ---- each path leads to a `when`, and the address with its number is that of this `when`

  abbrev Goes : List ℕ → Site
  Goes path = led types blocks b (body_site types blocks b) path

  abbrev Fits : List (List ℕ) → List ℕ → Type 0
  Fits = Fit IsWhenAt

  goes_on : (path : List ℕ) (n : ℕ) (x : Site) → into types blocks b (Goes path) n ≡ x → Goes (path ++ n ∷ []) ≡ x
  goes_on path n x e = led_behind types blocks b (body_site types blocks b) path n ∙ e

  numbered : (k j : ℕ) → j ≡ 0 + k → j ≡ k
  numbered k j i = omega (arith, i)

  mutual
    act_fits : (a : Act) (at : ℕ) (path : List ℕ) → Goes path ≡ statement a at → Fits (act_paths a path) (act_awaits types blocks b a at)
    act_fits tree.skip at path e = tt
    act_fits (tree.assign p x) at path e = tt
    act_fits (tree.call c xs line) at path e = tt
    act_fits (tree.halt line) at path e = tt
    act_fits (tree.cobegin bs line) at path e = tt
    act_fits (if_act cs) at path e =
        clauses_fits once cs at path 0 (λ k j i. ap (λ x. into types blocks b x j) e ∙ ap (nth_list types blocks b once cs at) (numbered k j i))
    act_fits (while_act cs) at path e =
        clauses_fits repeated cs at path 0 (λ k j i. ap (λ x. into types blocks b x j) e ∙ ap (nth_list types blocks b repeated cs at) (numbered k j i))
    act_fits (when_act cs line) at path e = (
      record { clauses = cs; line = line; at = at; leads = e; behind = refl },
      clauses_fits released cs (at + 2) path 0
          (λ k j i. ap (λ x. into types blocks b x j) e ∙ ap (nth_list types blocks b released cs (at + 2)) (numbered k j i)),
    )

    acts_fits : (s : Acts) (at : ℕ) (path : List ℕ) (n : ℕ) →
        ((k j : ℕ) → j ≡ n + k → into types blocks b (Goes path) j ≡ nth_statement types blocks b s at k) →
        Fits (acts_paths s path n) (acts_awaits types blocks b s at)
    acts_fits no_act at path n h = tt
    acts_fits (act_then a s) at path n h =
        fit_append IsWhenAt (act_paths a (path ++ n ∷ [])) (acts_paths s path (suc n)) (act_awaits types blocks b a at)
        (acts_awaits types blocks b s (at + act_length types blocks b a))
        (act_fits a at (path ++ n ∷ []) (goes_on path n (statement a at) (h 0 n (omega arith))))
        (acts_fits s (at + act_length types blocks b a) path (suc n) (λ k j i. h (suc k) j (omega (arith, i))))

    clauses_fits : (kind : ClauseKind) (cs : Clauses) (at : ℕ) (path : List ℕ) (n : ℕ) →
        ((k j : ℕ) → j ≡ n + k → into types blocks b (Goes path) j ≡ nth_list types blocks b kind cs at k) →
        Fits (clauses_paths cs path n) (clauses_awaits types blocks b kind cs at)
    clauses_fits kind no_clause at path n h = tt
    clauses_fits kind (clause_then (clause e s) cs) at path n h =
        let inner : ℕ = at + expression_length types blocks b e + 3 in
        let next : ℕ = at + clause_length types blocks b (clause e s) + code_length (close_code kind 0 cs) in
        fit_append IsWhenAt (acts_paths s (path ++ n ∷ []) 0) (clauses_paths cs path (suc n)) (acts_awaits types blocks b s inner)
        (clauses_awaits types blocks b kind cs next)
        (acts_fits s inner (path ++ n ∷ []) 0
        (λ k j i. ap (λ x. into types blocks b x j) (goes_on path n (statements s inner) (h 0 n (omega arith)))
        ∙ ap (nth_statement types blocks b s inner) (numbered k j i)))
        (clauses_fits kind cs next path (suc n) (λ k j i. h (suc k) j (omega (arith, i))))

  pub paths_fit : Fits (await_paths blocks b) (block_awaits types blocks b)
  paths_fit =
      acts_fits (block_at blocks b).body (body_start types blocks b) [] 0
      (λ k j i. ap (nth_statement types blocks b (block_at blocks b).body (body_start types blocks b)) (numbered k j i))

  -- ---- each path that leads to a `when` is one of these

  led_nothing : (path : List ℕ) → led types blocks b nothing_there path ≡ nothing_there
  led_nothing [] = refl
  led_nothing (n ∷ path) = led_nothing path

  module _ (of : Clauses) (line q : ℕ) where
    abbrev Comes : Site → List ℕ → Type 0
    Comes x path = led types blocks b x path ≡ statement (when_act of line) q

    no_way : (path : List ℕ) → Comes nothing_there path → ⊥
    no_way path e = let f : nothing_there ≡ statement (when_act of line) q = sym (led_nothing path) ∙ e in absurd (cc)

    mutual
      act_found : (a : Act) (at : ℕ) (path rest : List ℕ) → Comes (statement a at) rest → Found (act_paths a path) (path ++ rest)
      act_found (if_act cs) at path [] e = absurd (cc)
      act_found (if_act cs) at path (n ∷ rest) e = clauses_found once cs at path 0 n n rest (omega arith) e
      act_found (while_act cs) at path [] e = absurd (cc)
      act_found (while_act cs) at path (n ∷ rest) e = clauses_found repeated cs at path 0 n n rest (omega arith) e
      act_found (when_act cs l) at path [] e = found_first path (clauses_paths cs path 0) (path ++ []) (sym (append-nil path))
      act_found (when_act cs l) at path (n ∷ rest) e =
          found_behind path (clauses_paths cs path 0) (path ++ n ∷ rest) (clauses_found released cs (at + 2) path 0 n n rest (omega arith) e)
      act_found tree.skip at path [] e = absurd (cc)
      act_found tree.skip at path (n ∷ rest) e = absurd (no_way rest e)
      act_found (tree.assign p x) at path [] e = absurd (cc)
      act_found (tree.assign p x) at path (n ∷ rest) e = absurd (no_way rest e)
      act_found (tree.call c xs l) at path [] e = absurd (cc)
      act_found (tree.call c xs l) at path (n ∷ rest) e = absurd (no_way rest e)
      act_found (tree.halt l) at path [] e = absurd (cc)
      act_found (tree.halt l) at path (n ∷ rest) e = absurd (no_way rest e)
      act_found (tree.cobegin bs l) at path [] e = absurd (cc)
      act_found (tree.cobegin bs l) at path (n ∷ rest) e = absurd (no_way rest e)

      acts_found : (s : Acts) (at : ℕ) (path : List ℕ) (n m k : ℕ) (rest : List ℕ) → k ≡ n + m → Comes (nth_statement types blocks b s at m) rest →
          Found (acts_paths s path n) (path ++ k ∷ rest)
      acts_found no_act at path n m k rest i e = absurd (no_way rest e)
      acts_found (act_then a s) at path n zero k rest i e =
          let same_number : n ≡ k = omega (arith, i) in
          found_left (act_paths a (path ++ n ∷ [])) (acts_paths s path (suc n)) (path ++ k ∷ rest)
          (subst (Found (act_paths a (path ++ n ∷ []))) (append_assoc path (n ∷ []) rest ∙ ap (λ j. path ++ j ∷ rest) same_number)
          (act_found a at (path ++ n ∷ []) rest e))
      acts_found (act_then a s) at path n (suc m) k rest i e =
          found_right (act_paths a (path ++ n ∷ [])) (acts_paths s path (suc n)) (path ++ k ∷ rest)
          (acts_found s (at + act_length types blocks b a) path (suc n) m k rest (omega (arith, i)) e)

      clauses_found : (kind : ClauseKind) (cs : Clauses) (at : ℕ) (path : List ℕ) (n m k : ℕ) (rest : List ℕ) → k ≡ n + m →
          Comes (nth_list types blocks b kind cs at m) rest → Found (clauses_paths cs path n) (path ++ k ∷ rest)
      clauses_found kind no_clause at path n m k rest i e = absurd (no_way rest e)
      clauses_found kind (clause_then (clause x s) cs) at path n zero k [] i e = absurd (cc)
      clauses_found kind (clause_then (clause x s) cs) at path n zero k (j ∷ rest) i e =
          let same_number : n ≡ k = omega (arith, i) in
          found_left (acts_paths s (path ++ n ∷ []) 0) (clauses_paths cs path (suc n)) (path ++ k ∷ j ∷ rest)
          (subst (Found (acts_paths s (path ++ n ∷ []) 0)) (append_assoc path (n ∷ []) (j ∷ rest) ∙ ap (λ y. path ++ y ∷ j ∷ rest) same_number)
          (acts_found s (at + expression_length types blocks b x + 3) (path ++ n ∷ []) 0 j j rest (omega arith) e))
      clauses_found kind (clause_then (clause x s) cs) at path n (suc m) k rest i e =
          found_right (acts_paths s (path ++ n ∷ []) 0) (clauses_paths cs path (suc n)) (path ++ k ∷ rest)
          (clauses_found kind cs (at + clause_length types blocks b (clause x s) + code_length (close_code kind 0 cs)) path (suc n) m k rest
          (omega (arith, i)) e)

    await_found : (path : List ℕ) → Comes (body_site types blocks b) path → Found (await_paths blocks b) path
    await_found [] e = absurd (cc)
    await_found (n ∷ rest) e = acts_found (block_at blocks b).body (body_start types blocks b) [] 0 n n rest (omega arith) e

    -- THE NUMBER of a `when`, and its address
    pub await_stands : (path : List ℕ) → Comes (body_site types blocks b) path →
        (i : ℕ) × (place_of (await_paths blocks b) path ≡ Some i) × (slice_get (block_awaits types blocks b) i ≡ Some (q + 2))
    await_stands path e =
        let f : Found (await_paths blocks b) path = await_found path e in
        let x : (a : ℕ) × (slice_get (block_awaits types blocks b) f.0 ≡ Some a) × IsWhenAt path a =
        fit_at IsWhenAt (await_paths blocks b) (block_awaits types blocks b) path f.0 paths_fit f.1 in
        let one : statement (when_act x.2.clauses x.2.line) x.2.at ≡ statement (when_act of line) q = sym x.2.leads ∙ e in
        (f.0, f.1, x.1 ∙ ap (λ y. Some y) (x.2.behind ∙ ap (λ y. y + 2) (address_of one)))
      where
        address_of : {a c : Act} {m n : ℕ} → statement a m ≡ statement c n → m ≡ n
        address_of h = cc
