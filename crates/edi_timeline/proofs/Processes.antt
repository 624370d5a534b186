-- The processes of rows: a row leads to earlier ones, so its name is that of the row that bore its process, with a fork and a branch more.
use Rattle.std.proofs.Common.{◌≡◌, ◌≤◌, ◌<◌, ℕ, zero, suc, ◌+◌, ◌-◌, ◌==◌, nat_eq, Bool, true, false, ◌&&◌, if◌then◌else◌, List, [], ◌∷◌, ◌++◌, refl, ap, sym, ◌∙◌}
use Rattle.std.proofs.Common.{arith, append_assoc, length, length-append, ◌||◌, not}
use Rattle.std.specs.Prelude.{take}
use Rattle.std.proofs.lemmas.Bool.{ne_eqb, eq-eqb, eqb-true, eqb-false}
use Rattle.edi_calls.specs.Names.{Name, same}
use Rattle.edi_calls.specs.Ready.{parent_of}
use Rattle.edi_timeline.specs.declared.rows.Row.{Row}
use Rattle.edi_timeline.specs.Told.{name_of, path_in, path_of, process_in, numbered, AreRows}
use Rattle.edi_timeline.proofs.Naming.{path_ends, path_more}

-- ---- the same name

none_same : (xs : Name) (u : ℕ) (ys : Name) → same [] (xs ++ u ∷ ys) ≡ false
none_same [] u ys = refl
none_same (x ∷ xs) u ys = refl

same_none : (xs : Name) (u : ℕ) (ys : Name) → same (xs ++ u ∷ ys) [] ≡ false
same_none [] u ys = refl
same_none (x ∷ xs) u ys = refl

and_true : (b : Bool) → b && true ≡ b
and_true true = refl
and_true false = refl

and_false : (b : Bool) → b && false ≡ false
and_false true = refl
and_false false = refl

and_assoc : (a b c : Bool) → a && (b && c) ≡ (a && b) && c
and_assoc true b c = refl
and_assoc false b c = refl

last_same : (xs ys : Name) (u w : ℕ) → same (xs ++ u ∷ []) (ys ++ w ∷ []) ≡ same xs ys && nat_eq u w
last_same [] [] u w = and_true (nat_eq u w)
last_same [] (y ∷ ys) u w = ap (λ b. nat_eq u y && b) (none_same ys w []) ∙ and_false (nat_eq u y)
last_same (x ∷ xs) [] u w = ap (λ b. nat_eq x w && b) (same_none xs u []) ∙ and_false (nat_eq x w)
last_same (x ∷ xs) (y ∷ ys) u w = ap (λ b. nat_eq x y && b) (last_same xs ys u w) ∙ and_assoc (nat_eq x y) (same xs ys) (nat_eq u w)

pub two_same : (xs ys : Name) (u v w z : ℕ) → same (xs ++ u ∷ v ∷ []) (ys ++ w ∷ z ∷ []) ≡ (same xs ys && nat_eq u w) && nat_eq v z
two_same xs ys u v w z =
    ap (λ l. same l (ys ++ w ∷ z ∷ [])) (sym (append_assoc xs (u ∷ []) (v ∷ [])))
    ∙ ap (same ((xs ++ u ∷ []) ++ v ∷ [])) (sym (append_assoc ys (w ∷ []) (z ∷ [])))
    ∙ last_same (xs ++ u ∷ []) (ys ++ w ∷ []) v z
    ∙ ap (λ b. b && nat_eq v z) (last_same xs ys u w)

-- ---- names of rows

-- enough levels are enough
pub levels : (rows : List Row) → ((n : ℕ) → (numbered rows n).born ≤ n - 1) → (n m : ℕ) (r : Row) → r.born ≤ n → r.born ≤ m → path_in rows n r ≡ path_in rows m r
levels rows born zero m r le me = sym (path_ends rows m r (omega (arith, le)))
levels rows born (suc n) zero r le me = path_ends rows (suc n) r (omega (arith, me))
levels rows born (suc n) (suc m) r le me =
    ap (λ path. if r.born == 0 then [] else (r.fork, r.branch) ∷ path)
    (levels rows born n m (numbered rows r.born) (omega (arith, le, born r.born)) (omega (arith, me, born r.born)))

pub process_first : (rows : List Row) (r : Row) → r.born ≡ 0 → process_in rows r ≡ []
unfolding path_of
process_first rows r e = ap name_of (path_ends rows r.born r e)

pub process_more : (rows : List Row) → ((n : ℕ) → (numbered rows n).born ≤ n - 1) → (r : Row) → (r.born ≡ 0 → ⊥) →
    process_in rows r ≡ process_in rows (numbered rows r.born) ++ r.fork ∷ r.branch ∷ []
unfolding path_of
process_more rows born r some =
    let parent : Row = numbered rows r.born in
    let one : r.born ≡ suc (r.born - 1) = omega (arith, some) in
    ap name_of
    (ap (λ n. path_in rows n r) one
    ∙ path_more rows (r.born - 1) r some
    ∙ ap (λ path. (r.fork, r.branch) ∷ path) (levels rows born (r.born - 1) parent.born parent (born r.born) (omega arith)))

-- ---- whether two rows are of one process

module _ (rows : List Row) (born : (n : ℕ) → (numbered rows n).born ≤ n - 1) where
  -- where one of them is of the first
  pub first_same : (x y : Row) → x.born ≡ 0 → same (process_in rows x) (process_in rows y) ≡ (x.born == y.born)
  first_same x y e = go (y.born == 0) refl
    where
      go : (b : Bool) → (y.born == 0) ≡ b → same (process_in rows x) (process_in rows y) ≡ (x.born == y.born)
      go true f =
          let zero_born : y.born ≡ 0 = eqb-true y.born 0 f in
          ap (λ p. same p (process_in rows y)) (process_first rows x e) ∙ ap (same []) (process_first rows y zero_born)
          ∙ sym (eq-eqb x.born y.born (omega (arith, e, zero_born)))
      go false f =
          let some : y.born ≡ 0 → ⊥ = eqb-false y.born 0 f in
          ap (λ p. same p (process_in rows y)) (process_first rows x e)
          ∙ ap (same []) (process_more rows born y some)
          ∙ none_same (process_in rows (numbered rows y.born)) y.fork (y.branch ∷ [])
          ∙ sym (ne_eqb x.born y.born (λ z. some (omega (arith, e, z))))

  pub same_first : (x y : Row) → y.born ≡ 0 → same (process_in rows x) (process_in rows y) ≡ (x.born == y.born)
  same_first x y e = go (x.born == 0) refl
    where
      go : (b : Bool) → (x.born == 0) ≡ b → same (process_in rows x) (process_in rows y) ≡ (x.born == y.born)
      go true f = first_same x y (eqb-true x.born 0 f)
      go false f =
          let some : x.born ≡ 0 → ⊥ = eqb-false x.born 0 f in
          ap (λ p. same p (process_in rows y)) (process_more rows born x some)
          ∙ ap (same (process_in rows (numbered rows x.born) ++ x.fork ∷ x.branch ∷ [])) (process_first rows y e)
          ∙ same_none (process_in rows (numbered rows x.born)) x.fork (x.branch ∷ [])
          ∙ sym (ne_eqb x.born y.born (λ z. some (omega (arith, e, z))))

  -- of two that are born so
  pub both_born : (x y : Row) → (x.born ≡ 0 → ⊥) → (y.born ≡ 0 → ⊥) →
      same (process_in rows x) (process_in rows y)
      ≡ (same (process_in rows (numbered rows x.born)) (process_in rows (numbered rows y.born)) && nat_eq x.fork y.fork) && nat_eq x.branch y.branch
  both_born x y some others =
      ap (λ p. same p (process_in rows y)) (process_more rows born x some)
      ∙ ap (same (process_in rows (numbered rows x.born) ++ x.fork ∷ x.branch ∷ [])) (process_more rows born y others)
      ∙ two_same (process_in rows (numbered rows x.born)) (process_in rows (numbered rows y.born)) x.fork x.branch y.fork y.branch

  pub other_fork : (x y : Row) → (x.born ≡ 0 → ⊥) → (y.born ≡ 0 → ⊥) → (x.fork ≡ y.fork → ⊥) → false ≡ same (process_in rows x) (process_in rows y)
  other_fork x y some others e =
      let s : Bool = same (process_in rows (numbered rows x.born)) (process_in rows (numbered rows y.born)) in
      sym (both_born x y some others ∙ ap (λ c. (s && c) && nat_eq x.branch y.branch) (ne_eqb x.fork y.fork e) ∙ ap (λ c. c && nat_eq x.branch y.branch) (and_false s))

  pub other_branch : (x y : Row) → (x.born ≡ 0 → ⊥) → (y.born ≡ 0 → ⊥) → (x.branch ≡ y.branch → ⊥) → false ≡ same (process_in rows x) (process_in rows y)
  other_branch x y some others e =
      let s : Bool = same (process_in rows (numbered rows x.born)) (process_in rows (numbered rows y.born)) in
      sym (both_born x y some others ∙ ap (λ c. (s && nat_eq x.fork y.fork) && c) (ne_eqb x.branch y.branch e) ∙ and_false (s && nat_eq x.fork y.fork))

  pub further : (x y : Row) → (x.born ≡ 0 → ⊥) → (y.born ≡ 0 → ⊥) → x.fork ≡ y.fork → x.branch ≡ y.branch →
      same (process_in rows (numbered rows x.born)) (process_in rows (numbered rows y.born)) ≡ same (process_in rows x) (process_in rows y)
  further x y some others f i =
      let s : Bool = same (process_in rows (numbered rows x.born)) (process_in rows (numbered rows y.born)) in
      sym (both_born x y some others ∙ ap (λ c. (s && c) && nat_eq x.branch y.branch) (eq-eqb x.fork y.fork f)
      ∙ ap (λ c. (s && true) && c) (eq-eqb x.branch y.branch i) ∙ and_true (s && true) ∙ and_true s)

-- ---- the parent

pub parent_first : (rows : List Row) (r : Row) → r.born ≡ 0 → parent_of (process_in rows r) ≡ process_in rows r
parent_first rows r e = ap parent_of (process_first rows r e) ∙ sym (process_first rows r e)

take_front : (xs ys : Name) → take (length (xs ++ ys) - length ys) (xs ++ ys) ≡ xs
take_front [] ys = ap (λ n. take n ys) (let e : length ys - length ys ≡ 0 = omega arith in e)
take_front (x ∷ xs) ys =
    let e : suc (length (xs ++ ys)) - length ys ≡ suc (length (xs ++ ys) - length ys) = omega (arith, length-append xs ys) in
    ap (λ n. take n (x ∷ (xs ++ ys))) e ∙ ap (λ l. x ∷ l) (take_front xs ys)

pub parent_named : (name : Name) (f i : ℕ) → parent_of (name ++ f ∷ i ∷ []) ≡ name
parent_named name f i = take_front name (f ∷ i ∷ [])

pub parent_more : (rows : List Row) → ((n : ℕ) → (numbered rows n).born ≤ n - 1) → (r : Row) → (r.born ≡ 0 → ⊥) →
    parent_of (process_in rows r) ≡ process_in rows (numbered rows r.born)
parent_more rows born r some = ap parent_of (process_more rows born r some) ∙ parent_named (process_in rows (numbered rows r.born)) r.fork r.branch
