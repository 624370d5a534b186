-- Parents wait for their children, and for no others.
use Rattle.std.proofs.Common.{◌≡◌, ℕ, zero, suc, ◌+◌, ◌-◌, ◌<◌, ◌⊎◌, inl, inr, Bool, true, false, not, ◌||◌, ◌&&◌, if◌then◌else◌, List, [], ◌∷◌, ◌++◌}
use Rattle.std.proofs.Common.{length, length-append, Option, Some, None, refl, sym, subst, ap, ◌∙◌, arith}
use Rattle.std.proofs.lemmas.List.{length-take, nil_from_length}
use Rattle.edi_calls.specs.Names.{Name, Table, same, find, with_at, without, names}
use Rattle.edi_calls.specs.Ready.{child, parent_of, has}
use Rattle.edi_calls.proofs.Tables.{same-refl, same-equal, same-or-other, same-symmetric, find-with_at-same, find-with_at-other, find-without-same}
use Rattle.edi_calls.proofs.Tables.{find-without-other}
use Rattle.edi_meaning.specs.Step.{Standing, waiting, Process, awaits}
use Rattle.edi_meaning.specs.Permitted.{is_running}
use Rattle.edi_meaning.specs.Laws.{is_child, children_in, IsWaiting}
use Rattle.edi_calls.proofs.Names.{some_is, no_some, parent-child, Once}
use Rattle.edi_meaning.proofs.Sound.{once-append, not_true, right_false}

-- ---- names of a table

is_found : {A : Type 0} → Option A → Bool
is_found None = false
is_found (Some a) = true

true_false : true ≡ false → ⊥
true_false h = cc

module _ {A : Type 0} where
  has-names : (t : Table A) (r : Name) → has (names t) r ≡ is_found (find t r)
  unfolding is_found
  has-names [] r = refl
  has-names (entry ∷ t) r = go (same r entry.0) (has-names t r)
    where
      go : (b : Bool) → has (names t) r ≡ is_found (find t r) → (b || has (names t) r) ≡ is_found (if b then Some entry.1 else find t r)
      go true h = refl
      go false h = h

  not_found : (t : Table A) (r : Name) → find t r ≡ None → has (names t) r ≡ false
  unfolding is_found
  not_found t r e = has-names t r ∙ ap is_found e

  pub has-found : (t : Table A) (r : Name) (a : A) → find t r ≡ Some a → has (names t) r ≡ true
  unfolding is_found
  has-found t r a e = has-names t r ∙ ap is_found e

  pub found_of : (t : Table A) (r : Name) → has (names t) r ≡ true → (a : A) × (find t r ≡ Some a)
  found_of t r h = go (find t r) refl
    where
      go : (x : Option A) → find t r ≡ x → (a : A) × (find t r ≡ Some a)
      go None e = absurd (true_false (sym h ∙ not_found t r e))
      go (Some a) e = (a, e)

  -- a new value of a name that has one
  pub names-with_at : (t : Table A) (p : Name) (a b : A) → find t p ≡ Some b → names (with_at t p a) ≡ names t
  names-with_at [] p a b e = cc
  names-with_at (entry ∷ t) p a b e = go (same p entry.0) e (names-with_at t p a b)
    where
      go : (c : Bool) → (if c then Some entry.1 else find t p) ≡ Some b → (find t p ≡ Some b → names (with_at t p a) ≡ names t)
          → names (if c then (entry.0, a) ∷ t else entry ∷ with_at t p a) ≡ (entry.0 ∷ names t)
      go true f h = refl
      go false f h = ap (λ l. entry.0 ∷ l) (h f)

  -- a new name
  pub names-with_new : (t : Table A) (p : Name) (a : A) → find t p ≡ None → names (with_at t p a) ≡ names t ++ p ∷ []
  names-with_new [] p a e = refl
  names-with_new (entry ∷ t) p a e = go (same p entry.0) e (names-with_new t p a)
    where
      go : (c : Bool) → (if c then Some entry.1 else find t p) ≡ None → (find t p ≡ None → names (with_at t p a) ≡ names t ++ p ∷ [])
          → names (if c then (entry.0, a) ∷ t else entry ∷ with_at t p a) ≡ (entry.0 ∷ names t) ++ p ∷ []
      go true f h = cc
      go false f h = ap (λ l. entry.0 ∷ l) (h f)

  pub once-new : (t : Table A) (p : Name) (a : A) → find t p ≡ None → Once (names t) → Once (names (with_at t p a))
  once-new t p a e o =
      subst Once (sym (names-with_new t p a e))
      (once-append (names t) (p ∷ []) o (refl, tt)
      (λ x h. not_true (has (p ∷ []) x) (λ k. true_false (sym h ∙ ap (has (names t)) (is_one x k) ∙ not_found t p e))))
    where
      is_one : (x : Name) → has (p ∷ []) x ≡ true → x ≡ p
      is_one x k = same-equal x p (sym (right_false (same x p)) ∙ k)

  pub once-without : (t : Table A) (p : Name) → Once (names t) → Once (names (without t p))
  once-without [] p o = tt
  once-without (entry ∷ t) p o = go (same p entry.0) refl (once-without t p o.1)
    where
      go : (c : Bool) → same p entry.0 ≡ c → Once (names (without t p)) → Once (names (if c then without t p else entry ∷ without t p))
      go true e h = h
      go false e h = (
        has-names (without t p) entry.0 ∙ ap is_found (find-without-other t p entry.0 (same-symmetric p entry.0 e)) ∙ sym (has-names t entry.0)
            ∙ o.0,
        h,
      )

-- ---- counting children

-- 1 where r is a child of p
abbrev pub one_if : Bool → ℕ
one_if true = 1
one_if false = 0

count_first : (b : Bool) (n : ℕ) → (if b then suc n else n) ≡ n + one_if b
count_first true n = omega arith
count_first false n = omega arith

pub children-append : (xs ys : List Name) (p : Name) → children_in (xs ++ ys) p ≡ children_in xs p + children_in ys p
children-append [] ys p = omega arith
children-append (x ∷ xs) ys p =
    omega (arith, count_first (is_child x p) (children_in (xs ++ ys) p), count_first (is_child x p) (children_in xs p), children-append xs ys p)

pub children-one : (r p : Name) → children_in (r ∷ []) p ≡ one_if (is_child r p)
children-one r p = omega (arith, count_first (is_child r p) 0)

no_children_in : (ns : List Name) (p : Name) → ((r : Name) → has ns r ≡ true → is_child r p ≡ false) → children_in ns p ≡ 0
no_children_in [] p h = refl
no_children_in (r ∷ rs) p h =
    ap (λ b. if b then suc (children_in rs p) else children_in rs p) (h r (ap (λ b. b || has rs r) (same-refl r)))
    ∙ no_children_in rs p (λ x k. h x (later (same x r) (has rs x) k))
  where
    later : (a b : Bool) → b ≡ true → (a || b) ≡ true
    later true b e = refl
    later false b e = e

some_children_in : (ns : List Name) (r p : Name) → has ns r ≡ true → is_child r p ≡ true → 0 < children_in ns p
some_children_in [] r p h k = absurd (true_false (sym h))
some_children_in (x ∷ xs) r p h k = go (some_children_in xs r p) (same-or-other r x)
  where
    go : (has xs r ≡ true → is_child r p ≡ true → 0 < children_in xs p) → (r ≡ x) ⊎ (same r x ≡ false)
        → 0 < (if is_child x p then suc (children_in xs p) else children_in xs p)
    go ih (inl e) = omega (arith, ap (λ b. if b then suc (children_in xs p) else children_in xs p) (sym (ap (λ y. is_child y p) e) ∙ k))
    go ih (inr n) = omega (arith, count_first (is_child x p) (children_in xs p), ih (sym (ap (λ b. b || has xs r) n) ∙ h) k)

module _ {A : Type 0} where
  names-without_none : (t : Table A) (c : Name) → has (names t) c ≡ false → names (without t c) ≡ names t
  names-without_none [] c h = refl
  names-without_none (x ∷ xs) c h = go (same c x.0) h (names-without_none xs c)
    where
      go : (b : Bool) → (b || has (names xs) c) ≡ false → (has (names xs) c ≡ false → names (without xs c) ≡ names xs)
          → names (if b then without xs c else x ∷ without xs c) ≡ (x.0 ∷ names xs)
      go true k ih = absurd (true_false k)
      go false k ih = ap (λ l. x.0 ∷ l) (ih k)

  -- one child less, where a child is taken out
  children-without : (t : Table A) (c p : Name) (a : A) → find t c ≡ Some a → Once (names t) → children_in (names (without t c)) p + one_if (is_child c p)
      ≡ children_in (names t) p
  children-without [] c p a e o = cc
  children-without (entry ∷ t) c p a e o = go (same c entry.0) refl e (children-without t c p a)
    where
      go : (b : Bool) → same c entry.0 ≡ b → (if b then Some entry.1 else find t c) ≡ Some a
          → (find t c ≡ Some a → Once (names t) → children_in (names (without t c)) p + one_if (is_child c p) ≡ children_in (names t) p) →
          children_in (names (if b then without t c else entry ∷ without t c)) p + one_if (is_child c p) ≡ children_in (entry.0 ∷ names t) p
      go true s f ih =
          let q : c ≡ entry.0 = same-equal c entry.0 s in
          let rest : children_in (names (without t c)) p ≡ children_in (names t) p = ap (λ l. children_in l p)
          (names-without_none t c (ap (has (names t)) q ∙ o.0)) in
          let which : one_if (is_child c p) ≡ one_if (is_child entry.0 p) = ap (λ y. one_if (is_child y p)) q in
          omega (arith, rest, which, count_first (is_child entry.0 p) (children_in (names t) p))
      go false s f ih =
          omega (
            arith,
            ih f o.1,
            count_first (is_child entry.0 p) (children_in (names t) p),
            count_first (is_child entry.0 p) (children_in (names (without t c)) p),
          )

-- ---- who is whose child

pub child_differs : (p : Name) (f i : ℕ) → same (child p f i) p ≡ false
child_differs p f i = go (same-or-other (child p f i) p)
  where
    go : (child p f i ≡ p) ⊎ (same (child p f i) p ≡ false) → same (child p f i) p ≡ false
    go (inl e) = let l : length (child p f i) ≡ length p = ap length e in absurd (omega (arith, l, length-append p (f ∷ i ∷ [])))
    go (inr n) = n

pub child_is_child : (p : Name) (f i : ℕ) → is_child (child p f i) p ≡ true
child_is_child p f i = ap (λ x. same x p && not (same (child p f i) p)) (parent-child p f i) ∙ ap (λ b. b && not (same (child p f i) p)) (same-refl p)
    ∙ ap not (child_differs p f i)

pub not_child_of : (r p : Name) → same (parent_of r) p ≡ false → is_child r p ≡ false
not_child_of r p n = ap (λ b. b && not (same r p)) n

-- the first process is nobody's child
first_no_child : (p : Name) → is_child [] p ≡ false
first_no_child p = go (same [] p)
  where
    go : (b : Bool) → (b && not b) ≡ false
    go true = refl
    go false = refl

-- who is its own parent is the first process
own_parent : (r : Name) → parent_of r ≡ r → r ≡ []
own_parent r e = let l : length (parent_of r) ≡ length r = ap length e in nil_from_length r (omega (arith, l, length-take (length r - 2) r))

-- ---- families

pub record Family (live : Table Process) : Type 0 where
  pub once : Once (names live)
  pub parents : (r : Name) (q : Process) → find live r ≡ Some q → (r ≡ []) ⊎ IsWaiting live (parent_of r)
  pub counts : (p : Name) (q : Process) (n : ℕ) → find live p ≡ Some q → q.standing ≡ waiting n → children_in (names live) p ≡ n

-- a family but for the number of children for which p waits
pub record FamilyBut (live : Table Process) (p : Name) : Type 0 where
  pub once : Once (names live)
  pub parents : (r : Name) (q : Process) → find live r ≡ Some q → (r ≡ []) ⊎ IsWaiting live (parent_of r)
  pub counts : (z : Name) (q : Process) (n : ℕ) → same z p ≡ false → find live z ≡ Some q → q.standing ≡ waiting n → children_in (names live) z ≡ n

pub whole_family : (live : Table Process) (p : Name) → FamilyBut live p
    → ((q : Process) (n : ℕ) → find live p ≡ Some q → q.standing ≡ waiting n → children_in (names live) p ≡ n) → Family live
whole_family live p f own = record { once = f.once; parents = f.parents; counts = λ z q n e w. go z q n e w (same-or-other z p) }
  where
    go : (z : Name) (q : Process) (n : ℕ) → find live z ≡ Some q → q.standing ≡ waiting n → (z ≡ p) ⊎ (same z p ≡ false) → children_in (names live) z ≡ n
    go z q n e w (inl k) = ap (children_in (names live)) k ∙ own q n (sym (ap (find live) k) ∙ e) w
    go z q n e w (inr m) = f.counts z q n m e w

pub waiting_does_not_run : (standing : Standing) (n : ℕ) → is_running standing ≡ true → standing ≡ waiting n → ⊥
waiting_does_not_run standing n r w = true_false (sym r ∙ ap is_running w)

-- somebody who waits does so still after a change of another
pub still_waiting : (live : Table Process) (p : Name) (q' : Process) (z : Name) → same z p ≡ false → IsWaiting live z → IsWaiting (with_at live p q') z
still_waiting live p q' z n w = record { process = w.process; found = find-with_at-other live p z q' n ∙ w.found; number = w.number; standing = w.standing }

waiting_without : (live : Table Process) (p : Name) (z : Name) → same z p ≡ false → IsWaiting live z → IsWaiting (without live p) z
waiting_without live p z n w = record { process = w.process; found = find-without-other live p z n ∙ w.found; number = w.number; standing = w.standing }

-- where p runs
module _ (live : Table Process) (p : Name) (q : Process) (found : find live p ≡ Some q) (runs : is_running q.standing ≡ true) (family : Family live) where
  -- who waits is another
  waits_apart : (z : Name) → IsWaiting live z → same z p ≡ false
  waits_apart z w = go (same-or-other z p)
    where
      go : (z ≡ p) ⊎ (same z p ≡ false) → same z p ≡ false
      go (inr n) = n
      go (inl e) = absurd (waiting_does_not_run q.standing w.number runs
          (ap (λ x. x.standing) (some_is (sym found ∙ sym (ap (find live) e) ∙ w.found)) ∙ w.standing))

  pub no_children : children_in (names live) p ≡ 0
  no_children = no_children_in (names live) p (λ r h. of r (found_of live r h))
    where
      of : (r : Name) → (x : Process) × (find live r ≡ Some x) → is_child r p ≡ false
      of r x = elim (family.parents r x.0 x.1) [
        | inl e ↦ ap (λ y. is_child y p) e ∙ first_no_child p
        | inr w ↦ not_child_of r p (waits_apart (parent_of r) w)
      ]

  -- whoever is live after a change of p was live
  was : (q' : Process) (r : Name) (x : Process) → find (with_at live p q') r ≡ Some x → (y : Process) × (find live r ≡ Some y)
  was q' r x e = go (same-or-other r p)
    where
      go : (r ≡ p) ⊎ (same r p ≡ false) → (y : Process) × (find live r ≡ Some y)
      go (inl k) = (q, ap (find live) k ∙ found)
      go (inr n) = (x, sym (find-with_at-other live p r q' n) ∙ e)

  pub changed : (q' : Process) → FamilyBut (with_at live p q') p
  changed q' = record {
    once = subst Once (sym (names-with_at live p q' q found)) family.once;
    parents = λ r x e. up r (was q' r x e);
    counts = λ z x n m e w. ap (λ l. children_in l z) (names-with_at live p q' q found) ∙ family.counts z x n (sym (find-with_at-other live p z q' m) ∙ e) w;
  }
    where
      up : (r : Name) → (y : Process) × (find live r ≡ Some y) → (r ≡ []) ⊎ IsWaiting (with_at live p q') (parent_of r)
      up r y = elim (family.parents r y.0 y.1) [ inl e ↦ inl e | inr w ↦ inr (still_waiting live p q' (parent_of r) (waits_apart (parent_of r) w) w) ]

  -- p goes on
  pub family_goes : (q' : Process) → is_running q'.standing ≡ true → Family (with_at live p q')
  family_goes q' r' =
      whole_family (with_at live p q') p (changed q')
      (λ x n e w. absurd (waiting_does_not_run q'.standing n r' (ap (λ y. y.standing) (some_is (sym (find-with_at-same live p q') ∙ e)) ∙ w)))

  -- ---- p ends

  -- who is left is another
  left_apart : (z : Name) (x : Process) → find (without live p) z ≡ Some x → same z p ≡ false
  left_apart z x e = go (same-or-other z p)
    where
      go : (z ≡ p) ⊎ (same z p ≡ false) → same z p ≡ false
      go (inl k) = absurd (no_some (find (without live p) z) (ap (find (without live p)) k ∙ find-without-same live p) e)
      go (inr n) = n

  left_was : (z : Name) (x : Process) → find (without live p) z ≡ Some x → find live z ≡ Some x
  left_was z x e = sym (find-without-other live p z (left_apart z x e)) ∙ e

  parents_left : (r : Name) (x : Process) → find (without live p) r ≡ Some x → (r ≡ []) ⊎ IsWaiting (without live p) (parent_of r)
  parents_left r x e = elim (family.parents r x (left_was r x e))
      [ inl k ↦ inl k | inr w ↦ inr (waiting_without live p (parent_of r) (waits_apart (parent_of r) w) w) ]

  -- the number of children of another than its parent is the same
  counts_left : (z : Name) (x : Process) (n : ℕ) → is_child p z ≡ false → find (without live p) z ≡ Some x → x.standing ≡ waiting n
      → children_in (names (without live p)) z ≡ n
  counts_left z x n k e w =
      omega (arith, children-without live p z q found family.once, ap one_if k, family.counts z x n (left_was z x e) w)

  -- and its parent did not wait
  pub family_left : ((y : Process) (n : ℕ) → find (without live p) (parent_of p) ≡ Some y → y.standing ≡ waiting n → ⊥) → Family (without live p)
  family_left nobody = record {
    once = once-without live p family.once;
    parents = parents_left;
    counts = λ z x n e w. counts_left z x n (not_child_of p z (other z x n e w (same-or-other (parent_of p) z))) e w;
  }
    where
      other : (z : Name) (x : Process) (n : ℕ) → find (without live p) z ≡ Some x → x.standing ≡ waiting n → (parent_of p ≡ z)
          ⊎ (same (parent_of p) z ≡ false) → same (parent_of p) z ≡ false
      other z x n e w (inl k) = absurd (nobody x n (ap (find (without live p)) k ∙ e) w)
      other z x n e w (inr m) = m

  -- and its parent waits for one less
  pub family_awaited : (y : Process) (n : ℕ) → find (without live p) (parent_of p) ≡ Some y → y.standing ≡ waiting n
      → Family (with_at (without live p) (parent_of p) (record y { standing = awaits (n - 1) }))
  family_awaited y n e w = whole_family after r but own
    where
      r : Name
      r = parent_of p

      y' : Process
      y' = record y { standing = awaits (n - 1) }

      rest : Table Process
      rest = without live p

      after : Table Process
      after = with_at rest r y'

      same_names : names after ≡ names rest
      same_names = names-with_at rest r y' y e

      -- p was a child of it
      mine : is_child p r ≡ true
      mine = ap (λ b. b && not (same p r)) (same-refl r) ∙ ap not (same-symmetric r p (left_apart r y e))

      one_less_child : children_in (names rest) r ≡ n - 1
      one_less_child = omega (arith, children-without live p r q found family.once, ap one_if mine, family.counts r y n (left_was r y e) w)

      more : (m : ℕ) → n - 1 ≡ m → 0 < m → IsWaiting after r
      more zero k h = absurd (omega arith)
      more (suc m) k h = record { process = y'; found = find-with_at-same rest r y'; number = suc m; standing = ap awaits k }

      -- whoever is left has a parent that waits
      up : (z : Name) (x : Process) → find rest z ≡ Some x → (parent_of z ≡ r) ⊎ (same (parent_of z) r ≡ false) → (z ≡ []) ⊎ IsWaiting rest (parent_of z)
          → (z ≡ []) ⊎ IsWaiting after (parent_of z)
      up z x f k (inl h) = inl h
      up z x f (inr m) (inr h) = inr (still_waiting rest r y' (parent_of z) m h)
      up z x f (inl k) (inr h) = elim (same-or-other z r) [
        | inl s ↦ inl (own_parent z (k ∙ sym s))
        | inr d ↦
            let child_of_it : is_child z r ≡ true = ap (λ a. same a r && not (same z r)) k ∙ ap (λ b. b && not (same z r)) (same-refl r) ∙ ap not d in
            let there : has (names rest) z ≡ true = has-found rest z x f in
            inr (subst (IsWaiting after) (sym k) (more (n - 1) refl (omega (arith, one_less_child, some_children_in (names rest) z r there child_of_it))))
      ]

      was_left : (z : Name) (x : Process) → find after z ≡ Some x → (a : Process) × (find rest z ≡ Some a)
      was_left z x f = elim (same-or-other z r) [ inl k ↦ (y, ap (find rest) k ∙ e) | inr m ↦ (x, sym (find-with_at-other rest r z y' m) ∙ f) ]

      but : FamilyBut after r
      but = record {
        once = subst Once (sym same_names) (once-without live p family.once);
        parents = λ z x f. let a : (a : Process) × (find rest z ≡ Some a) = was_left z x f in
            up z a.0 a.1 (same-or-other (parent_of z) r) (parents_left z a.0 a.1);
        counts = λ z x m d f g. ap (λ l. children_in l z) same_names ∙ counts_left z x m (not_child_of p z (same-symmetric z r d))
            (sym (find-with_at-other rest r z y' d) ∙ f) g;
      }

      of_awaits : (m k : ℕ) → awaits m ≡ waiting k → m ≡ k
      of_awaits zero k h = absurd (cc)
      of_awaits (suc m) k h = cc

      own : (x : Process) (m : ℕ) → find after r ≡ Some x → x.standing ≡ waiting m → children_in (names after) r ≡ m
      own x m f g =
          ap (λ l. children_in l r) same_names ∙ one_less_child
          ∙ of_awaits (n - 1) m (ap (λ z. z.standing) (some_is (sym (find-with_at-same rest r y') ∙ f)) ∙ g)
