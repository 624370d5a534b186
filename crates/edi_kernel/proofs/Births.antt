-- A child that begins.
use Rattle.std.proofs.Common.{◌≡◌, ℕ, zero, suc, ◌+◌, ◌<◌, ◌≤◌, ◌⊎◌, inl, inr, Bool, true, false, ◌&&◌, ◌||◌, nat_eq, nat_lt, if◌then◌else◌, [], ◌∷◌, length}
use Rattle.std.proofs.Common.{Some, refl, sym, ◌∙◌, ap, arith, subst, eq-eqb}
use Rattle.std.proofs.lemmas.Bool.{cases_eq, ne_eqb, eqb-false}
use Rattle.edi_calls.specs.Names.{Name, same, find, with_at, without, names}
use Rattle.edi_calls.specs.Names as tables
use Rattle.edi_calls.specs.Ready.{child, has}
use Rattle.edi_calls.proofs.Tables.{same-refl, same-equal, same-or-other, find-with_at-same, find-with_at-other}
use Rattle.edi_target.specs.Mach.{Machine}
use Rattle.edi_kernel.specs.declared.table.Process.{Process}
use Rattle.edi_kernel.specs.declared.table.Table.{Table}
use Rattle.edi_kernel.specs.Table.{process_at, marked_at, free_slots, is_live}
use Rattle.edi_kernel.specs.TableIsMachine.{Naming, Once, Awaits, Born, TableIsMachine, entry_of, is_child_of, children_of, slots_where}
use Rattle.edi_kernel.proofs.Counts.{where_same, where_less}
use Rattle.edi_kernel.proofs.Changes.{false_middle, positive, child_live, child_later, child_parent}

-- ---- a name that a table did not have

has-with_at : {A : Type 0} (es : tables.Table A) (p : Name) (a : A) (q : Name) → has (names (with_at es p a)) q ≡ (same q p || has (names es) q)
has-with_at [] p a q = refl
has-with_at (e ∷ es) p a q = go (same p e.0) refl (has-with_at es p a q)
  where
    swap : (b c d : Bool) → (b || (c || d)) ≡ (c || (b || d))
    swap true true d = refl
    swap true false d = refl
    swap false true d = refl
    swap false false d = refl

    twice : (b c : Bool) → (b || c) ≡ (b || (b || c))
    twice true c = refl
    twice false c = refl

    go : (b : Bool) → same p e.0 ≡ b → has (names (with_at es p a)) q ≡ (same q p || has (names es) q)
        → has (names (if b then (e.0, a) ∷ es else e ∷ with_at es p a)) q ≡ (same q p || (same q e.0 || has (names es) q))
    go true s ih =
        let h : p ≡ e.0 = same-equal p e.0 s in
        twice (same q e.0) (has (names es) q) ∙ ap (λ x. same q x || (same q e.0 || has (names es) q)) (sym h)
    go false s ih = ap (λ b. same q e.0 || b) ih ∙ swap (same q e.0) (same q p) (has (names es) q)

once-with_at : {A : Type 0} (es : tables.Table A) (p : Name) (a : A) → Once (names es) → has (names es) p ≡ false → Once (names (with_at es p a))
once-with_at [] p a o h = (refl, tt)
once-with_at (e ∷ es) p a o h = go (same p e.0) h (once-with_at es p a o.1)
  where
    go : (b : Bool) → (b || has (names es) p) ≡ false → (has (names es) p ≡ false → Once (names (with_at es p a)))
        → Once (names (if b then (e.0, a) ∷ es else e ∷ with_at es p a))
    go true f ih = absurd (cc)
    go false f ih = (has-with_at es p a e.0 ∙ ap (λ b. b || has (names es) e.0) (other (same-or-other e.0 p)) ∙ o.0, ih f)
      where
        other : (e.0 ≡ p) ⊎ (same e.0 p ≡ false) → same e.0 p ≡ false
        other (inl x) = let y : has (names (e ∷ es)) p ≡ true = ap (λ z. same p z || has (names es) p) x ∙ ap (λ b. b || has (names es) p) (same-refl p) in
            let z : false ≡ true = sym h ∙ y in absurd (cc)
        other (inr x) = x

length-with_at : {A : Type 0} (es : tables.Table A) (p : Name) (a : A) → has (names es) p ≡ false → length (with_at es p a) ≡ suc (length es)
length-with_at [] p a h = refl
length-with_at (e ∷ es) p a h = go (same p e.0) h (length-with_at es p a)
  where
    go : (b : Bool) → (b || has (names es) p) ≡ false → (has (names es) p ≡ false → length (with_at es p a) ≡ suc (length es))
        → length (if b then (e.0, a) ∷ es else e ∷ with_at es p a) ≡ suc (suc (length es))
    go true f ih = absurd (cc)
    go false f ih = ap suc (ih f)

-- ---- the child

-- the names with that of a child at slot c
abbrev pub with_name : Naming → (c : ℕ) → Name → Naming
with_name n c q = record { name = λ i. if nat_eq i c then q else n.name i; forks = λ i. if nat_eq i c then 0 else n.forks i }

module _ (t u : Table) (n : Naming) (m k : Machine) (p c f j : ℕ) (x : Process) where
  abbrev pub the_name : Name
  the_name = child (n.name p) f j

  abbrev pub now_named : Naming
  now_named = with_name n c the_name

  -- a child of the live process at p begins at slot c
  pub record ChildBegins : Type 0 where
    pub stands : TableIsMachine t n m
    pub live : is_live t p ≡ true
    pub dead : is_live t c ≡ false
    pub slot : c < 32
    pub later : 0 < c
    pub here : process_at u c ≡ x
    pub parent : x.parent ≡ p
    pub there : (i : ℕ) → (i ≡ c → ⊥) → process_at u i ≡ process_at t i
    pub lives : (i : ℕ) → is_live u i ≡ (nat_eq i c || is_live t i)
    pub free : length (free_slots u) + 1 ≡ length (free_slots t)
    pub activities : k.activities ≡ with_at m.activities the_name (entry_of x 0)
    pub marks : (i : ℕ) → is_live u i ≡ true → has k.marks (now_named.name i) ≡ marked_at u i
    pub going : Awaits x.standing 0
    pub fork : f ≤ n.forks p
    pub fresh : (i : ℕ) → is_live t i ≡ true → n.name i ≡ the_name → ⊥
    pub awaits : Awaits (process_at t p).standing (suc (children_of t p))

  module _ (b : ChildBegins) where
    -- a slot is c, or it is another and as it was
    pub at_c : (i : ℕ) → i ≡ c → now_named.name i ≡ the_name
    at_c i e = ap (λ d. if d then the_name else n.name i) (eq-eqb i c e)

    pub not_c : (i : ℕ) → (i ≡ c → ⊥) → now_named.name i ≡ n.name i
    not_c i ne = ap (λ d. if d then the_name else n.name i) (ne_eqb i c ne)

    pub forks_not_c : (i : ℕ) → (i ≡ c → ⊥) → now_named.forks i ≡ n.forks i
    forks_not_c i ne = ap (λ d. if d then 0 else n.forks i) (ne_eqb i c ne)

    pub forks_c : (i : ℕ) → i ≡ c → now_named.forks i ≡ 0
    forks_c i e = ap (λ d. if d then 0 else n.forks i) (eq-eqb i c e)

    pub was : (i : ℕ) → (i ≡ c → ⊥) → is_live u i ≡ true → is_live t i ≡ true
    was i ne l = sym (b.lives i ∙ ap (λ d. d || is_live t i) (ne_eqb i c ne)) ∙ l

    pub still : (i : ℕ) → is_live t i ≡ true → is_live u i ≡ true
    still i l = b.lives i ∙ ap (λ d. nat_eq i c || d) l ∙ right (nat_eq i c)
      where
        right : (d : Bool) → (d || true) ≡ true
        right true = refl
        right false = refl

    pub other : (i : ℕ) → is_live t i ≡ true → i ≡ c → ⊥
    other i l e = let a : true ≡ false = sym l ∙ ap (is_live t) e ∙ b.dead in absurd (cc)

    -- the child's name is new
    unknown : has (names m.activities) the_name ≡ false
    unknown = go (has (names m.activities) the_name) refl
      where
        go : (d : Bool) → has (names m.activities) the_name ≡ d → has (names m.activities) the_name ≡ false
        go true e = let a : (i : ℕ) × (is_live t i ≡ true) × (the_name ≡ n.name i) = b.stands.all the_name e in absurd (b.fresh a.0 a.1 (sym a.2))
        go false e = e

    unlike : (i : ℕ) → is_live t i ≡ true → same (n.name i) the_name ≡ false
    unlike i l = elim (same-or-other (n.name i) the_name) [ inl e ↦ absurd (b.fresh i l e) | inr e ↦ e ]

    found : (i : ℕ) → is_live u i ≡ true → find k.activities (now_named.name i) ≡ Some (entry_of (process_at u i) (now_named.forks i))
    found i l = elim (cases_eq i c) [
      | inl e ↦
          ap (λ es. find es (now_named.name i)) b.activities ∙ ap (find (with_at m.activities the_name (entry_of x 0))) (at_c i e)
          ∙ find-with_at-same m.activities the_name (entry_of x 0)
          ∙ sym (ap (λ y. Some (entry_of y (now_named.forks i))) (ap (process_at u) e ∙ b.here) ∙ ap (λ d. Some (entry_of x d)) (forks_c i e))
      | inr ne ↦
          ap (λ es. find es (now_named.name i)) b.activities ∙ ap (find (with_at m.activities the_name (entry_of x 0))) (not_c i ne)
          ∙ find-with_at-other m.activities the_name (n.name i) (entry_of x 0) (unlike i (was i ne l)) ∙ b.stands.found i (was i ne l)
          ∙ sym (ap (λ y. Some (entry_of y (now_named.forks i))) (b.there i ne) ∙ ap (λ d. Some (entry_of (process_at t i) d)) (forks_not_c i ne))
    ]

    all : (q : Name) → has (names k.activities) q ≡ true → (i : ℕ) × (is_live u i ≡ true) × (q ≡ now_named.name i)
    all q h = go (same-or-other q the_name) (sym (ap (λ es. has (names es) q) b.activities ∙ has-with_at m.activities the_name (entry_of x 0) q) ∙ h)
      where
        go : (q ≡ the_name) ⊎ (same q the_name ≡ false) → (same q the_name || has (names m.activities) q) ≡ true → (i : ℕ) × (is_live u i ≡ true)
            × (q ≡ now_named.name i)
        go (inl e) h = (c, b.lives c ∙ ap (λ d. d || is_live t c) (eq-eqb c c refl), e ∙ sym (at_c c refl))
        go (inr ne) h =
            let a : (i : ℕ) × (is_live t i ≡ true) × (q ≡ n.name i) = b.stands.all q (sym (ap (λ d. d || has (names m.activities) q) ne) ∙ h) in
            (a.0, still a.0 a.1, a.2 ∙ sym (not_c a.0 (other a.0 a.1)))

    apart : (i l : ℕ) → is_live u i ≡ true → is_live u l ≡ true → now_named.name i ≡ now_named.name l → i ≡ l
    apart i l v w e = elim (cases_eq i c) [
      | inl a ↦ elim (cases_eq l c) [
        | inl d ↦ a ∙ sym d
        | inr nd ↦ absurd (b.fresh l (was l nd w) (sym (not_c l nd) ∙ sym e ∙ at_c i a))
      ]
      | inr na ↦ elim (cases_eq l c) [
        | inl d ↦ absurd (b.fresh i (was i na v) (sym (not_c i na) ∙ e ∙ at_c l d))
        | inr nd ↦ b.stands.apart i l (was i na v) (was l nd w) (sym (not_c i na) ∙ e ∙ not_c l nd)
      ]
    ]

    born : (i : ℕ) → is_live u i ≡ true → 0 < i → Born u now_named i
    born i l pos = elim (cases_eq i c) [
      | inl e ↦
          let pa : (process_at u i).parent ≡ p = ap (λ d. (process_at u d).parent) e ∙ ap (λ y. y.parent) b.here ∙ b.parent in
          record {
            lives = ap (is_live u) pa ∙ still p b.live;
            fork = f;
            number = j;
            named = at_c i e ∙ sym (ap (λ d. child (now_named.name d) f j) pa ∙ ap (λ d. child d f j) (not_c p (other p b.live)));
            earlier = let a : now_named.forks (process_at u i).parent ≡ n.forks p = ap now_named.forks pa ∙ forks_not_c p (other p b.live) in
                omega (arith, a, b.fork);
          }
      | inr ne ↦
          let o : Born t n i = b.stands.born i (was i ne l) pos in
          let pa : (process_at u i).parent ≡ (process_at t i).parent = ap (λ y. y.parent) (b.there i ne) in
          record {
            lives = ap (is_live u) pa ∙ still (process_at t i).parent o.lives;
            fork = o.fork;
            number = o.number;
            named = not_c i ne ∙ o.named ∙ sym (ap (λ d. child (now_named.name d) o.fork o.number) pa ∙ ap (λ d. child d o.fork o.number)
                (not_c (process_at t i).parent (other (process_at t i).parent o.lives)));
            earlier = let a : now_named.forks (process_at u i).parent ≡ n.forks (process_at t i).parent = ap now_named.forks pa
                ∙ forks_not_c (process_at t i).parent (other (process_at t i).parent o.lives) in omega (arith, a, o.earlier);
          }
    ]

    -- whose child a slot is
    child_there : (i l : ℕ) → (l ≡ c → ⊥) → is_child_of u i l ≡ is_child_of t i l
    child_there i l ne =
        ap (λ d. nat_lt 0 l && d && nat_eq (process_at u l).parent i) (b.lives l ∙ ap (λ d. d || is_live t l) (ne_eqb l c ne))
        ∙ ap (λ y. nat_lt 0 l && is_live t l && nat_eq y.parent i) (b.there l ne)

    child_now : (i : ℕ) → is_child_of u i c ≡ nat_eq p i
    child_now i =
        let a : is_live u c ≡ true = b.lives c ∙ ap (λ d. d || is_live t c) (eq-eqb c c refl) in
        let z : nat_lt 0 c ≡ true = positive c b.later in
        ap (λ d. d && is_live u c && nat_eq (process_at u c).parent i) z ∙ ap (λ d. d && nat_eq (process_at u c).parent i) a
        ∙ ap (λ y. nat_eq y i) (ap (λ y. y.parent) b.here ∙ b.parent)

    child_before : (i : ℕ) → is_child_of t i c ≡ false
    child_before i = ap (λ d. nat_lt 0 c && d && nat_eq (process_at t c).parent i) b.dead ∙ false_middle (nat_lt 0 c) (nat_eq (process_at t c).parent i)

    pub children_p : children_of u p ≡ suc (children_of t p)
    children_p = where_less (is_child_of u p) (is_child_of t p) 32 c b.slot (child_now p ∙ eq-eqb p p refl) (child_before p)
        (λ l e. child_there p l (eqb-false l c e))

    children_other : (i : ℕ) → (i ≡ p → ⊥) → children_of u i ≡ children_of t i
    children_other i ne = where_same (is_child_of u i) (is_child_of t i) 32 (λ l _. elim (cases_eq l c) [
      | inl e ↦ ap (is_child_of u i) e ∙ child_now i ∙ ne_eqb p i (λ h. ne (sym h)) ∙ sym (ap (is_child_of t i) e ∙ child_before i)
      | inr nl ↦ child_there i l nl
    ])

    -- the child has no children
    childless : children_of t c ≡ 0
    childless = where_none (is_child_of t c) 32 (λ l _. no_child l (is_child_of t c l) refl)
      where
        where_none : (g : ℕ → Bool) (d : ℕ) → ((l : ℕ) → l < d → g l ≡ false) → slots_where g d ≡ 0
        where_none g zero h = refl
        where_none g (suc d) h = ap (λ e. if e then suc (slots_where g d) else slots_where g d) (h d (omega arith)) ∙ where_none g d (λ l k. h l (omega arith))

        no_child : (l : ℕ) (d : Bool) → is_child_of t c l ≡ d → is_child_of t c l ≡ false
        no_child l false e = e
        no_child l true e =
            let o : Born t n l = b.stands.born l (child_live t c l e) (child_later t c l e) in
            let a : true ≡ false = sym o.lives ∙ ap (is_live t) (child_parent t c l e) ∙ b.dead in absurd (cc)

    awaits_at : (i : ℕ) → is_live u i ≡ true → Awaits (process_at u i).standing (children_of u i)
    awaits_at i l = elim (cases_eq i c) [
      | inl e ↦
          subst (λ d. Awaits (process_at u d).standing (children_of u d)) (sym e)
          (subst (λ y. Awaits y.standing (children_of u c)) (sym b.here)
          (subst (λ d. Awaits x.standing d) (sym (children_other c (λ h. other p b.live (sym h)) ∙ childless)) b.going))
      | inr ne ↦
          subst (λ y. Awaits y.standing (children_of u i)) (sym (b.there i ne))
          (elim (cases_eq i p) [
            | inl e ↦
                subst (λ d. Awaits (process_at t d).standing (children_of u d)) (sym e)
                (subst (λ d. Awaits (process_at t p).standing d) (sym children_p) b.awaits)
            | inr np ↦ subst (λ d. Awaits (process_at t i).standing d) (sym (children_other i np)) (b.stands.awaits i (was i ne l))
          ])
    ]

    pub begins : TableIsMachine u now_named k
    begins = record {
      found = found;
      all = all;
      apart = apart;
      once = subst (λ es. Once (names es)) (sym b.activities) (once-with_at m.activities the_name (entry_of x 0) b.stands.once unknown);
      count = omega (arith, b.stands.count, b.free, ap length b.activities, length-with_at m.activities the_name (entry_of x 0) unknown);
      marks = b.marks;
      root = not_c 0 (λ e. let h = b.later in omega (arith, e, h)) ∙ b.stands.root;
      born = born;
      awaits = awaits_at;
    }
