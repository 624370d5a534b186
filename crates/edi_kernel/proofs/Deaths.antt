-- A child that ends.
use Rattle.std.proofs.Common.{◌≡◌, ℕ, suc, ◌+◌, ◌<◌, ◌⊎◌, inl, inr, Bool, true, false, ◌&&◌, ◌||◌, not, nat_eq, nat_lt, if◌then◌else◌, [], ◌∷◌, length, Some}
use Rattle.std.proofs.Common.{refl, sym, ◌∙◌, ap, arith, subst, eq-eqb}
use Rattle.std.proofs.lemmas.Bool.{cases_eq, ne_eqb, eqb-false}
use Rattle.edi_calls.specs.Names.{Name, same, find, without, names}
use Rattle.edi_calls.specs.Names as tables
use Rattle.edi_calls.specs.Ready.{child, has}
use Rattle.edi_calls.proofs.Tables.{same-refl, same-equal, same-or-other}
use Rattle.edi_target.specs.Mach.{Machine}
use Rattle.edi_kernel.specs.declared.table.Standing.{Standing}
use Rattle.edi_kernel.specs.declared.table.Standing.TheVariants as standing
use Rattle.edi_kernel.specs.declared.table.Table.{Table}
use Rattle.edi_kernel.specs.Table.{process_at, marked_at, free_slots, is_live}
use Rattle.edi_kernel.specs.TableIsMachine.{Naming, Once, Awaits, Born, TableIsMachine, entry_of, is_child_of, children_of}
use Rattle.edi_kernel.proofs.Counts.{where_same, where_some, where_less}
use Rattle.edi_kernel.proofs.Changes.{false_middle, live_below, names_apart, is_child}

-- ---- a table without a name

pub has-without : {A : Type 0} (es : tables.Table A) (p q : Name) → has (names (without es p)) q ≡ true → (has (names es) q ≡ true) × (same q p ≡ false)
has-without [] p q h = absurd (cc)
has-without {A} (e ∷ es) p q h = go (same p e.0) refl h (has-without es p q)
  where
    right : (b : Bool) → (b || true) ≡ true
    right true = refl
    right false = refl

    here : (b : Bool) → same q e.0 ≡ b → same p e.0 ≡ false → (b || has (names (without es p)) q) ≡ true
        → (has (names (without es p)) q ≡ true → (has (names es) q ≡ true) × (same q p ≡ false)) → ((same q e.0 || has (names es) q) ≡ true) × (same q p ≡ false)
    here true f s h ih = (ap (λ b. b || has (names es) q) f, unlike (same-or-other q p))
      where
        unlike : (q ≡ p) ⊎ (same q p ≡ false) → same q p ≡ false
        unlike (inl g) = let a : true ≡ false = sym f ∙ ap (λ x. same x e.0) g ∙ s in absurd (cc)
        unlike (inr g) = g
    here false f s h ih = let a : (has (names es) q ≡ true) × (same q p ≡ false) = ih h in (ap (λ b. same q e.0 || b) a.0 ∙ right (same q e.0), a.1)

    go : (b : Bool) → same p e.0 ≡ b → has (names (if b then without es p else e ∷ without es p)) q ≡ true
        → (has (names (without es p)) q ≡ true → (has (names es) q ≡ true) × (same q p ≡ false)) → (has (names (e ∷ es)) q ≡ true) × (same q p ≡ false)
    go true s h ih = let a : (has (names es) q ≡ true) × (same q p ≡ false) = ih h in (ap (λ b. same q e.0 || b) a.0 ∙ right (same q e.0), a.1)
    go false s h ih = here (same q e.0) refl s h ih

not_true : (b : Bool) → (b ≡ true → ⊥) → b ≡ false
not_true true h = absurd (h refl)
not_true false h = refl

pub once-without : {A : Type 0} (es : tables.Table A) (p : Name) → Once (names es) → Once (names (without es p))
once-without [] p o = tt
once-without (e ∷ es) p o = go (same p e.0) (once-without es p o.1)
  where
    go : (b : Bool) → Once (names (without es p)) → Once (names (if b then without es p else e ∷ without es p))
    go true ih = ih
    go false ih = (not_true (has (names (without es p)) e.0) (λ h. let a : true ≡ false = sym (has-without es p e.0 h).0 ∙ o.0 in absurd (cc)), ih)

without_unknown : {A : Type 0} (es : tables.Table A) (p : Name) → has (names es) p ≡ false → length (without es p) ≡ length es
without_unknown [] p h = refl
without_unknown (e ∷ es) p h = go (same p e.0) h (without_unknown es p)
  where
    go : (b : Bool) → (b || has (names es) p) ≡ false → (has (names es) p ≡ false → length (without es p) ≡ length es)
        → length (if b then without es p else e ∷ without es p) ≡ suc (length es)
    go true f ih = absurd (cc)
    go false f ih = ap suc (ih f)

pub length-without : {A : Type 0} (es : tables.Table A) (p : Name) (a : A) → Once (names es) → find es p ≡ Some a → suc (length (without es p)) ≡ length es
length-without [] p a o f = absurd (cc)
length-without {A} (e ∷ es) p a o f = go (same p e.0) refl f (length-without es p a o.1)
  where
    go : (b : Bool) → same p e.0 ≡ b → (if b then Some e.1 else find es p) ≡ Some a → (find es p ≡ Some a → suc (length (without es p)) ≡ length es)
        → suc (length (if b then without es p else e ∷ without es p)) ≡ suc (length es)
    go true s g ih = ap suc (without_unknown es p (ap (has (names es)) (same-equal p e.0 s) ∙ o.0))
    go false s g ih = ap suc (ih g)

-- ---- the child

module _ (t u : Table) (n : Naming) (m k : Machine) (p : ℕ) where
  -- the live process at p, which is not the first and has no children, ends
  pub record Ends : Type 0 where
    pub stands : TableIsMachine t n m
    pub live : is_live t p ≡ true
    pub later : 0 < p
    pub there : (i : ℕ) → process_at u i ≡ process_at t i
    pub lives : (i : ℕ) → is_live u i ≡ (not (nat_eq i p) && is_live t i)
    pub free : length (free_slots u) ≡ length (free_slots t) + 1
    pub others : (q : Name) → same q (n.name p) ≡ false → find k.activities q ≡ find m.activities q
    pub named : (q : Name) → has (names k.activities) q ≡ true → (has (names m.activities) q ≡ true) × (same q (n.name p) ≡ false)
    pub once : Once (names k.activities)
    pub one_less : suc (length k.activities) ≡ length m.activities
    pub marks : (i : ℕ) → is_live u i ≡ true → has k.marks (n.name i) ≡ marked_at u i
    pub childless : children_of t p ≡ 0

  module _ (e : Ends) where
    abbrev parent : ℕ
    parent = (process_at t p).parent

    other : (i : ℕ) → is_live u i ≡ true → i ≡ p → ⊥
    other i l h = let a : true ≡ false = sym l ∙ e.lives i ∙ ap (λ b. not b && is_live t i) (eq-eqb i p h) in absurd (cc)

    was : (i : ℕ) → is_live u i ≡ true → is_live t i ≡ true
    was i l = go (not (nat_eq i p)) (is_live t i) (sym (e.lives i) ∙ l)
      where
        go : (x y : Bool) → (x && y) ≡ true → y ≡ true
        go true y h = h
        go false y h = absurd (cc)

    still : (i : ℕ) → (i ≡ p → ⊥) → is_live u i ≡ is_live t i
    still i ne = e.lives i ∙ ap (λ b. not b && is_live t i) (ne_eqb i p ne)

    -- nobody's parent is p
    no_parent : (i : ℕ) → is_live t i ≡ true → 0 < i → (process_at t i).parent ≡ p → ⊥
    no_parent i l pos h =
        let some : 0 < children_of t p = where_some (is_child_of t p) 32 i (live_below t i l) (is_child t p i pos l h) in
        omega (arith, some, e.childless)

    child_there : (i l : ℕ) → (l ≡ p → ⊥) → is_child_of u i l ≡ is_child_of t i l
    child_there i l ne = ap (λ b. nat_lt 0 l && b && nat_eq (process_at u l).parent i) (still l ne) ∙ ap (λ y. nat_lt 0 l && is_live t l && nat_eq y.parent i)
        (e.there l)

    child_now : (i : ℕ) → is_child_of u i p ≡ false
    child_now i = ap (λ b. nat_lt 0 p && b && nat_eq (process_at u p).parent i) (e.lives p ∙ ap (λ b. not b && is_live t p) (eq-eqb p p refl))
        ∙ false_middle (nat_lt 0 p) (nat_eq (process_at u p).parent i)

    -- its parent has one child less
    pub one_child_less : children_of t parent ≡ suc (children_of u parent)
    one_child_less = where_less (is_child_of t parent) (is_child_of u parent) 32 p (live_below t p e.live) (is_child t parent p e.later e.live refl)
        (child_now parent) (λ l f. sym (child_there parent l (eqb-false l p f)))

    children_other : (i : ℕ) → (i ≡ parent → ⊥) → children_of u i ≡ children_of t i
    children_other i ne = where_same (is_child_of u i) (is_child_of t i) 32 (λ l _. elim (cases_eq l p) [
      | inl h ↦ ap (is_child_of u i) h ∙ child_now i ∙ sym (ap (is_child_of t i) h ∙ none)
      | inr nl ↦ child_there i l nl
    ])
      where
        none : is_child_of t i p ≡ false
        none = ap (λ b. nat_lt 0 p && is_live t p && b) (ne_eqb parent i (λ h. ne (sym h))) ∙ neither (nat_lt 0 p) (is_live t p)
          where
            neither : (x y : Bool) → (x && y && false) ≡ false
            neither true true = refl
            neither true false = refl
            neither false y = refl

    fewer : (s : Standing) (c d : ℕ) → Awaits s c → c ≡ suc d → Awaits s d
    fewer standing.Ready c d a h = absurd (omega (arith, a, h))
    fewer standing.AtWhen c d a h = absurd (omega (arith, a, h))
    fewer (standing.Waiting w) c d a h = omega (arith, a, h)

    born : (i : ℕ) → is_live u i ≡ true → 0 < i → Born u n i
    born i l pos =
        let o : Born t n i = e.stands.born i (was i l) pos in
        let pa : (process_at u i).parent ≡ (process_at t i).parent = ap (λ y. y.parent) (e.there i) in
        record {
          lives = ap (is_live u) pa ∙ still (process_at t i).parent (no_parent i (was i l) pos) ∙ o.lives;
          fork = o.fork;
          number = o.number;
          named = o.named ∙ sym (ap (λ y. child (n.name y) o.fork o.number) pa);
          earlier = let a : n.forks (process_at u i).parent ≡ n.forks (process_at t i).parent = ap n.forks pa in omega (arith, a, o.earlier);
        }

    awaits_at : (i : ℕ) → is_live u i ≡ true → Awaits (process_at u i).standing (children_of u i)
    awaits_at i l = subst (λ y. Awaits y.standing (children_of u i)) (sym (e.there i)) (elim (cases_eq i parent) [
      | inl h ↦
          subst (λ j. Awaits (process_at t j).standing (children_of u j)) (sym h)
          (fewer (process_at t parent).standing (children_of t parent) (children_of u parent)
          (e.stands.awaits parent (subst (λ j. is_live t j ≡ true) h (was i l))) one_child_less)
      | inr ne ↦ subst (λ c. Awaits (process_at t i).standing c) (sym (children_other i ne)) (e.stands.awaits i (was i l))
    ])

    pub ends : TableIsMachine u n k
    ends = record {
      found = λ i l.
          e.others (n.name i) (names_apart t n m e.stands i p (was i l) e.live (other i l))
          ∙ e.stands.found i (was i l) ∙ sym (ap (λ y. Some (entry_of y (n.forks i))) (e.there i));
      all = λ q h.
          let a : (has (names m.activities) q ≡ true) × (same q (n.name p) ≡ false) = e.named q h in
          let b : (i : ℕ) × (is_live t i ≡ true) × (q ≡ n.name i) = e.stands.all q a.0 in
          (b.0, still b.0 (λ f. let g : true ≡ false = sym (same-refl q) ∙ ap (λ x. same q x) (b.2 ∙ ap n.name f) ∙ a.1 in absurd (cc)) ∙ b.1, b.2);
      apart = λ i j l r h. e.stands.apart i j (was i l) (was j r) h;
      once = e.once;
      count = omega (arith, e.stands.count, e.free, e.one_less);
      marks = e.marks;
      root = e.stands.root;
      born = born;
      awaits = awaits_at;
    }
