-- Changes of the table and of the machine that keep them together.
use Rattle.std.proofs.Common.{◌≡◌, ℕ, suc, ◌<◌, ◌≤◌, inl, inr, Bool, true, false, ◌&&◌, nat_eq, nat_lt, List, [], ◌∷◌, length, Some, refl, sym, ◌∙◌, ap}
use Rattle.std.proofs.Common.{arith, subst, slice_set, slice_index_or, get_or-set_same, get_or-set_other, eq-eqb}
use Rattle.std.proofs.lemmas.Bool.{cases_eq, eqb-true}
use Rattle.std.proofs.lemmas.Bool.Decides.{nat_tests}
use Rattle.edi_calls.specs.Names.{Name, same, find, with_at, without, names}
use Rattle.edi_calls.specs.Names as tables
use Rattle.edi_calls.specs.Ready.{child, has}
use Rattle.edi_calls.proofs.Tables.{same-or-other}
use Rattle.edi_target.specs.Mach.{Machine}
use Rattle.edi_kernel.specs.declared.table.Process.{Process}
use Rattle.edi_kernel.specs.declared.table.Table.{Table}
use Rattle.edi_kernel.specs.Table.{process_at, marked_at, free_slots, is_live, no_process}
use Rattle.edi_kernel.specs.TableIsMachine.{Naming, Once, Awaits, Born, TableIsMachine, entry_of, is_child_of, children_of}
use Rattle.edi_kernel.proofs.Counts.{where_same}

-- ---- small facts

pub live_below : (t : Table) (i : ℕ) → is_live t i ≡ true → i < 32
live_below t i l = grind (arith, nat_tests)

pub positive : (c : ℕ) → 0 < c → nat_lt 0 c ≡ true
positive c h = grind (arith, nat_tests)

-- the parts of a test
pub and_middle : (x y z : Bool) → (x && y && z) ≡ true → y ≡ true
and_middle true true z e = refl
and_middle true false z e = absurd (cc)
and_middle false y z e = absurd (cc)

pub and_last : (x y z : Bool) → (x && y && z) ≡ true → z ≡ true
and_last true true z e = e
and_last true false z e = absurd (cc)
and_last false y z e = absurd (cc)

pub false_middle : (x z : Bool) → (x && false && z) ≡ false
false_middle true z = refl
false_middle false z = refl

-- a child is live, is not the first process, and has its parent
pub child_live : (t : Table) (p i : ℕ) → is_child_of t p i ≡ true → is_live t i ≡ true
child_live t p i e = and_middle (nat_lt 0 i) (is_live t i) (nat_eq (process_at t i).parent p) e

pub child_later : (t : Table) (p i : ℕ) → is_child_of t p i ≡ true → 0 < i
child_later t p i e = grind (arith, nat_tests)

pub child_parent : (t : Table) (p i : ℕ) → is_child_of t p i ≡ true → (process_at t i).parent ≡ p
child_parent t p i e = eqb-true (process_at t i).parent p (and_last (nat_lt 0 i) (is_live t i) (nat_eq (process_at t i).parent p) e)

pub is_child : (t : Table) (p i : ℕ) → 0 < i → is_live t i ≡ true → (process_at t i).parent ≡ p → is_child_of t p i ≡ true
is_child t p i h l e = rw (positive i h) (rw l (eq-eqb (process_at t i).parent p e))

pub at_set_same : (xs : List Process) (p : ℕ) (x : Process) → p < length xs → slice_index_or (slice_set xs p x) p no_process ≡ x
at_set_same xs p x h = get_or-set_same xs p x no_process h

pub at_set_other : (xs : List Process) (p i : ℕ) (x : Process) → (i ≡ p → ⊥) → slice_index_or (slice_set xs p x) i no_process ≡ slice_index_or xs i no_process
at_set_other xs p i x h = get_or-set_other xs p i x no_process h

-- names of different live slots are told apart
pub names_apart : (t : Table) (n : Naming) (m : Machine) → TableIsMachine t n m → (i j : ℕ) → is_live t i ≡ true → is_live t j ≡ true → (i ≡ j → ⊥)
    → same (n.name i) (n.name j) ≡ false
names_apart t n m s i j l k ne = elim (same-or-other (n.name i) (n.name j)) [
  | inl e ↦ absurd (ne (s.apart i j l k e))
  | inr e ↦ e
]

pub length-names : {A : Type 0} (es : tables.Table A) → length (names es) ≡ length es
length-names [] = refl
length-names (e ∷ es) = ap suc (length-names es)

-- the same names, or fewer forks than before, are a name's own
module _ (t u : Table) (n : Naming) (forks : ℕ → ℕ) (m k : Machine) (p : ℕ) (x : Process) where
  -- one live process changes, but for its parent
  pub record OneChanges : Type 0 where
    pub stands : TableIsMachine t n m
    pub live : is_live t p ≡ true
    pub wide : length t.processes ≡ 32
    pub processes : u.processes ≡ slice_set t.processes p x
    pub parent : x.parent ≡ (process_at t p).parent
    pub lives : (i : ℕ) → is_live u i ≡ is_live t i
    pub free : length (free_slots u) ≡ length (free_slots t)
    pub forks_here : n.forks p ≤ forks p
    pub forks_there : (i : ℕ) → (i ≡ p → ⊥) → forks i ≡ n.forks i
    pub found_here : find k.activities (n.name p) ≡ Some (entry_of x (forks p))
    pub found_there : (q : Name) → same q (n.name p) ≡ false → find k.activities q ≡ find m.activities q
    pub named : names k.activities ≡ names m.activities
    pub marks : (i : ℕ) → is_live t i ≡ true → has k.marks (n.name i) ≡ marked_at u i
    pub awaits : Awaits x.standing (children_of t p)

  module _ (c : OneChanges) where
    inside : p < length t.processes
    inside = omega (arith, c.wide, live_below t p c.live)

    here : process_at u p ≡ x
    here = ap (λ xs. slice_index_or xs p no_process) c.processes ∙ at_set_same t.processes p x inside

    there : (i : ℕ) → (i ≡ p → ⊥) → process_at u i ≡ process_at t i
    there i ne = ap (λ xs. slice_index_or xs i no_process) c.processes ∙ at_set_other t.processes p i x ne

    parents : (i : ℕ) → (process_at u i).parent ≡ (process_at t i).parent
    parents i = elim (cases_eq i p) [
      | inl e ↦ ap (λ j. (process_at u j).parent) e ∙ ap (λ y. y.parent) here ∙ c.parent ∙ sym (ap (λ j. (process_at t j).parent) e)
      | inr ne ↦ ap (λ y. y.parent) (there i ne)
    ]

    children : (i : ℕ) → children_of u i ≡ children_of t i
    children i = where_same (is_child_of u i) (is_child_of t i) 32
        (λ j _. ap (λ b. nat_lt 0 j && b && nat_eq (process_at u j).parent i) (c.lives j) ∙ ap (λ y. nat_lt 0 j && is_live t j && nat_eq y i) (parents j))

    more_forks : (i : ℕ) → n.forks i ≤ forks i
    more_forks i = elim (cases_eq i p) [
      | inl e ↦ let a : n.forks i ≡ n.forks p = ap n.forks e in let b : forks i ≡ forks p = ap forks e in omega (arith, a, b, c.forks_here)
      | inr ne ↦ omega (arith, c.forks_there i ne)
    ]

    was : (i : ℕ) → is_live u i ≡ true → is_live t i ≡ true
    was i l = sym (c.lives i) ∙ l

    now : (i : ℕ) → is_live t i ≡ true → is_live u i ≡ true
    now i l = c.lives i ∙ l

    found : (i : ℕ) → is_live u i ≡ true → find k.activities (n.name i) ≡ Some (entry_of (process_at u i) (forks i))
    found i l = elim (cases_eq i p) [
      | inl e ↦
          ap (λ j. find k.activities (n.name j)) e ∙ c.found_here ∙ sym (ap (λ y. Some (entry_of y (forks p))) here)
          ∙ sym (ap (λ j. Some (entry_of (process_at u j) (forks j))) e)
      | inr ne ↦
          c.found_there (n.name i) (names_apart t n m c.stands i p (was i l) c.live ne) ∙ c.stands.found i (was i l)
          ∙ sym (ap (λ y. Some (entry_of y (n.forks i))) (there i ne)) ∙ sym (ap (λ f. Some (entry_of (process_at u i) f)) (c.forks_there i ne))
    ]

    born : (i : ℕ) → is_live u i ≡ true → 0 < i → Born u (record n { forks = forks }) i
    born i l pos =
        let b : Born t n i = c.stands.born i (was i l) pos in
        record {
          lives = ap (is_live u) (parents i) ∙ now (process_at t i).parent b.lives;
          fork = b.fork;
          number = b.number;
          named = b.named ∙ sym (ap (λ j. child (n.name j) b.fork b.number) (parents i));
          earlier = let e : forks (process_at u i).parent ≡ forks (process_at t i).parent = ap forks (parents i) in
              omega (arith, e, b.earlier, more_forks (process_at t i).parent);
        }

    awaits_at : (i : ℕ) → is_live u i ≡ true → Awaits (process_at u i).standing (children_of u i)
    awaits_at i l = elim (cases_eq i p) [
      | inl e ↦
          subst (λ j. Awaits (process_at u j).standing (children_of u j)) (sym e)
          (subst (λ k. Awaits (process_at u p).standing k) (sym (children p)) (subst (λ y. Awaits y.standing (children_of t p)) (sym here) c.awaits))
      | inr ne ↦
          subst (λ k. Awaits (process_at u i).standing k) (sym (children i))
          (subst (λ y. Awaits y.standing (children_of t i)) (sym (there i ne)) (c.stands.awaits i (was i l)))
    ]

    pub one_changes : TableIsMachine u (record n { forks = forks }) k
    one_changes = record {
      found = found;
      all = λ q h. let a : (i : ℕ) × (is_live t i ≡ true) × (q ≡ n.name i) = c.stands.all q (sym (ap (λ ns. has ns q) c.named) ∙ h) in (a.0, now a.0 a.1, a.2);
      apart = λ i j l r e. c.stands.apart i j (was i l) (was j r) e;
      once = subst Once (sym c.named) c.stands.once;
      count = omega (arith, c.stands.count, c.free, length-names k.activities, length-names m.activities, ap length c.named);
      marks = λ i l. c.marks i (was i l);
      root = c.stands.root;
      born = born;
      awaits = awaits_at;
    }
