-- A kernel with the same processes is the same machine again.
use Rattle.std.proofs.Common.{◌≡◌, ℕ, suc, ◌<◌, ◌⊎◌, inl, inr, Bool, true, false, ◌&&◌, ◌||◌, not, nat_eq, nat_lt, if◌then◌else◌, List, [], ◌∷◌, length, map}
use Rattle.std.proofs.Common.{Option, Some, None, refl, sym, ◌∙◌, ap, arith, subst, slice_index_or}
use Rattle.std.specs.Option.{option_map}
use Rattle.std.proofs.lemmas.Bool.{eqb-true}
use Rattle.edi_calls.specs.Names.{Name, same, find, names}
use Rattle.edi_calls.specs.Names as tables
use Rattle.edi_calls.specs.Ready.{child, has}
use Rattle.edi_calls.specs.State.{State}
use Rattle.edi_calls.proofs.Names.{some_is}
use Rattle.edi_calls.proofs.Tables.{same-equal, same-refl}
use Rattle.edi_target.specs.Mach as mach
use Rattle.edi_target.specs.Mach.{Machine}
use Rattle.edi_ring.specs.Lists.{home_of}
use Rattle.edi_ring.specs.Links.{IsAmong, NoneTwice}
use Rattle.edi_ring.proofs.Chain.{minus, among-minus, minus_gone, minus_keeps, NoneTwice-minus, length-minus}
use Rattle.edi_ring.proofs.Homes.{has-from_among}
use Rattle.edi_kernel.specs.declared.state.KernelState.{KernelState}
use Rattle.edi_kernel.specs.declared.table.Table.{Table}
use Rattle.edi_kernel.specs.declared.table.Process.{Process}
use Rattle.edi_kernel.specs.Table.{process_at, marked_at, ready_slots, free_slots, is_live, is_free_home}
use Rattle.edi_kernel.specs.TableIsMachine.{Awaits, Born, Once, TableIsMachine, children_of, entry_of, is_child_of, marked_among}
use Rattle.edi_kernel.specs.Kernel.{IsKernel, IsTakenIn, Holds}
use Rattle.edi_kernel.specs.Kept.{HoldsAgain, IsMarkCount, SameKept, SameProcesses, StandsAgain, is_ready, is_ready_home, kept_of, restarted, words_of}
use Rattle.edi_kernel.proofs.Counts.{where_same}
use Rattle.edi_kernel.proofs.Lists.{home_among, live_of_home, ready_live, unmarked_at}
use Rattle.edi_kernel.proofs.Sharing.{among_home, none_twice}

-- ---- truth values

pub both_ways : (a b : Bool) → (a ≡ true → b ≡ true) → (b ≡ true → a ≡ true) → a ≡ b
both_ways true b f g = sym (f refl)
both_ways false true f g = g refl
both_ways false false f g = refl

-- ---- lists with the same members

pub none_left : (xs : List ℕ) → ((i : ℕ) → IsAmong i xs → ⊥) → length xs ≡ 0
none_left [] h = refl
none_left (x ∷ xs) h = absurd (h x (inl refl))

pub same_length : (xs ys : List ℕ) → NoneTwice xs → NoneTwice ys → ((i : ℕ) → IsAmong i xs → IsAmong i ys) → ((i : ℕ) → IsAmong i ys → IsAmong i xs) →
    length xs ≡ length ys
same_length [] ys n k there back = sym (none_left ys (λ i h. back i h))
same_length (x ∷ xs) ys n k there back =
    let less : length xs ≡ length (minus x ys) =
    same_length xs (minus x ys) n.1 (NoneTwice-minus x ys k)
    (λ i h. minus_keeps x i ys (there i (inr h)) (λ e. n.0 (subst (λ j. IsAmong j xs) e h)))
    (λ i h. rest i h (back i (among-minus x i ys h))) in
    omega (arith, less, length-minus x ys (there x (inl refl)) k)
  where
    rest : (i : ℕ) → IsAmong i (minus x ys) → IsAmong i (x ∷ xs) → IsAmong i xs
    rest i h (inl e) = absurd (minus_gone x ys (subst (λ j. IsAmong j (minus x ys)) e h))
    rest i h (inr t) = t

-- a name is among those of slots where one of the slots has it
pub or_cases : (a b : Bool) → (a || b) ≡ true → (a ≡ true) ⊎ (b ≡ true)
or_cases true b e = inl refl
or_cases false b e = inr e

pub or_right : (a b : Bool) → b ≡ true → (a || b) ≡ true
or_right true b e = refl
or_right false b e = e

pub slot_of : (f : ℕ → Name) (xs : List ℕ) (p : Name) → has (map f xs) p ≡ true → (i : ℕ) × IsAmong i xs × (p ≡ f i)
slot_of f [] p e = absurd (cc)
slot_of f (x ∷ xs) p e = go (or_cases (same p (f x)) (has (map f xs) p) e) (slot_of f xs p)
  where
    go : (same p (f x) ≡ true) ⊎ (has (map f xs) p ≡ true) → (has (map f xs) p ≡ true → (i : ℕ) × IsAmong i xs × (p ≡ f i)) →
        (i : ℕ) × IsAmong i (x ∷ xs) × (p ≡ f i)
    go (inl h) more = (x, inl refl, same-equal p (f x) h)
    go (inr h) more = let r : (i : ℕ) × IsAmong i xs × (p ≡ f i) = more h in (r.0, inr r.1, r.2)

pub has_slot : (f : ℕ → Name) (xs : List ℕ) (i : ℕ) → IsAmong i xs → has (map f xs) (f i) ≡ true
has_slot f [] i h = absurd h
has_slot f (x ∷ xs) i (inl e) = ap (λ b. b || has (map f xs) (f i)) (ap (λ j. same (f i) (f j)) (sym e) ∙ same-refl (f i))
has_slot f (x ∷ xs) i (inr h) = or_right (same (f i) (f x)) (has (map f xs) (f i)) (has_slot f xs i h)

pub same_members : (f : ℕ → Name) (xs ys : List ℕ) → ((i : ℕ) → IsAmong i xs → IsAmong i ys) → ((i : ℕ) → IsAmong i ys → IsAmong i xs) → (p : Name) →
    has (map f xs) p ≡ has (map f ys) p
same_members f xs ys there back p = both_ways (has (map f xs) p) (has (map f ys) p)
    (λ e. let r : (i : ℕ) × IsAmong i xs × (p ≡ f i) = slot_of f xs p e in ap (has (map f ys)) r.2 ∙ has_slot f ys r.0 (there r.0 r.1))
    (λ e. let r : (i : ℕ) × IsAmong i ys × (p ≡ f i) = slot_of f ys p e in ap (has (map f xs)) r.2 ∙ has_slot f xs r.0 (back r.0 r.1))

pub once_named : (f : ℕ → Name) (xs : List ℕ) → NoneTwice xs → ((i j : ℕ) → IsAmong i xs → IsAmong j xs → f i ≡ f j → i ≡ j) → Once (map f xs)
once_named f [] n apart = tt
once_named f (x ∷ xs) n apart =
    (none (has (map f xs) (f x)) refl, once_named f xs n.1 (λ i j a b e. apart i j (inr a) (inr b) e))
  where
    none : (b : Bool) → has (map f xs) (f x) ≡ b → b ≡ false
    none false e = refl
    none true e =
        let r : (i : ℕ) × IsAmong i xs × (f x ≡ f i) = slot_of f xs (f x) e in
        absurd (n.0 (subst (λ j. IsAmong j xs) (sym (apart x r.0 (inl refl) (inr r.1) r.2)) r.1))

-- ---- tables

pub found_has : {A : Type 0} (es : tables.Table A) (p : Name) (a : A) → find es p ≡ Some a → has (names es) p ≡ true
found_has [] p a e = absurd (cc)
found_has (x ∷ es) p a e = go (same p x.0) refl e (found_has es p a)
  where
    go : (b : Bool) → same p x.0 ≡ b → (if b then Some x.1 else find es p) ≡ Some a → (find es p ≡ Some a → has (names es) p ≡ true) →
        (b || has (names es) p) ≡ true
    go true s e more = refl
    go false s e more = more e

pub ready_home : (o : Option ℕ) → is_ready_home o ≡ true → o ≡ Some 0
ready_home None e = absurd (cc)
ready_home (Some list) e = ap Some (eqb-true list 0 e)

pub free_home : (o : Option ℕ) → is_free_home o ≡ true → o ≡ Some 1
free_home None e = absurd (cc)
free_home (Some list) e = ap Some (eqb-true list 1 e)

-- who is not live is free
pub dead_free : (t : Table) (i : ℕ) → i < 32 → is_live t i ≡ false → is_free_home (home_of t.lists i) ≡ true
dead_free t i l dead = go (is_free_home (home_of t.lists i)) refl
  where
    go : (b : Bool) → is_free_home (home_of t.lists i) ≡ b → b ≡ true
    go true e = refl
    go false e = let a : true ≡ false = sym (live_of_home t i l e) ∙ dead in absurd (cc)

pub free_dead : (t : Table) (i : ℕ) → is_free_home (home_of t.lists i) ≡ true → is_live t i ≡ false
free_dead t i e = ap (λ b. nat_lt i 32 && not b) e ∙ none (nat_lt i 32)
  where
    none : (b : Bool) → (b && false) ≡ false
    none true = refl
    none false = refl

module _ (k other : KernelState) (m : Machine) (order : List Name) (turns : ℕ) (system : State) (kernel : IsKernel k) (kernel' : IsKernel other)
    (h : Holds k m None order) (s : SameProcesses k other) where
  was : (i : ℕ) → is_live other.table i ≡ true → is_live k.table i ≡ true
  was i l = sym (s.lives i) ∙ l

  ready_there : (t u : KernelState) → IsKernel t → IsKernel u → ((i : ℕ) → is_ready u.table i ≡ is_ready t.table i) → (i : ℕ) → IsAmong i (ready_slots t.table) →
      IsAmong i (ready_slots u.table)
  ready_there t u kt ku same i a =
      among_home u.table.lists i 0 ku.table.sound.as_many
      (ready_home (home_of u.table.lists i) (same i ∙ ap is_ready_home (home_among t.table 0 i kt.table.sound (omega arith) a)))

  free_there : (t u : KernelState) → IsKernel t → IsKernel u → ((i : ℕ) → is_live u.table i ≡ is_live t.table i) → (i : ℕ) → IsAmong i (free_slots t.table) →
      IsAmong i (free_slots u.table)
  free_there t u kt ku same i a =
      let inside : i < 32 = kt.table.sound.in_range 1 i (has-from_among i (free_slots t.table) a) in
      among_home u.table.lists i 1 ku.table.sound.as_many
      (free_home (home_of u.table.lists i)
      (dead_free u.table i inside (same i ∙ free_dead t.table i (ap is_free_home (home_among t.table 1 i kt.table.sound (omega arith) a)))))

  same_free : length (free_slots other.table) ≡ length (free_slots k.table)
  same_free = same_length (free_slots other.table) (free_slots k.table) (none_twice (free_slots other.table) (kernel'.table.sound.once 1))
      (none_twice (free_slots k.table) (kernel.table.sound.once 1))
      (free_there other k kernel' kernel (λ i. sym (s.lives i))) (free_there k other kernel kernel' s.lives)

  parent_same : (i : ℕ) → is_live k.table i ≡ true → (process_at other.table i).parent ≡ (process_at k.table i).parent
  parent_same i l = ap (λ (y : Process). y.parent) (s.process i l)

  child_same : (parent i : ℕ) → is_child_of other.table parent i ≡ is_child_of k.table parent i
  child_same parent i = go (is_live k.table i) refl
    where
      go : (b : Bool) → is_live k.table i ≡ b → is_child_of other.table parent i ≡ is_child_of k.table parent i
      go true l =
          ap (λ b. nat_lt 0 i && b && nat_eq (process_at other.table i).parent parent) (s.lives i)
          ∙ ap (λ p. nat_lt 0 i && is_live k.table i && nat_eq p parent) (parent_same i l)
      go false l =
          ap (λ b. nat_lt 0 i && b && nat_eq (process_at other.table i).parent parent) (s.lives i ∙ l) ∙ none (nat_lt 0 i) (nat_eq (process_at other.table i).parent parent)
          ∙ sym (ap (λ b. nat_lt 0 i && b && nat_eq (process_at k.table i).parent parent) l ∙ none (nat_lt 0 i) (nat_eq (process_at k.table i).parent parent))
        where
          none : (x z : Bool) → (x && false && z) ≡ false
          none true z = refl
          none false z = refl

  stands : TableIsMachine other.table h.naming (restarted m other.store turns system)
  stands = record {
    found = λ i l. h.stands.found i (was i l) ∙ sym (ap (λ y. Some (entry_of y (h.naming.forks i))) (s.process i (was i l)));
    all = λ q a.
        let r : (i : ℕ) × (is_live k.table i ≡ true) × (q ≡ h.naming.name i) = h.stands.all q a in (r.0, s.lives r.0 ∙ r.1, r.2);
    apart = λ i j l r e. h.stands.apart i j (was i l) (was j r) e;
    once = h.stands.once;
    count = omega (arith, h.stands.count, same_free);
    marks = λ i l. sym (ap (λ ms. slice_index_or ms i false) s.unmarked ∙ unmarked_at 32 i);
    root = h.stands.root;
    born = λ i l pos.
        let b : Born k.table h.naming i = h.stands.born i (was i l) pos in
        let pa : (process_at other.table i).parent ≡ (process_at k.table i).parent = parent_same i (was i l) in
        record {
          lives = ap (is_live other.table) pa ∙ s.lives (process_at k.table i).parent ∙ b.lives;
          fork = b.fork;
          number = b.number;
          named = b.named ∙ sym (ap (λ j. child (h.naming.name j) b.fork b.number) pa);
          earlier = let e : h.naming.forks (process_at other.table i).parent ≡ h.naming.forks (process_at k.table i).parent = ap h.naming.forks pa in
              omega (arith, e, b.earlier);
        };
    awaits = λ i l.
        subst (λ (y : Process). Awaits y.standing (children_of other.table i)) (sym (s.process i (was i l)))
        (subst (λ c. Awaits (process_at k.table i).standing c)
        (sym (where_same (is_child_of other.table i) (is_child_of k.table i) 32 (λ j _. child_same i j)))
        (h.stands.awaits i (was i l)));
  }

  same_words : SameKept m m.memory other.store
  same_words p a found =
      let r : (i : ℕ) × (is_live k.table i ≡ true) × (p ≡ h.naming.name i) = h.stands.all p (found_has m.activities p a found) in
      let is : a ≡ entry_of (process_at k.table r.0) (h.naming.forks r.0) =
      some_is (sym found ∙ ap (find m.activities) r.2 ∙ h.stands.found r.0 r.1) in
      ap (λ (x : mach.Activity). kept_of other.store x.first x.base x.top) is
      ∙ s.words r.0 r.1
      ∙ ap (λ words. words_of words (process_at k.table r.0).activity) (sym h.memory)
      ∙ ap (λ (x : mach.Activity). kept_of m.memory x.first x.base x.top) (sym is)

  holds_again : HoldsAgain other m order turns system
  holds_again = record {
    order = map h.naming.name (ready_slots other.table);
    holds = record {
      naming = h.naming;
      stands = stands;
      memory = refl;
      is_taken = sym (ap (option_map h.naming.name) s.taken);
      is_ready = refl;
    };
    members = λ p.
        same_members h.naming.name (ready_slots other.table) (ready_slots k.table) (ready_there other k kernel' kernel (λ i. sym (s.ready i)))
        (ready_there k other kernel kernel' s.ready) p
        ∙ ap (λ ns. has ns p) (sym h.is_ready);
    once = once_named h.naming.name (ready_slots other.table) (none_twice (ready_slots other.table) (kernel'.table.sound.once 0))
        (λ i j a b e. stands.apart i j (ready_live other.table i kernel'.table.sound a) (ready_live other.table j kernel'.table.sound b) e);
    words = same_words;
  }

pub stands_again : StandsAgain
stands_again k other m order turns system kernel kernel' h s = holds_again k other m order turns system kernel kernel' h s

-- ---- marks

-- none of these slots is marked, and one of them is
none_counted : (t : Table) (xs : List ℕ) → ((i : ℕ) → IsAmong i xs → marked_at t i ≡ false) → marked_among t xs ≡ 0
none_counted t [] h = refl
none_counted t (x ∷ xs) h =
    ap (λ b. if b then suc (marked_among t xs) else marked_among t xs) (h x (inl refl)) ∙ none_counted t xs (λ i a. h i (inr a))

one_counted : (t : Table) (xs : List ℕ) (i : ℕ) → IsAmong i xs → marked_at t i ≡ true → 0 < marked_among t xs
one_counted t [] i a e = absurd a
one_counted t (x ∷ xs) i (inl h) e = here (marked_at t x) (ap (marked_at t) (sym h) ∙ e)
  where
    here : (b : Bool) → b ≡ true → 0 < (if b then suc (marked_among t xs) else marked_among t xs)
    here true e = omega arith
    here false e = absurd (cc)
one_counted t (x ∷ xs) i (inr h) e = there (marked_at t x) (one_counted t xs i h e)
  where
    there : (b : Bool) → 0 < marked_among t xs → 0 < (if b then suc (marked_among t xs) else marked_among t xs)
    there true l = omega arith
    there false l = l

pub mark_count : (k : KernelState) (m : Machine) (ready : List Name) → IsKernel k → k.taken ≡ None → Holds k m None ready → IsMarkCount k.table.marks m.marks ready
mark_count k m ready kernel free h = record {
  none = λ e. counted ∙ none_counted k.table (ready_slots k.table) (λ i a. sym (h.stands.marks i (ready_live k.table i kernel.table.sound a))
      ∙ ap (λ ms. has ms (h.naming.name i)) e);
  some = λ p among marked.
      let r : (i : ℕ) × IsAmong i (ready_slots k.table) × (p ≡ h.naming.name i) =
      slot_of h.naming.name (ready_slots k.table) p (sym (ap (λ ns. has ns p) h.is_ready) ∙ among) in
      let one : 0 < marked_among k.table (ready_slots k.table) =
      one_counted k.table (ready_slots k.table) r.0 r.1
      (sym (h.stands.marks r.0 (ready_live k.table r.0 kernel.table.sound r.1)) ∙ ap (has m.marks) (sym r.2) ∙ marked) in
      omega (arith, one, counted);
}
  where
    counted : k.table.marks ≡ marked_among k.table (ready_slots k.table)
    counted = (subst (IsTakenIn k.table) free kernel.taken).counted
