-- A kernel with the same processes is the same machine again, by the same names of its processes.
use Rattle.std.proofs.Common.{◌≡◌, ℕ, ◌<◌, Bool, true, false, ◌&&◌, nat_eq, nat_lt, List, length, map}
use Rattle.std.proofs.Common.{Some, None, refl, sym, ◌∙◌, ap, arith, subst, slice_index_or}
use Rattle.std.specs.Option.{option_map}
use Rattle.edi_calls.specs.Names.{Name, same}
use Rattle.edi_calls.specs.Ready.{child, has}
use Rattle.edi_calls.specs.State.{State}
use Rattle.edi_target.specs.Mach.{Machine}
use Rattle.edi_ring.specs.Lists.{home_of}
use Rattle.edi_ring.specs.Links.{IsAmong}
use Rattle.edi_ring.proofs.Homes.{has-from_among}
use Rattle.edi_kernel.specs.declared.state.KernelState.{KernelState}
use Rattle.edi_kernel.specs.declared.table.Process.{Process}
use Rattle.edi_kernel.specs.Table.{process_at, ready_slots, free_slots, is_live, is_free_home}
use Rattle.edi_kernel.specs.TableIsMachine.{Awaits, Born, Once, TableIsMachine, children_of, entry_of, is_child_of}
use Rattle.edi_kernel.specs.Kernel.{IsKernel, Holds}
use Rattle.edi_kernel.specs.Kept.{SameProcesses, is_ready, is_ready_home, restarted}
use Rattle.edi_kernel.proofs.Counts.{where_same}
use Rattle.edi_kernel.proofs.Lists.{home_among, ready_live, unmarked_at}
use Rattle.edi_kernel.proofs.Sharing.{among_home, none_twice}
use Rattle.edi_kernel.proofs.Again.{same_length, same_members, once_named, ready_home, free_home, dead_free, free_dead}

module _ (k other : KernelState) (m : Machine) (order : List Name) (turns : ℕ) (system : State) (kernel : IsKernel k) (kernel' : IsKernel other)
    (h : Holds k m None order) (s : SameProcesses k other) where
  was : (i : ℕ) → is_live other.table i ≡ true → is_live k.table i ≡ true
  was i l = sym (s.lives i) ∙ l

  ready_there : (t u : KernelState) → IsKernel t → IsKernel u → ((i : ℕ) → is_ready u.table i ≡ is_ready t.table i) → (i : ℕ) → IsAmong i (ready_slots t.table) →
      IsAmong i (ready_slots u.table)
  ready_there t u kt ku same i a =
      among_home u.table.lists i 0 ku.table.sound.as_many
      (ready_home (home_of u.table.lists i) (same i ∙ ap is_ready_home (home_among t.table 0 i kt.table.sound (omega arith) a)))

  free_there : (t u : KernelState) → IsKernel t → IsKernel u → ((i : ℕ) → is_live u.table i ≡ is_live t.table i) → (i : ℕ) → IsAmong i (free_slots t.table) →
      IsAmong i (free_slots u.table)
  free_there t u kt ku same i a =
      let inside : i < 32 = kt.table.sound.in_range 1 i (has-from_among i (free_slots t.table) a) in
      among_home u.table.lists i 1 ku.table.sound.as_many
      (free_home (home_of u.table.lists i)
      (dead_free u.table i inside (same i ∙ free_dead t.table i (ap is_free_home (home_among t.table 1 i kt.table.sound (omega arith) a)))))

  same_free : length (free_slots other.table) ≡ length (free_slots k.table)
  same_free = same_length (free_slots other.table) (free_slots k.table) (none_twice (free_slots other.table) (kernel'.table.sound.once 1))
      (none_twice (free_slots k.table) (kernel.table.sound.once 1))
      (free_there other k kernel' kernel (λ i. sym (s.lives i))) (free_there k other kernel kernel' s.lives)

  parent_same : (i : ℕ) → is_live k.table i ≡ true → (process_at other.table i).parent ≡ (process_at k.table i).parent
  parent_same i l = ap (λ (y : Process). y.parent) (s.process i l)

  child_same : (parent i : ℕ) → is_child_of other.table parent i ≡ is_child_of k.table parent i
  child_same parent i = go (is_live k.table i) refl
    where
      go : (b : Bool) → is_live k.table i ≡ b → is_child_of other.table parent i ≡ is_child_of k.table parent i
      go true l =
          ap (λ b. nat_lt 0 i && b && nat_eq (process_at other.table i).parent parent) (s.lives i)
          ∙ ap (λ p. nat_lt 0 i && is_live k.table i && nat_eq p parent) (parent_same i l)
      go false l =
          ap (λ b. nat_lt 0 i && b && nat_eq (process_at other.table i).parent parent) (s.lives i ∙ l) ∙ none (nat_lt 0 i) (nat_eq (process_at other.table i).parent parent)
          ∙ sym (ap (λ b. nat_lt 0 i && b && nat_eq (process_at k.table i).parent parent) l ∙ none (nat_lt 0 i) (nat_eq (process_at k.table i).parent parent))
        where
          none : (x z : Bool) → (x && false && z) ≡ false
          none true z = refl
          none false z = refl

  stands : TableIsMachine other.table h.naming (restarted m other.store turns system)
  stands = record {
    found = λ i l. h.stands.found i (was i l) ∙ sym (ap (λ y. Some (entry_of y (h.naming.forks i))) (s.process i (was i l)));
    all = λ q a.
        let r : (i : ℕ) × (is_live k.table i ≡ true) × (q ≡ h.naming.name i) = h.stands.all q a in (r.0, s.lives r.0 ∙ r.1, r.2);
    apart = λ i j l r e. h.stands.apart i j (was i l) (was j r) e;
    once = h.stands.once;
    count = omega (arith, h.stands.count, same_free);
    marks = λ i l. sym (ap (λ ms. slice_index_or ms i false) s.unmarked ∙ unmarked_at 32 i);
    root = h.stands.root;
    born = λ i l pos.
        let b : Born k.table h.naming i = h.stands.born i (was i l) pos in
        let pa : (process_at other.table i).parent ≡ (process_at k.table i).parent = parent_same i (was i l) in
        record {
          lives = ap (is_live other.table) pa ∙ s.lives (process_at k.table i).parent ∙ b.lives;
          fork = b.fork;
          number = b.number;
          named = b.named ∙ sym (ap (λ j. child (h.naming.name j) b.fork b.number) pa);
          earlier = let e : h.naming.forks (process_at other.table i).parent ≡ h.naming.forks (process_at k.table i).parent = ap h.naming.forks pa in
              omega (arith, e, b.earlier);
        };
    awaits = λ i l.
        subst (λ (y : Process). Awaits y.standing (children_of other.table i)) (sym (s.process i (was i l)))
        (subst (λ c. Awaits (process_at k.table i).standing c)
        (sym (where_same (is_child_of other.table i) (is_child_of k.table i) 32 (λ j _. child_same i j)))
        (h.stands.awaits i (was i l)));
  }

  -- IT HOLDS BY THE SAME NAMES
  pub holds_by_name : Holds other (restarted m other.store turns system) None (map h.naming.name (ready_slots other.table))
  holds_by_name = record {
    naming = h.naming;
    stands = stands;
    memory = refl;
    is_taken = sym (ap (option_map h.naming.name) s.taken);
    is_ready = refl;
  }

  pub members_by_name : (p : Name) → has (map h.naming.name (ready_slots other.table)) p ≡ has order p
  members_by_name p =
      same_members h.naming.name (ready_slots other.table) (ready_slots k.table) (ready_there other k kernel' kernel (λ i. sym (s.ready i)))
      (ready_there k other kernel kernel' s.ready) p
      ∙ ap (λ ns. has ns p) (sym h.is_ready)

  pub once_by_name : Once (map h.naming.name (ready_slots other.table))
  once_by_name = once_named h.naming.name (ready_slots other.table) (none_twice (ready_slots other.table) (kernel'.table.sound.once 0))
      (λ i j a b e. stands.apart i j (ready_live other.table i kernel'.table.sound a) (ready_live other.table j kernel'.table.sound b) e)

  -- who is ready there is ready here
  pub ready_also : (i : ℕ) → IsAmong i (ready_slots k.table) → IsAmong i (ready_slots other.table)
  ready_also = ready_there k other kernel kernel' s.ready
