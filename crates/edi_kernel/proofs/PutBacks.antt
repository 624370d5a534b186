-- Processes that are put back, and the kernel's invariants.
use Rattle.std.proofs.Common.{◌≡◌, ℕ, zero, suc, ◌<◌, inl, inr, Bool, true, false, ◌&&◌, nat_lt, if◌then◌else◌, List}
use Rattle.std.proofs.Common.{length, map, Some, None, refl, sym, ◌∙◌, ap, arith, subst, slice_index_or, slice_set, length-set, eq-eqb}
use Rattle.std.specs.Prelude.{slice_get, ◌==◌}
use Rattle.std.specs.Option.{option_map}
use Rattle.std.proofs.lemmas.Bool.{cases_eq, eqb-true}
use Rattle.std.proofs.lemmas.Bool.Decides.{nat_tests}
use Rattle.edi_calls.specs.Names.{Name}
use Rattle.edi_calls.specs.Ready.{name_at, without_index}
use Rattle.edi_target.specs.Mach.{Machine}
use Rattle.edi_ring.specs.Lists.{list_at, home_of, IsSound}
use Rattle.edi_ring.proofs.Chain.{minus_none}
use Rattle.edi_machine.specs.Activities.{IsOrdered}
use Rattle.edi_kernel.specs.declared.state.KernelState.{KernelState}
use Rattle.edi_kernel.specs.declared.table.Process.{Process}
use Rattle.edi_kernel.specs.declared.table.Table.{Table}
use Rattle.edi_kernel.specs.Table.{PutsProcess, Withdraws, first_home, process_at, ready_slots, is_free_home, is_waiting, no_marks, no_process}
use Rattle.edi_kernel.specs.TableIsMachine.{IsTable, IsBetween, marked_among}
use Rattle.edi_kernel.specs.Kernel.{IsKernel, Holds}
use Rattle.edi_kernel.specs.Kept.{Admits, is_ready, is_ready_home}
use Rattle.edi_kernel.proofs.Changes.{at_set_same, at_set_other}
use Rattle.edi_kernel.proofs.Choosing.{chosen_named, chosen_stands}
use Rattle.edi_kernel.proofs.Counts.{marked_same}
use Rattle.edi_kernel.proofs.Lists.{home_among, none_marked, not_both, put_table}
use Rattle.edi_kernel.proofs.Sharing.{list_without}

-- ---- a process that lives again

-- where it was free
pub admits_free : (slot : ℕ) (x : Process) (t u v : Table) → IsSound 32 2 t.lists → home_of t.lists slot ≡ Some 1 → Withdraws slot t u
    → v ≡ record u { processes = slice_set u.processes slot x } → Admits slot x t v
admits_free slot x t u v s was w is = record {
  processes = ap (λ (y : Table). y.processes) is ∙ ap (λ xs. slice_set xs slot x) w.processes;
  homes = λ q. ap (λ (y : Table). home_of y.lists q) is ∙ w.homes q;
  ready =
      ap (λ (y : Table). list_at y.lists 0) is ∙ ap (λ ls. list_at ls 0) w.lists ∙ list_without t.lists 0 slot
      ∙ minus_none slot (ready_slots t) (λ i. not_both (home_of t.lists slot) (home_among t 0 slot s (omega arith) i) was);
  sound = subst (λ (y : Table). IsSound 32 2 y.lists) (sym is) w.sound;
  marked = ap (λ (y : Table). y.marked) is ∙ w.marked;
  marks = ap (λ (y : Table). y.marks) is ∙ w.marks;
}

-- where it is the first one
pub admits_first : (slot : ℕ) (x : Process) (t v : Table) → IsSound 32 2 t.lists → home_of t.lists slot ≡ None
    → v ≡ record t { processes = slice_set t.processes slot x } → Admits slot x t v
admits_first slot x t v s none is = record {
  processes = ap (λ (y : Table). y.processes) is;
  homes = λ q. ap (λ (y : Table). home_of y.lists q) is ∙ home q (q == slot) refl;
  ready = ap (λ (y : Table). list_at y.lists 0) is;
  sound = subst (λ (y : Table). IsSound 32 2 y.lists) (sym is) s;
  marked = ap (λ (y : Table). y.marked) is;
  marks = ap (λ (y : Table). y.marks) is;
}
  where
    home : (q : ℕ) (b : Bool) → (q == slot) ≡ b → home_of t.lists q ≡ (if b then None else home_of t.lists q)
    home q true e = ap (home_of t.lists) (eqb-true q slot e) ∙ none
    home q false e = refl

pub first_free : (slot : ℕ) → 0 < slot → slot < 32 → first_home slot ≡ Some 1
first_free slot h l = ap (λ b. if b && nat_lt slot 32 then Some 1 else None) (positive slot h) ∙ ap (λ b. if b then Some 1 else None) (below slot l)
  where
    positive : (n : ℕ) → 0 < n → nat_lt 0 n ≡ true
    positive n h = grind (arith, nat_tests)

    below : (n : ℕ) → n < 32 → nat_lt n 32 ≡ true
    below n h = grind (arith, nat_tests)

pub first_none : (slot : ℕ) → (0 < slot → ⊥) → first_home slot ≡ None
first_none zero h = refl
first_none (suc n) h = absurd (h (omega arith))

pub admitted_table : (slot : ℕ) (x : Process) (t u : Table) → IsTable t → Admits slot x t u → slot < 32 → x.parent < 32 → IsOrdered x.activity → IsTable u
admitted_table slot x t u s a lt parent ordered = record {
  sound = a.sound;
  wide = ap length a.processes ∙ length-set t.processes slot x ∙ s.wide;
  marked_wide = ap length a.marked ∙ s.marked_wide;
  clear = λ none. a.marked ∙ s.clear (sym a.marks ∙ none);
  parents = λ i. elim (cases_eq i slot) [
    | inl e ↦ subst (λ y. y.parent < 32) (sym (here i e)) parent
    | inr ne ↦ subst (λ y. y.parent < 32) (sym (there i ne)) (s.parents i)
  ];
  ordered = λ i b. elim (cases_eq i slot) [
    | inl e ↦ subst (λ y. IsOrdered y.activity) (sym (here i e)) ordered
    | inr ne ↦ subst (λ y. IsOrdered y.activity) (sym (there i ne)) (s.ordered i b)
  ];
  root = ap is_free_home (a.homes 0) ∙ rooted (0 == slot);
  waiting = λ i w. a.homes i ∙ none i w (i == slot) refl;
}
  where
    here : (i : ℕ) → i ≡ slot → process_at u i ≡ x
    here i e = ap (process_at u) e ∙ ap (λ xs. slice_index_or xs slot no_process) a.processes ∙ at_set_same t.processes slot x (omega (arith, s.wide, lt))

    there : (i : ℕ) → (i ≡ slot → ⊥) → process_at u i ≡ process_at t i
    there i ne = ap (λ xs. slice_index_or xs i no_process) a.processes ∙ at_set_other t.processes slot i x ne

    rooted : (b : Bool) → is_free_home (if b then None else home_of t.lists 0) ≡ false
    rooted true = refl
    rooted false = s.root

    none : (i : ℕ) → is_waiting (process_at u i).standing ≡ true → (b : Bool) → (i == slot) ≡ b → (if b then None else home_of t.lists i) ≡ None
    none i w true e = refl
    none i w false e = s.waiting i (sym (ap (λ y. is_waiting y.standing) (there i (λ h. differ (i == slot) e (eq-eqb i slot h)))) ∙ w)
      where
        differ : (b : Bool) → b ≡ false → b ≡ true → ⊥
        differ b e f = let a : true ≡ false = sym f ∙ e in absurd (cc)

-- the marks are counted as before
pub admitted_between : (slot : ℕ) (x : Process) (t u : Table) → IsBetween t → Admits slot x t u → IsBetween u
admitted_between slot x t u b a = record {
  counted =
      a.marks ∙ b.counted ∙ marked_same t u (ready_slots t) (λ i h. ap (λ ms. slice_index_or ms i false) (sym a.marked)) ∙ ap (marked_among u) (sym a.ready);
}

-- ---- a process that is ready again

pub lined_table : (slot : ℕ) (t u : Table) → IsTable t → PutsProcess 0 slot (process_at t slot) t u → slot < 32
    → is_waiting (process_at t slot).standing ≡ false → IsTable u
lined_table slot t u s put lt going = put_table t u 0 slot (process_at t slot) s put (inl refl) lt (s.parents slot) (s.ordered slot lt) going

pub lined_between : (slot : ℕ) (t u : Table) → IsBetween t → t.marked ≡ no_marks → PutsProcess 0 slot (process_at t slot) t u → IsBetween u
lined_between slot t u b none put = record {
  counted = put.marks ∙ b.counted ∙ none_marked t (ready_slots t) none ∙ sym (none_marked u (ready_slots u) (put.marked ∙ none));
}

-- ---- a process that is taken

module _ (old new : KernelState) (at x : ℕ) (kernel : IsKernel old) (free : old.taken ≡ None) (lt : x < 32) (was : slice_get (ready_slots old.table) at ≡ Some x)
    (w : Withdraws x old.table new.table) (taken : new.taken ≡ Some x) (same : new.store ≡ old.store) where
  pub takes : (m : Machine) (names : List Name) → Holds old m None names → Holds new m (Some (name_at names at)) (without_index names at)
  takes m names h =
      let r : (name_at (map h.naming.name (ready_slots old.table)) at ≡ h.naming.name x)
      × (map h.naming.name (ready_slots new.table) ≡ without_index (map h.naming.name (ready_slots old.table)) at) =
      chosen_named old.table new.table at x kernel.table lt was w h.naming.name in
      record {
        naming = h.naming;
        stands = chosen_stands old.table new.table at x kernel.table lt was w h.naming m h.stands;
        memory = h.memory ∙ sym same;
        is_taken = ap (λ ns. Some (name_at ns at)) h.is_ready ∙ ap Some r.0 ∙ sym (ap (option_map h.naming.name) taken);
        is_ready = ap (λ ns. without_index ns at) h.is_ready ∙ sym r.1;
      }

-- ---- a process that is kept

-- who is ready does not wait
pub ready_going : (t : Table) (slot : ℕ) → IsTable t → is_ready t slot ≡ true → is_waiting (process_at t slot).standing ≡ false
ready_going t slot s ready = go (is_waiting (process_at t slot).standing) refl
  where
    go : (b : Bool) → is_waiting (process_at t slot).standing ≡ b → b ≡ false
    go false e = refl
    go true e = let a : true ≡ false = sym ready ∙ ap is_ready_home (s.waiting slot e) in absurd (cc)
