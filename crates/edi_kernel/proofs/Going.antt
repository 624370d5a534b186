-- A stint of the kernel is one of the machine.
use Rattle.std.proofs.Common.{◌≡◌, inl, inr, ℕ, ◌-◌, ◌≤◌, Bool, true, false, List, length}
use Rattle.std.proofs.Common.{Option, Some, None, refl, sym, ◌∙◌, ap, arith, subst, if◌then◌else◌}
use Rattle.std.specs.Prelude.{◌==◌, IfSome}
use Rattle.std.specs.Option.{option_map}
use Rattle.edi_calls.specs.State.{State}
use Rattle.edi_calls.specs.declared.ends.Outside.{Outside}
use Rattle.edi_calls.specs.Names.{Name, same}
use Rattle.edi_target.specs.Effect.{Local}
use Rattle.edi_target.specs.Mach.{Machine}
use Rattle.edi_machine.specs.declared.activity.Activity.{Activity}
use Rattle.edi_machine.specs.Activities.{IsOrdered, local_of}
use Rattle.edi_kernel.specs.declared.ends.StintEnd.{StintEnd}
use Rattle.edi_kernel.specs.declared.stretch.Pause.{Pause}
use Rattle.edi_kernel.specs.declared.stretch.Pause.TheVariants as pause
use Rattle.edi_kernel.specs.declared.state.KernelState.{KernelState}
use Rattle.edi_kernel.specs.declared.table.Table.{Table}
use Rattle.edi_kernel.specs.Table.{process_at, unmarked, free_slots}
use Rattle.edi_kernel.specs.Table.{resumed}
use Rattle.edi_kernel.specs.TableIsMachine.{IsTable, IsTaken, Naming}
use Rattle.edi_kernel.specs.Stretch.{running_in, walked, Stretches, Allows, AsksFailed}
use Rattle.edi_kernel.specs.Kernel.{Holds, StandsAfter, IsKernel, IsNotedAs, IsTakenIn}
use Rattle.edi_kernel.specs.Kernel.{BreaksBy, Handles, is_over, taken_after}
use Rattle.edi_kernel.specs.Named.{BreaksRunBy, HoldsBy, GoesBy}
use Rattle.edi_kernel.proofs.Switches.{unmarked_table}
use Rattle.edi_kernel.proofs.Placing.{arrived_ordered}
use Rattle.edi_kernel.proofs.Handled.{handled}
use Rattle.edi_kernel.proofs.StintGiven.{Given, taken_at, unmarked_if}
use Rattle.edi_kernel.proofs.StintEnds as ends
use Rattle.edi_kernel.proofs.StintFailures as failures

-- nobody is taken where the run goes on
pub free_after : (pause : Pause) (words : List ℕ) (slot used : ℕ) (a : Activity) (old new : KernelState) (result : StintEnd) (taken : Option ℕ)
    → Handles pause words slot used a old new result → is_over result ≡ false → taken_after pause taken ≡ None
free_after (pause.At kind) words slot used a old new result taken h e = refl
free_after (pause.Over ending) words slot used a old new result taken h e = let no : true ≡ false = sym (ap is_over h.2) ∙ e in absurd (cc)

-- ---- the whole stint

-- the table at the pause is sound, and the process is still taken
pub record Mid (old : KernelState) (table : Table) (slot : ℕ) (cleared : Bool) : Type 0 where
  pub is : table ≡ (if cleared then unmarked old.table else old.table)
  pub sound : IsTable table
  pub taken : IsTaken table slot

pub mid_of : (old walked : KernelState) (table : Table) (slot : ℕ) (cleared : Bool) → IsKernel old → old.taken ≡ Some slot → walked.table ≡ old.table →
    table ≡ (if cleared then unmarked walked.table else walked.table) → Mid old table slot cleared
mid_of old walked table slot cleared k e same f =
    let is : table ≡ (if cleared then unmarked old.table else old.table) = f ∙ ap (λ t. if cleared then unmarked t else t) same in
    record {
      is = is;
      sound = subst IsTable (sym is) (sound cleared);
      taken = subst (λ t. IsTaken t slot) (sym is) (unmarked_if cleared old.table slot (taken_at old slot k e));
    }
  where
    sound : (b : Bool) → IsTable (if b then unmarked old.table else old.table)
    sound true = unmarked_table old.table k.table
    sound false = k.table

-- what a kernel keeps, it keeps where an arrival is not noted
pub kernel_as : (notes : Bool) (old noted new : KernelState) (result : StintEnd) → IsNotedAs notes old noted new result → IsKernel old → IsKernel noted
    → IsKernel new
kernel_as notes old noted new result is before k = record {
  table = subst IsTable (sym table) k.table;
  taken = subst (λ t. IsTakenIn t new.taken) (sym table) (subst (IsTakenIn noted.table) (sym (ap (λ (x : KernelState). x.taken) is.rest)) k.taken);
  arrived = elim is.arrived [
    | inl e ↦ subst (λ x. IfSome x IsOrdered) (sym e) k.arrived
    | inr e ↦ subst (λ x. IfSome x IsOrdered) (sym e) before.arrived
  ];
}
  where
    table : new.table ≡ noted.table
    table = ap (λ (x : KernelState). x.table) is.rest

-- the same, beside a kernel that keeps the same activity
pub noted_from : (notes : Bool) (old mid noted new : KernelState) (result : StintEnd) → mid.arrived ≡ old.arrived → IsNotedAs notes mid noted new result
    → IsNotedAs notes old noted new result
noted_from notes old mid noted new result same is = record {
  rest = is.rest;
  noting = is.noting;
  other = is.other;
  arrived = elim is.arrived [
    | inl e ↦ inl e
    | inr e ↦ inr (e ∙ same)
  ];
}

module _ (words : List ℕ) (old mid new : KernelState) (slot left left1 : ℕ) (a : Activity) (cleared : Bool) (pause : Pause) (result : StintEnd) (l : Local)
    (kernel : IsKernel old) (taken : old.taken ≡ Some slot) (m_is : Mid old mid.table slot cleared) (after : new.taken ≡ taken_after pause (Some slot))
    (less : left1 ≤ left)
    (ordered : IsOrdered a)
    (allowed : Allows (Some pause) words (32 - length (free_slots old.table)) (slot == 0) l)
    (handles : Handles pause words slot (left - left1) a mid new result) where
  pub stays_kernel : (ready : List ℕ) → StandsAfter result (Some slot) ready new.table new.arrived → IsKernel new
  stays_kernel ready standing =
      let h : IsTable new.table × IsTakenIn new.table (taken_after pause (Some slot)) = handled words slot (left - left1) a mid new result m_is.sound m_is.taken ordered pause
      (32 - length (free_slots old.table)) l allowed handles in
      record {
        table = h.0;
        taken = subst (IsTakenIn new.table) (sym after) h.1;
        arrived = arrived_ordered result slot ready new.table new.arrived h.0 m_is.taken.inside standing;
      }

  given_at : (s t : State) (m : Machine) (p : Name) (others : List Name) (h : Holds old m (Some p) others) → m.system ≡ s → m.turns ≡ left
      → Given words old mid new slot left left1 (left - left1) s t h.naming m a cleared
  given_at s t m p others h system turns = record {
    table = kernel.table;
    taken = taken_at old slot kernel taken;
    stands = h.stands;
    memory = h.memory;
    system = system;
    turns = turns;
    mid_table = m_is.is;
    slot_is = taken;
    spent = omega (arith, less);
    ordered = ordered;
  }

  name_is : (m : Machine) (p : Name) (others : List Name) (h : Holds old m (Some p) others) → p ≡ h.naming.name slot
  name_is m p others h = some (h.is_taken ∙ ap (option_map h.naming.name) taken)
    where
      some : {x y : Name} → Some x ≡ Some y → x ≡ y
      some e = cc

  pub goes_all : (s t : State) → Stretches words (32 - length (free_slots old.table)) (slot == 0)
      (running_in old.store (resumed (process_at old.table slot)) s left) false pause (running_in mid.store a t left1) cleared →
      (m : Machine) (p : Name) (others : List Name) (n : Naming) → HoldsBy n old m (Some p) others → m.system ≡ s → m.turns ≡ left →
      GoesBy words result left old n new t m p others
  goes_all s t h m p others n by system turns =
      subst (λ y. GoesBy words result left old y new t m p others) by.by
      (subst (λ q. GoesBy words result left old by.holds.naming new t m q others) (sym p_is)
      (subst (λ qs. GoesBy words result left old by.holds.naming new t m (by.holds.naming.name slot) qs) (sym by.holds.is_ready)
      (ends.goes words old mid new slot left left1 (left - left1) s t by.holds.naming m a cleared (given_at s t m p others by.holds system turns)
      result l pause h allowed after handles)))
    where
      p_is : p ≡ by.holds.naming.name slot
      p_is = name_is m p others by.holds

  pub ends_all : (s t : State) → Stretches words (32 - length (free_slots old.table)) (slot == 0)
      (running_in old.store (resumed (process_at old.table slot)) s left) false pause (running_in mid.store a t left1) cleared →
      (m : Machine) (p : Name) (others : List Name) (n : Naming) → HoldsBy n old m (Some p) others → m.system ≡ s → m.turns ≡ left →
      BreaksRunBy words result left old n new t m p others
  ends_all s t h m p others n by system turns =
      subst (λ y. BreaksRunBy words result left old y new t m p others) by.by
      (subst (λ q. BreaksRunBy words result left old by.holds.naming new t m q others) (sym (name_is m p others by.holds))
      (subst (λ qs. BreaksRunBy words result left old by.holds.naming new t m (by.holds.naming.name slot) qs) (sym by.holds.is_ready)
      (ends.ends words old mid new slot left left1 (left - left1) s t by.holds.naming m a cleared (given_at s t m p others by.holds system turns)
      result l pause h after handles)))

  pub breaks_all : (failed : Option Outside → Type 0)
      → AsksFailed (Some pause) words (32 - length (free_slots old.table)) (slot == 0) (local_of mid.store a) failed →
      (s t : State) → Stretches words (32 - length (free_slots old.table)) (slot == 0)
      (running_in old.store (resumed (process_at old.table slot)) s left) false pause (running_in mid.store a t left1) cleared →
      (m : Machine) (p : Name) (others : List Name) → Holds old m (Some p) others → m.system ≡ s → m.turns ≡ left →
      BreaksBy failed words result left t m p others
  breaks_all failed u s t h m p others holds system turns =
      subst (λ q. BreaksBy failed words result left t m q others) (sym (name_is m p others holds))
      (subst (λ qs. BreaksBy failed words result left t m (holds.naming.name slot) qs) (sym holds.is_ready)
      (failures.breaks words old mid new slot left left1 (left - left1) s t holds.naming m a cleared (given_at s t m p others holds system turns)
      failed pause result h u handles))
