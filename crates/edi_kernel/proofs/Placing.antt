-- The process that arrived stands last among the ready ones, with the activity that the kernel tells.
use Rattle.std.proofs.Common.{◌≡◌, ℕ, ◌<◌, inl, inr, Bool, true, false, List, [], ◌∷◌, ◌++◌, Option, Some, None, refl, sym, ◌∙◌, ap, arith}
use Rattle.std.proofs.Common.{subst, slice_index_or, get_or-set_same, if◌then◌else◌}
use Rattle.std.specs.Prelude.{IfSome}
use Rattle.edi_machine.specs.Activities.{IsOrdered}
use Rattle.edi_machine.specs.declared.activity.Activity.{Activity}
use Rattle.edi_kernel.specs.declared.ends.Ending.{Ending}
use Rattle.edi_kernel.specs.declared.ends.Ending.TheVariants as ending
use Rattle.edi_kernel.specs.declared.ends.StintEnd.{StintEnd}
use Rattle.edi_kernel.specs.declared.ends.StintEnd.TheVariants as stint_end
use Rattle.edi_kernel.specs.declared.table.Process.{Process}
use Rattle.edi_kernel.specs.declared.table.Table.{Table}
use Rattle.edi_kernel.specs.declared.state.KernelState.{KernelState}
use Rattle.edi_kernel.specs.Table.{PutsProcess, at_its_when, no_process, process_at, ready_slots, unmarked}
use Rattle.edi_kernel.specs.TableIsMachine.{IsTable}
use Rattle.edi_kernel.specs.Kernel.{IsNotedAs, StandsLast, StandsAfter, StandsAtEnd, ended_by, is_arrived}
use Rattle.edi_kernel.specs.Runs.{EndsUnready}
use Rattle.edi_kernel.proofs.Lists.{put_list}

-- the activity that is told is that of a process of the table
pub arrived_ordered : (e : StintEnd) (slot : ℕ) (ready : List ℕ) (t : Table) (arrived : Option Activity) → IsTable t → slot < 32
    → StandsAfter e (Some slot) ready t arrived → IfSome arrived IsOrdered
arrived_ordered e slot ready t arrived table inside h = by_end e h
  where
    none : arrived ≡ None → IfSome arrived IsOrdered
    none is = subst (λ x. IfSome x IsOrdered) (sym is) tt

    same : {x y : ℕ} → Some x ≡ Some y → x ≡ y
    same e = cc

    stands : StandsLast (Some slot) ready t arrived → IfSome arrived IsOrdered
    stands s = subst (λ x. IfSome x IsOrdered) (sym s.arrival) (subst IsOrdered s.is (table.ordered s.slot (subst (λ i. i < 32) (same s.was) inside)))

    by_end : (e : StintEnd) → StandsAfter e (Some slot) ready t arrived → IfSome arrived IsOrdered
    by_end (stint_end.Arrived used) s = stands s
    by_end (stint_end.Over used ending.Standstill) s = stands s
    by_end (stint_end.Over used ending.Done) s = none s
    by_end (stint_end.Over used (ending.Halted line)) s = none s
    by_end (stint_end.Over used (ending.Failed cause line)) s = none s
    by_end (stint_end.Over used ending.Turns) s = none s
    by_end (stint_end.Over used (ending.Bad at)) s = none s
    by_end (stint_end.Over used ending.Fault) s = none s
    by_end (stint_end.Forked used) s = none s
    by_end (stint_end.Exited used) s = none s

-- a process that is put at the back of the ready ones at its `when`
pub put_last : (t u : Table) (slot : ℕ) (x : Process) (a : Activity) → IsTable t → slot < 32 → PutsProcess 0 slot (at_its_when x a) t u
    → StandsLast (Some slot) (ready_slots t) u (Some a)
put_last t u slot x a table inside put = record {
  slot = slot;
  was = refl;
  last = put_list t u 0 slot (at_its_when x a) put table.sound (omega arith);
  activity = a;
  arrival = refl;
  standing = ap (λ (y : Process). y.standing) here;
  is = ap (λ (y : Process). y.activity) here;
}
  where
    here : process_at u slot ≡ at_its_when x a
    here = ap (λ xs. slice_index_or xs slot no_process) put.processes ∙ get_or-set_same t.processes slot (at_its_when x a) no_process
        (omega (arith, inside, table.wide))

-- the end of a stint is of the same list of ready ones
pub stands_same : (e : StintEnd) (taken taken' : Option ℕ) (ready ready' : List ℕ) (t : Table) (arrived : Option Activity) → taken ≡ taken' → ready ≡ ready'
    → StandsAfter e taken ready t arrived → StandsAfter e taken' ready' t arrived
stands_same e taken taken' ready ready' t arrived same list h = subst (λ x. StandsAfter e x ready' t arrived) same
    (subst (λ x. StandsAfter e taken x t arrived) list h)

pub ready_if : (b : Bool) (t : Table) → ready_slots (if b then unmarked t else t) ≡ ready_slots t
ready_if true t = refl
ready_if false t = refl

-- at the end of a run
pub stands_at_end : (e : StintEnd) (x : Ending) (taken : Option ℕ) (ready : List ℕ) (t : Table) (arrived : Option Activity) → ended_by e ≡ Some x
    → StandsAfter e taken ready t arrived → StandsAtEnd (Some x) t arrived
stands_at_end (stint_end.Over used ending.Standstill) x taken ready t arrived is h = subst (λ y. StandsAtEnd y t arrived) is (inl (taken, ready, h))
stands_at_end (stint_end.Over used ending.Done) x taken ready t arrived is h = subst (λ y. StandsAtEnd y t arrived) is h
stands_at_end (stint_end.Over used (ending.Halted line)) x taken ready t arrived is h = subst (λ y. StandsAtEnd y t arrived) is h
stands_at_end (stint_end.Over used (ending.Failed cause line)) x taken ready t arrived is h = subst (λ y. StandsAtEnd y t arrived) is h
stands_at_end (stint_end.Over used ending.Turns) x taken ready t arrived is h = subst (λ y. StandsAtEnd y t arrived) is h
stands_at_end (stint_end.Over used (ending.Bad at)) x taken ready t arrived is h = subst (λ y. StandsAtEnd y t arrived) is h
stands_at_end (stint_end.Over used ending.Fault) x taken ready t arrived is h = subst (λ y. StandsAtEnd y t arrived) is h
stands_at_end (stint_end.Arrived used) x taken ready t arrived is h = absurd (cc)
stands_at_end (stint_end.Forked used) x taken ready t arrived is h = absurd (cc)
stands_at_end (stint_end.Exited used) x taken ready t arrived is h = absurd (cc)

over_apart : (e : StintEnd) (x : Ending) → ended_by e ≡ Some x → is_arrived e ≡ false
over_apart (stint_end.Over used y) x is = refl
over_apart (stint_end.Arrived used) x is = absurd (cc)
over_apart (stint_end.Forked used) x is = absurd (cc)
over_apart (stint_end.Exited used) x is = absurd (cc)

-- where a run ends, the kernel is as it is noted
pub stands_other : (notes : Bool) (old noted new : KernelState) (e : StintEnd) (x : Ending) (taken : Option ℕ) (ready : List ℕ) → ended_by e ≡ Some x
    → IsNotedAs notes old noted new e → StandsAfter e taken ready noted.table noted.arrived → StandsAfter e taken ready new.table new.arrived
stands_other notes old noted new e x taken ready is kept h =
    subst (λ (k : KernelState). StandsAfter e taken ready k.table k.arrived) (sym (kept.other (over_apart e x is))) h

-- where a stint switches and then nobody is ready, nobody arrived
none_arrived : (e : StintEnd) (taken : Option ℕ) (ready : List ℕ) (t : Table) (arrived kept : Option Activity) → ended_by e ≡ None → ready_slots t ≡ []
    → (is_arrived e ≡ false → kept ≡ arrived) → StandsAfter e taken ready t arrived → kept ≡ None
none_arrived (stint_end.Arrived used) taken ready t arrived kept is nobody same h = absurd (none_last ready h.slot (sym h.last ∙ nobody))
  where
    none_last : (xs : List ℕ) (x : ℕ) → xs ++ x ∷ [] ≡ [] → ⊥
    none_last [] x e = absurd (cc)
    none_last (y ∷ xs) x e = absurd (cc)
none_arrived (stint_end.Forked used) taken ready t arrived kept is nobody same h = same refl ∙ h
none_arrived (stint_end.Exited used) taken ready t arrived kept is nobody same h = same refl ∙ h
none_arrived (stint_end.Over used e) taken ready t arrived kept is nobody same h = absurd (cc)

pub stands_unready : (e : StintEnd) (taken : Option ℕ) (ready : List ℕ) (result : Option Ending) (noted mid new : KernelState) → ended_by e ≡ None
    → EndsUnready result mid new → mid.table ≡ noted.table → (is_arrived e ≡ false → mid.arrived ≡ noted.arrived) →
    StandsAfter e taken ready noted.table noted.arrived → StandsAtEnd result new.table new.arrived
stands_unready e taken ready None noted mid new is nobody table same h = tt
stands_unready e taken ready (Some ending.Standstill) noted mid new is nobody table same h =
    subst (λ (k : KernelState). StandsAtEnd (Some ending.Standstill) k.table k.arrived) (sym nobody.0)
    (inr (none_arrived e taken ready noted.table noted.arrived mid.arrived is (sym (ap ready_slots table) ∙ nobody.1) same h, nobody.1))
stands_unready e taken ready (Some ending.Done) noted mid new is nobody table same h = absurd nobody
stands_unready e taken ready (Some (ending.Halted line)) noted mid new is nobody table same h = absurd nobody
stands_unready e taken ready (Some (ending.Failed cause line)) noted mid new is nobody table same h = absurd nobody
stands_unready e taken ready (Some ending.Turns) noted mid new is nobody table same h = absurd nobody
stands_unready e taken ready (Some (ending.Bad at)) noted mid new is nobody table same h = absurd nobody
stands_unready e taken ready (Some ending.Fault) noted mid new is nobody table same h = absurd nobody
