-- What every kernel keeps when a pause has been handled.
use Rattle.std.proofs.Common.{nat_le, ◌≡◌, ℕ, zero, suc, ◌-◌, ◌<◌, inl, Bool, true, false, List, length, Some, refl, sym, ◌∙◌, ap, arith, subst}
use Rattle.std.proofs.lemmas.Bool.{eqb-false}
use Rattle.std.specs.Prelude.{◌==◌}
use Rattle.edi_target.specs.Op.{Branch}
use Rattle.edi_target.specs.Effect.{Local}
use Rattle.edi_machine.specs.declared.activity.Activity.{Activity}
use Rattle.edi_machine.specs.declared.ends.TurnKind.{TurnKind}
use Rattle.edi_machine.specs.declared.ends.TurnKind.TheVariants as kind
use Rattle.edi_machine.specs.Activities.{IsOrdered}
use Rattle.edi_machine.specs.Starts.{branches_at}
use Rattle.edi_kernel.specs.declared.ends.StintEnd.{StintEnd}
use Rattle.edi_kernel.specs.declared.stretch.Pause.{Pause}
use Rattle.edi_kernel.specs.declared.stretch.Pause.TheVariants as pause
use Rattle.edi_kernel.specs.declared.state.KernelState.{KernelState}
use Rattle.edi_kernel.specs.declared.table.Standing.{Standing}
use Rattle.edi_kernel.specs.declared.table.Standing.TheVariants as standing
use Rattle.edi_kernel.specs.declared.table.Table.{Table}
use Rattle.edi_kernel.specs.Table.{PutsProcess, Notifies, NotifiesOne, Removed, at_its_when, waiting_for, process_at, marked_with, unmarked, ready_slots}
use Rattle.edi_kernel.specs.Table.{is_waiting, no_marks, with_process}
use Rattle.edi_kernel.specs.TableIsMachine.{IsTable, IsTaken, IsBetween}
use Rattle.edi_kernel.specs.Stretch.{Allows}
use Rattle.edi_kernel.specs.Forks.{HaveBegun}
use Rattle.edi_kernel.specs.Kernel.{Handles, HandlesTurn, IsTakenIn, taken_after}
use Rattle.edi_kernel.proofs.Lists.{put_table, written_table, none_marked}
use Rattle.edi_kernel.proofs.Sharing.{added_table}
use Rattle.edi_kernel.proofs.Switches.{unmarked_table, unmarked_taken, marked_table, marked_taken, stood_between, gone_table, gone_taken}
use Rattle.edi_kernel.proofs.Exits.{freed_table}

-- no marks at all are counted as none
pub none_counted : (t : Table) → t.marked ≡ no_marks → t.marks ≡ 0 → IsBetween t
none_counted t e f = record { counted = f ∙ sym (none_marked t (ready_slots t) e) }

module _ (slot : ℕ) (parent : Activity) (branches : List Branch) (store : List ℕ) (t : Table) (lt : slot < 32) (s : IsTable t) where
  pub begun_table : (i : ℕ) (words : List ℕ) (u : Table) → HaveBegun slot parent branches store t i words u → IsTable u
  begun_table zero words u h = subst IsTable (sym h.1) s
  begun_table (suc i) words u h = added_table slot h.child h.table_before u (begun_table i h.store_before h.table_before h.begun) lt h.ordered h.added

  pub begun_marked : (i : ℕ) (words : List ℕ) (u : Table) → HaveBegun slot parent branches store t i words u → u.marked ≡ t.marked
  begun_marked zero words u h = ap (λ v. v.marked) h.1
  begun_marked (suc i) words u h = h.added.put.marked ∙ h.added.taken.marked ∙ begun_marked i h.store_before h.table_before h.begun

  pub begun_marks : (i : ℕ) (words : List ℕ) (u : Table) → HaveBegun slot parent branches store t i words u → u.marks ≡ t.marks
  begun_marks zero words u h = ap (λ v. v.marks) h.1
  begun_marks (suc i) words u h = h.added.put.marks ∙ h.added.taken.marks ∙ begun_marks i h.store_before h.table_before h.begun

-- ---- a process that is notified

notifies_table : (s : Standing) (slot : ℕ) (t u : Table) → IsTable t → slot < 32 → (process_at t slot).standing ≡ s → Notifies s slot t u → IsTable u
notifies_table standing.Ready slot t u h lt e notifies = subst IsTable (sym notifies) h
notifies_table standing.AtWhen slot t u h lt e notifies = subst IsTable (sym notifies) h
notifies_table (standing.Waiting n) slot t u h lt e notifies = by_number (nat_le n 1) notifies
  where
    by_number : (b : Bool) → NotifiesOne b n slot t u → IsTable u
    by_number true put = put_table t u 0 slot (record (process_at t slot) { standing = standing.Ready }) h put (inl refl) lt (h.parents slot)
        (h.ordered slot lt) refl
    by_number false is =
        subst IsTable (sym is) (written_table t slot (record (process_at t slot) { standing = standing.Waiting (n - 1) }) h lt (h.parents slot)
        (h.ordered slot lt) (h.waiting slot (ap is_waiting e)))

notifies_marked : (s : Standing) (slot : ℕ) (t u : Table) → Notifies s slot t u → (u.marked ≡ t.marked) × (u.marks ≡ t.marks)
notifies_marked standing.Ready slot t u notifies = (ap (λ v. v.marked) notifies, ap (λ v. v.marks) notifies)
notifies_marked standing.AtWhen slot t u notifies = (ap (λ v. v.marked) notifies, ap (λ v. v.marks) notifies)
notifies_marked (standing.Waiting n) slot t u notifies = by_number (nat_le n 1) notifies
  where
    by_number : (b : Bool) → NotifiesOne b n slot t u → (u.marked ≡ t.marked) × (u.marks ≡ t.marks)
    by_number true put = (put.marked, put.marks)
    by_number false is = (ap (λ v. v.marked) is, ap (λ v. v.marks) is)

-- ---- each pause

module _ (words : List ℕ) (slot used : ℕ) (a : Activity) (old new : KernelState) (result : StintEnd) (table : IsTable old.table)
    (taken : IsTaken old.table slot) (ordered : IsOrdered a) where
  stood_table : (t : Table) → IsTable t → IsTaken t slot → PutsProcess 0 slot (at_its_when (process_at t slot) a) t new.table → IsTable new.table
  stood_table t s k put = put_table t new.table 0 slot (at_its_when (process_at t slot) a) s put (inl refl) k.inside (s.parents slot) ordered refl

  -- a slot that is not the first
  pub later : (b : Bool) → (slot == 0) ≡ b → b ≡ false → 0 < slot
  later b e f = positive slot (eqb-false slot 0 (e ∙ f))
    where
      positive : (p : ℕ) → (p ≡ 0 → ⊥) → 0 < p
      positive zero h = absurd (h refl)
      positive (suc p) h = omega arith

  handled_turn : (k : TurnKind) (live : ℕ) (l : Local) → Allows (Some (pause.At k)) words live (slot == 0) l → HandlesTurn k words slot used a old new result
      → IsTable new.table × IsBetween new.table
  handled_turn (kind.Again true) live l allowed h = (
    stood_table (marked_with old.table slot) (marked_table old.table slot table) (marked_taken old.table slot table taken) h.0,
    stood_between (marked_with old.table slot) new.table slot a (marked_table old.table slot table) (marked_taken old.table slot table taken) h.0,
  )
  handled_turn (kind.Again false) live l allowed h = (
    stood_table (unmarked old.table) (unmarked_table old.table table) (unmarked_taken old.table slot taken) h.0,
    stood_between (unmarked old.table) new.table slot a (unmarked_table old.table table) (unmarked_taken old.table slot taken) h.0,
  )
  handled_turn (kind.Fork at) live l allowed h =
      let t : Table = with_process (unmarked old.table) slot (waiting_for (length (branches_at words at)) (process_at old.table slot) a) in
      let s : IsTable t = written_table (unmarked old.table) slot (waiting_for (length (branches_at words at)) (process_at old.table slot) a)
      (unmarked_table old.table table) taken.inside (table.parents slot) ordered taken.homeless in (
        begun_table slot a (branches_at words at) old.store t taken.inside s (length (branches_at words at)) new.store new.table h.0,
        none_counted new.table
            (begun_marked slot a (branches_at words at) old.store t taken.inside s (length (branches_at words at)) new.store new.table h.0)
            (begun_marks slot a (branches_at words at) old.store t taken.inside s (length (branches_at words at)) new.store new.table h.0),
      )
  handled_turn kind.Exit live l allowed h =
      let pos : 0 < slot = later (slot == 0) refl allowed in
      let r : Removed slot (unmarked old.table) new.table = h.0 in
      let s : IsTable r.between = freed_table (unmarked old.table) r.between slot (unmarked_table old.table table) (unmarked_taken old.table slot taken) r.put
      pos in
      let m : (new.table.marked ≡ r.between.marked) × (new.table.marks ≡ r.between.marks) = notifies_marked
      (process_at r.between (process_at (unmarked old.table) slot).parent).standing (process_at (unmarked old.table) slot).parent r.between new.table
      r.notified in (
        notifies_table (process_at r.between (process_at (unmarked old.table) slot).parent).standing (process_at (unmarked old.table) slot).parent r.between
            new.table s (table.parents slot) refl r.notified,
        none_counted new.table (m.0 ∙ r.put.marked) (m.1 ∙ r.put.marks),
      )
  handled_turn k live l allowed h = (
    stood_table (unmarked old.table) (unmarked_table old.table table) (unmarked_taken old.table slot taken) h.0,
    stood_between (unmarked old.table) new.table slot a (unmarked_table old.table table) (unmarked_taken old.table slot taken) h.0,
  )

  pub handled : (p : Pause) (live : ℕ) (l : Local) → Allows (Some p) words live (slot == 0) l → Handles p words slot used a old new result → IsTable new.table
      × IsTakenIn new.table (taken_after p (Some slot))
  handled (pause.Over ending) live l allowed h = (
    subst IsTable (sym h.0) (gone_table (unmarked old.table) slot a (unmarked_table old.table table) (unmarked_taken old.table slot taken) ordered),
    subst (λ t. IsTaken t slot) (sym h.0) (gone_taken (unmarked old.table) slot a (unmarked_table old.table table) (unmarked_taken old.table slot taken)),
  )
  handled (pause.At k) live l allowed h = handled_turn k live l allowed h
