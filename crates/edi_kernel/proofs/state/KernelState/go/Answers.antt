-- A stint of the kernel is one of the machine.
use Rattle.std.proofs.Common.{◌-◌, ap, refl, subst, sym, ◌∙◌, if◌then◌else◌}
use Rattle.std.specs.Prelude.{◌==◌, Some, length}
use Rattle.edi_told.proofs.Told.{WhereTold-map}
use Rattle.edi_machine.specs.Activities.{local_of}
use Rattle.edi_kernel.specs.declared.state.KernelState.{KernelState}
use Rattle.edi_kernel.specs.declared.table.Table.{Table}
use Rattle.edi_kernel.specs.Kernel.{paused, taken_after}
use Rattle.edi_kernel.specs.Stretch.{Allows}
use Rattle.edi_kernel.specs.Table.{free_slots, ready_slots, unmarked}
use Rattle.edi_kernel.specs.TableIsMachine.{IsTable, IsTaken}
use Rattle.edi_kernel.proofs.StintGiven.{taken_at}
use Rattle.edi_kernel.proofs.Going.{mid_of, stays_kernel, goes_all, ends_all, breaks_all, free_after, kernel_as, noted_from}
use Rattle.edi_kernel.proofs.Placing.{stands_same}
use Rattle.edi_kernel.proofs.state.KernelState.go.Goals as goal

pub settle-requires-clause-table : goal.settle-requires-clause-table
settle-requires-clause-table g c =
    subst IsTable (sym (ap (λ (k : KernelState). k.table) c.walk-pause.ensures.same)) c.requires.kernel.table

pub settle-requires-clause-taken : goal.settle-requires-clause-taken
settle-requires-clause-taken g c =
    subst (λ t. IsTaken t c.unwrap-slot.result) (sym (ap (λ (k : KernelState). k.table) c.walk-pause.ensures.same))
    (taken_at c.args.self.now c.unwrap-slot.result c.requires.kernel c.unwrap-slot.ensures)

pub settle-requires-clause-allowed : goal.settle-requires-clause-allowed
settle-requires-clause-allowed g c =
    subst (λ (t : Table). Allows (Some c.walk-pause.result) c.args.code.now.words (32 - length (free_slots t)) (c.unwrap-slot.result == 0)
    (local_of c.walk-pause.new.self.store c.walk-pause.new.progress.activity))
    (sym (ap (λ (k : KernelState). k.table) c.walk-pause.ensures.same)) c.walk-pause.ensures.allowed

pub returns-clause-exact : goal.returns-clause-exact
returns-clause-exact g c = record {
  noted = c.settle.ensures.exact.noted;
  is = noted_from c.args.notes c.args.self.now c.walk-pause.new.self c.settle.ensures.exact.noted c.settle.new.self c.settle.result
      (ap (λ (k : KernelState). k.arrived) c.walk-pause.ensures.same) c.settle.ensures.exact.is;
  exact = WhereTold-map _ _ _ _
      (goes_all c.args.code.now.words c.args.self.now (paused c.walk-pause.new.progress.cleared c.walk-pause.new.self)
      c.settle.ensures.exact.noted c.unwrap-slot.result c.args.left c.walk-pause.new.progress.left
      c.walk-pause.new.progress.activity c.walk-pause.new.progress.cleared c.walk-pause.result c.settle.result _ c.requires.kernel c.unwrap-slot.ensures
      (mid_of c.args.self.now c.walk-pause.new.self
      (if c.walk-pause.new.progress.cleared then unmarked c.walk-pause.new.self.table else c.walk-pause.new.self.table) c.unwrap-slot.result
      c.walk-pause.new.progress.cleared c.requires.kernel c.unwrap-slot.ensures (ap (λ (k : KernelState). k.table) c.walk-pause.ensures.same) refl)
      (sym (ap (λ (k : KernelState). k.taken) c.settle.ensures.exact.is.rest) ∙ c.settle.ensures.taken
      ∙ ap (taken_after c.walk-pause.result) (ap (λ (k : KernelState). k.taken) c.walk-pause.ensures.same ∙ c.unwrap-slot.ensures))
      c.walk-pause.ensures.less c.walk-pause.ensures.ordered c.walk-pause.ensures.allowed c.settle.ensures.exact.handles)
      c.walk-pause.ensures.exact;
  ends = WhereTold-map _ _ _ _
      (ends_all c.args.code.now.words c.args.self.now (paused c.walk-pause.new.progress.cleared c.walk-pause.new.self)
      c.settle.ensures.exact.noted c.unwrap-slot.result c.args.left c.walk-pause.new.progress.left
      c.walk-pause.new.progress.activity c.walk-pause.new.progress.cleared c.walk-pause.result c.settle.result _ c.requires.kernel c.unwrap-slot.ensures
      (mid_of c.args.self.now c.walk-pause.new.self
      (if c.walk-pause.new.progress.cleared then unmarked c.walk-pause.new.self.table else c.walk-pause.new.self.table) c.unwrap-slot.result
      c.walk-pause.new.progress.cleared c.requires.kernel c.unwrap-slot.ensures (ap (λ (k : KernelState). k.table) c.walk-pause.ensures.same) refl)
      (sym (ap (λ (k : KernelState). k.taken) c.settle.ensures.exact.is.rest) ∙ c.settle.ensures.taken
      ∙ ap (taken_after c.walk-pause.result) (ap (λ (k : KernelState). k.taken) c.walk-pause.ensures.same ∙ c.unwrap-slot.ensures))
      c.walk-pause.ensures.less c.walk-pause.ensures.ordered c.walk-pause.ensures.allowed c.settle.ensures.exact.handles)
      c.walk-pause.ensures.exact;
  standing = stands_same c.settle.result _ _ _ _ _ _ (sym c.unwrap-slot.ensures) (ap (λ (k : KernelState). ready_slots k.table) c.walk-pause.ensures.same)
      c.settle.ensures.exact.standing;
  failed = c.settle.ensures.exact.failed;
}

pub returns-clause-kernel : goal.returns-clause-kernel
returns-clause-kernel g c =
    kernel_as c.args.notes c.args.self.now c.settle.ensures.exact.noted c.settle.new.self c.settle.result
    (noted_from c.args.notes c.args.self.now c.walk-pause.new.self c.settle.ensures.exact.noted c.settle.new.self c.settle.result
    (ap (λ (k : KernelState). k.arrived) c.walk-pause.ensures.same) c.settle.ensures.exact.is) c.requires.kernel
    (stays_kernel c.args.code.now.words c.args.self.now (paused c.walk-pause.new.progress.cleared c.walk-pause.new.self)
    c.settle.ensures.exact.noted c.unwrap-slot.result c.args.left c.walk-pause.new.progress.left
    c.walk-pause.new.progress.activity c.walk-pause.new.progress.cleared c.walk-pause.result c.settle.result _ c.requires.kernel c.unwrap-slot.ensures
    (mid_of c.args.self.now c.walk-pause.new.self
    (if c.walk-pause.new.progress.cleared then unmarked c.walk-pause.new.self.table else c.walk-pause.new.self.table) c.unwrap-slot.result
    c.walk-pause.new.progress.cleared c.requires.kernel c.unwrap-slot.ensures (ap (λ (k : KernelState). k.table) c.walk-pause.ensures.same) refl)
    (sym (ap (λ (k : KernelState). k.taken) c.settle.ensures.exact.is.rest) ∙ c.settle.ensures.taken
    ∙ ap (taken_after c.walk-pause.result) (ap (λ (k : KernelState). k.taken) c.walk-pause.ensures.same ∙ c.unwrap-slot.ensures))
    c.walk-pause.ensures.less c.walk-pause.ensures.ordered c.walk-pause.ensures.allowed c.settle.ensures.exact.handles
    (ready_slots c.walk-pause.new.self.table) c.settle.ensures.exact.standing)

pub returns-clause-asked : goal.returns-clause-asked
returns-clause-asked g c =
    WhereTold-map _ _ _ _
    (breaks_all c.args.code.now.words c.args.self.now (paused c.walk-pause.new.progress.cleared c.walk-pause.new.self)
    c.settle.ensures.exact.noted c.unwrap-slot.result c.args.left c.walk-pause.new.progress.left
    c.walk-pause.new.progress.activity c.walk-pause.new.progress.cleared c.walk-pause.result c.settle.result _ c.requires.kernel c.unwrap-slot.ensures
    (mid_of c.args.self.now c.walk-pause.new.self
    (if c.walk-pause.new.progress.cleared then unmarked c.walk-pause.new.self.table else c.walk-pause.new.self.table) c.unwrap-slot.result
    c.walk-pause.new.progress.cleared c.requires.kernel c.unwrap-slot.ensures (ap (λ (k : KernelState). k.table) c.walk-pause.ensures.same) refl)
    (sym (ap (λ (k : KernelState). k.taken) c.settle.ensures.exact.is.rest) ∙ c.settle.ensures.taken
    ∙ ap (taken_after c.walk-pause.result) (ap (λ (k : KernelState). k.taken) c.walk-pause.ensures.same ∙ c.unwrap-slot.ensures))
    c.walk-pause.ensures.less c.walk-pause.ensures.ordered c.walk-pause.ensures.allowed c.settle.ensures.exact.handles
    (g.C.Calls.failed c.walk-pause.new.calls) c.walk-pause.ensures.asked)
    c.walk-pause.ensures.exact

pub returns-clause-free : goal.returns-clause-free
returns-clause-free g c = λ goes.
    c.settle.ensures.taken
    ∙ free_after c.walk-pause.result c.args.code.now.words c.unwrap-slot.result (c.args.left - c.walk-pause.new.progress.left)
    c.walk-pause.new.progress.activity (paused c.walk-pause.new.progress.cleared c.walk-pause.new.self) c.settle.ensures.exact.noted c.settle.result _
    c.settle.ensures.exact.handles goes
