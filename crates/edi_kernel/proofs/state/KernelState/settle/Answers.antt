-- An arrival is handled apart; every other pause with the marks that are noted.
use Rattle.std.proofs.Common.{ℕ, List, refl, ap, subst, sym, ◌∙◌, ◌-◌}
use Rattle.std.specs.Prelude.{◌==◌, Some, length}
use Rattle.edi_machine.specs.Activities.{local_of}
use Rattle.edi_kernel.specs.declared.table.Table.{Table}
use Rattle.edi_kernel.specs.Table.{free_slots, ready_slots}
use Rattle.edi_kernel.specs.TableIsMachine.{IsTable, IsTaken}
use Rattle.edi_kernel.specs.Stretch.{Allows}
use Rattle.edi_kernel.specs.Kernel.{Handles}
use Rattle.edi_kernel.proofs.StintGiven.{few_marks, unmarked_if}
use Rattle.edi_kernel.proofs.Placing.{ready_if, stands_same}
use Rattle.edi_kernel.proofs.Settling.{free_if, noted_itself, settles_arrival, sound_if}
use Rattle.edi_kernel.proofs.state.KernelState.settle.Goals as goal

pub returns-then-is_arrival-clause-exact : goal.returns-then-is_arrival-clause-exact
returns-then-is_arrival-clause-exact c =
    settles_arrival c.args.notes c.args.pause c.args.code.now.words c.args.slot c.args.used c.args.progress.now.activity c.args.progress.now.cleared
    c.args.self.now c.arrive.new.self c.arrive.result (sym c.is_arrival.ensures ∙ c.if-is_arrival.true) c.arrive.ensures.exact c.arrive.ensures.standing
    c.arrive.ensures.noted c.arrive.ensures.arrived

pub handle-requires-clause-table : goal.handle-requires-clause-table
handle-requires-clause-table c = subst IsTable (sym c.unmark_if.ensures) (sound_if c.args.progress.now.cleared c.args.self.now.table c.requires.table)

pub handle-requires-clause-taken : goal.handle-requires-clause-taken
handle-requires-clause-taken c =
    subst (λ t. IsTaken t c.args.slot) (sym c.unmark_if.ensures)
    (unmarked_if c.args.progress.now.cleared c.args.self.now.table c.args.slot c.requires.taken)

pub handle-requires-clause-allowed : goal.handle-requires-clause-allowed
handle-requires-clause-allowed c =
    subst (λ (xs : List ℕ). Allows (Some c.args.pause) c.args.code.now.words (32 - length xs) (c.args.slot == 0)
    (local_of c.args.self.now.store c.args.progress.now.activity))
    (sym (ap free_slots c.unmark_if.ensures ∙ free_if c.args.progress.now.cleared c.args.self.now.table)) c.requires.allowed

pub handle-requires-clause-marks : goal.handle-requires-clause-marks
handle-requires-clause-marks c =
    few_marks c.unmark_if.new.self c.args.slot
    (subst IsTable (sym c.unmark_if.ensures) (sound_if c.args.progress.now.cleared c.args.self.now.table c.requires.table))
    (subst (λ t. IsTaken t c.args.slot) (sym c.unmark_if.ensures)
    (unmarked_if c.args.progress.now.cleared c.args.self.now.table c.args.slot c.requires.taken))

pub returns-clause-exact : goal.returns-clause-exact
returns-clause-exact c = record {
  noted = c.handle.new.self;
  is = noted_itself c.args.notes c.args.self.now c.handle.new.self c.handle.result;
  handles = subst (λ (t : Table). Handles c.args.pause c.args.code.now.words c.args.slot c.args.used c.args.progress.now.activity
      (record c.args.self.now { table = t }) c.handle.new.self c.handle.result)
      c.unmark_if.ensures c.handle.ensures.exact;
  standing = stands_same c.handle.result _ _ _ _ _ _ refl
      (ap ready_slots c.unmark_if.ensures ∙ ready_if c.args.progress.now.cleared c.args.self.now.table)
      c.handle.ensures.standing;
  failed = c.handle.ensures.failed;
}
