-- A process that is put back leaves the kernel sound.
use Rattle.std.proofs.Common.{◌<◌, subst, sym}
use Rattle.edi_machine.specs.Activities.{IsOrdered}
use Rattle.edi_kernel.specs.declared.table.Process.{Process}
use Rattle.edi_kernel.specs.Kernel.{IsTakenIn}
use Rattle.edi_kernel.proofs.PutBacks.{admitted_between, admitted_table}
use Rattle.edi_kernel.proofs.state.KernelState.put_back.Goals as goal

pub returns-clause-kernel : goal.returns-clause-kernel
returns-clause-kernel c = record {
  table = admitted_table c.args.kept.now.slot c.process.result c.args.self.now.table c.admit.new.self c.requires.kernel.table c.admit.ensures
      c.requires.whole.inside (subst (λ (y : Process). y.parent < 32) (sym c.process.ensures) c.requires.whole.parent)
      (subst (λ (y : Process). IsOrdered y.activity) (sym c.process.ensures) c.requires.whole.ordered);
  taken = subst (IsTakenIn c.admit.new.self) (sym c.requires.free)
      (admitted_between c.args.kept.now.slot c.process.result c.args.self.now.table c.admit.new.self
      (subst (IsTakenIn c.args.self.now.table) c.requires.free c.requires.kernel.taken) c.admit.ensures);
  arrived = c.requires.kernel.arrived;
}
