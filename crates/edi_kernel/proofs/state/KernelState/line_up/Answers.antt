-- A process that lines up leaves the kernel sound.
use Rattle.std.proofs.Common.{subst, sym}
use Rattle.edi_kernel.specs.Kernel.{IsTakenIn}
use Rattle.edi_kernel.proofs.PutBacks.{lined_between, lined_table}
use Rattle.edi_kernel.proofs.state.KernelState.line_up.Goals as goal

pub returns-clause-kernel : goal.returns-clause-kernel
returns-clause-kernel c = record {
  table = lined_table c.args.slot c.args.self.now.table c.line_up.new.self c.requires.kernel.table c.line_up.ensures c.requires.slot c.requires.going;
  taken = subst (IsTakenIn c.line_up.new.self) (sym c.requires.free)
      (lined_between c.args.slot c.args.self.now.table c.line_up.new.self
      (subst (IsTakenIn c.args.self.now.table) c.requires.free c.requires.kernel.taken) c.requires.unmarked c.line_up.ensures);
  arrived = c.requires.kernel.arrived;
}
