-- A kernel without processes is sound.
use Rattle.std.proofs.Common.{arith}
use Rattle.edi_kernel.proofs.Handled.{none_counted}
use Rattle.edi_kernel.proofs.Starting.{first_table}
use Rattle.edi_kernel.proofs.state.KernelState.clear.Goals as goal

pub returns-clause-kernel : goal.returns-clause-kernel
returns-clause-kernel c = record {
  table = first_table c.first-self.result _ c.first-self.ensures
      (record { first = omega arith; base = omega arith; top = omega arith; end = omega arith; last = omega arith });
  taken = none_counted c.first-self.result c.first-self.ensures.marked c.first-self.ensures.marks;
  arrived = tt;
}
