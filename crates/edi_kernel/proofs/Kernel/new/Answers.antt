-- A kernel that has run nothing is sound.
use Rattle.std.proofs.Common.{arith}
use Rattle.edi_kernel.proofs.Handled.{none_counted}
use Rattle.edi_kernel.proofs.Starting.{first_table}
use Rattle.edi_kernel.proofs.Kernel.new.Goals as goal

pub invariant_of-result : goal.invariant_of-result
invariant_of-result c = record {
  table = first_table c.first.result _ c.first.ensures
      (record { first = omega arith; base = omega arith; top = omega arith; end = omega arith; last = omega arith });
  taken = none_counted c.first.result c.first.ensures.marked c.first.ensures.marks;
  arrived = tt;
}
