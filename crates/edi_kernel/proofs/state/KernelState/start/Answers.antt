-- The first process is alone.
use Rattle.std.proofs.Common.{refl}
use Rattle.edi_kernel.proofs.Starting.{first_table, first_taken}
use Rattle.edi_kernel.proofs.state.KernelState.start.Goals as goal

pub returns : goal.returns
returns c = record {
  kernel = record {
    table = first_table c.first-self.result c.begin-activity.result c.first-self.ensures c.begin-activity.ensures.ordered;
    taken = first_taken c.first-self.result c.begin-activity.result c.first-self.ensures;
    arrived = tt;
  };
  first = c.begin-activity.result;
  begins = c.begin-activity.ensures.exact;
  alone = c.first-self.ensures;
  taken = refl;
  entering = refl;
  used = refl;
  arrived = refl;
  failed = refl;
}
