-- Those that are listed are those of the machine.
use Rattle.edi_waits.proofs.Whole.{stands_so}
use Rattle.edi_waits.proofs.waits.waits_at.Goals as goal

pub returns : goal.returns
returns c = record {
  exact = λ s bound old new named.
      stands_so c.args.code.now s bound old c.args.kernel.now new c.args.names.now _ named c.in_ok-waits.ensures.exact;
}
