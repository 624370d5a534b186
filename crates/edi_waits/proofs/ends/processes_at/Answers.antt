-- Those that are told are those of the machine.
use Rattle.edi_waits.proofs.Whole.{ends_so}
use Rattle.edi_waits.proofs.ends.processes_at.Goals as goal

pub returns : goal.returns
returns c = record {
  exact = λ code s bound old new e named.
      ends_so code s bound old e c.args.kernel.now new c.args.names.now _ named c.in_ok-processes.ensures.exact;
}
