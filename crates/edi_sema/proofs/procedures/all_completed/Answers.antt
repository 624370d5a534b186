use Rattle.edi_sema.proofs.Completing.{first_waits, none_waits}
use Rattle.edi_sema.proofs.procedures.all_completed.Goals as goal

pub returns-in-Some : goal.returns-in-Some
returns-in-Some c = record {
  exact = rw c.fault.ensures.exact (first_waits c.args.known.now.begun c.in-Some.line c.in-Some.ensures.exact);
}

pub returns-in-None : goal.returns-in-None
returns-in-None c = record { exact = none_waits c.args.known.now.begun c.in-None.ensures.exact }
