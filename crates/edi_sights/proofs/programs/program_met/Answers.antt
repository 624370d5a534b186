use Rattle.std.proofs.lemmas.Result.{err_from_is_err_and}
use Rattle.edi_static.specs.Views.{environment}
use Rattle.edi_sema.proofs.Declaring.{heading_faults}
use Rattle.edi_sema.proofs.Opening.{begins_deep}
use Rattle.edi_sights.proofs.Faulting.{fault_of}
use Rattle.edi_sights.proofs.programs.program_met.Goals as goal

pub procedure_met-requires-clause-depth : goal.procedure_met-requires-clause-depth
procedure_met-requires-clause-depth c = begins_deep _ _ c.requires.stands c.in_ok-_calls.ensures.begins

pub returns-in_err-_calls-clause-fault : goal.returns-in_err-_calls-clause-fault
returns-in_err-_calls-clause-fault c =
    let q = err_from_is_err_and c.from_residual.result c.from_residual.ensures.1 in
    rw (q.1, q.2) (fault_of (Unit {0}) c.in_err-_calls.field-0.0 _ _ c.in_err-_calls.ensures.exact
    (heading_faults c.args.procedure.now (environment c.args.known.now)))
