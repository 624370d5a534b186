use Rattle.std.proofs.lemmas.Result.{err_from_is_err_and}
use Rattle.edi_static.specs.Views.{environment}
use Rattle.edi_sema.proofs.Answered.{part_faults}
use Rattle.edi_sema.proofs.Declaring.{heading_faults}
use Rattle.edi_sema.proofs.Opening.{begins_deep}
use Rattle.edi_sema.proofs.programs.program_procedure.Goals as goal

pub procedure_rest-requires-clause-depth : goal.procedure_rest-requires-clause-depth
procedure_rest-requires-clause-depth c = begins_deep _ _ c.requires.stands c.in_ok-calls.ensures.begins

pub returns-in_err-calls-clause-exact : goal.returns-in_err-calls-clause-exact
returns-in_err-calls-clause-exact c =
    let q = err_from_is_err_and c.from_residual.result c.from_residual.ensures.1 in
    rw (q.1, q.2) (part_faults c.in_err-calls.field-0.0 _ _ c.in_err-calls.ensures.exact
    (heading_faults c.args.procedure.now (environment c.args.known.now)))
