use Rattle.std.proofs.Common.{refl}
use Rattle.edi_walk.specs.Machine.{given_of}
use Rattle.edi_walk.proofs.Blocks.{procedure_left}
use Rattle.edi_walk.proofs.evaluation.Evaluation.end_procedure.Goals as goal

pub returns-clause-exact : goal.returns-clause-exact
returns-clause-exact c levels system enough =
    procedure_left levels system _ _ c.leave.result (given_of c.args.given) c.leave.ensures.exact refl
