use Rattle.edi_walk.proofs.Pieces.{leaves_calm, procedure_left, procedure_stays}
use Rattle.edi_walk.proofs.evaluation.Evaluation.procedure_end.Goals as goal

pub returns-in-Ok-clause-exact : goal.returns-in-Ok-clause-exact
returns-in-Ok-clause-exact c left s =
    procedure_left c.args.self.now c.leave.new.self s left c.in-Ok.ensures.exact

pub returns-in-Err-clause-exact : goal.returns-in-Err-clause-exact
returns-in-Err-clause-exact c left s =
    procedure_stays c.args.self.now c.leave.new.self s left c.in-Err.stop c.in-Err.ensures.exact

pub returns-in-Err-clause-calm : goal.returns-in-Err-clause-calm
returns-in-Err-clause-calm c =
    leaves_calm c.args.self.now c.leave.new.self c.in-Err.stop c.in-Err.ensures.exact
