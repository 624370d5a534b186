use Rattle.edi_unit.specs.View.{expression_of}
use Rattle.edi_walk.proofs.Conditions.{told_holds, told_no_truth}
use Rattle.edi_walk.proofs.evaluation.Evaluation.holds_by_frames.Goals as goal

pub returns-in-Ok-clause-exact : goal.returns-in-Ok-clause-exact
returns-in-Ok-clause-exact g c =
    told_holds c.args.self.now c.whole.new.self (expression_of c.args.e.now) c.truth.result (g.C.Calls.state c.args.calls.now) (g.C.Calls.state c.whole.new.calls)
    c.truth.ensures.exact c.in-Ok.ensures.exact

pub returns-in-Err-clause-exact : goal.returns-in-Err-clause-exact
returns-in-Err-clause-exact g c =
    told_no_truth c.args.self.now c.whole.new.self (expression_of c.args.e.now) c.in-Err.stop (g.C.Calls.state c.args.calls.now)
    (g.C.Calls.state c.whole.new.calls) c.in-Err.ensures.exact
