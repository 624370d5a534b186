use Rattle.edi_walk.proofs.Conditions.{told_wholly, told_unput}
use Rattle.std.proofs.Common.{Err}
use Rattle.edi_walk.proofs.Calls.{same_on}
use Rattle.edi_walk.proofs.evaluation.Evaluation.whole.Goals as goal

pub returns-in-Ok-clause-exact : goal.returns-in-Ok-clause-exact
returns-in-Ok-clause-exact g c =
    told_wholly c.args.self.now c.put.new.self c.run.new.self c.args.frame c.run.result (g.C.Calls.state c.args.calls.now) (g.C.Calls.state c.run.new.calls)
    c.in-Ok.ensures.others c.requires.free c.in-Ok.ensures.frames c.run.ensures.exact

pub returns-in-Err-clause-exact : goal.returns-in-Err-clause-exact
returns-in-Err-clause-exact g c =
    told_unput c.args.self.now c.put.new.self c.args.frame (Err c.in-Err.stop) (g.C.Calls.state c.args.calls.now) c.in-Err.ensures.err c.in-Err.ensures.same

pub returns-in-Ok-clause-same : goal.returns-in-Ok-clause-same
returns-in-Ok-clause-same g c = same_on c.args.self.now c.put.new.self c.run.new.self c.in-Ok.ensures.same c.run.ensures.same
