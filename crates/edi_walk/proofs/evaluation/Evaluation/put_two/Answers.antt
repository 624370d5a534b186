use Rattle.std.proofs.Common.{refl, ◌∙◌, ap}
use Rattle.edi_walk.specs.Machine.{frame_of}
use Rattle.edi_walk.proofs.Arms.{above, below}
use Rattle.edi_walk.proofs.Calls.{same_on}
use Rattle.edi_walk.specs.declared.evaluation.Evaluation as code
use Rattle.edi_walk.proofs.evaluation.Evaluation.put_two.Goals as goal

pub returns-clause-exact : goal.returns-clause-exact
returns-clause-exact c levels system m e =
    c.put-2.ensures.exact levels system m
    (e ∙ below levels c.args.self.now c.put.new.self c.args.lower (above levels system (frame_of c.args.upper)) c.in_ok-put.ensures.others c.in_ok-put.ensures.frames
    (λ k. refl))

pub returns-clause-same : goal.returns-clause-same
returns-clause-same c = same_on c.args.self.now c.put.new.self c.put-2.new.self c.in_ok-put.ensures.same c.put-2.ensures.same

pub returns-clause-others : goal.returns-clause-others
returns-clause-others c = c.put-2.ensures.others ∙ ap (λ (e : code.Evaluation). record e { frames = c.put-2.new.self.frames }) c.in_ok-put.ensures.others
