use Rattle.edi_told.proofs.Told.{WhereTold-map}
use Rattle.edi_unit.specs.View.{expression_of, place_of}
use Rattle.edi_walk.proofs.Working.{assigned_so, assigned_stop}
use Rattle.edi_walk.proofs.evaluation.Evaluation.assigned_by_frames.Goals as goal

pub returns-in-Ok-clause-exact : goal.returns-in-Ok-clause-exact
returns-in-Ok-clause-exact g c =
    WhereTold-map _ _ (g.C.Calls.state c.args.calls.now) (g.C.Calls.state c.both.new.calls)
    (λ s t h. assigned_so c.args.self.now c.both.new.self s t (place_of c.args.place.now) (expression_of c.args.e.now) h) c.in-Ok.ensures.exact

pub returns-in-Err-clause-exact : goal.returns-in-Err-clause-exact
returns-in-Err-clause-exact g c =
    WhereTold-map _ _ (g.C.Calls.state c.args.calls.now) (g.C.Calls.state c.both.new.calls)
    (λ s t h. assigned_stop c.args.self.now c.both.new.self s t (place_of c.args.place.now) (expression_of c.args.e.now) c.in-Err.stop h) c.in-Err.ensures.exact
