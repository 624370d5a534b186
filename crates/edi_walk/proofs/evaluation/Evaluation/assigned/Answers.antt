use Rattle.std.proofs.Common.{[], subst, Ok, Err}
use Rattle.edi_told.proofs.Told.{WhereTold-map}
use Rattle.edi_unit.specs.Tree as tree
use Rattle.edi_unit.specs.View.{expression_of, place_of}
use Rattle.edi_walk.specs.declared.process.Asked as code_asked
use Rattle.edi_walk.specs.Processes.{work_of}
use Rattle.edi_walk.specs.Reads.{AssignsAtOnce}
use Rattle.edi_walk.specs.Works.{Statement}
use Rattle.edi_walk.proofs.AtOnce.{made_so, made_stop, stays}
use Rattle.edi_walk.proofs.Calls.{same_on, WhereTold-same}
use Rattle.edi_walk.proofs.Working.{calm_blames}
use Rattle.edi_walk.proofs.evaluation.Evaluation.assigned.Goals as goal

pub returns-then-made-clause-exact : goal.returns-then-made-clause-exact
returns-then-made-clause-exact g c =
    let v = place_of c.args.place.now in
    let e = expression_of c.args.e.now in
    WhereTold-same _ (g.C.Calls.state c.args.calls.now)
    (λ t left. made_so c.args.self.now c.assign_at_once.new.self v e t
    (subst (λ b. AssignsAtOnce v e (Ok b) c.args.self.now c.assign_at_once.new.self) c.if-made.true c.in-Ok.ensures.exact) left)

pub returns-else-made-clause-exact : goal.returns-else-made-clause-exact
returns-else-made-clause-exact g c =
    let v = place_of c.args.place.now in
    let e = expression_of c.args.e.now in
    WhereTold-map _ _ (g.C.Calls.state c.args.calls.now) (g.C.Calls.state c.assigned_by_frames.new.calls)
    (λ s t h left. subst (λ x. Statement (tree.assign v e) (work_of left []) left c.assigned_by_frames.result x c.assigned_by_frames.new.self s t)
    (stays c.args.self.now c.assign_at_once.new.self v e c.in-Ok.made c.if-made.false c.in-Ok.ensures.exact) (h left)) c.assigned_by_frames.ensures.exact

pub returns-else-made-clause-same : goal.returns-else-made-clause-same
returns-else-made-clause-same g c =
    same_on c.args.self.now c.assign_at_once.new.self c.assigned_by_frames.new.self c.in-Ok.ensures.same c.assigned_by_frames.ensures.same

pub returns-in-Err-clause-exact : goal.returns-in-Err-clause-exact
returns-in-Err-clause-exact g c =
    WhereTold-same _ (g.C.Calls.state c.args.calls.now)
    (λ t left. made_stop c.args.self.now c.assign_at_once.new.self (place_of c.args.place.now) (expression_of c.args.e.now) t c.in-Err.stop
    c.in-Err.ensures.exact left)

pub returns-in-Err-clause-blame : goal.returns-in-Err-clause-blame
returns-in-Err-clause-blame g c =
    calm_blames {T = code_asked.Asked} (Err c.in-Err.stop) c.in-Err.ensures.calm (g.C.Calls.failed c.args.calls.now) (g.C.Calls.faults c.args.calls.now)
    (g.C.Calls.faults c.args.calls.now) c.requires.working
