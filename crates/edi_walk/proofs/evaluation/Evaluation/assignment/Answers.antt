use Rattle.std.proofs.Common.{subst, Ok}
use Rattle.std.specs.Prelude.{map}
use Rattle.edi_unit.specs.Tree as tree
use Rattle.edi_unit.specs.View as view
use Rattle.edi_unit.specs.View.{act_of, expression_of, place_of, unit_of}
use Rattle.edi_walk.specs.Frames.{nothing, performs}
use Rattle.edi_walk.specs.Machine.{deeper_of, given_of, Resumes, rest_of, world_of}
use Rattle.edi_walk.specs.Reads.{AssignsAtOnce}
use Rattle.edi_walk.proofs.AtOnce.{made_goes, made_stops, stays}
use Rattle.edi_walk.proofs.ActSteps.{assign_goes}
use Rattle.edi_walk.proofs.Calls.{same_on}
use Rattle.edi_walk.proofs.evaluation.Evaluation.assignment.Goals as goal

pub returns-then-made-clause-exact : goal.returns-then-made-clause-exact
returns-then-made-clause-exact c levels system enough =
    let v = place_of c.args.place.now in
    let e = expression_of c.args.e.now in
    c.put.ensures.exact levels system _
    (made_goes c.args.self.now c.assign_at_once.new.self v e levels system (view.acts (map act_of c.args.rest.now))
    (subst (λ b. AssignsAtOnce v e (Ok b) c.args.self.now c.assign_at_once.new.self) c.if-made.true c.in-Ok.ensures.exact) c.in-Ok.ensures.others)

pub returns-else-made-clause-exact : goal.returns-else-made-clause-exact
returns-else-made-clause-exact c =
    let v = place_of c.args.place.now in
    let e = expression_of c.args.e.now in
    let s = view.acts (map act_of c.args.rest.now) in
    let mid = c.assign_at_once.new.self in
    subst (λ x. Resumes (performs (tree.act_then (tree.assign v e) s)) nothing c.put_three.result x c.put_three.new.self)
    (stays c.args.self.now mid v e c.in-Ok.made c.if-made.false c.in-Ok.ensures.exact)
    (λ levels system enough.
    c.put_three.ensures.exact levels system _
    (assign_goes (unit_of mid.unit.now) mid.name.items mid.size (deeper_of levels mid) (rest_of levels mid) v e s nothing (given_of mid.given)
    (world_of mid system)))

pub returns-in-Err-clause-exact : goal.returns-in-Err-clause-exact
returns-in-Err-clause-exact c =
    made_stops c.args.self.now c.assign_at_once.new.self (place_of c.args.place.now) (expression_of c.args.e.now) c.in-Err.stop
    (view.acts (map act_of c.args.rest.now)) c.in-Err.ensures.exact

pub returns-then-made-clause-same : goal.returns-then-made-clause-same
returns-then-made-clause-same c = same_on c.args.self.now c.assign_at_once.new.self c.put.new.self c.in-Ok.ensures.same c.put.ensures.same

pub returns-else-made-clause-same : goal.returns-else-made-clause-same
returns-else-made-clause-same c = same_on c.args.self.now c.assign_at_once.new.self c.put_three.new.self c.in-Ok.ensures.same c.put_three.ensures.same
