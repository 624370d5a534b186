use Rattle.std.proofs.Common.{sym, ap, ◌∙◌}
use Rattle.std.specs.Prelude.{map}
use Rattle.edi_unit.specs.View as view
use Rattle.edi_unit.specs.View.{clause_of, unit_of}
use Rattle.edi_walk.specs.Frames.{loops, tries, whether}
use Rattle.edi_walk.specs.Machine.{given_of, next_of, rest_of, world_of}
use Rattle.edi_walk.proofs.Arms.{above}
use Rattle.edi_walk.proofs.ActSteps.{loop_again}
use Rattle.edi_walk.proofs.Calls.{same_on}
use Rattle.edi_walk.proofs.evaluation.Evaluation.repeat.Goals as goal

pub returns-clause-exact : goal.returns-clause-exact
returns-clause-exact c levels system enough =
    c.put_two.ensures.exact levels system _
    (ap (λ g. next_of levels c.args.self.now (loops (view.clauses (map clause_of c.args.clauses.now))) g (world_of c.args.self.now system)) (ap given_of c.in-Whether.is ∙ ap whether c.if-not-ran.false)
    ∙ loop_again (unit_of c.args.self.now.unit.now) c.args.self.now.name.items c.args.self.now.size levels (rest_of levels c.args.self.now) (view.clauses (map clause_of c.args.clauses.now)) c.turn.new.self.turns (given_of c.args.self.now.given) (world_of c.args.self.now system)
    c.in_ok-turn.ensures.exact enough
    ∙ ap (λ e. above levels system (tries (view.clauses (map clause_of c.args.clauses.now))) e (next_of levels e (loops (view.clauses (map clause_of c.args.clauses.now))))) (sym c.in_ok-turn.ensures.others))

pub returns-clause-same : goal.returns-clause-same
returns-clause-same c = same_on c.args.self.now c.turn.new.self c.put_two.new.self c.in_ok-turn.ensures.same c.put_two.ensures.same
