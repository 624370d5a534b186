use Rattle.std.proofs.Common.{sym, subst}
use Rattle.edi_unit.specs.View.{expression_of, place_of}
use Rattle.edi_walk.specs.Reads.{AssignsAtOnce}
use Rattle.edi_walk.specs.Works.{IsCalm}
use Rattle.edi_walk.proofs.AtOnce.{assigns, calm_left, unassigned}
use Rattle.edi_walk.proofs.evaluation.Evaluation.assign_at_once.Goals as goal

pub returns-in-Ok-clause-exact : goal.returns-in-Ok-clause-exact
returns-in-Ok-clause-exact c =
    assigns c.args.self.now c.store_at_once.new.self (place_of c.args.place.now) c.in-Ok.target (expression_of c.args.e.now) c.store_at_once.result
    c.in-Ok.ensures.exact c.store_at_once.ensures.exact

pub returns-in-Err-clause-exact : goal.returns-in-Err-clause-exact
returns-in-Err-clause-exact c =
    subst (λ r. AssignsAtOnce (place_of c.args.place.now) (expression_of c.args.e.now) r c.args.self.now c.args.self.now) (sym c.unmade.ensures.exact)
    (unassigned c.args.self.now (place_of c.args.place.now) (expression_of c.args.e.now) c.in-Err.hurdle c.in-Err.ensures.exact)

pub returns-in-Err-clause-calm : goal.returns-in-Err-clause-calm
returns-in-Err-clause-calm c = subst IsCalm (sym c.unmade.ensures.exact) (calm_left c.in-Err.hurdle)
