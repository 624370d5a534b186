use Rattle.std.proofs.Common.{Err, refl, sym, subst}
use Rattle.edi_walk.specs.Walkers.{Forked}
use Rattle.edi_walk.specs.declared.stop.Stop.TheVariants as stop
use Rattle.edi_walk.specs.Works.{IsCalm}
use Rattle.edi_walk.proofs.Births.{forked_so}
use Rattle.edi_walk.proofs.Onward.{calm_for_memory}
use Rattle.edi_walk.proofs.Pieces.{err_is}
use Rattle.edi_walk.proofs.walker.Walker.forked.Goals as goal

pub returns-in-Ok-clause-exact : goal.returns-in-Ok-clause-exact
returns-in-Ok-clause-exact c =
    forked_so c.args.index c.args.share c.args.branches.now c.args.self.now (record c.args.self.now { evaluation = c.turn.new.self }) c.parted.new.self c.turn.new.self c.parted.result
    c.in-Ok.ensures.exact c.in-Ok.ensures.others refl c.parted.ensures.exact c.parted.ensures.err

pub returns-in-Ok-clause-calm : goal.returns-in-Ok-clause-calm
returns-in-Ok-clause-calm c =
    calm_for_memory c.parted.result c.parted.ensures.err

pub returns-in-Err-clause-exact : goal.returns-in-Err-clause-exact
returns-in-Err-clause-exact c =
    subst (λ x. Forked c.args.index c.args.share c.args.branches.now (Err x) c.args.self.now (record c.args.self.now { evaluation = c.turn.new.self }))
    (sym (err_is c.in-Err.stop stop.Turns c.in-Err.ensures.err.2)) c.in-Err.ensures.err.0

pub returns-in-Err-clause-calm : goal.returns-in-Err-clause-calm
returns-in-Err-clause-calm c =
    subst (λ x. IsCalm {T = Unit {0}} (Err x)) (sym (err_is c.in-Err.stop stop.Turns c.in-Err.ensures.err.2)) tt
