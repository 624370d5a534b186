use Rattle.std.proofs.Common.{Err, refl, sym, subst}
use Rattle.edi_walk.specs.declared.stop.Stop.TheVariants as stop
use Rattle.edi_walk.specs.Works.{IsCalm, TurnsTo}
use Rattle.edi_walk.proofs.Pieces.{err_is}
use Rattle.edi_walk.specs.declared.process.Asked as code_asked
use Rattle.edi_walk.proofs.evaluation.Evaluation.after_turn.Goals as goal

pub returns-in-Ok-clause-exact : goal.returns-in-Ok-clause-exact
returns-in-Ok-clause-exact c =
    (refl, c.in-Ok.ensures.exact, c.in-Ok.ensures.others)

pub returns-in-Err-clause-exact : goal.returns-in-Err-clause-exact
returns-in-Err-clause-exact c =
    subst (λ x. TurnsTo c.args.asked (Err x) c.args.self.now c.turn.new.self) (sym (err_is c.in-Err.stop stop.Turns c.in-Err.ensures.err.2)) (c.in-Err.ensures.err.0, c.in-Err.ensures.err.1)

pub returns-in-Err-clause-calm : goal.returns-in-Err-clause-calm
returns-in-Err-clause-calm c =
    subst (λ x. IsCalm {T = code_asked.Asked} (Err x)) (sym (err_is c.in-Err.stop stop.Turns c.in-Err.ensures.err.2)) tt
