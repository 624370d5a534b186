use Rattle.std.proofs.Common.{Err, sym, subst}
use Rattle.edi_walk.specs.declared.stop.Stop.TheVariants as stop
use Rattle.edi_walk.specs.Works.{EntersProgram}
use Rattle.edi_walk.proofs.Pieces.{err_is, program_enters}
use Rattle.edi_walk.proofs.evaluation.Evaluation.program_entered.Goals as goal

pub returns-in-Ok-clause-exact : goal.returns-in-Ok-clause-exact
returns-in-Ok-clause-exact c =
    program_enters c.args.self.now c.turn.new.self c.begun.new.self c.begun.result c.in-Ok.ensures.exact c.in-Ok.ensures.others c.begun.ensures.store c.begun.ensures.others
    c.begun.ensures.err

pub returns-in-Err-clause-exact : goal.returns-in-Err-clause-exact
returns-in-Err-clause-exact c =
    subst (λ x. EntersProgram (Err x) c.args.self.now c.turn.new.self) (sym (err_is c.in-Err.stop stop.Turns c.in-Err.ensures.err.2)) (c.in-Err.ensures.err.0, c.in-Err.ensures.err.1)
