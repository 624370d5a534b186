use Rattle.std.proofs.Common.{[], ◌∷◌, Err, sym, subst}
use Rattle.std.specs.Prelude.{map}
use Rattle.edi_unit.specs.View.{clauses, clause_of}
use Rattle.edi_unit.specs.Tree as tree
use Rattle.edi_walk.specs.declared.stop.Stop.TheVariants as stop
use Rattle.edi_walk.specs.Processes.{loops_back, work_of}
use Rattle.edi_walk.specs.Works.{IsCalm, Works}
use Rattle.edi_walk.proofs.Working.{puts_calm}
use Rattle.edi_walk.proofs.Pieces.{err_is, loop_back, loop_out}
use Rattle.edi_walk.specs.Processes.{does}
use Rattle.edi_walk.specs.declared.process.Asked as code_asked
use Rattle.edi_walk.proofs.evaluation.Evaluation.loop_end.Goals as goal

pub returns-in-Ok-clause-exact : goal.returns-in-Ok-clause-exact
returns-in-Ok-clause-exact c s =
    loop_back c.args.self.now c.turn.new.self s c.args.clauses.now c.put_piece.result c.args.work.now.items c.put_piece.new.work.items c.in-Ok.ensures.exact
    c.in-Ok.ensures.others c.put_piece.ensures.exact

pub returns-in-Ok-clause-calm : goal.returns-in-Ok-clause-calm
returns-in-Ok-clause-calm c =
    puts_calm (does (tree.while_act (clauses (map clause_of c.args.clauses.now))) ∷ []) c.put_piece.result c.args.work.now.items c.put_piece.new.work.items c.put_piece.ensures.exact

pub returns-in-Err-clause-exact : goal.returns-in-Err-clause-exact
returns-in-Err-clause-exact c s =
    subst (λ x. Works (loops_back (clauses (map clause_of c.args.clauses.now)) ∷ (work_of c.args.work.now.items [])) c.args.work.now.items (Err x) c.args.self.now c.turn.new.self s s) (sym (err_is c.in-Err.stop stop.Turns c.in-Err.ensures.err.2))
    (loop_out c.args.self.now c.turn.new.self s (clauses (map clause_of c.args.clauses.now)) (work_of c.args.work.now.items []) c.args.work.now.items c.in-Err.ensures.err.0 c.in-Err.ensures.err.1)

pub returns-in-Err-clause-calm : goal.returns-in-Err-clause-calm
returns-in-Err-clause-calm c =
    subst (λ x. IsCalm {T = code_asked.Asked} (Err x)) (sym (err_is c.in-Err.stop stop.Turns c.in-Err.ensures.err.2)) tt
