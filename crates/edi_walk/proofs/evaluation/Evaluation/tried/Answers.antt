use Rattle.std.specs.Prelude.{map}
use Rattle.edi_told.proofs.Told.{WhereTold-map}
use Rattle.edi_unit.specs.View.{clauses, clause_of}
use Rattle.edi_walk.proofs.Working.{tried_so, tried_stop}
use Rattle.edi_walk.proofs.evaluation.Evaluation.tried.Goals as goal

pub returns-in-Ok-clause-exact : goal.returns-in-Ok-clause-exact
returns-in-Ok-clause-exact g c =
    WhereTold-map _ _ (g.C.Calls.state c.args.calls.now) (g.C.Calls.state c.whole.new.calls) (λ s t h. tried_so c.args.self.now c.whole.new.self s t (clauses (map clause_of c.args.clauses.now)) c.ran.result c.ran.ensures.exact h)
    c.in-Ok.ensures.exact

pub returns-in-Err-clause-exact : goal.returns-in-Err-clause-exact
returns-in-Err-clause-exact g c =
    WhereTold-map _ _ (g.C.Calls.state c.args.calls.now) (g.C.Calls.state c.whole.new.calls) (λ s t h. tried_stop c.args.self.now c.whole.new.self s t (clauses (map clause_of c.args.clauses.now)) c.in-Err.stop h)
    c.in-Err.ensures.exact
