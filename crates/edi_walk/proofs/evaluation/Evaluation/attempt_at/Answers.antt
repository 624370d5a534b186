use Rattle.std.specs.Prelude.{map}
use Rattle.edi_told.proofs.Told.{WhereTold-map}
use Rattle.edi_walk.proofs.Calls.{same_on}
use Rattle.edi_unit.specs.View.{clauses, clause_of}
use Rattle.edi_walk.proofs.Working.{attempt_so, attempt_stop, calm_blames}
use Rattle.edi_walk.proofs.evaluation.Evaluation.attempt_at.Goals as goal

pub returns-in-Ok-clause-exact : goal.returns-in-Ok-clause-exact
returns-in-Ok-clause-exact g c =
    WhereTold-map _ _ (g.C.Calls.state c.args.calls.now) (g.C.Calls.state c.tried.new.calls)
    (λ s t h. attempt_so c.args.self.now c.tried.new.self c.attempted.new.self s t c.args.clauses c.in-Ok.ran c.attempted.result h c.attempted.ensures.exact)
    c.in-Ok.ensures.exact

pub returns-in-Ok-clause-same : goal.returns-in-Ok-clause-same
returns-in-Ok-clause-same g c =
    same_on c.args.self.now c.tried.new.self c.attempted.new.self c.in-Ok.ensures.same c.attempted.ensures.same

pub returns-in-Ok-clause-blame : goal.returns-in-Ok-clause-blame
returns-in-Ok-clause-blame g c =
    calm_blames c.attempted.result c.attempted.ensures.calm (g.C.Calls.failed c.tried.new.calls) (g.C.Calls.faults c.args.calls.now) (g.C.Calls.faults c.tried.new.calls) c.in-Ok.ensures.blame

pub returns-in-Err-clause-exact : goal.returns-in-Err-clause-exact
returns-in-Err-clause-exact g c =
    WhereTold-map _ _ (g.C.Calls.state c.args.calls.now) (g.C.Calls.state c.tried.new.calls) (λ s t h. attempt_stop c.args.self.now c.tried.new.self s t (clauses (map clause_of c.args.clauses.now)) c.in-Err.stop h)
    c.in-Err.ensures.exact
