use Rattle.edi_walk.specs.declared.process.Asked as code_asked
use Rattle.std.proofs.Common.{[], ◌++◌, Err, subst}
use Rattle.std.specs.Prelude.{map}
use Rattle.edi_told.specs.Told.{WhereTold}
use Rattle.edi_walk.proofs.Calls.{WhereTold-same}
use Rattle.edi_unit.specs.View.{acts, act_of}
use Rattle.edi_walk.specs.Processes.{acts_bare, work_of}
use Rattle.edi_walk.specs.Works.{Statement}
use Rattle.edi_walk.proofs.Working.{calm_blames, puts_calm}
use Rattle.edi_walk.proofs.Pieces.{act_stop}
use Rattle.edi_walk.proofs.evaluation.Evaluation.first_act.Goals as goal

pub returns-in-Ok-clause-exact : goal.returns-in-Ok-clause-exact
returns-in-Ok-clause-exact g c =
    subst (λ todo. WhereTold (g.C.Calls.state c.args.calls.now) (g.C.Calls.state c.statement.new.calls)
    (λ s t. Statement (act_of c.args.first.now) todo c.statement.new.work.items c.statement.result c.args.self.now c.statement.new.self s t)) c.in-Ok.ensures.exact.1
    c.statement.ensures.exact

pub returns-in-Err-clause-exact : goal.returns-in-Err-clause-exact
returns-in-Err-clause-exact g c =
    WhereTold-same _ (g.C.Calls.state c.args.calls.now)
    (λ s. act_stop c.args.self.now s (act_of c.args.first.now) (acts_bare (acts (map act_of c.args.rest.now)))
    (acts_bare (acts (map act_of c.args.rest.now)) ++ work_of c.args.work.now.items []) c.put_first.new.work.items c.args.work.now.items c.put_first.new.work.items
    c.in-Err.stop c.in-Err.ensures.exact)

pub returns-in-Err-clause-blame : goal.returns-in-Err-clause-blame
returns-in-Err-clause-blame g c =
    calm_blames {T = code_asked.Asked} (Err c.in-Err.stop) (puts_calm (acts_bare (acts (map act_of c.args.rest.now))) (Err c.in-Err.stop) c.args.work.now.items c.put_first.new.work.items c.in-Err.ensures.exact) (g.C.Calls.failed c.args.calls.now) (g.C.Calls.faults c.args.calls.now) (g.C.Calls.faults c.args.calls.now) c.requires.working
