use Rattle.std.proofs.Common.{[], Err, sym, subst}
use Rattle.edi_told.proofs.Told.{WhereTold-map}
use Rattle.edi_walk.proofs.Calls.{WhereTold-same}
use Rattle.edi_walk.specs.declared.stop.Stop.TheVariants as stop
use Rattle.edi_walk.specs.Processes.{work_of}
use Rattle.edi_walk.specs.Works.{Local}
use Rattle.edi_walk.proofs.Pieces.{local_at, local_ready, local_waits}
use Rattle.edi_walk.proofs.evaluation.Evaluation.local.Goals as goal

pub returns-in-Ready-clause-exact : goal.returns-in-Ready-clause-exact
returns-in-Ready-clause-exact g c =
    WhereTold-map _ _ (g.C.Calls.state c.args.calls.now) (g.C.Calls.state c.work.new.calls)
    (λ s t h. subst (λ x. Local x (work_of c.args.work.now.items []) c.work.new.work.items c.work.result c.args.self.now c.work.new.self s t) (sym c.in-Ready.is)
    (local_ready c.args.self.now c.work.new.self s t (work_of c.args.work.now.items []) c.work.new.work.items c.work.result h)) c.work.ensures.exact

pub returns-in-AtWhen-clause-exact : goal.returns-in-AtWhen-clause-exact
returns-in-AtWhen-clause-exact g c =
    WhereTold-map _ _ (g.C.Calls.state c.args.calls.now) (g.C.Calls.state c.attempt_at.new.calls)
    (λ s t h. subst (λ x. Local x (work_of c.args.work.now.items []) c.args.work.now.items c.attempt_at.result c.args.self.now c.attempt_at.new.self s t) (sym c.in-AtWhen.is)
    (local_at c.args.self.now c.attempt_at.new.self s t c.in-AtWhen.clauses c.args.work.now.items c.attempt_at.result h)) c.attempt_at.ensures.exact

pub returns-in-Waiting-clause-exact : goal.returns-in-Waiting-clause-exact
returns-in-Waiting-clause-exact g c =
    WhereTold-same _ (g.C.Calls.state c.args.calls.now)
    (λ s. subst (λ x. Local x (work_of c.args.work.now.items []) c.args.work.now.items (Err stop.Turns) c.args.self.now c.args.self.now s s) (sym c.in-Waiting.is)
    (local_waits c.args.self.now s _ (work_of c.args.work.now.items []) c.args.work.now.items))
