use Rattle.std.proofs.Common.{[], sym, subst}
use Rattle.std.specs.Prelude.{map}
use Rattle.edi_told.proofs.Told.{WhereTold-map}
use Rattle.edi_walk.proofs.Calls.{WhereTold-same}
use Rattle.edi_walk.specs.Data.{cell_of, closure_of}
use Rattle.edi_walk.specs.Processes.{work_of}
use Rattle.edi_walk.specs.Works.{CallsThis}
use Rattle.edi_walk.proofs.Working.{calm_blames}
use Rattle.edi_walk.proofs.evaluation.Evaluation.called_this.Goals as goal

pub returns-in-System-clause-exact : goal.returns-in-System-clause-exact
returns-in-System-clause-exact g c =
    WhereTold-map _ _ (g.C.Calls.state c.args.calls.now) (g.C.Calls.state c.system_called.new.calls)
    (λ s t h. subst (λ x. CallsThis (closure_of x) (map cell_of c.args.cells.items) c.args.line (work_of c.args.work.now.items []) c.args.work.now.items c.system_called.result c.args.self.now c.system_called.new.self s t)
    (sym c.in-System.is) (h c.args.work.now.items)) c.system_called.ensures.exact

pub returns-in-Block-clause-exact : goal.returns-in-Block-clause-exact
returns-in-Block-clause-exact g c =
    WhereTold-same _ (g.C.Calls.state c.args.calls.now)
    (λ s. subst (λ x. CallsThis (closure_of x) (map cell_of c.args.cells.items) c.args.line (work_of c.args.work.now.items []) c.block_called.new.work.items c.block_called.result c.args.self.now c.block_called.new.self s s)
    (sym c.in-Block.is) (c.block_called.ensures.exact s))

pub returns-in-Block-clause-blame : goal.returns-in-Block-clause-blame
returns-in-Block-clause-blame g c =
    calm_blames c.block_called.result c.block_called.ensures.calm (g.C.Calls.failed c.args.calls.now) (g.C.Calls.faults c.args.calls.now) (g.C.Calls.faults c.args.calls.now) c.requires.working
