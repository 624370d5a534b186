use Rattle.std.proofs.Common.{[], Err, sym, subst}
use Rattle.std.specs.Prelude.{map}
use Rattle.edi_told.proofs.Told.{WhereTold-map}
use Rattle.edi_walk.proofs.Calls.{WhereTold-same}
use Rattle.edi_walk.specs.declared.stop.Stop.TheVariants as stop
use Rattle.edi_walk.specs.Data.{cell_of, closure_of}
use Rattle.edi_walk.specs.Processes.{work_of}
use Rattle.edi_walk.specs.Works.{CallsWith}
use Rattle.edi_walk.proofs.Pieces.{err_is}
use Rattle.edi_walk.proofs.CallPieces.{calls_meant, calls_nothing}
use Rattle.edi_walk.proofs.evaluation.Evaluation.called_with.Goals as goal

pub returns-in-Ok-clause-exact : goal.returns-in-Ok-clause-exact
returns-in-Ok-clause-exact g c =
    WhereTold-map _ _ (g.C.Calls.state c.args.calls.now) (g.C.Calls.state c.called_this.new.calls)
    (λ s t h. calls_meant c.args.self.now c.called_this.new.self s t c.args.callee (closure_of c.in-Ok.closed) (map cell_of c.args.cells.items) c.args.line (work_of c.args.work.now.items []) c.called_this.new.work.items c.called_this.result
    c.in-Ok.ensures.exact h) c.called_this.ensures.exact

pub returns-in-Err-clause-exact : goal.returns-in-Err-clause-exact
returns-in-Err-clause-exact g c =
    WhereTold-same _ (g.C.Calls.state c.args.calls.now)
    (λ s. subst (λ x. CallsWith c.args.callee (map cell_of c.args.cells.items) c.args.line (work_of c.args.work.now.items []) c.args.work.now.items (Err x) c.args.self.now c.args.self.now s s)
    (sym (err_is c.in-Err.stop stop.NoMemory c.in-Err.ensures.err)) (calls_nothing c.args.self.now s c.args.callee (map cell_of c.args.cells.items) c.args.line (work_of c.args.work.now.items []) c.args.work.now.items))
