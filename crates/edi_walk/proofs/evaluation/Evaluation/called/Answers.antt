use Rattle.std.proofs.Common.{[]}
use Rattle.std.specs.Prelude.{map}
use Rattle.edi_told.proofs.Told.{WhereTold-map, WhereTold-then}
use Rattle.edi_walk.proofs.Calls.{same_on}
use Rattle.edi_unit.specs.View.{arguments, argument_of}
use Rattle.edi_walk.specs.Processes.{work_of}
use Rattle.edi_walk.proofs.CallPieces.{called_stop, called_then}
use Rattle.edi_walk.proofs.FrameRuns.{blames_on, lasts_on}
use Rattle.edi_walk.proofs.evaluation.Evaluation.called.Goals as goal

pub returns-in-Ok-clause-exact : goal.returns-in-Ok-clause-exact
returns-in-Ok-clause-exact g c =
    WhereTold-then _ _ _ (g.C.Calls.state c.args.calls.now) (g.C.Calls.state c.cells.new.calls) (g.C.Calls.state c.called_with.new.calls)
    (λ r s t h k. called_then c.args.callee (arguments (map argument_of c.args.arguments.now)) c.args.line (work_of c.args.work.now.items []) c.called_with.new.work.items c.args.self.now c.cells.new.self c.called_with.new.self r s t c.in-Ok.cells
    c.called_with.result c.in-Ok.ensures.same h k) c.in-Ok.ensures.exact c.called_with.ensures.exact

pub returns-in-Ok-clause-same : goal.returns-in-Ok-clause-same
returns-in-Ok-clause-same g c =
    same_on c.args.self.now c.cells.new.self c.called_with.new.self c.in-Ok.ensures.same c.called_with.ensures.same

pub returns-in-Err-clause-exact : goal.returns-in-Err-clause-exact
returns-in-Err-clause-exact g c =
    WhereTold-map _ _ (g.C.Calls.state c.args.calls.now) (g.C.Calls.state c.cells.new.calls)
    (λ s t h. called_stop c.args.callee (arguments (map argument_of c.args.arguments.now)) c.args.line (work_of c.args.work.now.items []) c.args.work.now.items c.args.self.now c.cells.new.self s t c.in-Err.stop h) c.in-Err.ensures.exact

pub returns-in-Ok-clause-blame : goal.returns-in-Ok-clause-blame
returns-in-Ok-clause-blame g c =
    blames_on c.called_with.result (g.C.Calls.failed c.called_with.new.calls) (g.C.Calls.faults c.args.calls.now) (g.C.Calls.faults c.cells.new.calls)
    (g.C.Calls.faults c.called_with.new.calls) c.in-Ok.ensures.lasts.0 c.called_with.ensures.blame

pub returns-in-Ok-clause-lasts : goal.returns-in-Ok-clause-lasts
returns-in-Ok-clause-lasts g c =
    lasts_on g.C.Calls.faults g.C.Calls.references g.C.Calls.leads _ _ _ c.in-Ok.ensures.lasts c.called_with.ensures.lasts
