use Rattle.std.proofs.Common.{refl}
use Rattle.std.specs.Prelude.{map}
use Rattle.edi_told.proofs.Told.{WhereTold-map}
use Rattle.edi_walk.specs.Data.{cell_of}
use Rattle.edi_walk.specs.declared.frames.Given.TheVariants as make
use Rattle.edi_walk.proofs.CallPieces.{system_called, system_stays}
use Rattle.edi_walk.proofs.evaluation.Evaluation.system_called.Goals as goal

pub returns-in-Ok-clause-exact : goal.returns-in-Ok-clause-exact
returns-in-Ok-clause-exact g c =
    WhereTold-map _ _ (g.C.Calls.state c.args.calls.now) (g.C.Calls.state c.whole.new.calls)
    (λ s t h. system_called c.args.self.now (record c.args.self.now { given = make.Cells c.args.cells }) c.whole.new.self s t c.args.number c.args.line (make.Cells c.args.cells) (map cell_of c.args.cells.items) refl refl h)
    c.in-Ok.ensures.exact

pub returns-in-Err-clause-exact : goal.returns-in-Err-clause-exact
returns-in-Err-clause-exact g c =
    WhereTold-map _ _ (g.C.Calls.state c.args.calls.now) (g.C.Calls.state c.whole.new.calls)
    (λ s t h. system_stays c.args.self.now (record c.args.self.now { given = make.Cells c.args.cells }) c.whole.new.self s t c.args.number c.args.line (make.Cells c.args.cells) (map cell_of c.args.cells.items) refl refl
    c.in-Err.stop h) c.in-Err.ensures.exact
