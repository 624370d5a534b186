use Rattle.std.proofs.Common.{Ok, Err, refl, subst}
use Rattle.std.specs.Prelude.{map}
use Rattle.edi_told.proofs.Told.{WhereTold-map}
use Rattle.edi_unit.specs.View.{arguments, argument_of}
use Rattle.edi_walk.specs.Data.{cell_of}
use Rattle.edi_walk.specs.declared.frames.Given.TheVariants as make
use Rattle.edi_walk.specs.Frames.{collects}
use Rattle.edi_walk.specs.Steps.{Wholly}
use Rattle.edi_walk.proofs.CallPieces.{cells_so, cells_stop}
use Rattle.edi_walk.proofs.evaluation.Evaluation.cells.Goals as goal

pub returns-in-Ok-clause-exact : goal.returns-in-Ok-clause-exact
returns-in-Ok-clause-exact g c =
    let mid = record c.args.self.now { given = make.Nothing } in
    WhereTold-map _ _ (g.C.Calls.state c.args.calls.now) (g.C.Calls.state c.whole.new.calls)
    (λ s t h. cells_so c.args.self.now mid c.whole.new.self s t (arguments (map argument_of c.args.arguments.now)) refl c.take_cells.new.self c.take_cells.result c.take_cells.ensures.exact c.take_cells.ensures.others
    (subst (λ l. Wholly (collects (map cell_of l) (arguments (map argument_of c.args.arguments.now))) (Ok tt) mid c.whole.new.self s t) c.new-none.ensures.items h)) c.in-Ok.ensures.exact

pub returns-in-Err-clause-exact : goal.returns-in-Err-clause-exact
returns-in-Err-clause-exact g c =
    let mid = record c.args.self.now { given = make.Nothing } in
    WhereTold-map _ _ (g.C.Calls.state c.args.calls.now) (g.C.Calls.state c.whole.new.calls)
    (λ s t h. cells_stop c.args.self.now mid c.whole.new.self s t (arguments (map argument_of c.args.arguments.now)) refl c.in-Err.stop
    (subst (λ l. Wholly (collects (map cell_of l) (arguments (map argument_of c.args.arguments.now))) (Err c.in-Err.stop) mid c.whole.new.self s t) c.new-none.ensures.items h)) c.in-Err.ensures.exact
