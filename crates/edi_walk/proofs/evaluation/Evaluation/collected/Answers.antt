use Rattle.std.proofs.Common.{ap, ◌∙◌}
use Rattle.edi_unit.specs.View.{unit_of}
use Rattle.edi_walk.specs.Machine.{deeper_of, rest_of, world_of}
use Rattle.std.specs.Prelude.{map}
use Rattle.edi_walk.specs.Data.{cell_of}
use Rattle.edi_walk.specs.Frames.{nothing}
use Rattle.std.proofs.lemmas.List.{append-nil}
use Rattle.edi_walk.specs.Frames.{some_cells}
use Rattle.edi_walk.proofs.FrameSteps.{collected_goes}
use Rattle.edi_walk.proofs.evaluation.Evaluation.collected.Goals as goal

pub returns-clause-exact : goal.returns-clause-exact
returns-clause-exact c levels system enough =
    collected_goes (unit_of c.args.self.now.unit.now) c.args.self.now.name.items c.args.self.now.size (deeper_of levels c.args.self.now) (rest_of levels c.args.self.now) (map cell_of c.args.cells.items) nothing (world_of c.args.self.now system)
    ∙ ap (λ xs. rest_of levels c.args.self.now (some_cells xs) (world_of c.args.self.now system)) (append-nil (map cell_of c.args.cells.items))
