use Rattle.std.proofs.Common.{refl, Err}
use Rattle.std.specs.Prelude.{map}
use Rattle.edi_walk.specs.Data.{cell_of}
use Rattle.edi_walk.specs.declared.stop.Stop.TheVariants as stop
use Rattle.edi_walk.specs.Frames.{some_cells}
use Rattle.edi_walk.proofs.Calls.{told_up, same_self}
use Rattle.edi_walk.proofs.evaluation.Evaluation.ask_words.Goals as goal

pub returns-then-words-arguments-clause-exact : goal.returns-then-words-arguments-clause-exact
returns-then-words-arguments-clause-exact g c =
    told_up c.args.number c.args.line (some_cells (map cell_of c.args.cells.now)) (Err stop.NoMemory) c.args.self.now c.args.self.now
    (g.C.Calls.state c.args.calls.now) refl (same_self c.args.self.now)
