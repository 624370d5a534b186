use Rattle.std.proofs.Common.{[], ◌∷◌, ◌++◌, ap, ◌∙◌}
use Rattle.std.specs.Prelude.{map}
use Rattle.edi_unit.specs.View.{acts, act_of}
use Rattle.edi_walk.specs.Data.{cell_of, spot_of}
use Rattle.edi_walk.specs.Processes.{acts_bare, ends_procedure, work_of}
use Rattle.edi_unit.specs.Need.{block_at}
use Rattle.edi_unit.specs.View.{unit_of}
use Rattle.edi_walk.proofs.Working.{puts_calm}
use Rattle.edi_walk.proofs.Pieces.{enters_calm}
use Rattle.edi_walk.proofs.CallPieces.{block_begun, block_stays}
use Rattle.edi_walk.proofs.evaluation.Evaluation.block_called.Goals as goal

pub returns-in-Ok-clause-exact : goal.returns-in-Ok-clause-exact
returns-in-Ok-clause-exact c s =
    block_begun c.args.self.now c.enter.new.self s c.args.number (spot_of c.args.parent) (map cell_of c.args.cells.items) c.args.line (acts (map act_of c.body.result.now)) c.put_before.result c.args.work.now.items
    c.put_before.new.work.items c.in-Ok.ensures.exact
    (c.body.ensures.exact ∙ ap (λ u. (block_at (unit_of u.now).blocks c.args.number).body) c.in-Ok.ensures.same.unit) c.put_before.ensures.exact

pub returns-in-Ok-clause-calm : goal.returns-in-Ok-clause-calm
returns-in-Ok-clause-calm c =
    puts_calm (acts_bare (acts (map act_of c.body.result.now)) ++ ends_procedure ∷ []) c.put_before.result c.args.work.now.items c.put_before.new.work.items
    c.put_before.ensures.exact

pub returns-in-Err-clause-exact : goal.returns-in-Err-clause-exact
returns-in-Err-clause-exact c s =
    block_stays c.args.self.now c.enter.new.self s c.args.number (spot_of c.args.parent) (map cell_of c.args.cells.items) c.args.line (work_of c.args.work.now.items []) c.args.work.now.items c.in-Err.stop c.in-Err.ensures.exact

pub returns-in-Err-clause-calm : goal.returns-in-Err-clause-calm
returns-in-Err-clause-calm c =
    enters_calm c.args.self.now c.enter.new.self c.args.number (spot_of c.args.parent) (map cell_of c.args.cells.items) c.args.line c.in-Err.stop c.in-Err.ensures.exact
