use Rattle.std.proofs.Common.{◌++◌}
use Rattle.std.specs.Prelude.{map}
use Rattle.edi_unit.specs.View.{acts, act_of}
use Rattle.edi_walk.specs.Processes.{acts_bare, piece_of}
use Rattle.edi_walk.proofs.Working.{puts_both, puts_failed}
use Rattle.edi_walk.proofs.process.put_before.Goals as goal

pub returns-in-Ok : goal.returns-in-Ok
returns-in-Ok c = record {
  exact = puts_both (acts_bare (acts (map act_of c.args.statements.now))) (piece_of c.args.piece) c.in-Ok.field-0 c.put_first.result c.args.work.now.items
      c.put_piece.new.work.items c.put_first.new.work.items c.in-Ok.ensures.exact c.put_first.ensures.exact;
}

pub returns-in-Err : goal.returns-in-Err
returns-in-Err c = record {
  exact = puts_failed (piece_of c.args.piece) (acts_bare (acts (map act_of c.args.statements.now)) ++ piece_of c.args.piece) c.in-Err.stop c.args.work.now.items
      c.put_piece.new.work.items c.put_piece.new.work.items c.in-Err.ensures.exact;
}
