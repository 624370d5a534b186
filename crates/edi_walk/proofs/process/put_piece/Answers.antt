use Rattle.std.proofs.Common.{[], Err, refl, sym, subst, ap, ◌∙◌}
use Rattle.edi_walk.specs.declared.stop.Stop.TheVariants as stop
use Rattle.edi_walk.specs.Processes.{piece_of, work_of}
use Rattle.edi_walk.specs.Works.{PutsFirst}
use Rattle.edi_walk.proofs.Pieces.{err_is, work_added}
use Rattle.edi_walk.proofs.process.put_piece.Goals as goal

pub returns-in-Ok : goal.returns-in-Ok
returns-in-Ok c = record {
  exact = (refl, ap (λ ws. work_of ws []) c.in-Ok.ensures.exact ∙ work_added c.args.work.now.items c.args.piece []);
}

pub returns-in-Err : goal.returns-in-Err
returns-in-Err c = record {
  exact = subst (λ x. PutsFirst (piece_of c.args.piece) (Err x) c.args.work.now.items c.add.new.items.items)
      (sym (err_is c.in-Err.stop stop.NoMemory c.in-Err.ensures.err)) tt;
}
