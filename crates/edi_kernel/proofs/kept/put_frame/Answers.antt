-- Word after word is written.
use Rattle.std.proofs.Common.{◌+◌, get_or, set, ap, ◌∙◌, arith}
use Rattle.edi_machine.proofs.Frames.{written_more}
use Rattle.edi_kernel.proofs.kept.put_frame.Goals as goal

pub loop-i-preserved : goal.loop-i-preserved
loop-i-preserved c = record {
  so_far =
      c.put.ensures.exact
      ∙ ap (λ m. set m (c.args.at + c.loop-i.i) (get_or c.args.words.now c.loop-i.i 0)) c.loop-i.invariant.so_far
      ∙ written_more c.args.store.now c.args.at c.args.words.now c.loop-i.i (omega arith) (omega (arith, c.get-whole.ensures.whole.long));
  was_whole = c.loop-i.invariant.was_whole;
  whole = c.put.ensures.whole;
}
