use Rattle.std.proofs.Common.{◌+◌, ◌*◌, ◌∷◌, [], ap₂, ◌∙◌, arith}
use Rattle.edi_store.specs.Memory.{written}
use Rattle.edi_machine.proofs.Starting.{descriptor_more}
use Rattle.edi_machine.proofs.start.put_descriptors.Goals as goal

pub loop-i-preserved : goal.loop-i-preserved
loop-i-preserved c = record {
  so_far =
      c.put_words.ensures.exact
      ∙ ap₂ (λ m w. written m (5 + 3 * c.loop-i.i) (65535 ∷ w ∷ 0 ∷ [])) c.loop-i.invariant.so_far c.from.ensures
      ∙ descriptor_more c.args.store.now c.args.calls.now c.loop-i.i (omega arith) (omega (arith, c.get-whole.ensures.whole.long));
  was_whole = c.loop-i.invariant.was_whole;
  whole = c.put_words.ensures.whole;
}
