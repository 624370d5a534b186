use Rattle.std.proofs.Common.{◌*◌, arith}
use Rattle.edi_word.specs.Sets.{word_has}
use Rattle.edi_dump.proofs.valued.Sets.{all_bits, next_bit}
use Rattle.edi_dump.proofs.values.sets.add_members.Goals as goal

pub loop-bit-preserved : goal.loop-bit-preserved
loop-bit-preserved c = record {
  found = next_bit (word_has c.args.words.now) c.args.members.now.items c.loop-bit.members.items c.add_if.new.numbers.items (c.args.at * 16) c.loop-bit.bit
      c.has.result c.has.ensures.exact c.loop-bit.invariant.found c.in_ok-add_if.ensures.exact;
}

pub returns : goal.returns
returns c = record {
  exact = all_bits (word_has c.args.words.now) c.args.members.now.items c.loop-bit.members.items (c.args.at * 16) c.loop-bit.bit 16
      (omega (arith, c.loop-bit-test.false, c.loop-bit.auto.bit-end)) c.loop-bit.invariant.found;
}
