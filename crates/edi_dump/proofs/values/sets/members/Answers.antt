use Rattle.std.proofs.Common.{arith}
use Rattle.edi_word.specs.Sets.{word_has}
use Rattle.edi_dump.proofs.valued.Sets.{all_found, next_word}
use Rattle.edi_dump.proofs.values.sets.members.Goals as goal

pub loop-at-preserved : goal.loop-at-preserved
loop-at-preserved c = record {
  found = next_word (word_has c.args.words.now) c.loop-at.members.items c.add_members.new.members.items c.loop-at.at c.loop-at.invariant.found
      c.in_ok-add_members.ensures.exact;
}

pub returns : goal.returns
returns c = record { exact = all_found c.args.words.now _ _ (omega (arith, c.loop-at-test.false, c.loop-at.auto.at-end)) c.loop-at.invariant.found }
