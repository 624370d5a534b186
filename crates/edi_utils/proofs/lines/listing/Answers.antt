use Rattle.std.proofs.Common.{refl, ap, ◌∙◌}
use Rattle.edi_target.specs.View.{instruction_of}
use Rattle.edi_utils.specs.Listing.{listing_of}
use Rattle.edi_utils.proofs.Listed.{all_listed, listed_next}
use Rattle.edi_utils.proofs.lines.listing.Goals as goal

pub loop-next-preserved : goal.loop-next-preserved
loop-next-preserved c =
    let r = c.in-Some.ensures in
    listed_next c.words-words.result.now c.loop-next.bytes.items _ c.loop-next.at c.in-Some.next (instruction_of c.in-Some.field-0-0) _ r.found r.after r.within
    refl c.loop-next.invariant c.in_ok-put_line.ensures

pub returns : goal.returns
returns c = record {
  exact =
      all_listed c.words-words.result.now c.loop-next.bytes.items c.loop-next.at c.in_default.ensures.none c.loop-next.invariant
      ∙ ap listing_of c.words-words.ensures.value;
}
