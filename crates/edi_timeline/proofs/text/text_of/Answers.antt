use Rattle.std.proofs.Common.{option_map}
use Rattle.edi_timeline.specs.Told.{meant}
use Rattle.edi_timeline.proofs.Counting.{whole_lines}
use Rattle.edi_timeline.proofs.text.text_of.Goals as goal

pub returns : goal.returns
returns c = record {
  exact =
      whole_lines c.args.ending c.args.rows.now c.args.count (option_map meant c.args.ended) c.in_ok-out.out.items c.put_cut.new.out.items c.requires.few c.in_ok-out.ensures.exact
      c.in_ok-put_cut.ensures.exact;
}
