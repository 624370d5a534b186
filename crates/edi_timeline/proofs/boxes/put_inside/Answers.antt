use Rattle.std.specs.Prelude.{codes}
use Rattle.edi_kernel.specs.declared.ends.Ending.TheVariants as ending
use Rattle.edi_timeline.specs.Told.{end_as, start_in}
use Rattle.edi_timeline.specs.Picture.{ink, box_text}
use Rattle.edi_timeline.proofs.Chains.{five}
use Rattle.edi_timeline.proofs.boxes.put_inside.Goals as goal

pub returns : goal.returns
returns c = record {
  exact =
      five c.args.out.now.items c.extend_from_slice.new.self.items c.put_ink.new.out.items c.extend_from_slice-2.new.self.items c.put_box_text.new.out.items
      c.extend_from_slice-3.new.self.items (codes "<text x=\"16\" y=\"17\" fill=\"") (ink (end_as ending.Done c.args.row.now c.args.row.now.kind))
      (codes "\">") (box_text (start_in c.args.rows.now c.args.row.now)) (codes "</text>") c.in_ok-extend_from_slice.ensures.items
      c.in_ok-put_ink.ensures.exact c.in_ok-extend_from_slice-2.ensures.items c.in_ok-put_box_text.ensures.exact c.in_ok-extend_from_slice-3.ensures.items;
}
