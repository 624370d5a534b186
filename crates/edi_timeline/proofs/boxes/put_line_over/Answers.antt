use Rattle.std.proofs.Common.{◌-◌, ◌*◌}
use Rattle.std.specs.Prelude.{codes}
use Rattle.std.specs.Fmt.{decimal}
use Rattle.edi_kernel.specs.declared.ends.Ending.TheVariants as ending
use Rattle.edi_timeline.specs.Told.{end_as, no_row}
use Rattle.edi_timeline.specs.Picture.{line_kind}
use Rattle.edi_timeline.proofs.Chains.{five}
use Rattle.edi_timeline.proofs.boxes.put_line_over.Goals as goal

pub returns : goal.returns
returns c = record {
  exact =
      five c.args.out.now.items c.extend_from_slice.new.self.items c.put_number.new.out.items c.extend_from_slice-2.new.self.items
      c.put_line_kind.new.out.items c.extend_from_slice-3.new.self.items (codes "<path d=\"M-") (decimal (38 * c.args.columns - 32)) (codes " 13H0\" ")
      (line_kind (end_as ending.Done no_row c.args.kind)) (codes "/>") c.in_ok-extend_from_slice.ensures.items c.in_ok-put_number.ensures.exact
      c.in_ok-extend_from_slice-2.ensures.items c.in_ok-put_line_kind.ensures.exact c.in_ok-extend_from_slice-3.ensures.items;
}
