use Rattle.std.proofs.Common.{◌++◌}
use Rattle.std.specs.Prelude.{codes}
use Rattle.std.specs.Fmt.{decimal}
use Rattle.edi_timeline.proofs.Chains.{five}
use Rattle.edi_timeline.proofs.picture.put_opened.Goals as goal

pub returns : goal.returns
returns c = record {
  exact =
      five c.args.out.now.items c.extend_from_slice.new.self.items c.put_number.new.out.items c.extend_from_slice-2.new.self.items
      c.put_number-2.new.out.items c.extend_from_slice-5.new.self.items (codes "<svg xmlns=\"http://www.w3.org/2000/svg\" width=\"")
      (decimal c.args.width) (codes "\" height=\"") (decimal c.args.height)
      (codes "\" viewBox=\"0 0 "
      ++ (decimal c.args.width
      ++ (codes " "
      ++ (decimal c.args.height
      ++ codes "\" font-family=\"monospace\" font-size=\"12\">\n<rect width=\"100%\" height=\"100%\" fill=\"#fff\"/>\n"))))
      c.in_ok-extend_from_slice.ensures.items c.in_ok-put_number.ensures.exact c.in_ok-extend_from_slice-2.ensures.items c.in_ok-put_number-2.ensures.exact
      (five c.put_number-2.new.out.items c.extend_from_slice-3.new.self.items c.put_number-3.new.out.items c.extend_from_slice-4.new.self.items
      c.put_number-4.new.out.items c.extend_from_slice-5.new.self.items (codes "\" viewBox=\"0 0 ") (decimal c.args.width) (codes " ")
      (decimal c.args.height) (codes "\" font-family=\"monospace\" font-size=\"12\">\n<rect width=\"100%\" height=\"100%\" fill=\"#fff\"/>\n")
      c.in_ok-extend_from_slice-3.ensures.items c.in_ok-put_number-3.ensures.exact c.in_ok-extend_from_slice-4.ensures.items
      c.in_ok-put_number-4.ensures.exact c.in_ok-extend_from_slice-5.ensures.items);
}
