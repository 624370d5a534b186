use Rattle.std.proofs.Common.{ℕ, ◌++◌, ◌∙◌, length, ap}
use Rattle.std.specs.Prelude.{codes}
use Rattle.edi_timeline.specs.Picture.{column_x, lane_y, moved}
use Rattle.edi_timeline.specs.Sheet.{own_line}
use Rattle.edi_timeline.proofs.Chains.{three}
use Rattle.edi_timeline.proofs.picture.put_line_on.Goals as goal

pub returns : goal.returns
returns c =
    let columns : ℕ = length c.args.sheet.now.few.now in
    record {
      exact =
          three c.args.out.now.items c.put_moved.new.out.items c.put_own_line.new.out.items c.extend_from_slice.new.self.items
          (moved (column_x columns) (lane_y c.args.lane)) (own_line c.args.sheet.now c.args.row.now columns) (codes "</g>\n")
          (c.in_ok-put_moved.ensures.exact
          ∙ ap (λ x. c.args.out.now.items ++ moved x c.lane_y.result) c.column_x.ensures.exact
          ∙ ap (λ y. c.args.out.now.items ++ moved (column_x columns) y) c.lane_y.ensures.exact)
          c.in_ok-put_own_line.ensures.exact c.in_ok-extend_from_slice.ensures.items;
    }
