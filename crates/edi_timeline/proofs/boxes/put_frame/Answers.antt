use Rattle.std.proofs.Common.{◌≡◌, ℕ, suc, ◌-◌, ◌++◌, ◌∙◌, map, ap, arith}
use Rattle.std.proofs.lemmas.List.{length-map}
use Rattle.edi_timeline.specs.Told.{process_in, stint_in, used_before}
use Rattle.edi_timeline.specs.Picture.{column_x, lane_y, lane_of, moved, over_column, title}
use Rattle.edi_timeline.specs.Sheet.{lanes_in, line_for}
use Rattle.edi_timeline.proofs.Chains.{four}
use Rattle.edi_timeline.proofs.Laned.{lane_most}
use Rattle.edi_timeline.proofs.boxes.put_frame.Goals as goal

pub lane_y-requires : goal.lane_y-requires
lane_y-requires c = record {
  small =
      omega (
        arith,
        c.lane_of-lane.ensures.exact,
        lane_most (lanes_in c.args.sheet.now) (process_in c.args.sheet.now.rows.now c.args.row.now),
        length-map c.args.sheet.now.lanes.now (process_in c.args.sheet.now.rows.now),
        c.requires.sheet.lanes,
        c.requires.sheet.many,
      );
}

pub returns : goal.returns
returns c =
    let n : c.args.index ≡ suc c.args.index - 1 = omega arith in
    record {
      exact =
          four c.args.out.now.items c.put_number_over.new.out.items c.put_moved.new.out.items c.put_title.new.out.items c.put_line_to.new.out.items
          (over_column (suc c.args.index))
          (moved (column_x (suc c.args.index - 1)) (lane_y (lane_of (lanes_in c.args.sheet.now) (process_in c.args.sheet.now.rows.now c.args.row.now))))
          (title (suc c.args.index)
          (stint_in c.args.sheet.now.ending c.args.sheet.now.rows.now (suc (used_before c.args.sheet.now.few.now c.args.index)) c.args.row.now))
          (line_for c.args.sheet.now c.args.row.now c.args.index) c.in_ok-put_number_over.ensures.exact
          (c.in_ok-put_moved.ensures.exact
          ∙ ap (λ x. c.put_number_over.new.out.items ++ moved x c.lane_y.result) (c.column_x.ensures.exact ∙ ap column_x n)
          ∙ ap (λ y. c.put_number_over.new.out.items ++ moved (column_x (suc c.args.index - 1)) y)
          (c.lane_y.ensures.exact ∙ ap lane_y c.lane_of-lane.ensures.exact))
          c.in_ok-put_title.ensures.exact c.in_ok-put_line_to.ensures.exact;
    }
