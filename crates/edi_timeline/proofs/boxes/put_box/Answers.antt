use Rattle.std.proofs.Common.{◌≡◌, ℕ, suc, ◌-◌, ◌++◌, ◌∙◌, List, ap}
use Rattle.std.specs.Prelude.{codes}
use Rattle.edi_timeline.specs.declared.rows.Row.{Row}
use Rattle.edi_timeline.specs.declared.boxes.Sheet.{Sheet}
use Rattle.edi_timeline.specs.Told.{process_in, end_as, start_in, said_of, stint_in, used_before, row_at}
use Rattle.edi_timeline.specs.Picture.{lane_of, lane_y, column_x, over_column, moved, title, rectangle, inside, shown_above, box}
use Rattle.edi_timeline.specs.Sheet.{lanes_in, line_for, frame_in, box_in}
use Rattle.edi_timeline.proofs.Boxed.{same_inside}
use Rattle.edi_timeline.proofs.Chains.{five, parts}
use Rattle.edi_timeline.proofs.boxes.put_box.Goals as goal

boxed : (s : Sheet) (index : ℕ) (r : Row) (out now : List ℕ) → r ≡ row_at s.few.now index →
    now ≡ out
    ++ (frame_in s index r
    ++ (rectangle (end_as s.ending r r.kind)
    ++ (inside (end_as s.ending r r.kind) (start_in s.rows.now r) ++ (shown_above (said_of r) ++ codes "</g>\n")))) → now ≡ out ++ box_in s index
boxed s index r out now is e =
    e
    ∙ ap (λ l. out ++ l)
    (parts (over_column (suc index)) (moved (column_x (suc index - 1)) (lane_y (lane_of (lanes_in s) (process_in s.rows.now r))))
    (title (suc index) (stint_in s.ending s.rows.now (suc (used_before s.few.now index)) r)) (line_for s r index)
    (rectangle (end_as s.ending r r.kind)
    ++ (inside (end_as s.ending r r.kind) (start_in s.rows.now r) ++ (shown_above (said_of r) ++ codes "</g>\n"))))
    ∙ ap (λ x. out ++ box (suc index) (lane_of (lanes_in s) (process_in s.rows.now x)) (line_for s x index)
    (stint_in s.ending s.rows.now (suc (used_before s.few.now index)) x)) is

pub returns : goal.returns
returns c = record {
  exact =
      boxed c.args.sheet.now c.args.index c.row_at-row.result c.args.out.now.items c.extend_from_slice.new.self.items c.row_at-row.ensures.exact
      (five c.args.out.now.items c.put_frame.new.out.items c.put_rectangle.new.out.items c.put_inside.new.out.items c.put_shown_above.new.out.items
      c.extend_from_slice.new.self.items (frame_in c.args.sheet.now c.args.index c.row_at-row.result)
      (rectangle (end_as c.args.sheet.now.ending c.row_at-row.result c.row_at-row.result.kind))
      (inside (end_as c.args.sheet.now.ending c.row_at-row.result c.row_at-row.result.kind) (start_in c.args.sheet.now.rows.now c.row_at-row.result))
      (shown_above (said_of c.row_at-row.result)) (codes "</g>\n") c.in_ok-put_frame.ensures.exact c.in_ok-put_rectangle.ensures.exact
      (c.in_ok-put_inside.ensures.exact
      ∙ ap (λ (l : List ℕ). c.put_rectangle.new.out.items ++ l)
      (same_inside c.args.sheet.now.ending c.row_at-row.result (start_in c.args.sheet.now.rows.now c.row_at-row.result)))
      (c.in_ok-put_shown_above.ensures.exact ∙ ap (λ (l : List ℕ). c.put_inside.new.out.items ++ shown_above l) c.characters.ensures.exact)
      c.in_ok-extend_from_slice.ensures.items);
}
