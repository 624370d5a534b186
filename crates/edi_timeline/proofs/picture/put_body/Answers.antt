use Rattle.std.proofs.Common.{◌≡◌, ℕ, ◌+◌, ◌++◌, ◌∙◌, [], length, ap, sym}
use Rattle.std.specs.Prelude.{codes}
use Rattle.std.proofs.lemmas.List.{length-map}
use Rattle.edi_timeline.specs.Told.{process_in, stints_in}
use Rattle.edi_timeline.specs.Picture.{moved, lane_y, lane_names, boxes, key}
use Rattle.edi_timeline.specs.Sheet.{lanes_in}
use Rattle.edi_timeline.proofs.Chains.{three, five}
use Rattle.edi_timeline.proofs.picture.put_body.Goals as goal

pub returns : goal.returns
returns c = record {
  exact =
      five c.args.out.now.items c.put_lanes.new.out.items c.extend_from_slice.new.self.items c.put_boxes.new.out.items c.extend_from_slice-2.new.self.items
      c.extend_from_slice-3.new.self.items (lane_names 0 (lanes_in c.args.sheet.now)) (codes "<g text-anchor=\"middle\">\n")
      (boxes (lanes_in c.args.sheet.now) 1 [] (stints_in c.args.sheet.now.ending c.args.sheet.now.rows.now 0 c.args.sheet.now.few.now)) (codes "</g>\n")
      (moved 8 (lane_y (length (lanes_in c.args.sheet.now)) + 10) ++ (key ++ codes "</g>\n</svg>\n")) c.in_ok-put_lanes.ensures.exact
      c.in_ok-extend_from_slice.ensures.items c.in_ok-put_boxes.ensures.exact c.in_ok-extend_from_slice-2.ensures.items
      (three c.extend_from_slice-2.new.self.items c.put_moved.new.out.items c.put_key.new.out.items c.extend_from_slice-3.new.self.items
      (moved 8 (lane_y (length (lanes_in c.args.sheet.now)) + 10)) key (codes "</g>\n</svg>\n")
      (c.in_ok-put_moved.ensures.exact
      ∙ ap (λ y. c.extend_from_slice-2.new.self.items ++ moved 8 (y + 10))
      (c.lane_y.ensures.exact ∙ ap lane_y (sym (length-map c.args.sheet.now.lanes.now (process_in c.args.sheet.now.rows.now)))))
      c.in_ok-put_key.ensures.exact c.in_ok-extend_from_slice-3.ensures.items);
}
