use Rattle.std.proofs.Common.{◌≡◌, ℕ, ◌+◌, ◌++◌, ◌∙◌, List, length, map, option_map, ap, arith}
use Rattle.edi_timeline.specs.declared.rows.Row.{Row}
use Rattle.edi_timeline.specs.Told.{meant, process_in, stints_in}
use Rattle.edi_timeline.specs.Picture.{opened, width, lane_y, body}
use Rattle.edi_timeline.proofs.Boxed.{whole}
use Rattle.edi_timeline.proofs.picture.picture_of.Goals as goal

pub returns : goal.returns
returns c = record {
  exact =
      whole c.args.ending (option_map meant c.args.ended) c.args.rows.now c.first_rows-few.result.now c.in_ok-lanes.lanes.items c.args.count c.put_opened.new.out.items
      c.put_headed.new.out.items c.put_body.new.out.items c.first_rows-few.ensures.exact (c.in_ok-lanes.ensures.exact c.args.ending)
      (c.in_ok-put_opened.ensures.exact
      ∙ ap (λ (l : List ℕ). l ++ opened c.width.result (c.lane_y.result + 156)) c.new-out.ensures.items
      ∙ ap (λ w. opened w (c.lane_y.result + 156)) c.width.ensures.exact
      ∙ ap (λ y. opened (width (length c.first_rows-few.result.now)) (y + 156)) (c.lane_y.ensures.exact
      ∙ ap lane_y
      (let many : c.len.result ≡ length c.in_ok-lanes.lanes.items =
      omega (arith, c.len.ensures, c.deref.ensures.len, ap (length {A = Row}) c.deref.ensures.value) in many)))
      c.in_ok-put_headed.ensures.exact
      (c.in_ok-put_body.ensures.exact
      ∙ ap (λ (ls : List Row). c.put_headed.new.out.items
      ++ body (map (process_in c.args.rows.now) ls) (stints_in c.args.ending c.args.rows.now 0 c.first_rows-few.result.now)) c.deref.ensures.value);
}
