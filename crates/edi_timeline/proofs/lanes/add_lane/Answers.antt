use Rattle.std.proofs.Common.{◌∙◌, ap, map, arith}
use Rattle.edi_timeline.specs.Told.{process_in}
use Rattle.edi_timeline.specs.Picture.{lane_of}
use Rattle.edi_timeline.proofs.Laned.{lane_kept, lane_new}
use Rattle.edi_timeline.proofs.lanes.add_lane.Goals as goal

pub returns-then-lane_of-len-clause-exact : goal.returns-then-lane_of-len-clause-exact
returns-then-lane_of-len-clause-exact c =
    lane_kept c.args.rows.now c.args.lanes.now.items c.args.row.now c.lane_of.result
    (c.lane_of.ensures.exact ∙ ap (λ ls. lane_of (map (process_in c.args.rows.now) ls) (process_in c.args.rows.now c.args.row.now)) c.deref.ensures.value)
    (omega (arith, c.if-lane_of-len.true, c.len.ensures))

pub returns-clause-exact : goal.returns-clause-exact
returns-clause-exact c =
    lane_new c.args.rows.now c.args.lanes.now.items c.args.row.now c.lane_of.result
    (c.lane_of.ensures.exact ∙ ap (λ ls. lane_of (map (process_in c.args.rows.now) ls) (process_in c.args.rows.now c.args.row.now)) c.deref.ensures.value)
    c.push.new.self.items (λ l. omega (arith, c.if-lane_of-len.false, c.len.ensures, l)) c.in_ok-push.ensures.items
