use Rattle.std.proofs.Common.{All, get_or, subst, ◌∙◌}
use Rattle.std.proofs.lemmas.List.{get_or_default}
use Rattle.edi_debug.specs.stops.Near.{TellsSight, TellsPoint}
use Rattle.edi_debug.specs.Points.{watched}
use Rattle.edi_debug.proofs.Elsewhere.{one_more, all_watched}
use Rattle.edi_debug.proofs.near.near_points.Goals as goal

pub loop-point-preserved : goal.loop-point-preserved
loop-point-preserved c = record {
  tells = λ unit mapped i d l.
      one_more (λ k. TellsPoint unit c.tell_sights.new.near (watched (get_or c.args.points.now k d))) c.loop-point.point-index i l
      (λ k few j s m at e. c.tell_sights.ensures.keeps at (c.loop-point.invariant.tells unit mapped k d few j s m at e))
      (subst (λ p. TellsPoint unit c.tell_sights.new.near (watched p))
      (c.point-item.is ∙ get_or_default c.args.points.now c.loop-point.point-index _ d c.loop-point-test.true)
      (subst (All (TellsSight unit c.tell_sights.new.near)) c.items-sights.ensures.exact (c.tell_sights.ensures.tells unit mapped)));
}

pub returns : goal.returns
returns c = record {
  tells = λ unit mapped. all_watched (TellsPoint unit c.loop-point.near) c.args.points.now c.loop-point.point-index c.loop-point-test.false (c.loop-point.invariant.tells unit mapped);
}
