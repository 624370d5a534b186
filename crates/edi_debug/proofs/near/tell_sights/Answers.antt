use Rattle.std.proofs.Common.{get_or, subst}
use Rattle.std.proofs.lemmas.List.{get_or_default}
use Rattle.edi_debug.specs.stops.Near.{TellsSight}
use Rattle.edi_debug.proofs.Elsewhere.{one_more}
use Rattle.edi_debug.proofs.near.tell_sights.Goals as goal

pub loop-sight-preserved : goal.loop-sight-preserved
loop-sight-preserved c = record {
  keeps = λ at h. c.tell_sight.ensures.keeps at (c.loop-sight.invariant.keeps at h);
  tells = λ unit mapped i d l.
      one_more (λ k. TellsSight unit c.tell_sight.new.near (get_or c.args.sights.now k d)) c.loop-sight.sight-index i l
      (λ k few at e. c.tell_sight.ensures.keeps at (c.loop-sight.invariant.tells unit mapped k d few at e))
      (subst (TellsSight unit c.tell_sight.new.near) (get_or_default c.args.sights.now c.loop-sight.sight-index _ d c.loop-sight-test.true)
      (c.tell_sight.ensures.tells unit mapped));
}
