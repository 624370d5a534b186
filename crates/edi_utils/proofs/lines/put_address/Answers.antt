use Rattle.edi_utils.proofs.Places.{place_next}
use Rattle.edi_utils.proofs.lines.put_address.Goals as goal

pub loop-place-preserved : goal.loop-place-preserved
loop-place-preserved c =
    place_next 7 c.loop-place._place c.loop-place.bytes.items _ _ c.loop-place-test.true c.loop-place.invariant c.in_ok-push.ensures.items
