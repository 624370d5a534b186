use Rattle.std.proofs.Common.{arith}
use Rattle.edi_ring.proofs.Calls as calls
use Rattle.edi_ring.proofs.Lists.place.Goals as goal

pub loop-i-init : goal.loop-i-init
loop-i-init g c = λ k lt at_k. absurd (omega (arith, lt))

pub loop-i-preserved : goal.loop-i-preserved
loop-i-preserved g c = calls.none_up_to c.args.node c.at.result _ c.loop-i.i c.loop-i.invariant c.at.ensures.exact c.if-at-node.false

pub unreachable-requires : goal.unreachable-requires
unreachable-requires g c =
    calls.never c.args.node _ c.requires.listed (λ k lt at_k. c.loop-i.invariant k (omega (arith, lt, c.len-len.ensures.exact)) at_k)
