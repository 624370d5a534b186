use Rattle.std.proofs.Common.{arith}
use Rattle.edi_sights.proofs.Counted.{roomy}
use Rattle.edi_sights.proofs.numbering.make_room.Goals as goal

pub returns-in_ok-resize-clause-same : goal.returns-in_ok-resize-clause-same
returns-in_ok-resize-clause-same c =
    roomy c.args.counts.now.items c.resize.new.self.items _ _ (omega (arith, c.args.counts.now.ok, c.if-len-wanted.true, c.len.ensures))
    c.in_ok-resize.ensures.items
