use Rattle.edi_code.proofs.Aiming.{aim_step, aim_ends}
use Rattle.std.proofs.Common.{arith}
use Rattle.edi_code.proofs.jumps.aim_all.Goals as goal

pub loop-start-preserved : goal.loop-start-preserved
loop-start-preserved c =
    let step = aim_step c.args.target c.args.starts.now c.loop-start.start-index c.loop-start.out.items c.aim.new.out.items _ c.loop-start-test.true
    c.aim.ensures.exact c.loop-start.invariant.there c.loop-start.invariant.left in
    record { there = step.0; left = step.1 }

pub returns : goal.returns
returns c = record { exact = aim_ends c.args.target c.args.starts.now c.loop-start.start-index _ _ (omega (arith, c.loop-start-test.false)) c.loop-start.invariant.left }
