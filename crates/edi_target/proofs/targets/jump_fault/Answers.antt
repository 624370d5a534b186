use Rattle.edi_target.specs.View.{instruction_of}
use Rattle.edi_target.proofs.Places.{jump_next}
use Rattle.edi_target.proofs.targets.jump_fault.Goals as goal

pub loop-op-preserved : goal.loop-op-preserved
loop-op-preserved c =
    let r = c.in-Some.ensures in
    jump_next c.args.words.now c.loop-op.at c.in-Some.next (instruction_of c.in-Some.op) r.found r.after r.within c.in_default-targets_fault.ensures
    c.loop-op.invariant
