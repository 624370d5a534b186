use Rattle.edi_target.specs.View.{instruction_of}
use Rattle.edi_target.proofs.Places.{set_next}
use Rattle.edi_target.proofs.starts.set_starts.Goals as goal

pub loop-at-preserved : goal.loop-at-preserved
loop-at-preserved c =
    let r = c.in-Some.ensures in
    set_next c.args.words.now c.loop-at.starts c.loop-at.at c.in-Some.next (instruction_of c.in-Some.field-0-0) r.found r.after r.within c.loop-at.invariant
