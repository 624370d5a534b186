use Rattle.edi_explore.specs.Back.{AreLinedUp}
use Rattle.edi_explore.proofs.back.line_all_up.Given as goal

-- those so far are ready
abbrev pub invariant-loop-slot : goal.invariant-loop-slot
invariant-loop-slot l = AreLinedUp l.slots l.slot-index l.initial.kernel l.kernel
