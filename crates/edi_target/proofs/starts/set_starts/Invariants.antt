use Rattle.std.proofs.Common.{◌-◌, length}
use Rattle.edi_target.proofs.Places.{IsSetTo}
use Rattle.edi_target.proofs.starts.set_starts.Given as goal

abbrev pub invariant-loop-at : goal.invariant-loop-at
invariant-loop-at l = IsSetTo l.words l.starts l.at

abbrev pub decreases-loop-at : goal.decreases-loop-at
decreases-loop-at l = length l.words - l.at
