use Rattle.std.proofs.Common.{◌-◌, length}
use Rattle.edi_utils.proofs.Listed.{IsListedTo}
use Rattle.edi_utils.proofs.lines.listing.Given as goal

abbrev pub invariant-loop-next : goal.invariant-loop-next
invariant-loop-next l = IsListedTo l.bytes.items l.words l.at

abbrev pub decreases-loop-next : goal.decreases-loop-next
decreases-loop-next l = length l.words - l.at
