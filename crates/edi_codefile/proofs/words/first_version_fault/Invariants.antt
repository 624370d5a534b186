use Rattle.std.proofs.Common.{◌-◌, length}
use Rattle.edi_codefile.proofs.Versions.{IsReadTo}
use Rattle.edi_codefile.proofs.words.first_version_fault.Given as goal

abbrev pub invariant-loop-at : goal.invariant-loop-at
invariant-loop-at l = IsReadTo l.words l.at

abbrev pub decreases-loop-at : goal.decreases-loop-at
decreases-loop-at l = length l.words - l.at
