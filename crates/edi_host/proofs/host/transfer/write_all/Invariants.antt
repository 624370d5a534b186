use Rattle.std.proofs.Common.{length, ◌-◌, ◌≤◌}
use Rattle.edi_host.proofs.host.transfer.write_all.Given as goal

abbrev pub invariant-loop-taken : goal.invariant-loop-taken
invariant-loop-taken g l = l.taken ≤ length l.piece

abbrev pub decreases-loop-taken : goal.decreases-loop-taken
decreases-loop-taken g l = length l.piece - l.taken
