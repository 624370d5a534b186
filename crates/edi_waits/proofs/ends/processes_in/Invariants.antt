use Rattle.std.proofs.Common.{◌≡◌}
use Rattle.edi_waits.specs.Left.{at_ends, told_ends}
use Rattle.edi_waits.proofs.ends.processes_in.Given as goal

-- those at the slots so far
abbrev pub invariant-loop-slot : goal.invariant-loop-slot
invariant-loop-slot l = told_ends l.processes ≡ at_ends l.kernel l.names l.slot
