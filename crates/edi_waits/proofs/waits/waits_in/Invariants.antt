use Rattle.std.proofs.Common.{◌≡◌}
use Rattle.edi_waits.specs.Names.{waiting_below}
use Rattle.edi_waits.specs.Told.{all_of}
use Rattle.edi_waits.proofs.waits.waits_in.Given as goal

-- those at the slots so far
abbrev pub invariant-loop-slot : goal.invariant-loop-slot
invariant-loop-slot l = all_of l.waits ≡ waiting_below l.code.words l.kernel l.names l.slot
