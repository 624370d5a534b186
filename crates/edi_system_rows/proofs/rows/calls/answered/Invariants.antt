use Rattle.std.proofs.Common.{None}
use Rattle.edi_system.specs.AsCalls.{HasFailed}
use Rattle.edi_system_rows.proofs.rows.calls.answered.Given as goal

abbrev pub invariant-loop-i : goal.invariant-loop-i
invariant-loop-i g l = HasFailed g.D.Drive.contents g.D.Drive.count g.S.Source.left l.calls None
