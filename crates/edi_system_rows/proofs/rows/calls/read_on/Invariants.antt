use Rattle.std.proofs.Common.{None}
use Rattle.edi_system_rows.proofs.rows.calls.read_on.Given as goal

abbrev pub invariant-loop : goal.invariant-loop
invariant-loop g l = g.C.Calls.failed l.calls None
