use Rattle.std.proofs.Common.{◌≤◌, length}
use Rattle.edi_calls.specs.State.{most_bytes}
use Rattle.edi_system.specs.State.{IsReady}
use Rattle.edi_system_rows.proofs.rows.requests.answered.Given as goal

abbrev pub invariant-loop-i : goal.invariant-loop-i
invariant-loop-i g l = record {
  ready : IsReady g.D.Drive.contents g.D.Drive.count l.system;
  room : most_bytes ≤ length l.room;
}
