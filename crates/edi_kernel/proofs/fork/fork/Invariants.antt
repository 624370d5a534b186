use Rattle.std.proofs.Common.{◌≡◌, ◌+◌, length}
use Rattle.edi_machine.specs.Starts.{branches_at}
use Rattle.edi_kernel.specs.Table.{free_slots}
use Rattle.edi_kernel.specs.TableIsMachine.{IsTable}
use Rattle.edi_kernel.specs.Forks.{HaveBegun}
use Rattle.edi_kernel.proofs.fork.fork.Given as goal

abbrev pub invariant-loop-i : goal.invariant-loop-i
invariant-loop-i l = record {
  begun : HaveBegun l.slot l.parent (branches_at l.code.words l.at) l.initial.store l.initial.table l.i l.store l.table;
  table : IsTable l.table;
  free : length (free_slots l.table) + l.i ≡ length (free_slots l.initial.table);
}
