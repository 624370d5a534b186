use Rattle.std.proofs.Common.{◌≡◌, ◌+◌, ◌-◌, drop, length}
use Rattle.edi_kernel.specs.Table.{ready_slots}
use Rattle.edi_timed.specs.Seats.{with_born}
use Rattle.edi_timed.proofs.seats.Seats.bear.Given as goal

abbrev pub invariant-loop-slot : goal.invariant-loop-slot
invariant-loop-slot l = record {
  born : with_born l.born l.fork l.branch (drop l.index (ready_slots l.kernel.table)) l.self.items
      ≡ with_born l.born l.fork 0 (drop l.from (ready_slots l.kernel.table)) l.fn.self.items;
  index : l.index ≡ l.from + l.branch;
}

abbrev pub decreases-loop-slot : goal.decreases-loop-slot
decreases-loop-slot l = length (ready_slots l.kernel.table) - l.index
