use Rattle.std.proofs.Common.{◌≡◌, ◌++◌, take}
use Rattle.edi_kernel.specs.Table.{ready_slots}
use Rattle.edi_explore.proofs.states.States.note_order.Given as goal

-- those so far are appended
abbrev pub invariant-loop-index : goal.invariant-loop-index
invariant-loop-index l = record {
  so_far : l.self.orders.items ≡ l.fn.self.orders.items ++ take l.index (ready_slots l.kernel.table);
  rest : l.self ≡ record l.fn.self { orders = l.self.orders };
}
