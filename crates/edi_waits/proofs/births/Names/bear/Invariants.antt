use Rattle.edi_kernel.specs.Table.{ready_slots}
use Rattle.edi_waits.specs.Names.{Bears}
use Rattle.edi_waits.proofs.births.Names.bear.Given as goal

-- those so far are children
abbrev pub invariant-loop-index : goal.invariant-loop-index
invariant-loop-index l = record {
  bears : Bears l.slot l.from l.index (ready_slots l.kernel.table) l.fn.self l.self;
}
