use Rattle.std.proofs.Common.{arith, sym, ◌∙◌}
use Rattle.edi_kernel.specs.Table.{ready_slots}
use Rattle.edi_timed.proofs.Placing.{get_below, born_next, born_all_of}
use Rattle.edi_timed.proofs.seats.Seats.bear.Goals as goal

pub overflow_add-index : goal.overflow_add-index
overflow_add-index c =
    omega (
      arith,
      c.requires.few,
      get_below (ready_slots c.args.kernel.now.table) c.loop-slot.index c.in-Some.slot (sym c.ready_slot.ensures ∙ c.in-Some.is),
    )

pub overflow_add-branch : goal.overflow_add-branch
overflow_add-branch c =
    omega (
      arith,
      c.requires.few,
      c.loop-slot.invariant.index,
      get_below (ready_slots c.args.kernel.now.table) c.loop-slot.index c.in-Some.slot (sym c.ready_slot.ensures ∙ c.in-Some.is),
    )

pub loop-slot-smaller : goal.loop-slot-smaller
loop-slot-smaller c =
    omega (
      arith,
      get_below (ready_slots c.args.kernel.now.table) c.loop-slot.index c.in-Some.slot (sym c.ready_slot.ensures ∙ c.in-Some.is),
    )

pub loop-slot-preserved : goal.loop-slot-preserved
loop-slot-preserved c = record {
  born =
      born_next c.args.born c.args.fork c.loop-slot.branch c.loop-slot.index (ready_slots c.args.kernel.now.table) c.loop-slot.self.items c.put.new.self.items
      c.in-Some.slot c.seated_at.result (sym c.ready_slot.ensures ∙ c.in-Some.is) c.seated_at.ensures c.put.ensures
      ∙ c.loop-slot.invariant.born;
  index = omega (arith, c.loop-slot.invariant.index);
}

pub returns : goal.returns
returns c =
    sym
    (born_all_of c.args.born c.args.fork c.loop-slot.branch c.loop-slot.index (ready_slots c.args.kernel.now.table) c.loop-slot.self.items
    (sym c.ready_slot.ensures ∙ c.in_default.is))
    ∙ c.loop-slot.invariant.born
