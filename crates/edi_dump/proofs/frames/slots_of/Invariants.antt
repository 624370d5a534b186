use Rattle.std.proofs.Common.{◌≡◌, ◌++◌, drop, map}
use Rattle.edi_unit.specs.declared.units.Parameter.TheVariants as slot
use Rattle.edi_unit.specs.View.{block_of}
use Rattle.edi_unit.specs.Need.{slots}
use Rattle.edi_dump.proofs.frames.slots_of.Given as goal

abbrev pub invariant-loop-t : goal.invariant-loop-t
invariant-loop-t l = record { left : l.slots.items ++ map slot.Value (drop l.t-index l.t-items) ≡ slots (block_of l.block) }
