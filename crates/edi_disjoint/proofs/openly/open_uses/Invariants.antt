use Rattle.std.proofs.Common.{◌≡◌, ◌<◌, ◌^◌, length}
use Rattle.std.specs.Prelude.{map}
use Rattle.edi_unit.specs.Fits.{Fits}
use Rattle.edi_unit.specs.View.{blocks_of, unit_of}
use Rattle.edi_disjoint.specs.Openly.{use_of}
use Rattle.edi_disjoint.proofs.Using.{SoFar}
use Rattle.edi_disjoint.proofs.openly.open_uses.Given as goal

abbrev pub invariant-loop-block : goal.invariant-loop-block
invariant-loop-block l = record {
  number : l.block-index < 2 ^ 32 → l.number ≡ l.block-index;
  list : Fits (unit_of l.unit) → length (blocks_of l.unit.blocks) < 2 ^ 32 → SoFar (unit_of l.unit) l.block-index (map use_of l.list.items);
}
