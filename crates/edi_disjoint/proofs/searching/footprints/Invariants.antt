use Rattle.std.proofs.Common.{◌≡◌, ℕ, ◌<◌, ◌^◌, length}
use Rattle.std.specs.Prelude.{slice_get}
use Rattle.edi_unit.specs.Fits.{Fits}
use Rattle.edi_unit.specs.View.{blocks_of, unit_of}
use Rattle.edi_disjoint.specs.Found.{IsFootprintAt}
use Rattle.edi_disjoint.specs.Footprints.{IsBranch}
use Rattle.edi_disjoint.proofs.searching.footprints.Given as goal

abbrev pub invariant-loop-block : goal.invariant-loop-block
invariant-loop-block l = record {
  count : length l.branches.items ≡ l.block-index;
  number : l.block-index < 2 ^ 32 → l.number ≡ l.block-index;
  each : Fits (unit_of l.unit) → length (blocks_of l.unit.blocks) < 2 ^ 32 → (b : ℕ) → b < l.block-index → IsBranch (unit_of l.unit) b
      → IsFootprintAt (unit_of l.unit) b (slice_get l.branches.items b);
}
