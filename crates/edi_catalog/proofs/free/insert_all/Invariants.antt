use Rattle.std.proofs.Common.{◌≡◌, ℕ, ◌<◌, false, drop, length}
use Rattle.std.specs.Prelude.{◌||◌, slice_index_or}
use Rattle.edi_image.specs.Rules.{is_in}
use Rattle.edi_catalog.proofs.free.insert_all.Given as goal

abbrev pub invariant-loop-block : goal.invariant-loop-block
invariant-loop-block l = record {
  as_many : length l.used ≡ length l.fn.used;
  left : (n : ℕ) → n < length l.fn.used → (is_in n (drop l.block-index l.blocks) || slice_index_or l.used n false) ≡ (is_in n l.blocks
      || slice_index_or l.fn.used n false);
}
