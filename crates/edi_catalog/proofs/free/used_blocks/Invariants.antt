use Rattle.std.proofs.Common.{◌≡◌, ℕ, ◌<◌, false, drop, length}
use Rattle.std.specs.Prelude.{◌||◌, slice_index_or}
use Rattle.edi_image.specs.Rules.{is_in}
use Rattle.edi_catalog.specs.Plan.{blocks_used}
use Rattle.edi_catalog.proofs.free.used_blocks.Given as goal

abbrev pub invariant-loop-file : goal.invariant-loop-file
invariant-loop-file l = record {
  as_many : length l.used ≡ 4096;
  left : (n : ℕ) → n < 4096 → (is_in n (blocks_used (drop l.file-index l.files)) || slice_index_or l.used n false) ≡ is_in n (blocks_used l.files);
}
