use Rattle.std.proofs.Common.{◌≡◌, ℕ, ◌+◌, ◌<◌, false, List, [], length}
use Rattle.std.specs.Prelude.{Some, slice_index_or}
use Rattle.edi_disk.specs.Shown.{cached}
use Rattle.edi_image.specs.Entries.{block_at}
use Rattle.edi_catalog.specs.Reads.{Checks}
use Rattle.edi_catalog.proofs.entry_blocks.entry_blocks.Given as goal

abbrev pub invariant-loop-i : goal.invariant-loop-i
invariant-loop-i g l = record {
  checks : Checks g.D.Drive.contents g.D.Drive.count g.D.Drive.faults false l.initial.disk l.disk
      (λ blocks. (k : ℕ) → k < l.i → slice_index_or l.entries.items k [] ≡ block_at blocks (1 + k));
  many : length l.entries.items ≡ l.i;
  each : (k : ℕ) → k < l.i → length (slice_index_or l.entries.items k []) ≡ 512;
  kept : (k : ℕ) (block : List ℕ) → k < l.i → cached (1 + k) l.disk ≡ Some block → slice_index_or l.entries.items k [] ≡ block;
}
