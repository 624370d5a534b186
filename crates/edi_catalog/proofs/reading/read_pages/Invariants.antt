use Rattle.std.proofs.Common.{◌≡◌, ◌*◌, false, length, take}
use Rattle.std.specs.Prelude.{flat_map}
use Rattle.edi_image.specs.Entries.{block_at}
use Rattle.edi_catalog.specs.Reads.{Checks, GivesBlocks}
use Rattle.edi_catalog.proofs.reading.read_pages.Given as goal

abbrev pub invariant-loop-i : goal.invariant-loop-i
invariant-loop-i g l = record {
  checks : Checks g.D.Drive.contents g.D.Drive.count g.D.Drive.faults false l.initial.disk l.disk
      (λ blocks. take (512 * l.i) l.into ≡ flat_map (block_at blocks) (take l.i l.pages));
  gives : GivesBlocks l.pages l.i l.into l.initial.disk l.disk;
  many : length l.into ≡ length l.initial.into;
}
