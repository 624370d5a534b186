use Rattle.std.proofs.Common.{◌≡◌, ◌≤◌, ◌*◌, take}
use Rattle.edi_image.specs.Stored.{blocks_taken}
use Rattle.edi_image.proofs.stored.blocks_taken.Given as goal

abbrev pub invariant-loop-file : goal.invariant-loop-file
invariant-loop-file l = record {
  exact : l.taken ≡ blocks_taken (take l.file-index l.files);
  bound : l.taken ≤ 512 * l.file-index;
}
