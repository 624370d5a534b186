use Rattle.std.proofs.Common.{◌≡◌, ◌≤◌, take}
use Rattle.edi_calls.specs.State.{without_blanks}
use Rattle.edi_image.proofs.title.without_blanks.Given as goal

abbrev pub invariant-loop-index : goal.invariant-loop-index
invariant-loop-index l = record {
  inside : l.kept ≤ l.index;
  so_far : take l.kept l.characters ≡ without_blanks (take l.index l.characters);
}
