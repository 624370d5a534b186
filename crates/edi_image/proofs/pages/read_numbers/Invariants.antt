use Rattle.std.proofs.Common.{◌≡◌, ◌++◌, ◌+◌, length}
use Rattle.edi_image.specs.Image.{numbers_in}
use Rattle.edi_image.proofs.pages.read_numbers.Given as goal

abbrev pub invariant-loop-i : goal.invariant-loop-i
invariant-loop-i l = record {
  so_far : l.into.items ≡ l.initial.into.items ++ numbers_in l.block l.i;
  many : length l.into.items ≡ length l.initial.into.items + l.i;
}
