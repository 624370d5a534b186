use Rattle.std.proofs.Common.{◌≡◌, ◌++◌, ◌-◌, ◌+◌, ◌*◌, length, take, replicate}
use Rattle.edi_image.specs.Build.{two, all_two}
use Rattle.edi_catalog.proofs.contents.map_block.Given as goal

abbrev pub invariant-loop-i : goal.invariant-loop-i
invariant-loop-i l = l.block ≡ two (length l.pages) ++ (all_two (take l.i l.pages) ++ replicate (512 - (2 + 2 * l.i)) 0)
