use Rattle.std.proofs.Common.{◌≡◌, ◌≤◌, ◌-◌, length}
use Rattle.edi_catalog.specs.Plan.{blocks_used}
use Rattle.edi_catalog.proofs.FreeBlocks.{free_from}
use Rattle.edi_catalog.proofs.free.free_blocks.Given as goal

abbrev pub invariant-loop-block : goal.invariant-loop-block
invariant-loop-block l = record {
  so_far : l.blocks.items ≡ free_from (blocks_used l.files) 33 (l.block - 33);
  most : length l.blocks.items ≤ l.wanted;
}
