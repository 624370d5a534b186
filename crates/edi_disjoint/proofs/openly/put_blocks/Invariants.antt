use Rattle.std.proofs.Common.{◌≡◌, drop}
use Rattle.std.specs.Prelude.{map}
use Rattle.edi_unit.specs.View.{block_of}
use Rattle.edi_disjoint.specs.Openly.{use_of, with_blocks}
use Rattle.edi_disjoint.proofs.openly.put_blocks.Given as goal

abbrev pub invariant-loop-here : goal.invariant-loop-here
invariant-loop-here l = with_blocks (map block_of l.blocks) l.block l.texts (map use_of l.list.items) (drop l.here-index l.reached)
    ≡ with_blocks (map block_of l.blocks) l.block l.texts (map use_of l.fn.list.items) l.reached
