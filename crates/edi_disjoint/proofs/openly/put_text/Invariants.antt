use Rattle.std.proofs.Common.{◌≡◌, drop}
use Rattle.std.specs.Prelude.{map}
use Rattle.edi_unit.specs.View.{block_of}
use Rattle.edi_disjoint.specs.Openly.{use_of, with_text}
use Rattle.edi_disjoint.proofs.openly.put_text.Given as goal

abbrev pub invariant-loop-mention : goal.invariant-loop-mention
invariant-loop-mention l = with_text (map block_of l.blocks) l.block l.here (map use_of l.list.items) (drop l.mention-index l.text)
    ≡ with_text (map block_of l.blocks) l.block l.here (map use_of l.fn.list.items) l.text
