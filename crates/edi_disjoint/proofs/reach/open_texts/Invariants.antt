use Rattle.std.proofs.Common.{◌≡◌, ◌++◌, drop}
use Rattle.std.specs.Prelude.{map}
use Rattle.edi_unit.specs.View.{block_of}
use Rattle.edi_disjoint.specs.Mentions.{in_acts}
use Rattle.edi_disjoint.specs.Open.{open_block}
use Rattle.edi_disjoint.proofs.reach.open_texts.Given as goal

abbrev pub invariant-loop-block : goal.invariant-loop-block
invariant-loop-block l = map (λ t. t.items) l.texts.items ++ map (λ b. in_acts b.body) (map open_block (map block_of (drop l.block-index l.block-items)))
    ≡ map (λ b. in_acts b.body) (map open_block (map block_of l.block-items))
