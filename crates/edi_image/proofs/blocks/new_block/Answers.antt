use Rattle.std.proofs.Common.{rules}
use Rattle.edi_image.specs.Formatted.{new_block}
use Rattle.edi_image.proofs.blocks.new_block.Goals as goal

pub returns-then-n-eq0 : goal.returns-then-n-eq0
unfolding new_block
returns-then-n-eq0 c = search rules

pub returns-else-n-eq0 : goal.returns-else-n-eq0
unfolding new_block
returns-else-n-eq0 c = search rules
