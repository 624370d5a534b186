use Rattle.edi_tree.proofs.Greatest.{greatest_is_depth}
use Rattle.edi_tree.proofs.laws.depth_is_the_greatest_level.Goals as goal

pub returns : goal.returns
returns c = record { exact = greatest_is_depth }
