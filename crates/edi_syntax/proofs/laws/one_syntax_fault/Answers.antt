use Rattle.edi_syntax.proofs.Once.{same_fault, no_tree}
use Rattle.edi_syntax.proofs.laws.one_syntax_fault.Goals as goal

pub returns : goal.returns
returns c = record { one = same_fault; no_tree = no_tree }
