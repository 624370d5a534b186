use Rattle.edi_tree.proofs.Marks.{elements_marks}
use Rattle.edi_tree.proofs.laws.elements_have_the_marks.Goals as goal

pub returns : goal.returns
returns c = record { exact = elements_marks }
