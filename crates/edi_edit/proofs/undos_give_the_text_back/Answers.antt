use Rattle.edi_edit.proofs.Law as law
use Rattle.edi_edit.proofs.undos_give_the_text_back.Goals as goal

pub returns : goal.returns
returns c = law.undos_give_the_text_back
