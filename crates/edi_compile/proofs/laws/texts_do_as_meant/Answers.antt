use Rattle.edi_compile.proofs.Meant.{texts_are_private, texts_can_be_coded, texts_do_as_meant}
use Rattle.edi_compile.proofs.laws.texts_do_as_meant.Goals as goal

pub returns : goal.returns
returns c = record { can = texts_can_be_coded; code = texts_do_as_meant; is_private = texts_are_private }
