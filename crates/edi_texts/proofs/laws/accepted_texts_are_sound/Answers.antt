use Rattle.edi_texts.proofs.Bounded.{accepted_texts_are_sound}
use Rattle.edi_texts.proofs.laws.accepted_texts_are_sound.Goals as goal

pub returns : goal.returns
returns c = record { law = accepted_texts_are_sound }
