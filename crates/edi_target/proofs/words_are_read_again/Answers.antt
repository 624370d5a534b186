use Rattle.edi_target.proofs.Reading.{decode_again}
use Rattle.edi_target.proofs.words_are_read_again.Goals as goal

pub returns : goal.returns
returns c = record { law = decode_again }
