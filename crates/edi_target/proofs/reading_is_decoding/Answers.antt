use Rattle.edi_target.proofs.Reading.{decode_reads, reads_decode_at}
use Rattle.edi_target.proofs.reading_is_decoding.Goals as goal

pub returns : goal.returns
returns c = record { law = λ words at op n w. (decode_reads words at op n w, reads_decode_at words at op n) }
