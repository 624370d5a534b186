-- The law as proved.
use Rattle.edi_scheme.proofs.WordedBlocks.{code_is_words}
use Rattle.edi_scheme.proofs.code_is_words.Goals as goal

pub returns : goal.returns
returns c = record { law = code_is_words }
