use Rattle.edi_compile.proofs.codable.Following.{code_is_short_for_text, code_is_short}
use Rattle.edi_compile.proofs.codable.code_is_short.Goals as goal

pub returns : goal.returns
returns c = record { symbols = code_is_short_for_text; room = code_is_short }
