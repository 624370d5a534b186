use Rattle.edi_compile.proofs.codable.Following.{code_is_sound, code_is_words}
use Rattle.edi_compile.proofs.codable.code_is_sound.Goals as goal

pub returns : goal.returns
returns c = record { sound = code_is_sound; words = code_is_words }
