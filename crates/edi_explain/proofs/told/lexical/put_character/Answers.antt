use Rattle.edi_explain.proofs.told.Parts.{character_put}
use Rattle.edi_explain.proofs.told.lexical.put_character.Goals as goal

pub returns : goal.returns
returns c = character_put _ _ _ _ _ _ _ _ _ c.stray_of-place.ensures.exact c.byte_at.ensures.exact c.in_ok-put_pointed.ensures c.in_ok-put_stray.ensures c.put_advice.ensures
