use Rattle.edi_system.proofs.Lasting.{told_input, valid_ready}
use Rattle.edi_system.proofs.system.System.take.Goals as goal

pub returns-in-Byte-clause-told : goal.returns-in-Byte-clause-told
returns-in-Byte-clause-told g c = told_input _ _ _ _ _ _ (valid_ready _ _ _ c.requires.ready) c.next.ensures.takes

pub returns-in-End-clause-told : goal.returns-in-End-clause-told
returns-in-End-clause-told g c = told_input _ _ _ _ _ _ (valid_ready _ _ _ c.requires.ready) c.next.ensures.takes

pub returns-in-Failed-clause-told : goal.returns-in-Failed-clause-told
returns-in-Failed-clause-told g c = told_input _ _ _ _ _ _ (valid_ready _ _ _ c.requires.ready) c.next.ensures.takes
