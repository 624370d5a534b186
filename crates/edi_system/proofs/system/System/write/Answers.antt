use Rattle.edi_system.proofs.Lasting.{told_alone, valid_ready}
use Rattle.edi_system.proofs.system.System.write.Goals as goal

pub returns-in-Ok-clause-told : goal.returns-in-Ok-clause-told
returns-in-Ok-clause-told g c = told_alone _ _ _ _ (valid_ready _ _ _ c.requires.ready)

pub returns-in-Err-clause-told : goal.returns-in-Err-clause-told
returns-in-Err-clause-told g c = told_alone _ _ _ _ (valid_ready _ _ _ c.requires.ready)
