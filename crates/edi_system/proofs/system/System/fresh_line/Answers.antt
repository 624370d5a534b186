use Rattle.edi_system.proofs.Lasting.{told_alone, valid_ready}
use Rattle.edi_system.proofs.system.System.fresh_line.Goals as goal

pub returns-else-self-clause-told : goal.returns-else-self-clause-told
returns-else-self-clause-told g c = told_alone _ _ _ _ (valid_ready _ _ _ c.requires.ready)
