use Rattle.edi_system.proofs.Lasting.{told_alone, valid_ready}
use Rattle.edi_system.proofs.system.System.begin_program.Goals as goal

pub returns-clause-told : goal.returns-clause-told
returns-clause-told g c = told_alone _ _ _ _ (valid_ready _ _ _ c.requires.ready)
