use Rattle.std.proofs.Common.{take}
use Rattle.edi_system.proofs.Due.{more_due}
use Rattle.edi_system.proofs.Lasting.{told_terminal, valid_ready}
use Rattle.edi_system.proofs.system.System.show.Goals as goal

pub returns-in-Ok-clause-due : goal.returns-in-Ok-clause-due
returns-in-Ok-clause-due g c =
    more_due g.T.Sink.taken _ _ _ _ (take c.put-put.result.taken c.args.bytes.now) c.put-put.ensures.appends c.due_after-self.ensures

pub returns-in-Failed-clause-due : goal.returns-in-Failed-clause-due
returns-in-Failed-clause-due g c =
    more_due g.T.Sink.taken _ _ _ _ (take c.put-put.result.taken c.args.bytes.now) c.put-put.ensures.appends c.due_after-self.ensures

pub returns-in-Ok-clause-told : goal.returns-in-Ok-clause-told
returns-in-Ok-clause-told g c = told_terminal _ _ _ _ _ _ (valid_ready _ _ _ c.requires.ready) c.put-put.ensures.appends

pub returns-in-Failed-clause-told : goal.returns-in-Failed-clause-told
returns-in-Failed-clause-told g c = told_terminal _ _ _ _ _ _ (valid_ready _ _ _ c.requires.ready) c.put-put.ensures.appends
