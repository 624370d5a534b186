use Rattle.std.proofs.Common.{refl}
use Rattle.edi_system.proofs.InState.{reads_whole_told}
use Rattle.edi_system.proofs.Lasting.{told_read, valid_ready}
use Rattle.edi_system.proofs.system.System.read_into.Goals as goal

pub returns-clause-exact : goal.returns-clause-exact
returns-clause-exact g c =
    reads_whole_told g.D.Drive.contents g.S.Source.left g.T.Sink.taken g.P.Sink.taken g.D.Drive.count g.D.Drive.faults g.met.D.Drive.counted g.met.D.Drive.sized
    c.args.self.now (record c.args.self.now { catalog = c.read_into-answer.new.self; failed = c.failed_at-self.result }) c.read_into-answer.result
    c.args.title.now c.read_into-answer.new.into c.requires.ready.mounted refl refl refl (refl, refl) c.read_into-answer.ensures.no_such
    c.read_into-answer.ensures.refusals c.read_into-answer.ensures.reads

pub returns-clause-told : goal.returns-clause-told
returns-clause-told g c = told_read _ _ _ _ _ _ (valid_ready _ _ _ c.requires.ready) c.read_into-answer.ensures.reads
