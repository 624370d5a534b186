use Rattle.edi_shell_io.proofs.calls.Told.{reads_file}
use Rattle.edi_shell_io.proofs.calls.on_system.SystemShellCalls.read_into.Goals as goal

pub returns-clause-exact : goal.returns-clause-exact
returns-clause-exact g c = λ s at tells.
    reads_file g.D.Drive.contents g.S.Source.left g.T.Sink.taken g.P.Sink.taken c.args.self.now c.read_into.new.self s at tells c.read_into.ensures.due
    c.read_into.result c.args.title.now _ _ c.read_by.ensures c.read_into.ensures.refusals c.read_into.ensures.failed c.read_into.ensures.exact
