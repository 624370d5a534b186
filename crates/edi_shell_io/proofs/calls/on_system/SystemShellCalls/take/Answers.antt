use Rattle.edi_shell_io.proofs.calls.Told.{takes}
use Rattle.edi_shell_io.proofs.calls.on_system.SystemShellCalls.take.Goals as goal

pub returns-clause-exact : goal.returns-clause-exact
returns-clause-exact g c = λ s at tells.
    rw c.taken_by.ensures
    (takes g.D.Drive.contents g.S.Source.left g.T.Sink.taken g.P.Sink.taken c.args.self.now c.take.new.self s at tells c.take.ensures.due
    c.take.result c.take.ensures.failed c.take.ensures.exact)
