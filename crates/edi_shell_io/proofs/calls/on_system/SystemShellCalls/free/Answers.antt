use Rattle.edi_shell_io.proofs.calls.Told.{slots_are}
use Rattle.edi_shell_io.proofs.calls.on_system.SystemShellCalls.free.Goals as goal

pub returns-clause-slots : goal.returns-clause-slots
returns-clause-slots g c = λ s at tells. slots_are g.D.Drive.contents g.S.Source.left g.T.Sink.taken g.P.Sink.taken c.args.self.now s g.D.Drive.count at tells
    c.requires.ready
