use Rattle.std.proofs.Common.{false, true}
use Rattle.edi_shell_io.proofs.calls.Told.{protects}
use Rattle.edi_shell_io.proofs.calls.on_system.SystemShellCalls.protect.Goals as goal

pub returns-then-protected-clause-exact : goal.returns-then-protected-clause-exact
returns-then-protected-clause-exact g c = λ s at tells.
    rw c.if-protected.true
    (protects g.D.Drive.contents g.S.Source.left g.T.Sink.taken g.P.Sink.taken c.args.self.now c.protect.new.self s at tells c.protect.ensures.due
    true c.args.title.now c.protect.result c.protect.ensures.failed c.protect.ensures.exact)

pub returns-clause-exact : goal.returns-clause-exact
returns-clause-exact g c = λ s at tells.
    rw c.if-protected.false
    (protects g.D.Drive.contents g.S.Source.left g.T.Sink.taken g.P.Sink.taken c.args.self.now c.release.new.self s at tells c.release.ensures.due
    false c.args.title.now c.release.result c.release.ensures.failed c.release.ensures.exact)
