use Rattle.std.proofs.Common.{rules}
use Rattle.edi_session.specs.declared.end.SessionEnd.TheVariants as end
use Rattle.edi_shell_io.proofs.calls.Told.{none_shown, shows_by}
use Rattle.edi_shell_io.proofs.calls.on_system.SystemShellCalls.show.Goals as goal

pub returns-then-is_empty-clause-exact : goal.returns-then-is_empty-clause-exact
returns-then-is_empty-clause-exact g c = λ s at tells.
    none_shown g.D.Drive.contents g.S.Source.left g.T.Sink.taken g.P.Sink.taken c.args.self.now s c.args.bytes.now (search rules) at

pub returns-clause-exact : goal.returns-clause-exact
returns-clause-exact g c = λ s at tells.
    rw c.put_by.ensures
    (shows_by g.D.Drive.contents g.S.Source.left g.T.Sink.taken g.P.Sink.taken c.args.self.now c.show.new.self s at tells c.show.ensures.due
    c.show.result end.TerminalFault c.args.bytes.now (λ failed. search rules) c.show.ensures.failed c.show.ensures.exact)
