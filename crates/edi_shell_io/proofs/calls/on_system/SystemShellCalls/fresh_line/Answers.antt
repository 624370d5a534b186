use Rattle.edi_session.specs.declared.end.SessionEnd.TheVariants as end
use Rattle.edi_shell_io.proofs.calls.Told.{freshens}
use Rattle.edi_shell_io.proofs.calls.on_system.SystemShellCalls.fresh_line.Goals as goal

pub returns-clause-exact : goal.returns-clause-exact
returns-clause-exact g c = λ s at tells.
    rw c.put_by.ensures
    (freshens g.D.Drive.contents g.S.Source.left g.T.Sink.taken g.P.Sink.taken c.args.self.now c.fresh_line.new.self s at tells c.fresh_line.ensures.due
    c.fresh_line.result end.TerminalFault (λ none. (c.fresh_line.ensures.quiet none).0) c.fresh_line.ensures.failed c.fresh_line.ensures.exact)
