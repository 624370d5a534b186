-- The line that was begun on the terminal is ended.
use Rattle.std.proofs.Common.{sym, ◌∙◌}
use Rattle.edi_shell.proofs.sessions.Sessions.{ends_closed}
use Rattle.edi_shell.proofs.sessions.commanding.close.Goals as goal

pub returns-in-Ok-clause-exact : goal.returns-in-Ok-clause-exact
returns-in-Ok-clause-exact g c = λ bound choices start drawn h t.
    ends_closed bound choices g.C.ShellCalls.at g.C.ShellCalls.stands start c.args.end drawn c.args.calls.now c.fresh_line.new.self
    (sym c.ends_by_fault.ensures.exact ∙ c.if-ends_by_fault.false) h (λ s a. c.in-Ok.ensures.exact s a t)
