use Rattle.std.proofs.lemmas.Result.{err_from_is_err_and}
use Rattle.edi_session.specs.Shell.{shown_by}
use Rattle.edi_shell.proofs.edit.Rows.{both_shown, first_broke}
use Rattle.edi_shell.proofs.edit.looking.show_line.Goals as goal

pub returns-in_err-show-clause-exact : goal.returns-in_err-show-clause-exact
returns-in_err-show-clause-exact g c = λ s a t.
    let p = err_from_is_err_and c.from_residual.result c.from_residual.ensures.1 in
    rw p.1 (first_broke g.C.ShellCalls.at g.C.ShellCalls.stands c.args.line.now s c.show.new.self (c.in_err-show.ensures.exact s a t))

pub returns-clause-exact : goal.returns-clause-exact
returns-clause-exact g c = λ s a t.
    let before = g.met.C.ShellCalls.lasts_told _ _ c.say_on.ensures.lasts t in
    both_shown g.C.ShellCalls.at g.C.ShellCalls.stands c.args.line.now s c.say_on.result c.say_on.new.calls
    (c.say_on.ensures.exact (shown_by c.args.line.now s) (c.in_ok-show.ensures.exact s a before) t)
