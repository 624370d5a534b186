-- A command line is taken and done.
use Rattle.std.proofs.Common.{◌≡◌, ◌∙◌, ◌<◌, ◌≤◌, ap, subst, arith, rules}
use Rattle.std.proofs.lemmas.Result.{err_from_is_err_and}
use Rattle.edi_session.specs.Session.{ActsBy, prompted}
use Rattle.edi_session.specs.Shell.{on_fresh_line}
use Rattle.edi_session.specs.Words.{command_line}
use Rattle.edi_shell.specs.edit.Chain.{LinesCome}
use Rattle.edi_shell.proofs.sessions.Prompted.{fresh_later, line_taken, prompt_later, command_acts, command_fails, command_stops}
use Rattle.edi_shell.proofs.sessions.Sessions.{below, enough, if_ok, within_all}
use Rattle.edi_shell.proofs.sessions.commanding.command.Goals as goal

pub returns-in_err-fresh_line-clause-exact : goal.returns-in_err-fresh_line-clause-exact
returns-in_err-fresh_line-clause-exact g c = λ few s w t.
    let p = err_from_is_err_and c.from_residual.result c.from_residual.ensures.1 in
    rw (p.1, p.2)
    (command_fails c.args.bound c.args.choices.now.source g.C.ShellCalls.ready g.C.ShellCalls.failed g.C.ShellCalls.at g.C.ShellCalls.stands s
    (on_fresh_line s) _ _ _ c.fresh_line.new.self w.mode_is c.in_err-fresh_line.ensures.left.0 (fresh_later c.args.bound c.args.choices.now.source s)
    (c.in_err-fresh_line.ensures.exact s w.at_ t))

pub returns-in_err-show-clause-exact : goal.returns-in_err-show-clause-exact
returns-in_err-show-clause-exact g c = λ few s w t.
    let before = g.met.C.ShellCalls.lasts_told _ _ c.show.ensures.lasts t in
    let p = err_from_is_err_and c.from_residual-in_err-show.result c.from_residual-in_err-show.ensures.1 in
    rw (p.1, p.2)
    (command_fails c.args.bound c.args.choices.now.source g.C.ShellCalls.ready g.C.ShellCalls.failed g.C.ShellCalls.at g.C.ShellCalls.stands s
    (prompted c.args.bound c.args.choices.now.source s) _ _ _ c.show.new.self w.mode_is c.in_err-show.ensures.left.0
    (prompt_later c.args.bound c.args.choices.now.source s)
    (c.in_err-show.ensures.exact (on_fresh_line s) (c.in_ok-fresh_line.ensures.exact s w.at_ before) t))

pub returns-in_err-take_command-clause-exact : goal.returns-in_err-take_command-clause-exact
returns-in_err-take_command-clause-exact g c = λ few s w t.
    let shown = g.met.C.ShellCalls.lasts_told _ _ c.take_command.ensures.lasts t in
    let before = g.met.C.ShellCalls.lasts_told _ _ c.show.ensures.lasts shown in
    let at_ = c.in_ok-show.ensures.exact (on_fresh_line s) (c.in_ok-fresh_line.ensures.exact s w.at_ before) shown in
    let p = err_from_is_err_and c.from_residual-in_err-take_command.result c.from_residual-in_err-take_command.ensures.1 in
    rw (p.1, p.2)
    (command_stops c.args.bound c.args.choices.now.source g.C.ShellCalls.ready g.C.ShellCalls.failed g.C.ShellCalls.at g.C.ShellCalls.stands s _
    c.args.taken.now c.take_command.new.taken c.args.choices.now.drawn c.args.calls.now c.take_command.new.calls w
    (c.in_err-take_command.ensures.exact (prompted c.args.bound c.args.choices.now.source s) w.taken_is at_ t))

pub returns-clause-exact : goal.returns-clause-exact
returns-clause-exact g c = λ few s w t.
    let taken = g.met.C.ShellCalls.lasts_told _ _ c.act.ensures.lasts t in
    let shown = g.met.C.ShellCalls.lasts_told _ _ c.take_command.ensures.lasts taken in
    let before = g.met.C.ShellCalls.lasts_told _ _ c.show.ensures.lasts shown in
    let at_ = c.in_ok-show.ensures.exact (on_fresh_line s) (c.in_ok-fresh_line.ensures.exact s w.at_ before) shown in
    let more : c.args.taken.now < c.take_command.new.taken = c.in_ok-take_command.ensures.more in
    let within : c.take_command.new.taken ≤ 4194304 = c.take_command.ensures.limit in
    let room = enough 4194304 c.args.taken.now c.args.choices.now.drawn c.args.bound (omega (arith, more, within)) in
    let u = line_taken c.args.bound c.args.choices.now.source g.C.ShellCalls.ready g.C.ShellCalls.failed g.C.ShellCalls.at g.C.ShellCalls.stands s
    c.take_command.new.line.items c.args.taken.now c.take_command.new.taken c.args.choices.now.drawn c.args.calls.now c.take_command.new.calls w
    (c.in_ok-take_command.ensures.exact (prompted c.args.bound c.args.choices.now.source s) w.taken_is at_ taken) in
    let whole : c.as_slice.result.now ≡ c.take_command.new.line.items = search rules in
    command_acts c.args.bound c.args.choices.now.source g.C.ShellCalls.ready g.C.ShellCalls.failed g.C.ShellCalls.at g.C.ShellCalls.stands s
    c.take_command.new.line.items c.take_command.new.taken c.args.choices.now.drawn c.act.new.taken c.act.new.choices.drawn c.act.result
    c.take_command.new.calls c.act.new.calls w.mode_is u
    (subst (λ l. LinesCome c.args.bound c.args.choices.now.source g.C.ShellCalls.at g.C.ShellCalls.stands
    (ActsBy c.args.bound c.args.choices.now.source l u.at_shell) c.act.result u.at_shell c.act.new.taken c.act.new.choices.drawn c.act.new.calls)
    (c.command_line-said.ensures.exact ∙ ap command_line whole)
    (c.act.ensures.exact (below _ _ _ room few) u.at_shell u.awaits t))

pub returns-clause-most : goal.returns-clause-most
returns-clause-most g c =
    let more : c.args.taken.now < c.take_command.new.taken = c.in_ok-take_command.ensures.more in
    let within : c.take_command.new.taken ≤ 4194304 = c.take_command.ensures.limit in
    within_all _ _ _ c.act.ensures.drawn (enough 4194304 c.args.taken.now c.args.choices.now.drawn c.args.bound (omega (arith, more, within)))

pub returns-clause-more : goal.returns-clause-more
returns-clause-more g c =
    let more : c.args.taken.now < c.take_command.new.taken = c.in_ok-take_command.ensures.more in
    let later : c.take_command.new.taken ≤ c.act.new.taken = c.act.ensures.later in
    if_ok c.act.result (c.args.taken.now < c.act.new.taken) (omega (arith, more, later))
