-- What each command comes to.
use Rattle.std.proofs.Common.{subst}
use Rattle.edi_session.specs.declared.line.Line.TheVariants as line
use Rattle.edi_session.specs.Files.{file_in}
use Rattle.edi_session.specs.Session.{ActsBy, CompilesFile, ExecutesFile}
use Rattle.edi_shell.specs.commands.Rows.{EntersFile, LineDoes, LineDoesOrEnds}
use Rattle.edi_shell.specs.edit.Chain.{LinesCome}
use Rattle.edi_shell.proofs.sessions.Commands.{does_comes, done_comes, ends_comes, halts}
use Rattle.edi_shell.proofs.sessions.acting.act.Goals as goal

pub returns-in_default-clause-exact : goal.returns-in_default-clause-exact
returns-in_default-clause-exact g c = λ few s w t.
    done_comes c.args.bound c.args.choices.now.source g.C.ShellCalls.ready g.C.ShellCalls.failed g.C.ShellCalls.at g.C.ShellCalls.stands
    c.args.line c.act_at_once.result s c.args.taken.now c.args.choices.now.drawn c.args.calls.now c.act_at_once.new.calls c.in_default.not-Enter
    c.in_default.not-Compile c.in_default.not-Edit c.in_default.not-Halt c.in_default.not-Execute w c.act_at_once.ensures.left
    (c.act_at_once.ensures.exact s w.at_ t)

pub returns-in-Enter-clause-exact : goal.returns-in-Enter-clause-exact
returns-in-Enter-clause-exact g c = λ few s w t.
    let f = c.in-Enter.f in
    rw c.in-Enter.is
    (ends_comes c.args.bound c.args.choices.now.source g.C.ShellCalls.ready g.C.ShellCalls.failed g.C.ShellCalls.at g.C.ShellCalls.stands
    (ActsBy c.args.bound c.args.choices.now.source (line.Enter f)) c.enter_file.result s c.args.taken.now c.args.choices.now.drawn c.enter_file.new.taken
    c.args.choices.now.drawn c.args.calls.now c.enter_file.new.calls w
    (subst (λ d. LineDoesOrEnds g.C.ShellCalls.at g.C.ShellCalls.stands (EntersFile f) c.enter_file.result c.enter_file.new.taken d s c.enter_file.new.calls)
    w.drawn_is (c.enter_file.ensures.exact s w.taken_is w.at_ t)))

pub returns-in-Compile-clause-exact : goal.returns-in-Compile-clause-exact
returns-in-Compile-clause-exact g c = λ few s w t.
    let f = c.in-Compile.f in
    let h = c.in-Compile.g in
    rw c.in-Compile.is
    (does_comes c.args.bound c.args.choices.now.source g.C.ShellCalls.ready g.C.ShellCalls.failed g.C.ShellCalls.at g.C.ShellCalls.stands
    (CompilesFile f h (file_in s f)) c.compile_file.result s c.args.taken.now c.args.choices.now.drawn c.args.choices.now.drawn c.args.calls.now
    c.compile_file.new.calls w c.compile_file.ensures.left
    (subst (λ d. LineDoes g.C.ShellCalls.at g.C.ShellCalls.stands (CompilesFile f h (file_in s f)) c.compile_file.result d s c.compile_file.new.calls)
    w.drawn_is (c.compile_file.ensures.exact s w.at_ t)))

pub returns-in-Edit-clause-exact : goal.returns-in-Edit-clause-exact
returns-in-Edit-clause-exact g c = λ few s w t.
    let f = c.in-Edit.f in
    rw c.in-Edit.is
    (subst (λ d. LinesCome c.args.bound c.args.choices.now.source g.C.ShellCalls.at g.C.ShellCalls.stands
    (ActsBy c.args.bound c.args.choices.now.source (line.Edit f) s) c.edit_file.result s c.edit_file.new.taken d c.edit_file.new.calls)
    w.drawn_is (c.edit_file.ensures.exact c.args.bound c.args.choices.now.source s w.taken_is w.mode_is w.at_ t))

pub returns-in-Halt-clause-exact : goal.returns-in-Halt-clause-exact
returns-in-Halt-clause-exact g c = λ few s w t.
    rw c.in-Halt.is
    (halts c.args.bound c.args.choices.now.source g.C.ShellCalls.ready g.C.ShellCalls.failed g.C.ShellCalls.at g.C.ShellCalls.stands s c.args.taken.now
    c.args.choices.now.drawn c.args.taken.now c.args.calls.now w)

pub returns-in-Execute-clause-exact : goal.returns-in-Execute-clause-exact
returns-in-Execute-clause-exact g c = λ few s w t.
    let f = c.in-Execute.f in
    rw c.in-Execute.is
    (does_comes c.args.bound c.args.choices.now.source g.C.ShellCalls.ready g.C.ShellCalls.failed g.C.ShellCalls.at g.C.ShellCalls.stands
    (ExecutesFile c.args.bound c.args.choices.now.source f (file_in s f)) c.execute_file.result s c.args.taken.now c.args.choices.now.drawn
    c.execute_file.new.choices.drawn c.args.calls.now c.execute_file.new.calls w c.execute_file.ensures.left
    (c.execute_file.ensures.exact few s w.drawn_is w.at_ t))
