-- Code is executed, and the line of its ending shown.
use Rattle.std.proofs.Common.{◌∙◌}
use Rattle.std.proofs.lemmas.Result.{err_from_is_err_and}
use Rattle.edi_session.specs.Shell.{on_fresh_line}
use Rattle.edi_session.specs.Texts.{ending_line}
use Rattle.edi_shell.proofs.commands.Running.{feed_some, fresh_broke, run_broke, run_says, same_line}
use Rattle.edi_shell.proofs.commands.executing.run_code.Goals as goal

pub returns-in_err-ending-clause-exact : goal.returns-in_err-ending-clause-exact
returns-in_err-ending-clause-exact g c = λ few s e a t.
    let p = err_from_is_err_and c.from_residual.result c.from_residual.ensures.1 in
    rw p.1
    (run_broke g.C.ShellCalls.at g.C.ShellCalls.stands c.args.f.now c.args.code.now c.args.bound c.args.choices.now.source s c.execute.new.self
    (c.in_err-ending.ensures.exact few s e a t))

pub returns-in_err-fresh_line-in-Some-clause-exact : goal.returns-in_err-fresh_line-in-Some-clause-exact
returns-in_err-fresh_line-in-Some-clause-exact g c = λ few s e a t.
    let r = c.in_ok-ending.ensures.exact few s e a (g.met.C.ShellCalls.lasts_told _ _ c.fresh_line.ensures.lasts t) in
    let l = feed_some c.in-Some.line.items (ending_line c.args.f.now r.ending_)
    (c.in-Some.ensures.exact ∙ same_line c.args.f.now r.ending_ c.in_ok-ending.ending r.same) in
    let p = err_from_is_err_and c.from_residual-in_err-fresh_line-in-Some.result c.from_residual-in_err-fresh_line-in-Some.ensures.1 in
    rw p.1
    (fresh_broke g.C.ShellCalls.at g.C.ShellCalls.stands c.args.f.now c.args.code.now c.args.bound c.args.choices.now.source c.in_ok-ending.ending
    c.execute.new.choices.drawn s c.execute.new.self
    c.fresh_line.new.self r l.0 l.1 (c.in_err-fresh_line-in-Some.ensures.exact r.after r.at_ t))

pub returns-in_ok-fresh_line-in-Some-clause-exact : goal.returns-in_ok-fresh_line-in-Some-clause-exact
returns-in_ok-fresh_line-in-Some-clause-exact g c = λ few s e a t.
    let shown = g.met.C.ShellCalls.lasts_told _ _ c.say.ensures.lasts t in
    let r = c.in_ok-ending.ensures.exact few s e a (g.met.C.ShellCalls.lasts_told _ _ c.fresh_line.ensures.lasts shown) in
    let l = feed_some c.in-Some.line.items (ending_line c.args.f.now r.ending_)
    (c.in-Some.ensures.exact ∙ same_line c.args.f.now r.ending_ c.in_ok-ending.ending r.same) in
    run_says g.C.ShellCalls.at g.C.ShellCalls.stands c.args.f.now c.args.code.now c.args.bound c.args.choices.now.source c.in_ok-ending.ending
    c.execute.new.choices.drawn s c.execute.new.self
    c.say.new.calls r l.0 c.in-Some.line.items c.say.result l.1 l.2
    (c.say.ensures.exact (on_fresh_line r.after) (c.in_ok-fresh_line-in-Some.ensures.exact r.after r.at_ shown) t)
