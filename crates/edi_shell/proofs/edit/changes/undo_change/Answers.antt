use Rattle.edi_shell.proofs.edit.Rows.{undo_made, undo_none, undo_wants}
use Rattle.edi_shell.proofs.edit.changes.undo_change.Goals as goal

pub returns-in-Ok-true-clause-exact : goal.returns-in-Ok-true-clause-exact
returns-in-Ok-true-clause-exact g c = λ s title a t.
    let made = rw c.in-Ok-true.field-0-test at c.in-Ok-true.ensures.done in
    undo_made g.C.ShellCalls.at g.C.ShellCalls.stands c.args.text.now c.undo.new.self title s _ made a

pub returns-in-Ok-false-clause-exact : goal.returns-in-Ok-false-clause-exact
returns-in-Ok-false-clause-exact g c = λ s title a t.
    let none = rw c.in-Ok-false.field-0-test at c.in-Ok-false.ensures.done in
    undo_none g.C.ShellCalls.ready g.C.ShellCalls.failed g.C.ShellCalls.at g.C.ShellCalls.stands c.args.text.now c.undo.new.self title s c.say_on.result
    c.say_on.new.calls none.0 none.1 c.say_on.ensures.left (c.say_on.ensures.exact s a t)

pub returns-in-Err-clause-exact : goal.returns-in-Err-clause-exact
returns-in-Err-clause-exact g c = λ s title a t.
    undo_wants g.C.ShellCalls.ready g.C.ShellCalls.failed g.C.ShellCalls.at g.C.ShellCalls.stands c.args.text.now c.undo.new.self title s
    c.say_on-in-Err.result c.say_on-in-Err.new.calls c.in-Err.ensures.refused.0 c.in-Err.ensures.refused.1 c.say_on-in-Err.ensures.left
    (c.say_on-in-Err.ensures.exact s a t)
