use Rattle.std.proofs.Common.{subst, ◌∙◌}
use Rattle.edi_edit.specs.Undoing.{EndsBy}
use Rattle.edi_shell.proofs.edit.Rows.{change_made, change_said}
use Rattle.edi_shell.proofs.edit.changes.answer_change.Goals as goal

pub returns-in-Ok-clause-exact : goal.returns-in-Ok-clause-exact
returns-in-Ok-clause-exact g c = λ s title cause before after now e a t.
    change_made g.C.ShellCalls.at g.C.ShellCalls.stands cause before after now c.args.n title s c.args.calls.now
    (subst (λ r. EndsBy r cause after before now) c.in-Ok.is e) a

pub returns-in-Err-clause-exact : goal.returns-in-Err-clause-exact
returns-in-Err-clause-exact g c = λ s title cause before after now e a t.
    change_said g.C.ShellCalls.ready g.C.ShellCalls.failed g.C.ShellCalls.at g.C.ShellCalls.stands c.in-Err.why cause before after now c.args.n title
    c.as_slice.result.now s c.say_on.result c.say_on.new.calls (subst (λ r. EndsBy r cause after before now) c.in-Err.is e)
    (c.as_slice.ensures.value ∙ c.edit_refusal.ensures.exact) c.say_on.ensures.left (c.say_on.ensures.exact s a t)
