use Rattle.std.proofs.Common.{◌++◌, ◌∷◌, [], ap, refl, ◌∙◌}
use Rattle.edi_edit.specs.declared.EditEnd.TheVariants as edit_end
use Rattle.edi_session.specs.Session.{EditsBy, edit_refusal, edits_on, looked_at}
use Rattle.edi_session.specs.declared.line.EditLine.TheVariants as edit
use Rattle.edi_shell.proofs.edit.Rows.{said}
use Rattle.edi_shell.proofs.edit.looking.look_at_line.Goals as goal

pub returns-in-Some-clause-exact : goal.returns-in-Some-clause-exact
returns-in-Some-clause-exact g c = λ s title a t.
    said g.C.ShellCalls.ready g.C.ShellCalls.failed g.C.ShellCalls.at g.C.ShellCalls.stands (EditsBy (edit.Look c.args.n) title c.args.text.now s) title
    c.args.text.now c.in-Some.line.now (c.in-Some.line.now ++ 10 ∷ []) s c.show_line.result c.show_line.new.calls
    (ap (λ o. edits_on title c.args.text.now (looked_at c.args.n o s)) c.in-Some.ensures.exact) refl c.show_line.ensures.left (c.show_line.ensures.exact s a t)

pub returns-in-None-clause-exact : goal.returns-in-None-clause-exact
returns-in-None-clause-exact g c = λ s title a t.
    said g.C.ShellCalls.ready g.C.ShellCalls.failed g.C.ShellCalls.at g.C.ShellCalls.stands (EditsBy (edit.Look c.args.n) title c.args.text.now s) title
    c.args.text.now (edit_refusal c.args.n edit_end.NoLine) c.as_slice.result.now s c.say_on.result c.say_on.new.calls
    (ap (λ o. edits_on title c.args.text.now (looked_at c.args.n o s)) c.in-None.ensures.exact)
    (c.as_slice.ensures.value ∙ c.with_number.ensures.exact) c.say_on.ensures.left (c.say_on.ensures.exact s a t)
