use Rattle.std.proofs.Common.{ap, subst, ◌∙◌}
use Rattle.std.proofs.lemmas.Result.{err_from_is_err_and}
use Rattle.edi_session.specs.Session.{EditsBy}
use Rattle.edi_session.specs.Words.{edit_line}
use Rattle.edi_shell.proofs.edit.Taken.{next_edits, next_stops}
use Rattle.edi_shell.specs.edit.Rows.{Edits}
use Rattle.edi_shell.proofs.edit.editing.edit_next.Goals as goal

pub returns-in_err-take_line-clause-exact : goal.returns-in_err-take_line-clause-exact
returns-in_err-take_line-clause-exact g c = λ bound choices s count mode a t.
    let p = err_from_is_err_and c.from_residual.result c.from_residual.ensures.1 in
    rw (p.1, p.2)
    (next_stops g.C.ShellCalls.at g.C.ShellCalls.stands bound choices c.args.f.now c.args.text.now _ s c.take_line.new.calls mode
    (c.in_err-take_line.ensures.exact s count a t))

pub returns-clause-exact : goal.returns-clause-exact
returns-clause-exact g c = λ bound choices s count mode a t.
    let before = g.met.C.ShellCalls.lasts_told _ _ c.edit_by.ensures.lasts t in
    next_edits g.C.ShellCalls.at g.C.ShellCalls.stands bound choices c.args.f.now c.args.text.now c.edit_by.new.text c.take_line.new.line.items
    c.take_line.new.taken c.edit_by.new.taken c.edit_by.result s c.take_line.new.calls c.edit_by.new.calls mode
    (c.in_ok-take_line.ensures.exact s count a before)
    (λ u taken there. subst
    (λ k. Edits g.C.ShellCalls.at g.C.ShellCalls.stands c.edit_by.result (EditsBy k c.args.f.now c.args.text.now u) u c.edit_by.new.taken c.args.f.now
    c.edit_by.new.text c.edit_by.new.calls)
    (c.edit_line-command.ensures.exact ∙ ap edit_line c.as_slice.ensures.value) (c.edit_by.ensures.exact u taken there t))
