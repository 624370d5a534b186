use Rattle.std.proofs.Common.{◌+◌, length}
use Rattle.std.specs.Prelude.{◌-◌, insert, slice_set}
use Rattle.std.proofs.lemmas.Result.{err_from_is_err_and}
use Rattle.edi_edit.specs.Editing.{is_index}
use Rattle.edi_shell.proofs.edit.Taken.{line_changes, put_stops}
use Rattle.edi_shell.proofs.edit.changes.put_line.Goals as goal

pub returns-in_err-take_line-clause-exact : goal.returns-in_err-take_line-clause-exact
returns-in_err-take_line-clause-exact g c = λ s title count a t.
    let p = err_from_is_err_and c.from_residual.result c.from_residual.ensures.1 in
    rw (p.1, p.2)
    (put_stops g.C.ShellCalls.at g.C.ShellCalls.stands c.args.replacing c.args.n title c.args.text.now _ s c.take_line.new.calls
    (c.in_err-take_line.ensures.exact s count a t))

pub returns-then-replacing-clause-exact : goal.returns-then-replacing-clause-exact
returns-then-replacing-clause-exact g c = λ s title count a t.
    let before = g.met.C.ShellCalls.lasts_told _ _ c.answer_change.ensures.lasts t in
    let text = c.args.text.now in
    rw c.if-replacing.true
    (line_changes g.C.ShellCalls.at g.C.ShellCalls.stands (is_index c.args.n (length text.lines)) (slice_set text.lines (c.args.n - 1))
    c.replace-replaced.result c.args.n title c.as_slice.result.now c.take_line.new.line.items text c.replace-replaced.new.self c.take_line.new.taken
    c.answer_change.result s c.take_line.new.calls c.answer_change.new.calls c.as_slice.ensures.value c.replace-replaced.ensures.exact
    (c.in_ok-take_line.ensures.exact s count a before)
    (λ u cause after e there. c.answer_change.ensures.exact u title cause text after c.replace-replaced.new.self e there t))

pub returns-clause-exact : goal.returns-clause-exact
returns-clause-exact g c = λ s title count a t.
    let before = g.met.C.ShellCalls.lasts_told _ _ c.answer_change-2.ensures.lasts t in
    let text = c.args.text.now in
    rw c.if-replacing.false
    (line_changes g.C.ShellCalls.at g.C.ShellCalls.stands (is_index c.args.n (length text.lines + 1)) (insert text.lines (c.args.n - 1))
    c.insert-inserted.result c.args.n title c.as_slice-2.result.now c.take_line.new.line.items text c.insert-inserted.new.self c.take_line.new.taken
    c.answer_change-2.result s c.take_line.new.calls c.answer_change-2.new.calls c.as_slice-2.ensures.value c.insert-inserted.ensures.exact
    (c.in_ok-take_line.ensures.exact s count a before)
    (λ u cause after e there. c.answer_change-2.ensures.exact u title cause text after c.insert-inserted.new.self e there t))
