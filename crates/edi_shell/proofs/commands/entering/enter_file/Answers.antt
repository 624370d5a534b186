-- A text is stored, or it is shown why not.
use Rattle.std.proofs.Common.{◌≤◌, length, rules, refl, sym, subst, ◌∙◌}
use Rattle.std.proofs.lemmas.Result.{err_from_is_err_and}
use Rattle.edi_calls.specs.declared.kinds.FileKind.TheVariants as file_kind
use Rattle.edi_session.specs.Files.{stores}
use Rattle.edi_session.specs.Shell.{next_text}
use Rattle.edi_shell_io.specs.calls.Standing.{Leads}
use Rattle.edi_shell.proofs.commands.Entered.{all_kept, enter_stops, enter_stores, text_taken}
use Rattle.edi_shell.proofs.commands.entering.enter_file.Goals as goal

pub returns-in_err-length-clause-exact : goal.returns-in_err-length-clause-exact
returns-in_err-length-clause-exact g c = λ s e a t.
    let p = err_from_is_err_and c.from_residual.result c.from_residual.ensures.1 in
    rw (p.1, p.2)
    (enter_stops g.C.ShellCalls.at g.C.ShellCalls.stands c.args.f.now s (next_text s) _ c.take_text.new.calls refl (c.in_err-length.ensures.exact s e a t))

pub returns-then-length-gt-MOST_BYTES-clause-exact : goal.returns-then-length-gt-MOST_BYTES-clause-exact
returns-then-length-gt-MOST_BYTES-clause-exact g c = λ s e a t.
    let w = text_taken g.C.ShellCalls.at g.C.ShellCalls.stands c.in_ok-length.length c.take_text.new.taken (next_text s) c.take_text.new.room
    c.take_text.new.calls
    (c.in_ok-length.ensures.exact s e a (g.met.C.ShellCalls.lasts_told _ _ c.refuse_large.ensures.lasts t)) in
    enter_stores g.C.ShellCalls.at g.C.ShellCalls.stands c.args.f.now g.C.ShellCalls.ready g.C.ShellCalls.failed s w.after w.text c.take_text.new.taken
    c.refuse_large.result c.refuse_large.new.calls w.is w.counted c.refuse_large.ensures.left
    (c.refuse_large.ensures.exact w.after w.text (sym w.long) w.at_ t)

pub returns-clause-exact : goal.returns-clause-exact
returns-clause-exact g c = λ s e a t.
    let w = text_taken g.C.ShellCalls.at g.C.ShellCalls.stands c.in_ok-length.length c.take_text.new.taken (next_text s) c.take_text.new.room
    c.take_text.new.calls
    (c.in_ok-length.ensures.exact s e a (g.met.C.ShellCalls.lasts_told _ _ c.store_file.ensures.lasts t)) in
    let wide : c.in_ok-length.length ≤ length c.take_text.new.room = search rules in
    enter_stores g.C.ShellCalls.at g.C.ShellCalls.stands c.args.f.now g.C.ShellCalls.ready g.C.ShellCalls.failed s w.after w.text c.take_text.new.taken
    c.store_file.result c.store_file.new.calls w.is w.counted c.store_file.ensures.left
    (subst (λ b. Leads g.C.ShellCalls.at g.C.ShellCalls.stands c.store_file.result (stores c.args.f.now file_kind.Text b w.after) c.store_file.new.calls)
    (c.split_at.ensures.front ∙ all_kept c.in_ok-length.length w.text c.take_text.new.room w.long wide w.kept)
    (c.store_file.ensures.exact w.after w.at_ t))
