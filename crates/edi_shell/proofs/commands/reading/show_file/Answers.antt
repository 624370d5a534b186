-- The bytes of a text are shown.
use Rattle.std.proofs.Common.{◌≡◌, take, subst, Some}
use Rattle.std.specs.Prelude.{Ok}
use Rattle.std.proofs.lemmas.Result.{err_from_is_err_and}
use Rattle.edi_calls.specs.declared.kinds.FileKind.TheVariants as file_kind
use Rattle.edi_session.specs.Files.{file_in}
use Rattle.edi_session.specs.Shell.{on_fresh_line, shown_by}
use Rattle.edi_session.proofs.Later.{fresh_on, shown_on}
use Rattle.edi_shell.specs.commands.Files.{Reads}
use Rattle.edi_shell.proofs.commands.Opening.{text_breaks, text_leads, text_reading_broke}
use Rattle.edi_shell.proofs.commands.reading.show_file.Goals as goal

pub returns-in_err-n-clause-exact : goal.returns-in_err-n-clause-exact
returns-in_err-n-clause-exact g c = λ s a t.
    let p = err_from_is_err_and c.from_residual.result c.from_residual.ensures.1 in
    rw p.1
    (text_reading_broke g.C.ShellCalls.at g.C.ShellCalls.stands c.args.f.now c.read_file.new.room (λ bytes s. on_fresh_line (shown_by bytes s))
    (file_in s c.args.f.now) s c.read_file.new.calls
    c.in_err-n.field-0.0 (λ bytes o m h. fresh_on (shown_by bytes s) o m (shown_on bytes s o m h)) (c.in_err-n.ensures.exact s a t))

pub returns-in_err-show-clause-exact : goal.returns-in_err-show-clause-exact
returns-in_err-show-clause-exact g c = λ s a t.
    let before = g.met.C.ShellCalls.lasts_told _ _ c.show.ensures.lasts t in
    let r = subst (λ x. Reads g.C.ShellCalls.at g.C.ShellCalls.stands (Ok x) (Some file_kind.Text) (file_in s c.args.f.now) c.args.f.now c.read_file.new.room
    s c.read_file.new.calls)
    c.in-Some.is (c.in_ok-n.ensures.exact s a before) in
    let part : c.split_at.result.0.now ≡ take c.in-Some.n c.read_file.new.room = c.split_at.ensures.front in
    let p = err_from_is_err_and c.from_residual-in_err-show.result c.from_residual-in_err-show.ensures.1 in
    rw p.1
    (text_breaks g.C.ShellCalls.at g.C.ShellCalls.stands c.args.f.now c.read_file.new.room c.split_at.result.0.now
    (λ bytes s. on_fresh_line (shown_by bytes s)) (file_in s c.args.f.now)
    (c.in-Some.field-0-0, c.in-Some.n) s (shown_by c.split_at.result.0.now s) c.read_file.new.calls c.show.new.self part r
    (fresh_on (shown_by c.split_at.result.0.now s)) (c.in_err-show.ensures.exact s r.4 t))

pub returns-clause-exact : goal.returns-clause-exact
returns-clause-exact g c = λ s a t.
    let shown = g.met.C.ShellCalls.lasts_told _ _ c.fresh_line.ensures.lasts t in
    let before = g.met.C.ShellCalls.lasts_told _ _ c.show.ensures.lasts shown in
    let r = subst (λ x. Reads g.C.ShellCalls.at g.C.ShellCalls.stands (Ok x) (Some file_kind.Text) (file_in s c.args.f.now) c.args.f.now c.read_file.new.room
    s c.read_file.new.calls)
    c.in-Some.is (c.in_ok-n.ensures.exact s a before) in
    let part : c.split_at.result.0.now ≡ take c.in-Some.n c.read_file.new.room = c.split_at.ensures.front in
    text_leads g.C.ShellCalls.at g.C.ShellCalls.stands c.args.f.now c.read_file.new.room c.split_at.result.0.now (λ bytes s. on_fresh_line (shown_by bytes s))
    (file_in s c.args.f.now)
    (c.in-Some.field-0-0, c.in-Some.n) s c.read_file.new.calls c.fresh_line.new.self c.fresh_line.result part r
    (c.fresh_line.ensures.exact (shown_by c.split_at.result.0.now s) (c.in_ok-show.ensures.exact s r.4 shown) t)
