use Rattle.std.proofs.Common.{◌∙◌}
use Rattle.std.proofs.lemmas.Result.{err_from_is_err_and}
use Rattle.edi_session.specs.Files.{file_in}
use Rattle.edi_shell.proofs.edit.Coming.{opens_broke, opens_code, opens_none, opens_text}
use Rattle.edi_shell.proofs.edit.opening.open_text.Goals as goal

pub returns-in_err-show-in-Code-clause-exact : goal.returns-in_err-show-in-Code-clause-exact
returns-in_err-show-in-Code-clause-exact g c = λ s a t.
    let before = g.met.C.ShellCalls.lasts_told _ _ c.show.ensures.lasts t in
    let p = err_from_is_err_and c.from_residual.result c.from_residual.ensures.1 in
    rw p.1
    (opens_broke g.C.ShellCalls.at g.C.ShellCalls.stands c.args.f.now (file_in s c.args.f.now) c.in-Some.entry c.as_slice.result.now s c.show.new.self
    (c.in-Some.ensures.exact s a before) c.in-Code.is (c.as_slice.ensures.value ∙ c.about.ensures.exact) (c.in_err-show-in-Code.ensures.exact s a t))

pub returns-in_ok-show-in-Code-clause-exact : goal.returns-in_ok-show-in-Code-clause-exact
returns-in_ok-show-in-Code-clause-exact g c = λ s a t.
    let before = g.met.C.ShellCalls.lasts_told _ _ c.show.ensures.lasts t in
    opens_code g.C.ShellCalls.at g.C.ShellCalls.stands c.args.f.now (file_in s c.args.f.now) c.in-Some.entry c.args.room.now c.as_slice.result.now s
    c.show.new.self (c.in-Some.ensures.exact s a before) c.in-Code.is (c.as_slice.ensures.value ∙ c.about.ensures.exact)
    (c.in_ok-show-in-Code.ensures.exact s a t)

pub returns-in-Text-clause-exact : goal.returns-in-Text-clause-exact
returns-in-Text-clause-exact g c = λ s a t.
    let before = g.met.C.ShellCalls.lasts_told _ _ c.read_into.ensures.lasts t in
    opens_text g.C.ShellCalls.at g.C.ShellCalls.stands c.args.f.now (file_in s c.args.f.now) c.in-Some.entry c.read_into.new.into s c.read_into.result
    c.read_into.new.self (c.in-Some.ensures.exact s a before) c.in-Text.is (c.read_into.ensures.exact s a t)

pub returns-in_default-clause-exact : goal.returns-in_default-clause-exact
returns-in_default-clause-exact g c = λ s a t.
    opens_none g.C.ShellCalls.at g.C.ShellCalls.stands c.args.f.now (file_in s c.args.f.now) c.args.room.now s c.args.calls.now
    (c.in_default.ensures.exact s a t) a
