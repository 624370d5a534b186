use Rattle.std.proofs.Common.{◌≡◌, subst, take}
use Rattle.std.specs.Prelude.{Ok}
use Rattle.edi_edit.specs.Lines.{lines_of}
use Rattle.edi_session.specs.Files.{file_in}
use Rattle.edi_session.specs.Session.{BeginsEditing}
use Rattle.edi_shell.proofs.edit.Coming.{opened}
use Rattle.edi_shell.specs.edit.Chain.{LinesCome}
use Rattle.edi_shell.specs.edit.Rows.{OpensText}
use Rattle.edi_shell.proofs.edit.opening.edit_file.Goals as goal

pub returns-in-Some-clause-exact : goal.returns-in-Some-clause-exact
returns-in-Some-clause-exact g c = λ bound choices s count mode a t.
    let before = g.met.C.ShellCalls.lasts_told _ _ c.edit_bytes.ensures.lasts t in
    let o = subst (λ x. OpensText g.C.ShellCalls.at g.C.ShellCalls.stands (Ok x) c.args.f.now (file_in s c.args.f.now) c.open_text.new.room s
    c.open_text.new.calls) c.in-Some.is (c.in_ok-n.ensures.exact s a before) in
    let part : c.split_at.result.0.now ≡ take c.in-Some.n c.open_text.new.room = c.split_at.ensures.front in
    opened bound choices g.C.ShellCalls.at g.C.ShellCalls.stands c.args.f.now (file_in s c.args.f.now) (lines_of (take c.in-Some.n c.open_text.new.room)) s
    c.edit_bytes.new.taken c.edit_bytes.result c.edit_bytes.new.calls o.0
    (subst (λ b. LinesCome bound choices g.C.ShellCalls.at g.C.ShellCalls.stands (BeginsEditing c.args.f.now (lines_of b) s) c.edit_bytes.result s
    c.edit_bytes.new.taken s.drawn c.edit_bytes.new.calls) part (c.edit_bytes.ensures.exact bound choices s count mode o.1 t))
