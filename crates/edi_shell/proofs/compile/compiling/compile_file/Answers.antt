-- A file is compiled, or it is shown why not.
use Rattle.std.proofs.Common.{Some, ap, subst}
use Rattle.std.specs.Prelude.{Ok}
use Rattle.std.proofs.lemmas.Result.{err_from_is_err_and}
use Rattle.edi_calls.specs.declared.kinds.FileKind.TheVariants as file_kind
use Rattle.edi_catalog.specs.declared.entry.Entry.{Entry}
use Rattle.edi_session.specs.Files.{file_in}
use Rattle.edi_shell.specs.commands.Files.{Opens}
use Rattle.edi_shell.proofs.compile.Compiles.{compile_does, compile_refusal_broke, pages_hold}
use Rattle.edi_shell.proofs.compile.compiling.compile_file.Goals as goal

pub returns-in_err-entry-clause-exact : goal.returns-in_err-entry-clause-exact
returns-in_err-entry-clause-exact g c = λ s a t.
    let p = err_from_is_err_and c.from_residual.result c.from_residual.ensures.1 in
    rw p.1
    (compile_refusal_broke g.C.ShellCalls.at g.C.ShellCalls.stands c.args.f.now c.args.g.now (file_in s c.args.f.now) s c.open.new.calls
    (c.in_err-entry.ensures.exact s a t))

pub returns-clause-exact : goal.returns-clause-exact
returns-clause-exact g c = λ s a t.
    let before = g.met.C.ShellCalls.lasts_told _ _ c.compile_pages.ensures.lasts t in
    let o = subst (λ x. Opens g.C.ShellCalls.at g.C.ShellCalls.stands (Ok x) (Some file_kind.Text) (file_in s c.args.f.now) c.args.f.now s c.open.new.calls)
    c.in-Some.is (c.in_ok-entry.ensures.exact s a before) in
    let few = pages_hold o.0.bytes c.in-Some.entry.length c.div_ceil.result c.div_ceil.ensures (ap (λ (x : Entry). x.length) o.2) in
    compile_does g.C.ShellCalls.at g.C.ShellCalls.stands c.args.f.now c.args.g.now (file_in s c.args.f.now) o.0 s c.compile_pages.result
    c.compile_pages.new.calls o.1
    (c.compile_pages.ensures.exact s o.0 o.3 t o.1.is few)
