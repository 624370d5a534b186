-- A file is executed, or refused.
use Rattle.std.proofs.Common.{subst, Some}
use Rattle.std.specs.Prelude.{Ok}
use Rattle.std.proofs.lemmas.Result.{err_from_is_err_and}
use Rattle.edi_calls.specs.declared.kinds.FileKind.TheVariants as file_kind
use Rattle.edi_session.specs.Files.{file_in}
use Rattle.edi_shell.specs.commands.Files.{Reads}
use Rattle.edi_shell.proofs.commands.Running.{execute_does, execute_reading_broke}
use Rattle.edi_shell.proofs.commands.executing.execute_file.Goals as goal

pub returns-in_err-n-clause-exact : goal.returns-in_err-n-clause-exact
returns-in_err-n-clause-exact g c = λ few s e a t.
    let p = err_from_is_err_and c.from_residual.result c.from_residual.ensures.1 in
    rw p.1
    (execute_reading_broke g.C.ShellCalls.at g.C.ShellCalls.stands c.args.f.now c.args.bound c.args.choices.now.source c.read_file.new.room
    (file_in s c.args.f.now) s c.read_file.new.calls
    c.in_err-n.field-0.0 (c.in_err-n.ensures.exact s a t))

pub returns-clause-exact : goal.returns-clause-exact
returns-clause-exact g c = λ few s e a t.
    let before = g.met.C.ShellCalls.lasts_told _ _ c.execute_bytes.ensures.lasts t in
    let r = subst (λ x. Reads g.C.ShellCalls.at g.C.ShellCalls.stands (Ok x) (Some file_kind.Code) (file_in s c.args.f.now) c.args.f.now c.read_file.new.room
    s c.read_file.new.calls)
    c.in-Some.is (c.in_ok-n.ensures.exact s a before) in
    execute_does g.C.ShellCalls.at g.C.ShellCalls.stands c.args.f.now c.args.bound c.args.choices.now.source c.read_file.new.room c.split_at.result.0.now
    (file_in s c.args.f.now) c.in-Some.field-0-0 c.in-Some.n c.execute_bytes.new.choices.drawn s c.read_file.new.calls c.execute_bytes.new.calls
    c.execute_bytes.result c.split_at.ensures.front r (c.execute_bytes.ensures.exact few s e r.4 t)
