-- The bytes of a text are printed.
use Rattle.std.proofs.lemmas.Result.{err_from_is_err_and}
use Rattle.edi_session.specs.Files.{file_in}
use Rattle.edi_session.specs.Shell.{printed_by}
use Rattle.edi_session.proofs.Later.{printed_on}
use Rattle.edi_shell.proofs.commands.Opening.{text_reading_broke}
use Rattle.edi_shell.proofs.commands.reading.print_file.Goals as goal

pub returns-in_err-n-clause-exact : goal.returns-in_err-n-clause-exact
returns-in_err-n-clause-exact g c = λ s a t.
    let p = err_from_is_err_and c.from_residual.result c.from_residual.ensures.1 in
    rw p.1
    (text_reading_broke g.C.ShellCalls.at g.C.ShellCalls.stands c.args.f.now c.read_file.new.room printed_by (file_in s c.args.f.now) s c.read_file.new.calls
    c.in_err-n.field-0.0 (λ bytes. printed_on bytes s) (c.in_err-n.ensures.exact s a t))
