-- A file is stored under another title.
use Rattle.std.proofs.Common.{length}
use Rattle.std.proofs.lemmas.Result.{err_from_is_err_and}
use Rattle.edi_calls.specs.State.{free}
use Rattle.edi_catalog.specs.Refusing.{no_room}
use Rattle.edi_catalog.specs.SlotsStored.{slots_stored}
use Rattle.edi_session.specs.Files.{copies_to, file_in}
use Rattle.edi_session.specs.Shell.{state_in}
use Rattle.edi_session.proofs.Later.{answered_on}
use Rattle.edi_shell.proofs.commands.Opening.{any_reading_broke}
use Rattle.edi_shell.proofs.commands.reading.copy_file.Goals as goal

pub returns-in_err-kind-clause-exact : goal.returns-in_err-kind-clause-exact
returns-in_err-kind-clause-exact g c = λ s a t.
    let p = err_from_is_err_and c.from_residual.result c.from_residual.ensures.1 in
    let to = c.args.g.now in
    rw p.1
    (any_reading_broke g.C.ShellCalls.at g.C.ShellCalls.stands c.args.f.now c.read_file.new.room (copies_to to) (file_in s c.args.f.now) s c.read_file.new.calls
    c.in_err-kind.field-0.0
    (λ file. answered_on (no_room to (length file.bytes) (free (state_in s)) (state_in s).slots) to to
    (slots_stored to file.kind file.bytes (state_in s).slots) s)
    (c.in_err-kind.ensures.exact s a t))
