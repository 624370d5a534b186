-- The first bytes of the file decide what its text is.
use Rattle.std.proofs.Common.{◌∙◌, ℕ, List, Vec, Global}
use Rattle.edi_unit.specs.Tree.{ProgramUnit}
use Rattle.edi_statuses.specs.Outside.{Outside, still_told}
use Rattle.edi_main.specs.steps.OnFiles.{files_only}
use Rattle.edi_statuses.specs.Steps.{◌>>=◌, Ready, Accepts}
use Rattle.edi_main.proofs.steps.OnFilesLemmas.{first_stops}
use Rattle.edi_main.proofs.text.Coded.{file_coded}
use Rattle.edi_main.proofs.text.coding.code_file.Goals as goal

pub returns-in-Ok-clause-codes : goal.returns-in-Ok-clause-codes
returns-in-Ok-clause-codes g c =
    let f = c.in-Ok.ensures.fetched in
    let o : Outside = files_only (still_told (g.F.Files.contents c.args.files.now) (g.F.Files.contents c.fetch.new.files)) in
    file_coded (λ (v : Vec ℕ Global). v.items) o c.args.file.now c.deref.result.now f.0 c.code_text.result f.1 (c.deref.ensures.value ∙ f.2)
    c.code_text.ensures.codes

pub returns-in-Err-clause-codes : goal.returns-in-Err-clause-codes
returns-in-Err-clause-codes g c =
    let o : Outside = files_only (still_told (g.F.Files.contents c.args.files.now) (g.F.Files.contents c.fetch.new.files)) in
    first_stops {A = List ℕ × ProgramUnit} (λ (v : Vec ℕ Global). v.items) (λ bytes. Accepts bytes >>= λ unit. Ready (bytes, unit)) o c.args.file.now 262145
    c.in-Err.status c.in-Err.ensures.fetched
