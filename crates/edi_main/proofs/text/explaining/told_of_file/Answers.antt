-- The first bytes of the file decide what is shown of its text.
use Rattle.std.proofs.Common.{◌∙◌, ℕ, Vec, Global}
use Rattle.edi_statuses.specs.Outside.{Outside, still_told}
use Rattle.edi_main.specs.declared.text.explaining.Told.{Told}
use Rattle.edi_main.specs.steps.OnFiles.{files_only}
use Rattle.edi_main.proofs.steps.OnFilesLemmas.{fetch_stopped}
use Rattle.edi_main.proofs.text.Explained.{file_explained}
use Rattle.edi_main.proofs.text.explaining.told_of_file.Goals as goal

pub returns-in-Ok-clause-explains : goal.returns-in-Ok-clause-explains
returns-in-Ok-clause-explains g c =
    let f = c.in-Ok.ensures.fetched in
    let o : Outside = files_only (still_told (g.F.Files.contents c.args.files.now) (g.F.Files.contents c.fetch.new.files)) in
    file_explained (λ (v : Told). v.status) (λ (v : Told). v.bytes.items) o c.args.file.now c.deref.result.now f.0 c.told_of_text.result f.1
    (c.deref.ensures.value ∙ f.2) c.told_of_text.ensures.explains

pub returns-in-Err-clause-explains : goal.returns-in-Err-clause-explains
returns-in-Err-clause-explains g c =
    let o : Outside = files_only (still_told (g.F.Files.contents c.args.files.now) (g.F.Files.contents c.fetch.new.files)) in
    fetch_stopped (λ (v : Vec ℕ Global). v.items) o c.args.file.now 262145 c.in-Err.status c.in-Err.ensures.fetched
