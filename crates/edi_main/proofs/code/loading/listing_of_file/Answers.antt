-- The first bytes of the file decide what its code is.
use Rattle.std.proofs.Common.{◌∙◌, ℕ, Vec, Global}
use Rattle.edi_statuses.specs.Outside.{Outside, still_told}
use Rattle.edi_main.specs.steps.OnFiles.{files_only}
use Rattle.edi_statuses.specs.Steps.{Loads}
use Rattle.edi_main.proofs.steps.OnFilesLemmas.{first_stops}
use Rattle.edi_main.proofs.code.Listed.{file_listed}
use Rattle.edi_main.proofs.code.loading.listing_of_file.Goals as goal

pub returns-in-Ok-clause-lists : goal.returns-in-Ok-clause-lists
returns-in-Ok-clause-lists g c =
    let f = c.in-Ok.ensures.fetched in
    let o : Outside = files_only (still_told (g.F.Files.contents c.args.files.now) (g.F.Files.contents c.fetch.new.files)) in
    file_listed (λ (v : Vec ℕ Global). v.items) o c.args.file.now c.deref.result.now f.0 f.1 (c.deref.ensures.value ∙ f.2) c.listing_of_bytes.result
    c.listing_of_bytes.ensures.lists

pub returns-in-Err-clause-lists : goal.returns-in-Err-clause-lists
returns-in-Err-clause-lists g c =
    let o : Outside = files_only (still_told (g.F.Files.contents c.args.files.now) (g.F.Files.contents c.fetch.new.files)) in
    first_stops (λ (v : Vec ℕ Global). v.items) Loads o c.args.file.now 8388641 c.in-Err.status c.in-Err.ensures.fetched
