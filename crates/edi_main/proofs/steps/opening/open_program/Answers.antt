-- The exits of the first two steps of a command.
use Rattle.std.proofs.Common.{ℕ, Vec, Global}
use Rattle.edi_words.specs.View.{choices_from}
use Rattle.edi_statuses.specs.Outside.{still_told}
use Rattle.edi_main.specs.steps.OnFiles.{files_only}
use Rattle.edi_main.proofs.steps.Opens.{not_fetched, not_read, opened}
use Rattle.edi_main.proofs.steps.opening.open_program.Goals as goal

pub returns-in-Err-clause-opened : goal.returns-in-Err-clause-opened
returns-in-Err-clause-opened g c =
    not_fetched (λ (v : Vec ℕ Global). v.items) (files_only (still_told (g.F.Files.contents c.args.files.now) (g.F.Files.contents c.fetch.new.files)))
    c.args.name.now c.args.limit (choices_from c.args.from) c.in-Err.status c.in-Err.ensures.fetched

pub returns-in-Err-read_from-clause-opened : goal.returns-in-Err-read_from-clause-opened
returns-in-Err-read_from-clause-opened g c =
    let f = c.in-Ok.ensures.fetched in
    not_read (g.F.Files.contents c.args.files.now) (g.F.Files.contents c.fetch.new.files) (g.F.Files.contents c.read_from.new.files)
    c.in-Ok.ensures.only.unchanged c.in-Err-read_from.ensures.only.unchanged c.args.name.now c.args.limit (choices_from c.args.from) f.0 f.1
    c.in-Err-read_from.status c.in-Err-read_from.ensures.reads

pub returns-clause-opened : goal.returns-clause-opened
returns-clause-opened g c =
    opened (g.F.Files.contents c.args.files.now) (g.F.Files.contents c.fetch.new.files) (g.F.Files.contents c.read_from.new.files)
    c.in-Ok.ensures.only.unchanged c.in-Ok-read_from.ensures.only.unchanged c.args.name.now c.args.limit (choices_from c.args.from)
    (record { bytes = c.in-Ok.bytes; choices = c.in-Ok-read_from.choices }) c.in-Ok.ensures.fetched c.in-Ok-read_from.ensures.reads
