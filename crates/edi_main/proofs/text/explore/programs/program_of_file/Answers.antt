-- The first bytes of the file decide what its program is.
use Rattle.std.proofs.Common.{◌∙◌}
use Rattle.edi_statuses.specs.Outside.{still_told}
use Rattle.edi_main.specs.steps.OnFiles.{files_only}
use Rattle.edi_main.proofs.text.ExploreSteps.{file_program}
use Rattle.edi_main.proofs.text.explore.programs.program_of_file.Goals as goal

pub returns-in-Ok-clause-gives : goal.returns-in-Ok-clause-gives
returns-in-Ok-clause-gives g c =
    let f = c.in-Ok.ensures.fetched in
    file_program (files_only (still_told (g.F.Files.contents c.args.files.now) (g.F.Files.contents c.fetch.new.files))) c.args.file.now c.deref.result.now
    f.0 c.program_of_text.result f.1 (c.deref.ensures.value ∙ f.2) c.program_of_text.ensures.reads
