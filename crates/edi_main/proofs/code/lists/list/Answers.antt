-- The exits of `list`.
use Rattle.std.proofs.Common.{ℕ, Vec, Global}
use Rattle.edi_words.specs.Words.{list}
use Rattle.edi_statuses.specs.Outside.{still_told}
use Rattle.edi_statuses.specs.Commands.{ListSteps}
use Rattle.edi_main.specs.steps.OnFiles.{files_only}
use Rattle.edi_main.specs.code.CodeCommands.{IsListing}
use Rattle.edi_main.proofs.code.Shown.{list_shows}
use Rattle.edi_main.proofs.steps.Shown.{made_came, made_cause}
use Rattle.edi_main.proofs.code.lists.list.Goals as goal

pub returns-clause-came : goal.returns-clause-came
returns-clause-came g c =
    let file = c.args.file.now in
    made_came (list file) file (λ o. ListSteps o file) IsListing (list_shows file) (λ (v : Vec ℕ Global). v.items) _ _ _ _ c.show_made.result _ _
    c.listing_of_file-made.result c.listing_of_file-made.ensures.only.unchanged c.listing_of_file-made.ensures.lists c.show_made.ensures.shows

pub returns-clause-cause : goal.returns-clause-cause
returns-clause-cause g c =
    let file = c.args.file.now in
    made_cause (list file) file (λ o. ListSteps o file) IsListing (list_shows file) (λ (v : Vec ℕ Global). v.items) _ _ _ _ c.show_made.result
    (files_only (still_told (g.F.Files.contents c.args.files.now) (g.F.Files.contents c.listing_of_file-made.new.files))) _ _ c.listing_of_file-made.result
    c.listing_of_file-made.ensures.lists c.listing_of_file-made.ensures.only.cause c.show_made.ensures.shows
