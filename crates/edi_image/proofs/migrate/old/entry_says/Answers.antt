use Rattle.std.proofs.Common.{◌∙◌, sym}
use Rattle.edi_image.proofs.EntryParts.{says_file, says_wrong}
use Rattle.edi_image.proofs.migrate.old.entry_says.Goals as goal

pub returns-in-Some : goal.returns-in-Some
returns-in-Some c = says_file _ _ c.in-Some.record _ (sym c.are_zeros.ensures ∙ c.if-are_zeros.false) c.in-Some.ensures

pub returns-in-None : goal.returns-in-None
returns-in-None c = says_wrong _ _ _ (sym c.are_zeros.ensures ∙ c.if-are_zeros.false) c.in-None.ensures
