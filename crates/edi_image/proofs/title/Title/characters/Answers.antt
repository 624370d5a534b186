use Rattle.std.proofs.Common.{sym, ap, ◌∙◌}
use Rattle.edi_image.specs.Titles.{with_blanks, with_blanks-without_blanks}
use Rattle.edi_image.proofs.title.Title.characters.Goals as goal

pub returns : goal.returns
returns c = sym (with_blanks-without_blanks _ c.self.invariant) ∙ ap (with_blanks 24) c.self.view_is
