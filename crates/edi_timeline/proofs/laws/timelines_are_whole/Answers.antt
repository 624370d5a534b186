use Rattle.edi_timeline.proofs.Whole.{whole_text, whole_picture}
use Rattle.edi_timeline.proofs.laws.timelines_are_whole.Goals as goal

pub returns : goal.returns
returns c = record { text = whole_text; picture = whole_picture }
