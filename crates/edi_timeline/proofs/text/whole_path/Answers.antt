use Rattle.edi_timeline.specs.Told.{path_of}
use Rattle.edi_timeline.proofs.text.whole_path.Goals as goal

pub returns : goal.returns
unfolding path_of
returns c = record { exact = c.path.ensures.exact }
