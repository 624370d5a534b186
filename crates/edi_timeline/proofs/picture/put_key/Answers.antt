use Rattle.std.specs.Fmt.{digits}
use Rattle.edi_timeline.proofs.picture.put_key.Goals as goal

pub returns : goal.returns
unfolding digits
returns c = record { exact = c.in_ok-extend_from_slice.ensures.items }
