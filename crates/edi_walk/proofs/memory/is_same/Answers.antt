use Rattle.std.proofs.Common.{◌∙◌}
use Rattle.edi_walk.proofs.Entries.{same_seen}
use Rattle.edi_walk.proofs.memory.is_same.Goals as goal

pub returns : goal.returns
returns c = record { exact = c.eq.ensures ∙ same_seen c.args.one.now c.args.other.now }
