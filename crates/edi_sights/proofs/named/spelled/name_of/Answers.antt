use Rattle.std.proofs.Common.{◌∙◌}
use Rattle.edi_sights.proofs.naming.Seen.{name_is}
use Rattle.edi_sights.proofs.named.spelled.name_of.Goals as goal

pub returns : goal.returns
returns c = record { exact = c.as_slice.ensures.all ∙ name_is c.args.heading.now }
