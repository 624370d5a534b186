use Rattle.edi_calls.proofs.Parts.{torn_is_before_or_behind_all}
use Rattle.edi_calls.proofs.laws.torn_is_before_or_behind.Goals as goal

pub returns : goal.returns
returns c = torn_is_before_or_behind_all
