use Rattle.std.proofs.Common.{◌∙◌}
use Rattle.edi_static.proofs.Spellings.{index_is}
use Rattle.edi_static.proofs.records.index_of_name.Goals as goal

pub returns : goal.returns
returns c = record { exact = c.get_index_of.ensures.index ∙ index_is c.args.name.now c.args.names.now.keys }
