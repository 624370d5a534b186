use Rattle.edi_timeline.proofs.Reading.{read_in_one_way}
use Rattle.edi_timeline.proofs.laws.characters_are_read_in_one_way.Goals as goal

pub returns : goal.returns
returns c = record { one = read_in_one_way }
