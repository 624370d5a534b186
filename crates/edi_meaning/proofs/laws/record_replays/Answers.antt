use Rattle.edi_meaning.proofs.Selections.{record_replays}
use Rattle.edi_meaning.proofs.laws.record_replays.Goals as goal

pub returns : goal.returns
returns c = record { law = record_replays }
