use Rattle.edi_texts.proofs.Same.{fetched_bytes_decide}
use Rattle.edi_texts.proofs.laws.fetched_bytes_decide.Goals as goal

pub returns : goal.returns
returns c = record { law = fetched_bytes_decide }
