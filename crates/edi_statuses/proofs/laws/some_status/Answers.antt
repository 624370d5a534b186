use Rattle.edi_statuses.proofs.always.Law.{some_status}
use Rattle.edi_statuses.proofs.always.Ranges.{words_give_ranges}
use Rattle.edi_statuses.proofs.always.Refuted.{not_refuted}
use Rattle.edi_statuses.proofs.laws.some_status.Goals as goal

pub returns : goal.returns
returns c = record { law = some_status; not_none = not_refuted; ranges = words_give_ranges }
