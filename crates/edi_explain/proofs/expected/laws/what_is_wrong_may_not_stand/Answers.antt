use Rattle.edi_explain.proofs.expected.Faulty.{deep_may_not, end_may_not, misplaced_may_not}
use Rattle.edi_explain.proofs.expected.laws.what_is_wrong_may_not_stand.Goals as goal

pub returns : goal.returns
returns c = record { misplaced = misplaced_may_not; deep = deep_may_not; end = end_may_not }
