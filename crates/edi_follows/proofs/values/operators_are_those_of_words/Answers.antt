-- The law as proved.
use Rattle.edi_follows.proofs.values.Alone.{truth_is_word, truth_is_tested}
use Rattle.edi_follows.proofs.values.Operators.{operators_follow, decided_is_result, sign_follows, negation_follows}
use Rattle.edi_follows.proofs.values.operators_are_those_of_words.Goals as goal

pub returns : goal.returns
returns c = assumption (operators_follow, decided_is_result, sign_follows, negation_follows, truth_is_word, truth_is_tested)
