-- The law as proved.
use Rattle.edi_follows.proofs.values.Given.{arguments_are_words, answers_are_values}
use Rattle.edi_follows.proofs.values.calls_are_given_words.Goals as goal

pub returns : goal.returns
returns c = record { arguments = arguments_are_words; answers = answers_are_values }
