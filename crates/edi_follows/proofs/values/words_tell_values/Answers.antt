-- The law as proved.
use Rattle.edi_follows.proofs.values.Lengths.{values_are_long, types_take_words}
use Rattle.edi_follows.proofs.values.Small.{values_are_words}
use Rattle.edi_follows.proofs.values.Alike.{words_tell_values}
use Rattle.edi_follows.proofs.values.words_tell_values.Goals as goal

pub returns : goal.returns
returns c = record { long = values_are_long; some = types_take_words; small = values_are_words; apart = words_tell_values }
