-- The law as proved.
use Rattle.edi_follows.proofs.values.Zeros.{zero_is_zeros}
use Rattle.edi_follows.proofs.values.Portions.{parts_stand}
use Rattle.edi_follows.proofs.values.Paths.{paths_go_on}
use Rattle.edi_follows.proofs.values.Reading.{parts_are_read, parts_are_written}
use Rattle.edi_follows.proofs.values.parts_stand_in_words.Goals as goal

pub returns : goal.returns
returns c = record { zeros = zero_is_zeros; parts = parts_stand; paths = paths_go_on; read = parts_are_read; written = parts_are_written }
