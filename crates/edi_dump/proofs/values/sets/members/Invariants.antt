use Rattle.std.proofs.Common.{◌≡◌, ◌*◌}
use Rattle.std.specs.Prelude.{filter}
use Rattle.std.specs.List.{range_with_len}
use Rattle.edi_word.specs.Sets.{word_has}
use Rattle.edi_dump.proofs.values.sets.members.Given as goal

abbrev pub invariant-loop-at : goal.invariant-loop-at
invariant-loop-at l = record { found : l.members.items ≡ filter (word_has l.words) (range_with_len 0 (l.at * 16)) }
