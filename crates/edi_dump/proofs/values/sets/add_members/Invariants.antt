use Rattle.std.proofs.Common.{◌≡◌, ◌++◌, ◌*◌}
use Rattle.std.specs.Prelude.{filter}
use Rattle.std.specs.List.{range_with_len}
use Rattle.edi_word.specs.Sets.{word_has}
use Rattle.edi_dump.proofs.values.sets.add_members.Given as goal

abbrev pub invariant-loop-bit : goal.invariant-loop-bit
invariant-loop-bit l = record { found : l.members.items ≡ l.fn.members.items ++ filter (word_has l.words) (range_with_len (l.at * 16) l.bit) }
