use Rattle.std.proofs.Common.{◌≡◌, take}
use Rattle.edi_dump.proofs.memory.first_words.Given as goal

abbrev pub invariant-loop-at : goal.invariant-loop-at
invariant-loop-at l = record { told : l.words.items ≡ take l.at l.kernel.store }
