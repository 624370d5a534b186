use Rattle.std.proofs.Common.{◌≡◌, length, take}
use Rattle.edi_store.specs.Memory.{words_at}
use Rattle.edi_machine.proofs.system.arguments_at.Given as goal

-- the words so far are those from `at` on
abbrev pub invariant-loop-i : goal.invariant-loop-i
invariant-loop-i l = record {
  so_far : take l.i l.words ≡ words_at l.store l.at l.i;
  long : length l.words ≡ 12;
}
