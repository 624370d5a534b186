use Rattle.std.proofs.Common.{◌≡◌, ◌++◌}
use Rattle.edi_store.specs.Memory.{words_at}
use Rattle.edi_store.specs.Copied.{IsMemory}
use Rattle.edi_kernel.proofs.kept.keep_frame.Given as goal

-- the words so far are those from `from` on
abbrev pub invariant-loop-i : goal.invariant-loop-i
invariant-loop-i l = record {
  so_far : l.words.items ≡ l.initial.words.items ++ words_at l.store l.from l.i;
  whole : IsMemory l.store;
}
