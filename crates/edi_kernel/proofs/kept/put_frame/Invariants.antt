use Rattle.std.proofs.Common.{◌≡◌, take}
use Rattle.edi_store.specs.Memory.{written}
use Rattle.edi_store.specs.Copied.{IsMemory}
use Rattle.edi_kernel.proofs.kept.put_frame.Given as goal

-- the words so far are written
abbrev pub invariant-loop-i : goal.invariant-loop-i
invariant-loop-i l = record {
  so_far : l.store ≡ written l.initial.store l.at (take l.i l.words);
  was_whole : IsMemory l.initial.store;
  whole : IsMemory l.store;
}
