use Rattle.std.proofs.Common.{◌≡◌, take}
use Rattle.edi_store.specs.Memory.{written}
use Rattle.edi_store.specs.Copied.{IsMemory}
use Rattle.edi_target.specs.Mach.{descriptors}
use Rattle.edi_machine.proofs.start.put_descriptors.Given as goal

-- the descriptors so far are written
abbrev pub invariant-loop-i : goal.invariant-loop-i
invariant-loop-i l = record {
  so_far : l.store ≡ written l.initial.store 5 (descriptors (take l.i l.calls));
  was_whole : IsMemory l.initial.store;
  whole : IsMemory l.store;
}
