use Rattle.std.proofs.Common.{◌≡◌, ◌-◌, ◌<◌, ◌++◌, reverse}
use Rattle.edi_waits.specs.Names.{name_from}
use Rattle.edi_waits.specs.Told.{name_of}
use Rattle.edi_waits.proofs.births.Names.climb.Given as goal

-- the name of the process here, with the branches so far, is the whole name
abbrev pub invariant-loop : goal.invariant-loop
invariant-loop l = record {
  so_far : name_from l.self l.kernel.table (l.depth - l.counter) l.at ++ name_of (reverse l.name.items)
      ≡ name_from l.self l.kernel.table l.depth l.slot;
  inside : l.at < 32;
}
