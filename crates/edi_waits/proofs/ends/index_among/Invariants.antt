use Rattle.std.proofs.Common.{◌≡◌, ◌+◌, drop, map}
use Rattle.edi_waits.specs.Left.{index_among, told_end}
use Rattle.edi_waits.specs.Told.{name_of}
use Rattle.edi_waits.proofs.ends.index_among.Given as goal

-- none so far comes behind it
abbrev pub invariant-loop-index : goal.invariant-loop-index
invariant-loop-index l =
    l.index + index_among (name_of l.name) (map told_end (drop l.index l.processes)) ≡ index_among (name_of l.name) (map told_end l.processes)
