use Rattle.std.proofs.Common.{◌≡◌, drop}
use Rattle.edi_waits.specs.Ends.{is_before}
use Rattle.edi_waits.specs.Told.{name_of}
use Rattle.edi_waits.proofs.ends.is_before.Given as goal

-- the branches so far are the same
abbrev pub invariant-loop-index : goal.invariant-loop-index
invariant-loop-index l =
    is_before (name_of (drop l.index l.name)) (name_of (drop l.index l.other)) ≡ is_before (name_of l.name) (name_of l.other)
