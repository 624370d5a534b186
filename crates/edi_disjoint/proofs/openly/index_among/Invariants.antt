use Rattle.std.proofs.Common.{◌≡◌, ◌+◌, drop, map}
use Rattle.edi_disjoint.specs.Openly.{index_among, use_of}
use Rattle.edi_disjoint.proofs.openly.index_among.Given as goal

-- each so far comes before it
abbrev pub invariant-loop-index : goal.invariant-loop-index
invariant-loop-index l = l.index + index_among (use_of l.one) (map use_of (drop l.index l.list)) ≡ index_among (use_of l.one) (map use_of l.list)
