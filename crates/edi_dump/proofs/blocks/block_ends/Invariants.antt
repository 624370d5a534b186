use Rattle.std.proofs.Common.{◌≡◌, ◌++◌, ◌-◌, drop, length}
use Rattle.edi_target.specs.Check.{starts_from}
use Rattle.edi_dump.specs.Frames.{block_ends}
use Rattle.edi_dump.proofs.Addresses.{ends_in}
use Rattle.edi_dump.proofs.blocks.block_ends.Given as goal

abbrev pub invariant-loop-op : goal.invariant-loop-op
invariant-loop-op l = record { left : l.ends.items ++ ends_in (starts_from (drop l.at l.words) l.at 0) ≡ block_ends l.words }

abbrev pub decreases-loop-op : goal.decreases-loop-op
decreases-loop-op l = length l.words - l.at
