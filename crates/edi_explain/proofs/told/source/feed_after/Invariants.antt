use Rattle.std.proofs.Common.{◌≡◌, ◌≤◌, ◌+◌, ◌-◌, length, drop}
use Rattle.edi_explain.specs.told.Source.{before_feed}
use Rattle.edi_explain.proofs.told.source.feed_after.Given as goal

abbrev pub invariant-loop-count : goal.invariant-loop-count
invariant-loop-count l = (l.count ≤ length l.fn.bytes) × (l.count + before_feed (drop l.count l.fn.bytes) ≡ before_feed l.fn.bytes)

abbrev pub decreases-loop-count : goal.decreases-loop-count
decreases-loop-count l = length l.fn.bytes - l.count
