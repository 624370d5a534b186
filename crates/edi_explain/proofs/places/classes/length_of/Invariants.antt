use Rattle.std.proofs.Common.{◌≡◌, ◌≤◌, ◌+◌, ◌-◌, length, drop}
use Rattle.std.specs.List.{prefix_len}
use Rattle.edi_explain.specs.places.Cuts.{belongs}
use Rattle.edi_explain.proofs.places.classes.length_of.Given as goal

abbrev pub invariant-loop-length : goal.invariant-loop-length
invariant-loop-length l = (l.length ≤ length l.fn.bytes) × (l.length + prefix_len (belongs l.fn.class) (drop l.length l.fn.bytes) ≡ prefix_len (belongs l.fn.class) l.fn.bytes)

abbrev pub decreases-loop-length : goal.decreases-loop-length
decreases-loop-length l = length l.fn.bytes - l.length
