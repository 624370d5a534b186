use Rattle.std.proofs.Common.{◌≡◌}
use Rattle.edi_explain.specs.told.Names.{lost_from, lost_name}
use Rattle.edi_explain.proofs.told.names.lost_name.Given as goal

abbrev pub invariant-loop-names : goal.invariant-loop-names
invariant-loop-names l = lost_from l.marks l.line l.index l.names ≡ lost_name l.marks l.line

abbrev pub decreases-loop-names : goal.decreases-loop-names
decreases-loop-names l = l.names
