use Rattle.std.proofs.Common.{length, map}
use Rattle.edi_tree.specs.View.{groups, group_of}
use Rattle.edi_tree.specs.Levels.{groups_elements}
use Rattle.edi_grammar.specs.Rules as g
use Rattle.edi_phrases.proofs.Pushes.{Repeats}
use Rattle.edi_phrases.proofs.names.parse_groups.Given as goal

abbrev pub invariant-loop-behind : goal.invariant-loop-behind
invariant-loop-behind l = Repeats g.Groups l.fn.level (groups_elements (groups (map group_of l.items.items))) l.marks l.rest

abbrev pub decreases-loop-behind : goal.decreases-loop-behind
decreases-loop-behind l = length l.rest
