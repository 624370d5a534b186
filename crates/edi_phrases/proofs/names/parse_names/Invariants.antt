use Rattle.std.proofs.Common.{length}
use Rattle.edi_tree.specs.View.{names}
use Rattle.edi_tree.specs.Levels.{names_elements}
use Rattle.edi_grammar.specs.Rules as g
use Rattle.edi_phrases.proofs.Pushes.{Repeats}
use Rattle.edi_phrases.proofs.names.parse_names.Given as goal

abbrev pub invariant-loop-behind : goal.invariant-loop-behind
invariant-loop-behind l = Repeats g.Names l.fn.level (names_elements (names l.items.items)) l.marks l.rest

abbrev pub decreases-loop-behind : goal.decreases-loop-behind
decreases-loop-behind l = length l.rest
