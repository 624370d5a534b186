use Rattle.std.proofs.Common.{length, map}
use Rattle.edi_tree.specs.View as view
use Rattle.edi_tree.specs.Levels as elements
use Rattle.edi_grammar.specs.Rules as g
use Rattle.edi_phrases.proofs.Pushes.{Repeats}
use Rattle.edi_syntax.proofs.declarations.globals.parse_globals.Given as goal

abbrev pub invariant-loop-alloc : goal.invariant-loop-alloc
invariant-loop-alloc l = Repeats g.Globals 0 (elements.globals_elements (view.globals (map view.global_of l.globals.items))) l.marks l.rest

abbrev pub decreases-loop-alloc : goal.decreases-loop-alloc
decreases-loop-alloc l = length l.rest
