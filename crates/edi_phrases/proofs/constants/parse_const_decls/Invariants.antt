use Rattle.std.proofs.Common.{length}
use Rattle.edi_tree.specs.View.{const_decls}
use Rattle.edi_tree.specs.Levels.{const_decls_elements}
use Rattle.edi_grammar.specs.Rules as g
use Rattle.edi_phrases.proofs.Pushes.{Repeats}
use Rattle.edi_phrases.proofs.constants.parse_const_decls.Given as goal

abbrev pub invariant-loop-behind : goal.invariant-loop-behind
invariant-loop-behind l = Repeats g.ConstDecls l.fn.level (const_decls_elements (const_decls l.items.items)) l.marks l.rest

abbrev pub decreases-loop-behind : goal.decreases-loop-behind
decreases-loop-behind l = length l.rest
