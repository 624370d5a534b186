use Rattle.edi_tree.specs.View.{addends, addend_of, multipliers, multiplier_of, exprs, expr_of, selectors, selector_of}
use Rattle.edi_tree.specs.Depth.{addends_depth, multipliers_depth, exprs_depth, selectors_depth}
use Rattle.edi_tree.proofs.Loops.{Deepens}
use Rattle.edi_tree.proofs.depths.+expression_depths.Given as goal

abbrev pub invariant-simple_depth-loop-addend : goal.invariant-simple_depth-loop-addend
invariant-simple_depth-loop-addend l = Deepens addend_of addends addends_depth l.depth l.initial.depth l.addend-index l.addend-items

abbrev pub invariant-term_depth-loop-multiplier : goal.invariant-term_depth-loop-multiplier
invariant-term_depth-loop-multiplier l = Deepens multiplier_of multipliers multipliers_depth l.depth l.initial.depth l.multiplier-index l.multiplier-items

abbrev pub invariant-args_depth-loop-expr : goal.invariant-args_depth-loop-expr
invariant-args_depth-loop-expr l = Deepens expr_of exprs exprs_depth l.depth l.initial.depth l.expr-index l.expr-items

abbrev pub invariant-variable_depth-loop-selector : goal.invariant-variable_depth-loop-selector
invariant-variable_depth-loop-selector l = Deepens selector_of selectors selectors_depth l.depth l.initial.depth l.selector-index l.selector-items
