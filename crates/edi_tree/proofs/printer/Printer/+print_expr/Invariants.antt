use Rattle.edi_tree.specs.View.{addend_of, addends, expr_of, exprs, multiplier_of, multipliers, selector_of, selectors}
use Rattle.edi_tree.specs.Printing.{print_addends, print_exprs, print_multipliers, print_selectors}
use Rattle.edi_tree.proofs.Loops.{Prints}
use Rattle.edi_tree.proofs.printer.Printer.+print_expr.Given as goal

abbrev pub invariant-simple-loop-addend : goal.invariant-simple-loop-addend
invariant-simple-loop-addend l = Prints addend_of addends print_addends l.addend-index l.addend-items l.self l.initial.self

abbrev pub invariant-term-loop-multiplier : goal.invariant-term-loop-multiplier
invariant-term-loop-multiplier l = Prints multiplier_of multipliers print_multipliers l.multiplier-index l.multiplier-items l.self l.initial.self

abbrev pub invariant-exprs-loop-expr : goal.invariant-exprs-loop-expr
invariant-exprs-loop-expr l = Prints expr_of exprs print_exprs l.expr-index l.expr-items l.self l.initial.self

abbrev pub invariant-variable-loop-selector : goal.invariant-variable-loop-selector
invariant-variable-loop-selector l = Prints selector_of selectors print_selectors l.selector-index l.selector-items l.self l.initial.self
