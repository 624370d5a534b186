use Rattle.std.proofs.Common.{◌+◌, ◌-◌, ◌*◌, length, map}
use Rattle.edi_tree.specs.View as view
use Rattle.edi_tree.specs.Levels as elements
use Rattle.edi_grammar.specs.Rules as g
use Rattle.edi_phrases.proofs.Pushes.{Repeats}
use Rattle.edi_phrases.proofs.expressions.expressions.+expression.Given as goal

abbrev pub decreases-parse_index : goal.decreases-parse_index
decreases-parse_index l = (64 - l.level) * 16 + 0

abbrev pub decreases-parse_args : goal.decreases-parse_args
decreases-parse_args l = (64 - l.level) * 16 + 0

abbrev pub decreases-parse_not : goal.decreases-parse_not
decreases-parse_not l = (64 - l.level) * 16 + 0

abbrev pub decreases-parse_parenthesized : goal.decreases-parse_parenthesized
decreases-parse_parenthesized l = (64 - l.level) * 16 + 0

abbrev pub decreases-parse_selector : goal.decreases-parse_selector
decreases-parse_selector l = (64 - l.level) * 16 + 1

abbrev pub decreases-parse_selectors : goal.decreases-parse_selectors
decreases-parse_selectors l = (64 - l.level) * 16 + 2

abbrev pub decreases-parse_named : goal.decreases-parse_named
decreases-parse_named l = (64 - l.level) * 16 + 3

abbrev pub decreases-parse_val : goal.decreases-parse_val
decreases-parse_val l = (64 - l.level) * 16 + 3

abbrev pub decreases-parse_factor : goal.decreases-parse_factor
decreases-parse_factor l = (64 - l.level) * 16 + 4

abbrev pub decreases-parse_multipliers : goal.decreases-parse_multipliers
decreases-parse_multipliers l = (64 - l.level) * 16 + 5

abbrev pub decreases-parse_term : goal.decreases-parse_term
decreases-parse_term l = (64 - l.level) * 16 + 6

abbrev pub decreases-parse_addends : goal.decreases-parse_addends
decreases-parse_addends l = (64 - l.level) * 16 + 7

abbrev pub decreases-parse_simple : goal.decreases-parse_simple
decreases-parse_simple l = (64 - l.level) * 16 + 8

abbrev pub decreases-parse_comparison : goal.decreases-parse_comparison
decreases-parse_comparison l = (64 - l.level) * 16 + 9

abbrev pub decreases-parse_expr : goal.decreases-parse_expr
decreases-parse_expr l = (64 - l.level) * 16 + 10

abbrev pub decreases-parse_exprs : goal.decreases-parse_exprs
decreases-parse_exprs l = (64 - l.level) * 16 + 11

abbrev pub invariant-parse_exprs-loop-behind_comma : goal.invariant-parse_exprs-loop-behind_comma
invariant-parse_exprs-loop-behind_comma l = Repeats g.Exprs l.fn.level (elements.exprs_elements (view.exprs (map view.expr_of l.exprs.items))) l.marks l.rest

abbrev pub decreases-parse_exprs-loop-behind_comma : goal.decreases-parse_exprs-loop-behind_comma
decreases-parse_exprs-loop-behind_comma l = length l.rest

abbrev pub invariant-parse_multipliers-loop-operator : goal.invariant-parse_multipliers-loop-operator
invariant-parse_multipliers-loop-operator l = Repeats g.Multipliers l.fn.level (elements.multipliers_elements (view.multipliers (map view.multiplier_of l.multipliers.items))) l.marks l.rest

abbrev pub decreases-parse_multipliers-loop-operator : goal.decreases-parse_multipliers-loop-operator
decreases-parse_multipliers-loop-operator l = length l.rest

abbrev pub invariant-parse_addends-loop-operator : goal.invariant-parse_addends-loop-operator
invariant-parse_addends-loop-operator l = Repeats g.Addends l.fn.level (elements.addends_elements (view.addends (map view.addend_of l.addends.items))) l.marks l.rest

abbrev pub decreases-parse_addends-loop-operator : goal.decreases-parse_addends-loop-operator
decreases-parse_addends-loop-operator l = length l.rest

abbrev pub invariant-parse_selectors-loop-alloc : goal.invariant-parse_selectors-loop-alloc
invariant-parse_selectors-loop-alloc l = Repeats g.Selectors l.fn.level (elements.selectors_elements (view.selectors (map view.selector_of l.selectors.items))) l.marks l.rest

abbrev pub decreases-parse_selectors-loop-alloc : goal.decreases-parse_selectors-loop-alloc
decreases-parse_selectors-loop-alloc l = length l.rest
