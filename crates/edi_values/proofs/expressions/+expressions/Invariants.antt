use Rattle.std.proofs.Common.{◌≡◌, drop, map}
use Rattle.edi_tree.specs.View.{addends, addend_of, exprs, expr_of, multipliers, multiplier_of, selectors, selector_of}
use Rattle.edi_unit.specs.Lists.{list_items}
use Rattle.edi_unit.specs.View.{argument_of, link_of, part_of}
use Rattle.edi_static.specs.Expressions as rule
use Rattle.edi_static.specs.Views.{environment, formal_of, formals, typed_of}
use Rattle.edi_values.specs.Parts.{behind}
use Rattle.edi_values.proofs.Behind.{behind_items, link_lists, part_lists, behind_arguments}
use Rattle.edi_values.proofs.expressions.+expressions.Given as goal

abbrev pub invariant-addends-loop-one : goal.invariant-addends-loop-one
invariant-addends-loop-one l = record {
  left : behind_items link_lists (map link_of (list_items l.links)) (rule.addends (environment l.known) l.of (addends (map addend_of (drop l.one-index
      l.one-items))))
      ≡ rule.addends (environment l.known) l.left (addends (map addend_of l.one-items));
}

abbrev pub invariant-multipliers-loop-one : goal.invariant-multipliers-loop-one
invariant-multipliers-loop-one l = record {
  left : behind_items link_lists (map link_of (list_items l.links))
      (rule.multipliers (environment l.known) l.of (multipliers (map multiplier_of (drop l.one-index l.one-items)))) ≡ rule.multipliers (environment l.known)
      l.left (multipliers (map multiplier_of l.one-items));
}

abbrev pub invariant-parts-loop-expr : goal.invariant-parts-loop-expr
invariant-parts-loop-expr l = record {
  left : behind (map typed_of l.parts.items) (rule.more_elements (environment l.known) l.strings (exprs (map expr_of (drop l.expr-index l.expr-items))))
      ≡ behind (map typed_of l.initial.parts.items) (rule.more_elements (environment l.known) l.strings (exprs (map expr_of l.expr-items)));
}

abbrev pub invariant-arguments-loop-expr : goal.invariant-arguments-loop-expr
invariant-arguments-loop-expr l = record {
  left : behind_arguments (map argument_of (list_items l.arguments))
      (rule.more_arguments (environment l.known) l.line (exprs (map expr_of (drop l.expr-index l.expr-items))) (formals (map formal_of l.rest)))
      ≡ behind_arguments (map argument_of (list_items l.initial.arguments))
      (rule.more_arguments (environment l.known) l.line (exprs (map expr_of l.expr-items)) (formals (map formal_of l.initial.rest)));
}

abbrev pub invariant-selectors-loop-one : goal.invariant-selectors-loop-one
invariant-selectors-loop-one l = record {
  left : behind_items part_lists (map part_of (list_items l.parts))
      (rule.selectors (environment l.known) l.reached (selectors (map selector_of (drop l.one-index l.one-items)))) ≡ rule.selectors (environment l.known) l.of
      (selectors (map selector_of l.one-items));
}
