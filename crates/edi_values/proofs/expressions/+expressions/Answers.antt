use Rattle.std.proofs.Common.{◌≡◌, ◌+◌, List, ◌∷◌, ◌∙◌, Vec, ap, arith, drop, map, refl, sym}
use Rattle.std.specs.Global.{Global}
use Rattle.std.proofs.Math.ListN.{drop_of_length-le}
use Rattle.std.proofs.lemmas.List.{drop_more}
use Rattle.std.proofs.lemmas.Result.{err_from_is_err_and}
use Rattle.edi_tree.specs.declared.expressions.Factor.TheViews.{out-Args}
use Rattle.edi_tree.specs.Tree as text
use Rattle.edi_tree.specs.View as see
use Rattle.edi_tree.specs.View.{addend_of, expr_of, multiplier_of, selector_of}
use Rattle.edi_unit.specs.Lists.{list_items}
use Rattle.edi_unit.specs.View.{link_of, part_of}
use Rattle.edi_static.specs.declared.operands.Typed as code_typed
use Rattle.edi_static.specs.Expressions as rule
use Rattle.edi_static.specs.Operators.{Typed}
use Rattle.edi_static.specs.Views.{environment, formal_of, formals, linked_of, parted_of, typed_of}
use Rattle.edi_values.specs.Parts as part
use Rattle.edi_values.specs.Views.{chained_of, reached_of}
use Rattle.edi_values.proofs.Loops as loop
use Rattle.edi_values.proofs.Seen.{args_seen}
use Rattle.edi_values.proofs.expressions.+expressions.Goals as goal

-- ---- addends

pub addends-loop-one-init : goal.addends-loop-one-init
addends-loop-one-init t c = record {
  left = loop.start link_of (loop.addends_in (environment c.args.known.now)) (list_items c.new-links.result) c.args.left c.items-one-items.result.now
      c.new-links.ensures.exact;
}

pub addends-returns-in_err-linked : goal.addends-returns-in_err-linked
addends-returns-in_err-linked t c =
    let env = environment c.args.known.now in
    let items = c.items-one-items.result.now in
    let i = c.loop-one.one-index in
    let one = c.one-item.result in
    let here : drop i items ≡ one ∷ drop (i + 1) items = drop_more items i one (omega arith) ∙ ap (λ x. x ∷ drop (i + 1) items) (sym c.one-item.is) in
    let p = err_from_is_err_and c.from_residual.result c.from_residual.ensures.1 in
    record {
      exact = rw (p.1, p.2) (loop.faulty link_of (loop.addends_in env) (list_items c.loop-one.links) c.loop-one.of (drop i items) (drop (i + 1) items) one
          (rule.addends env c.args.left (see.addends_of c.args.addends.now)) c.in_err-linked.field-0.0 linked_of chained_of here c.in_err-linked.ensures.exact
          (c.loop-one.invariant.left ∙ ap (λ xs. rule.addends env c.args.left (see.addends (map addend_of xs))) c.items-one-items.ensures.exact));
    }

pub addends-loop-one-preserved : goal.addends-loop-one-preserved
addends-loop-one-preserved t c =
    let env = environment c.args.known.now in
    let items = c.items-one-items.result.now in
    let i = c.loop-one.one-index in
    let one = c.one-item.result in
    let here : drop i items ≡ one ∷ drop (i + 1) items = drop_more items i one (omega arith) ∙ ap (λ x. x ∷ drop (i + 1) items) (sym c.one-item.is) in
    record {
      left = loop.step link_of (loop.addends_in env) (list_items c.loop-one.links) (list_items c.add.new.list) c.loop-one.of (drop i items) (drop (i + 1)
          items) one
          c.in_ok-linked.linked.link (linked_of c.in_ok-linked.linked) (rule.addends env c.args.left (see.addends (map addend_of items))) here
          c.in_ok-add.ensures.ok refl c.in_ok-linked.ensures.exact
          c.loop-one.invariant.left;
    }

pub addends-returns : goal.addends-returns
addends-returns t c =
    let env = environment c.args.known.now in
    let items = c.items-one-items.result.now in
    record {
      exact = loop.done link_of (loop.addends_in env) (list_items c.loop-one.links) c.loop-one.of (drop c.loop-one.one-index items)
          (rule.addends env c.args.left (see.addends_of c.args.addends.now)) (drop_of_length-le items c.loop-one-test.false)
          (c.loop-one.invariant.left ∙ ap (λ xs. rule.addends env c.args.left (see.addends (map addend_of xs))) c.items-one-items.ensures.exact);
    }

-- ---- multipliers

pub multipliers-loop-one-init : goal.multipliers-loop-one-init
multipliers-loop-one-init t c = record {
  left = loop.start link_of (loop.multipliers_in (environment c.args.known.now)) (list_items c.new-links.result) c.args.left c.items-one-items.result.now
      c.new-links.ensures.exact;
}

pub multipliers-returns-in_err-linked : goal.multipliers-returns-in_err-linked
multipliers-returns-in_err-linked t c =
    let env = environment c.args.known.now in
    let items = c.items-one-items.result.now in
    let i = c.loop-one.one-index in
    let one = c.one-item.result in
    let here : drop i items ≡ one ∷ drop (i + 1) items = drop_more items i one (omega arith) ∙ ap (λ x. x ∷ drop (i + 1) items) (sym c.one-item.is) in
    let p = err_from_is_err_and c.from_residual.result c.from_residual.ensures.1 in
    record {
      exact = rw (p.1, p.2) (loop.faulty link_of (loop.multipliers_in env) (list_items c.loop-one.links) c.loop-one.of (drop i items) (drop (i + 1) items) one
          (rule.multipliers env c.args.left (see.multipliers_of c.args.multipliers.now)) c.in_err-linked.field-0.0 linked_of chained_of here
          c.in_err-linked.ensures.exact
          (c.loop-one.invariant.left ∙ ap (λ xs. rule.multipliers env c.args.left (see.multipliers (map multiplier_of xs))) c.items-one-items.ensures.exact));
    }

pub multipliers-loop-one-preserved : goal.multipliers-loop-one-preserved
multipliers-loop-one-preserved t c =
    let env = environment c.args.known.now in
    let items = c.items-one-items.result.now in
    let i = c.loop-one.one-index in
    let one = c.one-item.result in
    let here : drop i items ≡ one ∷ drop (i + 1) items = drop_more items i one (omega arith) ∙ ap (λ x. x ∷ drop (i + 1) items) (sym c.one-item.is) in
    record {
      left = loop.step link_of (loop.multipliers_in env) (list_items c.loop-one.links) (list_items c.add.new.list) c.loop-one.of (drop i items) (drop (i +
          1) items) one
          c.in_ok-linked.linked.link (linked_of c.in_ok-linked.linked) (rule.multipliers env c.args.left (see.multipliers (map multiplier_of items))) here
          c.in_ok-add.ensures.ok refl c.in_ok-linked.ensures.exact
          c.loop-one.invariant.left;
    }

pub multipliers-returns : goal.multipliers-returns
multipliers-returns t c =
    let env = environment c.args.known.now in
    let items = c.items-one-items.result.now in
    record {
      exact = loop.done link_of (loop.multipliers_in env) (list_items c.loop-one.links) c.loop-one.of (drop c.loop-one.one-index items)
          (rule.multipliers env c.args.left (see.multipliers_of c.args.multipliers.now)) (drop_of_length-le items c.loop-one-test.false)
          (c.loop-one.invariant.left ∙ ap (λ xs. rule.multipliers env c.args.left (see.multipliers (map multiplier_of xs))) c.items-one-items.ensures.exact);
    }

-- ---- selectors

pub selectors-loop-one-init : goal.selectors-loop-one-init
selectors-loop-one-init t c = record {
  left = loop.start part_of (loop.selectors_in (environment c.args.known.now)) (list_items c.new-parts.result) c.args.of c.items-one-items.result.now
      c.new-parts.ensures.exact;
}

pub selectors-returns-in_err-parted : goal.selectors-returns-in_err-parted
selectors-returns-in_err-parted t c =
    let env = environment c.args.known.now in
    let items = c.items-one-items.result.now in
    let i = c.loop-one.one-index in
    let one = c.one-item.result in
    let here : drop i items ≡ one ∷ drop (i + 1) items = drop_more items i one (omega arith) ∙ ap (λ x. x ∷ drop (i + 1) items) (sym c.one-item.is) in
    let p = err_from_is_err_and c.from_residual.result c.from_residual.ensures.1 in
    record {
      exact = rw (p.1, p.2) (loop.faulty part_of (loop.selectors_in env) (list_items c.loop-one.parts) c.loop-one.reached (drop i items) (drop (i + 1)
          items) one
          (rule.selectors env c.args.of (see.selectors_of c.args.selectors.now)) c.in_err-parted.field-0.0 parted_of reached_of here
          c.in_err-parted.ensures.exact
          (c.loop-one.invariant.left ∙ ap (λ xs. rule.selectors env c.args.of (see.selectors (map selector_of xs))) c.items-one-items.ensures.exact));
    }

pub selectors-loop-one-preserved : goal.selectors-loop-one-preserved
selectors-loop-one-preserved t c =
    let env = environment c.args.known.now in
    let items = c.items-one-items.result.now in
    let i = c.loop-one.one-index in
    let one = c.one-item.result in
    let here : drop i items ≡ one ∷ drop (i + 1) items = drop_more items i one (omega arith) ∙ ap (λ x. x ∷ drop (i + 1) items) (sym c.one-item.is) in
    record {
      left = loop.step part_of (loop.selectors_in env) (list_items c.loop-one.parts) (list_items c.add.new.list) c.loop-one.reached (drop i items) (drop (i
          + 1) items) one
          c.in_ok-parted.parted.part (parted_of c.in_ok-parted.parted) (rule.selectors env c.args.of (see.selectors (map selector_of items))) here
          c.in_ok-add.ensures.ok refl c.in_ok-parted.ensures.exact
          c.loop-one.invariant.left;
    }

pub selectors-returns : goal.selectors-returns
selectors-returns t c =
    let env = environment c.args.known.now in
    let items = c.items-one-items.result.now in
    record {
      exact = loop.done part_of (loop.selectors_in env) (list_items c.loop-one.parts) c.loop-one.reached (drop c.loop-one.one-index items)
          (rule.selectors env c.args.of (see.selectors_of c.args.selectors.now)) (drop_of_length-le items c.loop-one-test.false)
          (c.loop-one.invariant.left ∙ ap (λ xs. rule.selectors env c.args.of (see.selectors (map selector_of xs))) c.items-one-items.ensures.exact);
    }

-- ---- arguments

pub arguments-returns-in_err-first : goal.arguments-returns-in_err-first
arguments-returns-in_err-first t c =
    let env = environment c.args.known.now in
    let fs = formals (map formal_of c.args.formals.now) in
    let a = c.args.args.now in
    let es = see.exprs_of (out-Args a).more in
    let seen : text.args (expr_of c.deref.result.now) es ≡ see.args_of a = ap (λ x. text.args (expr_of x) es) c.deref.ensures ∙ sym (args_seen a) in
    let p = err_from_is_err_and c.from_residual.result c.from_residual.ensures.1 in
    record {
      exact = rw (p.1, p.2) (loop.arguments_first env c.args.line (expr_of c.deref.result.now) es (see.args_of a) fs c.in_err-first.field-0.0 seen
          c.in_err-first.ensures.exact);
    }

pub arguments-returns-in_err-one : goal.arguments-returns-in_err-one
arguments-returns-in_err-one t c =
    let env = environment c.args.known.now in
    let line = c.args.line in
    let fs = formals (map formal_of c.args.formals.now) in
    let a = c.args.args.now in
    let items = c.items-expr-items.result.now in
    let seen : text.args (expr_of c.deref.result.now) (see.exprs (map expr_of items)) ≡ see.args_of a =
    ap (λ xs. text.args (expr_of c.deref.result.now) (see.exprs (map expr_of xs))) c.items-expr-items.ensures.exact
    ∙ ap (λ x. text.args (expr_of x) (see.exprs_of (out-Args a).more)) c.deref.ensures
    ∙ sym (args_seen a) in
    let i = c.loop-expr.expr-index in
    let one = c.expr-item.result in
    let here : drop i items ≡ one ∷ drop (i + 1) items = drop_more items i one (omega arith) ∙ ap (λ x. x ∷ drop (i + 1) items) (sym c.expr-item.is) in
    let whole = loop.arguments_all env line (expr_of c.deref.result.now) (see.exprs (map expr_of items)) fs
    (formals (map formal_of c.rest_of-rest.result.now)) c.in_ok-first.first (list_items c.new-arguments.result) (list_items c.add.new.list)
    c.new-arguments.ensures.exact c.in_ok-add.ensures.ok c.rest_of-rest.ensures.exact c.in_ok-first.ensures.exact in
    let p = err_from_is_err_and c.from_residual-in_err-one.result c.from_residual-in_err-one.ensures.1 in
    record {
      exact = rw (p.1, p.2) (loop.arguments_fault env line (list_items c.loop-expr.arguments) (drop i items) (drop (i + 1) items) one
          (formals (map formal_of c.loop-expr.rest.now))
          (rule.all_arguments env line (see.args_of a) fs) c.in_err-one.field-0.0 here c.in_err-one.ensures.exact
          (c.loop-expr.invariant.left ∙ whole ∙ ap (λ xs. rule.all_arguments env line xs fs) seen));
    }

pub arguments-loop-expr-preserved : goal.arguments-loop-expr-preserved
arguments-loop-expr-preserved t c =
    let env = environment c.args.known.now in
    let line = c.args.line in
    let items = c.items-expr-items.result.now in
    let i = c.loop-expr.expr-index in
    let one = c.expr-item.result in
    let here : drop i items ≡ one ∷ drop (i + 1) items = drop_more items i one (omega arith) ∙ ap (λ x. x ∷ drop (i + 1) items) (sym c.expr-item.is) in
    record {
      left = loop.arguments_step env line (list_items c.loop-expr.arguments) (list_items c.add-in-loop-expr.new.list) (drop i items) (drop (i + 1) items) one
          (formals (map formal_of c.loop-expr.rest.now)) (formals (map formal_of c.rest_of-rest-in-loop-expr.result.now)) c.in_ok-one.one _
          here c.in_ok-add-2.ensures.ok c.rest_of-rest-in-loop-expr.ensures.exact c.in_ok-one.ensures.exact c.loop-expr.invariant.left;
    }

pub arguments-returns : goal.arguments-returns
arguments-returns t c =
    let env = environment c.args.known.now in
    let line = c.args.line in
    let fs = formals (map formal_of c.args.formals.now) in
    let a = c.args.args.now in
    let items = c.items-expr-items.result.now in
    let seen : text.args (expr_of c.deref.result.now) (see.exprs (map expr_of items)) ≡ see.args_of a =
    ap (λ xs. text.args (expr_of c.deref.result.now) (see.exprs (map expr_of xs))) c.items-expr-items.ensures.exact
    ∙ ap (λ x. text.args (expr_of x) (see.exprs_of (out-Args a).more)) c.deref.ensures
    ∙ sym (args_seen a) in
    let whole = loop.arguments_all env line (expr_of c.deref.result.now) (see.exprs (map expr_of items)) fs
    (formals (map formal_of c.rest_of-rest.result.now)) c.in_ok-first.first (list_items c.new-arguments.result) (list_items c.add.new.list)
    c.new-arguments.ensures.exact c.in_ok-add.ensures.ok c.rest_of-rest.ensures.exact c.in_ok-first.ensures.exact in
    record {
      exact = loop.arguments_end env line (list_items c.loop-expr.arguments) (drop c.loop-expr.expr-index items) (formals (map formal_of c.loop-expr.rest.now))
          (rule.all_arguments env line (see.args_of a) fs) (drop_of_length-le items c.loop-expr-test.false)
          (c.loop-expr.invariant.left ∙ whole ∙ ap (λ xs. rule.all_arguments env line xs fs) seen);
    }

-- ---- parts of a constructor

pub parts-returns-in_err-add_element : goal.parts-returns-in_err-add_element
parts-returns-in_err-add_element t c =
    let env = environment c.args.known.now in
    let a = c.args.args.now in
    let es = see.exprs_of (out-Args a).more in
    let seen : text.args (expr_of c.deref.result.now) es ≡ see.args_of a = ap (λ x. text.args (expr_of x) es) c.deref.ensures ∙ sym (args_seen a) in
    let stated : Unit {0} → List Typed = λ _. map typed_of c.add_element.new.parts.items in
    let given : Vec code_typed.Typed Global → List Typed = λ parts. map typed_of parts.items in
    let p = err_from_is_err_and c.from_residual.result c.from_residual.ensures.1 in
    record {
      exact = rw (p.1, p.2) (loop.elements_first env c.args.strings (expr_of c.deref.result.now) es (see.args_of a) c.new-parts.result.items
          c.in_err-add_element.field-0.0
          stated given c.new-parts.ensures.items seen c.in_err-add_element.ensures.exact);
    }

pub parts-returns-in_err-add_element-2 : goal.parts-returns-in_err-add_element-2
parts-returns-in_err-add_element-2 t c =
    let env = environment c.args.known.now in
    let strings = c.args.strings in
    let a = c.args.args.now in
    let items = c.items-expr-items.result.now in
    let seen : text.args (expr_of c.deref.result.now) (see.exprs (map expr_of items)) ≡ see.args_of a =
    ap (λ xs. text.args (expr_of c.deref.result.now) (see.exprs (map expr_of xs))) c.items-expr-items.ensures.exact
    ∙ ap (λ x. text.args (expr_of x) (see.exprs_of (out-Args a).more)) c.deref.ensures
    ∙ sym (args_seen a) in
    let i = c.loop-expr.expr-index in
    let one = c.expr-item.result in
    let here : drop i items ≡ one ∷ drop (i + 1) items = drop_more items i one (omega arith) ∙ ap (λ x. x ∷ drop (i + 1) items) (sym c.expr-item.is) in
    let whole = loop.elements_all env strings (expr_of c.deref.result.now) (see.exprs (map expr_of items)) c.new-parts.result.items
    c.add_element.new.parts.items c.new-parts.ensures.items c.in_ok-add_element.ensures.exact in
    let stated : Unit {0} → List Typed = λ _. map typed_of c.add_element-in-loop-expr.new.parts.items in
    let given : Vec code_typed.Typed Global → List Typed = λ parts. map typed_of parts.items in
    let p = err_from_is_err_and c.from_residual-in_err-add_element-2.result c.from_residual-in_err-add_element-2.ensures.1 in
    record {
      exact = rw (p.1, p.2) (loop.elements_fault env strings c.loop-expr.parts.items (drop i items) (drop (i + 1) items) one
          (part.elements env strings (see.args_of a)) c.in_err-add_element-2.field-0.0 stated given
          here c.in_err-add_element-2.ensures.exact
          (c.loop-expr.invariant.left ∙ whole ∙ ap (λ xs. part.elements env strings xs) seen));
    }

pub parts-loop-expr-preserved : goal.parts-loop-expr-preserved
parts-loop-expr-preserved t c =
    let env = environment c.args.known.now in
    let items = c.items-expr-items.result.now in
    let i = c.loop-expr.expr-index in
    let one = c.expr-item.result in
    let here : drop i items ≡ one ∷ drop (i + 1) items = drop_more items i one (omega arith) ∙ ap (λ x. x ∷ drop (i + 1) items) (sym c.expr-item.is) in
    record {
      left = loop.elements_step env c.args.strings c.loop-expr.parts.items c.add_element-in-loop-expr.new.parts.items (drop i items) (drop (i + 1) items) one _
          here c.in_ok-add_element-2.ensures.exact c.loop-expr.invariant.left;
    }

pub parts-returns : goal.parts-returns
parts-returns t c =
    let env = environment c.args.known.now in
    let strings = c.args.strings in
    let a = c.args.args.now in
    let items = c.items-expr-items.result.now in
    let seen : text.args (expr_of c.deref.result.now) (see.exprs (map expr_of items)) ≡ see.args_of a =
    ap (λ xs. text.args (expr_of c.deref.result.now) (see.exprs (map expr_of xs))) c.items-expr-items.ensures.exact
    ∙ ap (λ x. text.args (expr_of x) (see.exprs_of (out-Args a).more)) c.deref.ensures
    ∙ sym (args_seen a) in
    let whole = loop.elements_all env strings (expr_of c.deref.result.now) (see.exprs (map expr_of items)) c.new-parts.result.items
    c.add_element.new.parts.items c.new-parts.ensures.items c.in_ok-add_element.ensures.exact in
    record {
      exact = loop.elements_end env strings c.loop-expr.parts.items (drop c.loop-expr.expr-index items) (part.elements env strings (see.args_of a))
          (drop_of_length-le items c.loop-expr-test.false)
          (c.loop-expr.invariant.left ∙ whole ∙ ap (λ xs. part.elements env strings xs) seen);
    }
