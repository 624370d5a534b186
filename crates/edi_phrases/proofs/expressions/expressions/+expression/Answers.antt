use Rattle.std.proofs.Common.{rules, ◌∷◌, ◌∙◌, [], map, ap, refl, sym, arith, ◌≡◌, Some}
use Rattle.std.proofs.lemmas.Bool.{ne_eqb, eqb-true}
use Rattle.edi_lex.specs.declared.symbol.Symbol.TheVariants as is
use Rattle.edi_tree.specs.Stands.{on, just, name_mark}
use Rattle.edi_tree.specs.Levels as elements
use Rattle.edi_tree.specs.View as view
use Rattle.edi_grammar.specs.Grammar as item
use Rattle.edi_grammar.specs.Grammar.{token, part}
use Rattle.edi_grammar.specs.Parser.{rule_at}
use Rattle.edi_grammar.specs.Kinds as kind
use Rattle.edi_grammar.specs.Kind.{front}
use Rattle.edi_grammar.specs.Rules as g
use Rattle.edi_grammar.specs.Edison.{edison}
use Rattle.edi_phrases.specs.Words.{at_line}
use Rattle.edi_phrases.proofs.Moves.{at_exit, waits, over_mark, over_end, over_part, into, written, lacks, refused, halts}
use Rattle.edi_phrases.proofs.Pushes.{one_more, separated, separated_halts, repeated, repeated_halts}
use Rattle.edi_phrases.proofs.Opened.{over_front, open_front}
use Rattle.std.proofs.lemmas.Int.{to_z-of_z}
use mir.Syntax.{w16}
use Rattle.edi_phrases.proofs.Fronts.{apart}
use Rattle.edi_phrases.proofs.expressions.Operators as ops
use Rattle.edi_phrases.proofs.expressions.expressions.+expression.Goals as goal

selector_openbracket : rule_at edison g.Selector kind.OpenBracket ≡ Some (token kind.OpenBracket ∷ part g.Expr ∷ token kind.CloseBracket ∷ item.level_end ∷ [])
selector_openbracket = refl

selector_period : rule_at edison g.Selector kind.Period ≡ Some (token kind.Period ∷ token kind.Name ∷ [])
selector_period = refl

args_open : rule_at edison g.Args kind.Open ≡ Some (token kind.Open ∷ part g.Expr ∷ part g.Exprs ∷ token kind.Close ∷ item.level_end ∷ [])
args_open = refl

factor_not : rule_at edison g.Factor kind.Not ≡ Some (token kind.Not ∷ part g.Factor ∷ item.level_end ∷ [])
factor_not = refl

factor_open : rule_at edison g.Factor kind.Open ≡ Some (token kind.Open ∷ part g.Expr ∷ token kind.Close ∷ item.level_end ∷ [])
factor_open = refl

factor_name : rule_at edison g.Factor kind.Name ≡ Some (token kind.Name ∷ part g.Behind ∷ [])
factor_name = refl

factor_val : rule_at edison g.Factor kind.Val ≡ Some (token kind.Val ∷ token kind.Name ∷ part g.Selectors ∷ [])
factor_val = refl

factor_numeral : rule_at edison g.Factor kind.Numeral ≡ Some (token kind.Numeral ∷ [])
factor_numeral = refl

pub parse_index-returns-in_err-line-clause-halts : goal.parse_index-returns-in_err-line-clause-halts
parse_index-returns-in_err-line-clause-halts t c = at_exit _ c.from_residual.ensures.1 (refused (into
    (token kind.OpenBracket ∷ part g.Expr ∷ token kind.CloseBracket ∷ item.level_end ∷ []) (waits g.Selector _ _)
    (rw (ne_eqb (front _) kind.Period c.requires.chosen) refl)) refl (omega arith) c.in_err-line.ensures.none)

pub parse_index-returns-in_err-index-clause-halts : goal.parse_index-returns-in_err-index-clause-halts
parse_index-returns-in_err-index-clause-halts t c = at_exit _ c.from_residual-in_err-index.ensures.1
    (halts (open_front g.Selector is.OpenBracket (on is.OpenBracket c.in_ok-line.line) selector_openbracket (omega (arith, c.in_ok-line.ensures.room))
    (refl, refl) (waits g.Selector _ _) c.in_ok-line.ensures.found) (omega arith) c.in_err-index.ensures.halts)

pub parse_index-returns-in_err-rest-clause-halts : goal.parse_index-returns-in_err-rest-clause-halts
parse_index-returns-in_err-rest-clause-halts t c = at_exit _ c.from_residual-in_err-rest.ensures.1
    (lacks (over_part (open_front g.Selector is.OpenBracket (on is.OpenBracket c.in_ok-line.line) selector_openbracket
    (omega (arith, c.in_ok-line.ensures.room)) (refl, refl) (waits g.Selector _ _) c.in_ok-line.ensures.found) c.in_ok-index.ensures.passes (omega arith))
    c.in_err-rest.ensures.none)

pub parse_index-returns-clause-passes : goal.parse_index-returns-clause-passes
parse_index-returns-clause-passes t c = written
    (over_end (over_mark (just is.CloseBracket) (at_line is.CloseBracket c.in_ok-rest.field-0-0)
    (over_part (open_front g.Selector is.OpenBracket (on is.OpenBracket c.in_ok-line.line) selector_openbracket (omega (arith, c.in_ok-line.ensures.room))
    (refl, refl) (waits g.Selector _ _) c.in_ok-line.ensures.found) c.in_ok-index.ensures.passes (omega arith)) c.in_ok-rest.ensures.found refl refl
    (refl, tt))) (λ es. ap (λ t. elements.selector_elements t es) (sym c.in_ok-selector.ensures.seen))

pub parse_selector-returns-in_err-field-clause-halts : goal.parse_selector-returns-in_err-field-clause-halts
parse_selector-returns-in_err-field-clause-halts t c = at_exit _ c.from_residual.ensures.1 (lacks (over_front g.Selector is.Period (on is.Period c.in-Some.line)
    selector_period refl (refl, refl) (waits g.Selector _ _) c.in-Some.ensures.found) c.in_err-field.ensures.none)

pub parse_selector-returns-in-Some-clause-passes : goal.parse_selector-returns-in-Some-clause-passes
parse_selector-returns-in-Some-clause-passes t c = written
    (over_mark (name_mark c.in_ok-field.field) (at_line (is.Name c.in_ok-field.field.text) c.in_ok-field.field.line)
    (over_front g.Selector is.Period (on is.Period c.in-Some.line) selector_period refl (refl, refl) (waits g.Selector _ _) c.in-Some.ensures.found)
    c.in_ok-field.ensures.found refl refl (refl, refl)) (λ es. ap (λ t. elements.selector_elements t es) (sym c.make_field.ensures.seen))

pub parse_selectors-returns-in_err-selector-clause-halts : goal.parse_selectors-returns-in_err-selector-clause-halts
parse_selectors-returns-in_err-selector-clause-halts t c = at_exit _ c.from_residual.ensures.1 (repeated_halts g.Selectors g.Selector
    (ops.selectors_more (front c.loop-alloc.rest.now) (sym c.at_selector.ensures.exact ∙ c.loop-alloc-test.true)) c.loop-alloc.invariant.goes
    c.in_err-selector.ensures.halts)

pub parse_selectors-loop-alloc-preserved : goal.parse_selectors-loop-alloc-preserved
parse_selectors-loop-alloc-preserved t c =
    record {
      goes = repeated g.Selectors g.Selector (λ x. elements.selector_elements (view.selector_of x))
          (λ l. elements.selectors_elements (view.selectors (map view.selector_of l))) (λ es. refl) (λ x l es. refl) c.loop-alloc.selectors.items
          c.push.new.self.items c.in_ok-selector.selector (search rules)
          (ops.selectors_more (front c.loop-alloc.rest.now) (sym c.at_selector.ensures.exact ∙ c.loop-alloc-test.true)) c.loop-alloc.invariant.goes
          c.in_ok-selector.ensures.passes;
      shorter = omega (arith, c.loop-alloc.invariant.shorter, c.in_ok-selector.ensures.shorter);
    }

pub parse_selectors-returns-clause-passes : goal.parse_selectors-returns-clause-passes
parse_selectors-returns-clause-passes t c = written
    (into [] (c.loop-alloc.invariant.goes) (ops.selectors_end (front c.loop-alloc.rest.now) (sym c.at_selector.ensures.exact ∙ c.loop-alloc-test.false)))
    (λ es. ap (λ l. elements.selectors_elements (view.selectors (map view.selector_of l)) es) (sym c.from_vec.ensures.exact))

pub parse_exprs-returns-in_err-expr-clause-halts : goal.parse_exprs-returns-in_err-expr-clause-halts
parse_exprs-returns-in_err-expr-clause-halts t c = at_exit _ c.from_residual.ensures.1 (separated_halts g.Exprs g.Expr is.Comma refl refl
    c.loop-behind_comma.invariant.goes c.in-Some.ensures.found c.in_err-expr.ensures.halts)

pub parse_exprs-loop-behind_comma-preserved : goal.parse_exprs-loop-behind_comma-preserved
parse_exprs-loop-behind_comma-preserved t c =
    record {
      goes = separated g.Exprs g.Expr is.Comma (λ x. elements.expr_elements (view.expr_of x)) (λ l. elements.exprs_elements (view.exprs (map view.expr_of l)))
          (λ es. refl) (λ x l es. refl) refl refl c.loop-behind_comma.exprs.items c.push.new.self.items c.in_ok-expr.expr (search rules)
          c.loop-behind_comma.invariant.goes c.in-Some.ensures.found c.in_ok-expr.ensures.passes;
      shorter = omega (arith, c.loop-behind_comma.invariant.shorter, c.in-Some.ensures.shorter, c.in_ok-expr.ensures.shorter);
    }

pub parse_exprs-returns-clause-passes : goal.parse_exprs-returns-clause-passes
parse_exprs-returns-clause-passes t c = written
    (into ([]) (c.loop-behind_comma.invariant.goes) (rw (ne_eqb (front _) kind.Comma c.in_default.ensures.none) refl))
    (λ es. ap (λ l. elements.exprs_elements (view.exprs (map view.expr_of l)) es) (sym c.from_vec.ensures.exact))

pub parse_args-returns-in_err-behind_open-clause-halts : goal.parse_args-returns-in_err-behind_open-clause-halts
parse_args-returns-in_err-behind_open-clause-halts t c = at_exit _ c.from_residual.ensures.1 (refused
    (into (token kind.Open ∷ part g.Expr ∷ part g.Exprs ∷ token kind.Close ∷ item.level_end ∷ []) (waits g.Args _ _) (refl)) refl (omega arith)
    c.in_err-behind_open.ensures.none)

pub parse_args-returns-in_err-first-clause-halts : goal.parse_args-returns-in_err-first-clause-halts
parse_args-returns-in_err-first-clause-halts t c = at_exit _ c.from_residual-in_err-first.ensures.1
    (halts (open_front g.Args is.Open (just is.Open) args_open (omega (arith, c.in_ok-behind_open.ensures.room)) (refl, tt) (waits g.Args _ _)
    c.in_ok-behind_open.ensures.found) (omega arith) c.in_err-first.ensures.halts)

pub parse_args-returns-in_err-more-clause-halts : goal.parse_args-returns-in_err-more-clause-halts
parse_args-returns-in_err-more-clause-halts t c = at_exit _ c.from_residual-in_err-more.ensures.1 (halts
    (over_part (open_front g.Args is.Open (just is.Open) args_open (omega (arith, c.in_ok-behind_open.ensures.room)) (refl, tt) (waits g.Args _ _)
    c.in_ok-behind_open.ensures.found) c.in_ok-first.ensures.passes (omega arith)) (omega arith) c.in_err-more.ensures.halts)

pub parse_args-returns-in_err-rest-clause-halts : goal.parse_args-returns-in_err-rest-clause-halts
parse_args-returns-in_err-rest-clause-halts t c = at_exit _ c.from_residual-in_err-rest.ensures.1 (lacks
    (over_part (over_part (open_front g.Args is.Open (just is.Open) args_open (omega (arith, c.in_ok-behind_open.ensures.room)) (refl, tt) (waits g.Args _ _)
    c.in_ok-behind_open.ensures.found) c.in_ok-first.ensures.passes (omega arith)) c.in_ok-more.ensures.passes (omega arith)) c.in_err-rest.ensures.none)

pub parse_args-returns-clause-passes : goal.parse_args-returns-clause-passes
parse_args-returns-clause-passes t c = written
    (over_end (over_mark (just is.Close) (at_line is.Close c.in_ok-rest.field-0-0)
    (over_part (over_part (open_front g.Args is.Open (just is.Open) args_open (omega (arith, c.in_ok-behind_open.ensures.room)) (refl, tt) (waits g.Args _ _)
    c.in_ok-behind_open.ensures.found) c.in_ok-first.ensures.passes (omega arith)) c.in_ok-more.ensures.passes (omega arith)) c.in_ok-rest.ensures.found refl
    refl (refl, tt))) (λ es. ap (λ t. elements.args_elements t es) (sym c.in_ok-args.ensures.seen))

pub parse_not-returns-in_err-line-clause-halts : goal.parse_not-returns-in_err-line-clause-halts
parse_not-returns-in_err-line-clause-halts t c = at_exit _ c.from_residual.ensures.1 (refused (into (token kind.Not ∷ part g.Factor ∷ item.level_end ∷ [])
    (waits g.Factor _ _) (ap (λ a. rule_at edison g.Factor a) c.requires.chosen ∙ factor_not)) refl (omega arith) c.in_err-line.ensures.none)

pub parse_not-returns-in_err-factor-clause-halts : goal.parse_not-returns-in_err-factor-clause-halts
parse_not-returns-in_err-factor-clause-halts t c = at_exit _ c.from_residual-in_err-factor.ensures.1
    (halts (open_front g.Factor is.Not (on is.Not c.in_ok-line.line) factor_not (omega (arith, c.in_ok-line.ensures.room)) (refl, refl) (waits g.Factor _ _)
    c.in_ok-line.ensures.found) (omega arith) c.in_err-factor.ensures.halts)

pub parse_not-returns-clause-passes : goal.parse_not-returns-clause-passes
parse_not-returns-clause-passes t c = written
    (over_end (over_part (open_front g.Factor is.Not (on is.Not c.in_ok-line.line) factor_not (omega (arith, c.in_ok-line.ensures.room)) (refl, refl)
    (waits g.Factor _ _) c.in_ok-line.ensures.found) c.in_ok-factor.ensures.passes (omega arith)))
    (λ es. ap (λ t. elements.factor_elements t es) (sym c.in_ok-negation.ensures.seen))

pub parse_parenthesized-returns-in_err-behind_open-clause-halts : goal.parse_parenthesized-returns-in_err-behind_open-clause-halts
parse_parenthesized-returns-in_err-behind_open-clause-halts t c = at_exit _ c.from_residual.ensures.1
    (refused (into (token kind.Open ∷ part g.Expr ∷ token kind.Close ∷ item.level_end ∷ []) (waits g.Factor _ _)
    (ap (λ a. rule_at edison g.Factor a) c.requires.chosen ∙ factor_open)) refl (omega arith) c.in_err-behind_open.ensures.none)

pub parse_parenthesized-returns-in_err-expr-clause-halts : goal.parse_parenthesized-returns-in_err-expr-clause-halts
parse_parenthesized-returns-in_err-expr-clause-halts t c = at_exit _ c.from_residual-in_err-expr.ensures.1
    (halts (open_front g.Factor is.Open (just is.Open) factor_open (omega (arith, c.in_ok-behind_open.ensures.room)) (refl, tt) (waits g.Factor _ _)
    c.in_ok-behind_open.ensures.found) (omega arith) c.in_err-expr.ensures.halts)

pub parse_parenthesized-returns-in_err-rest-clause-halts : goal.parse_parenthesized-returns-in_err-rest-clause-halts
parse_parenthesized-returns-in_err-rest-clause-halts t c = at_exit _ c.from_residual-in_err-rest.ensures.1
    (lacks (over_part (open_front g.Factor is.Open (just is.Open) factor_open (omega (arith, c.in_ok-behind_open.ensures.room)) (refl, tt)
    (waits g.Factor _ _) c.in_ok-behind_open.ensures.found) c.in_ok-expr.ensures.passes (omega arith)) c.in_err-rest.ensures.none)

pub parse_parenthesized-returns-clause-passes : goal.parse_parenthesized-returns-clause-passes
parse_parenthesized-returns-clause-passes t c = written
    (over_end (over_mark (just is.Close) (at_line is.Close c.in_ok-rest.field-0-0)
    (over_part (open_front g.Factor is.Open (just is.Open) factor_open (omega (arith, c.in_ok-behind_open.ensures.room)) (refl, tt) (waits g.Factor _ _)
    c.in_ok-behind_open.ensures.found) c.in_ok-expr.ensures.passes (omega arith)) c.in_ok-rest.ensures.found refl refl (refl, tt)))
    (λ es. ap (λ t. elements.factor_elements t es) (sym c.in_ok-factor.ensures.seen))

pub parse_named-returns-in_err-name-clause-halts : goal.parse_named-returns-in_err-name-clause-halts
parse_named-returns-in_err-name-clause-halts t c = at_exit _ c.from_residual.ensures.1 (lacks (into (token kind.Name ∷ part g.Behind ∷ []) (waits g.Factor _ _)
    (ap (λ a. rule_at edison g.Factor a) c.requires.chosen ∙ factor_name)) c.in_err-name.ensures.none)

pub parse_named-returns-in_err-args-clause-halts : goal.parse_named-returns-in_err-args-clause-halts
parse_named-returns-in_err-args-clause-halts t c = at_exit _ c.from_residual-in_err-args.ensures.1
    (halts (into (part g.Args ∷ []) (over_front g.Factor (is.Name c.in_ok-name.name.text) (name_mark c.in_ok-name.name) factor_name refl (refl, refl)
    (waits g.Factor _ _) c.in_ok-name.ensures.found) (ap (λ a. rule_at edison g.Behind a) (eqb-true (front c.in_ok-name.behind_name.now) kind.Open
    (sym c.at.ensures.exact ∙ c.if-at.true)))) (omega arith) c.in_err-args.ensures.halts)

pub parse_named-returns-then-at-clause-passes : goal.parse_named-returns-then-at-clause-passes
parse_named-returns-then-at-clause-passes t c = written
    (over_part (into (part g.Args ∷ []) (over_front g.Factor (is.Name c.in_ok-name.name.text) (name_mark c.in_ok-name.name) factor_name refl (refl, refl)
    (waits g.Factor _ _) c.in_ok-name.ensures.found)
    (ap (λ a. rule_at edison g.Behind a) (eqb-true (front c.in_ok-name.behind_name.now) kind.Open (sym c.at.ensures.exact ∙ c.if-at.true))))
    c.in_ok-args.ensures.passes (omega arith)) (λ es. ap (λ t. elements.factor_elements t es) (sym c.make_call.ensures.seen))

pub parse_named-returns-in_err-selectors-clause-halts : goal.parse_named-returns-in_err-selectors-clause-halts
parse_named-returns-in_err-selectors-clause-halts t c = at_exit _ c.from_residual-in_err-selectors.ensures.1
    (halts (into (part g.Selectors ∷ []) (over_front g.Factor (is.Name c.in_ok-name.name.text) (name_mark c.in_ok-name.name) factor_name refl (refl, refl)
    (waits g.Factor _ _) c.in_ok-name.ensures.found) (rw (sym c.at.ensures.exact ∙ c.if-at.false) refl)) (omega arith) c.in_err-selectors.ensures.halts)

pub parse_named-returns-clause-passes : goal.parse_named-returns-clause-passes
parse_named-returns-clause-passes t c = written
    (over_part (into (part g.Selectors ∷ [])
    (over_front g.Factor (is.Name c.in_ok-name.name.text) (name_mark c.in_ok-name.name) factor_name refl (refl, refl) (waits g.Factor _ _)
    c.in_ok-name.ensures.found) (rw (sym c.at.ensures.exact ∙ c.if-at.false) refl)) c.in_ok-selectors.ensures.passes (omega arith))
    (λ es. ap (λ t. elements.factor_elements t es) (sym c.make_variable.ensures.seen))

pub parse_val-returns-in_err-behind_val-clause-halts : goal.parse_val-returns-in_err-behind_val-clause-halts
parse_val-returns-in_err-behind_val-clause-halts t c = at_exit _ c.from_residual.ensures.1 (lacks (into (token kind.Val ∷ token kind.Name ∷ part g.Selectors ∷ []) (waits g.Factor _ _)
    (let h1 = apart (front c.args.marks.now) kind.Numeral (kind.Char ∷ kind.Text ∷ kind.Not ∷ kind.Open ∷ kind.Name ∷ []) c.requires.chosen in
    let h2 = apart (front c.args.marks.now) kind.Char (kind.Text ∷ kind.Not ∷ kind.Open ∷ kind.Name ∷ []) h1.1 in
    let h3 = apart (front c.args.marks.now) kind.Text (kind.Not ∷ kind.Open ∷ kind.Name ∷ []) h2.1 in
    let h4 = apart (front c.args.marks.now) kind.Not (kind.Open ∷ kind.Name ∷ []) h3.1 in
    let h5 = apart (front c.args.marks.now) kind.Open (kind.Name ∷ []) h4.1 in let h6 = apart (front c.args.marks.now) kind.Name ([]) h5.1 in
    rw (h1.0, h2.0, h3.0, h4.0, h5.0, h6.0) refl)) c.in_err-behind_val.ensures.none)

pub parse_val-returns-in_err-name-clause-halts : goal.parse_val-returns-in_err-name-clause-halts
parse_val-returns-in_err-name-clause-halts t c = at_exit _ c.from_residual-in_err-name.ensures.1 (lacks
    (over_front g.Factor is.Val (just is.Val) factor_val refl (refl, tt) (waits g.Factor _ _) c.in_ok-behind_val.ensures.found) c.in_err-name.ensures.none)

pub parse_val-returns-in_err-selectors-clause-halts : goal.parse_val-returns-in_err-selectors-clause-halts
parse_val-returns-in_err-selectors-clause-halts t c = at_exit _ c.from_residual-in_err-selectors.ensures.1
    (halts (over_mark (name_mark c.in_ok-name.name) (at_line (is.Name c.in_ok-name.name.text) c.in_ok-name.name.line)
    (over_front g.Factor is.Val (just is.Val) factor_val refl (refl, tt) (waits g.Factor _ _) c.in_ok-behind_val.ensures.found) c.in_ok-name.ensures.found
    refl refl (refl, refl)) (omega arith) c.in_err-selectors.ensures.halts)

pub parse_val-returns-clause-passes : goal.parse_val-returns-clause-passes
parse_val-returns-clause-passes t c = written
    (over_part (over_mark (name_mark c.in_ok-name.name) (at_line (is.Name c.in_ok-name.name.text) c.in_ok-name.name.line)
    (over_front g.Factor is.Val (just is.Val) factor_val refl (refl, tt) (waits g.Factor _ _) c.in_ok-behind_val.ensures.found) c.in_ok-name.ensures.found refl
    refl (refl, refl)) c.in_ok-selectors.ensures.passes (omega arith)) (λ es. ap (λ t. elements.factor_elements t es) (sym c.make_variable.ensures.seen))

pub parse_multipliers-returns-in_err-factor-clause-halts : goal.parse_multipliers-returns-in_err-factor-clause-halts
parse_multipliers-returns-in_err-factor-clause-halts t c = at_exit _ c.from_residual.ensures.1 (halts
    (ops.over_multiplication (into (part g.Multiplication ∷ part g.Factor ∷ []) (into (part g.Multiplier ∷ part g.Multipliers ∷ [])
    (c.loop-operator.invariant.goes) (ops.multipliers_at c.in-Some.operator c.in-Some.line _ _ c.in-Some.ensures.found)) (refl)) c.in-Some.operator
    c.in-Some.line c.in-Some.ensures.found) (omega arith) c.in_err-factor.ensures.halts)

pub parse_multipliers-loop-operator-preserved : goal.parse_multipliers-loop-operator-preserved
parse_multipliers-loop-operator-preserved t c =
    record {
      goes = written (over_part (ops.over_multiplication
          (into (part g.Multiplication ∷ part g.Factor ∷ [])
          (into (part g.Multiplier ∷ part g.Multipliers ∷ []) (c.loop-operator.invariant.goes)
          (ops.multipliers_at c.in-Some.operator c.in-Some.line _ _ c.in-Some.ensures.found)) (refl)) c.in-Some.operator c.in-Some.line c.in-Some.ensures.found)
          c.in_ok-factor.ensures.passes (omega arith))
          (λ es. ap (λ t. elements.multipliers_elements (view.multipliers (map view.multiplier_of c.loop-operator.multipliers.items))
          (elements.multiplier_elements t es)) (sym c.make_multiplier.ensures.seen) ∙ one_more (λ x. elements.multiplier_elements (view.multiplier_of x)) (λ l. elements.multipliers_elements (view.multipliers (map view.multiplier_of l)))
          (λ es. refl) (λ x l es. refl) c.loop-operator.multipliers.items c.push.new.self.items c.make_multiplier.result (search rules) es);
      shorter = omega (arith, c.loop-operator.invariant.shorter, c.in-Some.ensures.shorter, c.in_ok-factor.ensures.shorter);
    }

pub parse_multipliers-returns-clause-passes : goal.parse_multipliers-returns-clause-passes
parse_multipliers-returns-clause-passes t c = written
    (into [] (c.loop-operator.invariant.goes) (ops.multipliers_end (front c.loop-operator.rest.now) c.in_default.ensures.none))
    (λ es. ap (λ l. elements.multipliers_elements (view.multipliers (map view.multiplier_of l)) es) (sym c.from_vec.ensures.exact))

pub parse_addends-returns-in_err-term-clause-halts : goal.parse_addends-returns-in_err-term-clause-halts
parse_addends-returns-in_err-term-clause-halts t c = at_exit _ c.from_residual.ensures.1 (halts (ops.over_addition
    (into (part g.Addition ∷ part g.Term ∷ []) (into (part g.Addend ∷ part g.Addends ∷ []) (c.loop-operator.invariant.goes)
    (ops.addends_at c.in-Some.operator c.in-Some.line _ _ c.in-Some.ensures.found)) (refl)) c.in-Some.operator c.in-Some.line c.in-Some.ensures.found)
    (omega arith) c.in_err-term.ensures.halts)

pub parse_addends-loop-operator-preserved : goal.parse_addends-loop-operator-preserved
parse_addends-loop-operator-preserved t c =
    record {
      goes = written (over_part (ops.over_addition
          (into (part g.Addition ∷ part g.Term ∷ [])
          (into (part g.Addend ∷ part g.Addends ∷ []) (c.loop-operator.invariant.goes) (ops.addends_at c.in-Some.operator c.in-Some.line _ _ c.in-Some.ensures.found))
          (refl)) c.in-Some.operator c.in-Some.line c.in-Some.ensures.found) c.in_ok-term.ensures.passes (omega arith))
          (λ es. ap (λ t. elements.addends_elements (view.addends (map view.addend_of c.loop-operator.addends.items)) (elements.addend_elements t es))
          (sym c.make_addend.ensures.seen) ∙ one_more (λ x. elements.addend_elements (view.addend_of x)) (λ l. elements.addends_elements (view.addends (map view.addend_of l)))
          (λ es. refl) (λ x l es. refl) c.loop-operator.addends.items c.push.new.self.items c.make_addend.result (search rules) es);
      shorter = omega (arith, c.loop-operator.invariant.shorter, c.in-Some.ensures.shorter, c.in_ok-term.ensures.shorter);
    }

pub parse_addends-returns-clause-passes : goal.parse_addends-returns-clause-passes
parse_addends-returns-clause-passes t c = written
    (into [] (c.loop-operator.invariant.goes) (ops.addends_end (front c.loop-operator.rest.now) c.in_default.ensures.none))
    (λ es. ap (λ l. elements.addends_elements (view.addends (map view.addend_of l)) es) (sym c.from_vec.ensures.exact))

pub parse_term-returns-in_err-first-clause-halts : goal.parse_term-returns-in_err-first-clause-halts
parse_term-returns-in_err-first-clause-halts t c = at_exit _ c.from_residual.ensures.1 (halts (into (part g.Factor ∷ part g.Multipliers ∷ []) (waits g.Term _ _)
    (refl)) (omega arith) c.in_err-first.ensures.halts)

pub parse_term-returns-in_err-more-clause-halts : goal.parse_term-returns-in_err-more-clause-halts
parse_term-returns-in_err-more-clause-halts t c = at_exit _ c.from_residual-in_err-more.ensures.1 (halts
    (over_part (into (part g.Factor ∷ part g.Multipliers ∷ []) (waits g.Term _ _) (refl)) c.in_ok-first.ensures.passes (omega arith)) (omega arith)
    c.in_err-more.ensures.halts)

pub parse_term-returns-clause-passes : goal.parse_term-returns-clause-passes
parse_term-returns-clause-passes t c = written
    (over_part (over_part (into (part g.Factor ∷ part g.Multipliers ∷ []) (waits g.Term _ _) (refl)) c.in_ok-first.ensures.passes (omega arith))
    c.in_ok-more.ensures.passes (omega arith)) (λ es. ap (λ t. elements.term_elements t es) (sym c.make_term.ensures.seen))

pub parse_simple-returns-in_err-first-clause-halts : goal.parse_simple-returns-in_err-first-clause-halts
parse_simple-returns-in_err-first-clause-halts t c = at_exit _ c.from_residual.ensures.1 (halts (over_part
    (into (part g.Sign ∷ part g.Term ∷ part g.Addends ∷ []) (waits g.Simple _ _) (refl)) (c.eat_sign-sign.ensures.passes c.args.level) (omega arith))
    (omega arith) c.in_err-first.ensures.halts)

pub parse_simple-returns-in_err-more-clause-halts : goal.parse_simple-returns-in_err-more-clause-halts
parse_simple-returns-in_err-more-clause-halts t c = at_exit _ c.from_residual-in_err-more.ensures.1
    (halts (over_part (over_part (into (part g.Sign ∷ part g.Term ∷ part g.Addends ∷ []) (waits g.Simple _ _) (refl))
    (c.eat_sign-sign.ensures.passes c.args.level) (omega arith)) c.in_ok-first.ensures.passes (omega arith)) (omega arith) c.in_err-more.ensures.halts)

pub parse_simple-returns-clause-passes : goal.parse_simple-returns-clause-passes
parse_simple-returns-clause-passes t c = written
    (over_part (over_part (over_part (into (part g.Sign ∷ part g.Term ∷ part g.Addends ∷ []) (waits g.Simple _ _) (refl))
    (c.eat_sign-sign.ensures.passes c.args.level) (omega arith)) c.in_ok-first.ensures.passes (omega arith)) c.in_ok-more.ensures.passes (omega arith))
    (λ es. ap (λ t. elements.simple_elements t es) (sym c.make_simple.ensures.seen))

pub parse_comparison-returns-in_default-clause-passes : goal.parse_comparison-returns-in_default-clause-passes
parse_comparison-returns-in_default-clause-passes t c = into [] (waits g.Comparison _ _) (ops.comparison_end (front c.args.marks.now) c.in_default.ensures.none)

pub parse_comparison-returns-in_err-right-clause-halts : goal.parse_comparison-returns-in_err-right-clause-halts
parse_comparison-returns-in_err-right-clause-halts t c = at_exit _ c.from_residual.ensures.1 (halts
    (ops.over_relation (into (part g.Relation ∷ part g.Simple ∷ []) (waits g.Comparison _ _) (ops.comparison_at c.in-Some.relation c.in-Some.line _ _
    c.in-Some.ensures.found)) c.in-Some.relation c.in-Some.line c.in-Some.ensures.found) (omega arith) c.in_err-right.ensures.halts)

pub parse_comparison-returns-clause-passes : goal.parse_comparison-returns-clause-passes
parse_comparison-returns-clause-passes t c = written
    (over_part (ops.over_relation (into (part g.Relation ∷ part g.Simple ∷ []) (waits g.Comparison _ _)
    (ops.comparison_at c.in-Some.relation c.in-Some.line _ _ c.in-Some.ensures.found)) c.in-Some.relation c.in-Some.line c.in-Some.ensures.found)
    c.in_ok-right.ensures.passes (omega arith)) (λ es. ap (λ t. elements.comparison_elements t es) (sym c.make_comparison.ensures.seen))

pub parse_expr-returns-in_err-left-clause-halts : goal.parse_expr-returns-in_err-left-clause-halts
parse_expr-returns-in_err-left-clause-halts t c = at_exit _ c.from_residual.ensures.1 (halts (into (part g.Simple ∷ part g.Comparison ∷ []) (waits g.Expr _ _)
    (refl)) (omega arith) c.in_err-left.ensures.halts)

pub parse_expr-returns-in_err-comparison-clause-halts : goal.parse_expr-returns-in_err-comparison-clause-halts
parse_expr-returns-in_err-comparison-clause-halts t c = at_exit _ c.from_residual-in_err-comparison.ensures.1
    (halts (over_part (into (part g.Simple ∷ part g.Comparison ∷ []) (waits g.Expr _ _) (refl)) c.in_ok-left.ensures.passes (omega arith)) (omega arith)
    c.in_err-comparison.ensures.halts)

pub parse_expr-returns-clause-passes : goal.parse_expr-returns-clause-passes
parse_expr-returns-clause-passes t c = written
    (over_part (over_part (into (part g.Simple ∷ part g.Comparison ∷ []) (waits g.Expr _ _) (refl)) c.in_ok-left.ensures.passes (omega arith))
    c.in_ok-comparison.ensures.passes (omega arith)) (λ es. ap (λ t. elements.expr_elements t es) (sym c.make_expr.ensures.seen))

pub parse_factor-returns-in-Some-clause-passes : goal.parse_factor-returns-in-Some-clause-passes
parse_factor-returns-in-Some-clause-passes t c = written
    (over_front g.Factor (is.Numeral c.in-Some.value) (just (is.Numeral c.in-Some.value)) factor_numeral refl (refl, tt) (waits g.Factor _ _)
    c.in-Some.ensures.found.1) (λ es. ap (λ v. elements.word (is.Numeral v) ∷ es) (sym (to_z-of_z w16 c.in-Some.value (search rules)))
    ∙ ap (λ t. elements.factor_elements t es) (sym c.make_numeral.ensures.seen))
