-- Expressions: a tree whose elements fit is read.
use Rattle.std.proofs.Common.{ℕ, List, [], ◌∷◌, Option, Some, None, refl, sym, ap, ◌∙◌}
use Rattle.edi_lex.specs.declared.symbol.Symbol.TheVariants as is
use Rattle.edi_tree.specs.declared.expressions.Relation.{Relation}
use Rattle.edi_tree.specs.declared.expressions.Relation.TheVariants as relation
use Rattle.edi_tree.specs.declared.expressions.Sign.{Sign}
use Rattle.edi_tree.specs.declared.expressions.Sign.TheVariants as sign
use Rattle.edi_tree.specs.declared.expressions.Addition.{Addition}
use Rattle.edi_tree.specs.declared.expressions.Addition.TheVariants as addition
use Rattle.edi_tree.specs.declared.expressions.Multiplication.{Multiplication}
use Rattle.edi_tree.specs.declared.expressions.Multiplication.TheVariants as multiplication
use Rattle.edi_tree.specs.declared.expressions.Root.TheVariants as root
use Rattle.edi_tree.specs.Tree.{Expr, expr, Comparison, no_comparison, compared, Exprs, no_expr, next_expr, Simple, simple, Addend, addend, Addends}
use Rattle.edi_tree.specs.Tree.{no_addend, next_addend, Term, term, Multiplier, multiplier, Multipliers, no_multiplier, next_multiplier, Factor, numeral}
use Rattle.edi_tree.specs.Tree.{string, not_factor, parenthesized, call_factor, variable_factor, Args, args, variable, Selector, field, index, Selectors}
use Rattle.edi_tree.specs.Tree.{no_selector, next_selector}
use Rattle.edi_tree.specs.Stands.{on}
use Rattle.edi_tree.specs.Levels.{Element, mark, level_end, word, addend_elements, addends_elements, args_elements, comparison_elements, expr_elements}
use Rattle.edi_tree.specs.Levels.{exprs_elements, factor_elements, multiplier_elements, multipliers_elements, selector_elements, selectors_elements}
use Rattle.edi_tree.specs.Levels.{sign_elements, simple_elements, term_elements}
use Rattle.edi_grammar.specs.Kind.{kind_of}
use Rattle.edi_grammar.specs.Rules as g
use Rattle.edi_grammar.specs.derivation.Parts.{with_args, selected, relation_elements, addition_elements, multiplication_elements}
use Rattle.edi_grammar.specs.derivation.Fits.{Items, Fit}
use Rattle.edi_grammar.proofs.derivation.Builds.{value_of, line_in, couple, factor_with}
use Rattle.edi_grammar.proofs.derivation.Stands.{name_is, chars_is, chars_on}
use Rattle.edi_grammar.proofs.derivation.Reading.{done, past, past_end, past_part, takes, takes_parts, takes_behind, takes_kept, takes_within, Takes}

pub relation_takes : (t : Relation × ℕ) (es : List Element) (items : Items) → Fit (relation_elements t es) items → Takes g.Relation t es items
relation_takes (relation.Equal, line) es items h = takes_kept g.Relation 0 h.2 h.3 h.4 (couple relation.Equal) (λ P made. ((Some h.0, tt), refl, made))
relation_takes (relation.NotEqual, line) es items h = takes_kept g.Relation 1 h.2 h.3 h.4 (couple relation.NotEqual) (λ P made. ((Some h.0, tt), refl, made))
relation_takes (relation.Less, line) es items h = takes_kept g.Relation 2 h.2 h.3 h.4 (couple relation.Less) (λ P made. ((Some h.0, tt), refl, made))
relation_takes (relation.AtMost, line) es items h = takes_kept g.Relation 3 h.2 h.3 h.4 (couple relation.AtMost) (λ P made. ((Some h.0, tt), refl, made))
relation_takes (relation.Greater, line) es items h = takes_kept g.Relation 4 h.2 h.3 h.4 (couple relation.Greater) (λ P made. ((Some h.0, tt), refl, made))
relation_takes (relation.AtLeast, line) es items h = takes_kept g.Relation 5 h.2 h.3 h.4 (couple relation.AtLeast) (λ P made. ((Some h.0, tt), refl, made))
relation_takes (relation.In, line) es items h = takes_kept g.Relation 6 h.2 h.3 h.4 (couple relation.In) (λ P made. ((Some h.0, tt), refl, made))

pub addition_takes : (t : Addition × ℕ) (es : List Element) (items : Items) → Fit (addition_elements t es) items → Takes g.Addition t es items
addition_takes (addition.Plus, line) es items h = takes_kept g.Addition 0 h.2 h.3 h.4 (couple addition.Plus) (λ P made. ((Some h.0, tt), refl, made))
addition_takes (addition.Minus, line) es items h = takes_kept g.Addition 1 h.2 h.3 h.4 (couple addition.Minus) (λ P made. ((Some h.0, tt), refl, made))
addition_takes (addition.Or, line) es items h = takes_kept g.Addition 2 h.2 h.3 h.4 (couple addition.Or) (λ P made. ((Some h.0, tt), refl, made))

pub multiplication_takes : (t : Multiplication × ℕ) (es : List Element) (items : Items) → Fit (multiplication_elements t es) items
    → Takes g.Multiplication t es items
multiplication_takes (multiplication.Star, line) es items h = takes_kept g.Multiplication 0 h.2 h.3 h.4 (couple multiplication.Star)
    (λ P made. ((Some h.0, tt), refl, made))
multiplication_takes (multiplication.Div, line) es items h = takes_kept g.Multiplication 1 h.2 h.3 h.4 (couple multiplication.Div)
    (λ P made. ((Some h.0, tt), refl, made))
multiplication_takes (multiplication.Mod, line) es items h = takes_kept g.Multiplication 2 h.2 h.3 h.4 (couple multiplication.Mod)
    (λ P made. ((Some h.0, tt), refl, made))
multiplication_takes (multiplication.And, line) es items h = takes_kept g.Multiplication 3 h.2 h.3 h.4 (couple multiplication.And)
    (λ P made. ((Some h.0, tt), refl, made))

pub sign_takes : (t : Option Sign) (es : List Element) (items : Items) → Fit (sign_elements t es) items → Takes g.Sign t es items
sign_takes (Some (sign.Plus line)) es items h = takes_kept g.Sign 0 h.2 h.3 h.4 (λ z. Some (sign.Plus z)) (λ P made. ((Some h.0, tt), refl, made))
sign_takes (Some (sign.Minus line)) es items h = takes_kept g.Sign 1 h.2 h.3 h.4 (λ z. Some (sign.Minus z)) (λ P made. ((Some h.0, tt), refl, made))
sign_takes None es items h = takes g.Sign 2 (done h) (λ P made. (tt, refl, made))

pub string_takes : (text : List ℕ) (line : ℕ) (es : List Element) (items : Items) → Fit (mark (on (is.Chars text) line) ∷ es) items
    → Takes g.Factor (string (chars_on text line)) es items
string_takes [] line es items h = takes g.Factor 2 (past h.2 (ap kind_of h.3.0) (done h.4))
    (λ P made. ((Some h.0, tt), ap (λ z. string z) (chars_is (chars_on [] line) h.0 h.3), made))
string_takes (c ∷ []) line es items h = takes g.Factor 1 (past h.2 (ap kind_of h.3.0) (done h.4))
    (λ P made. ((Some h.0, tt), ap (λ z. string z) (chars_is (chars_on (c ∷ []) line) h.0 h.3), made))
string_takes (c ∷ d ∷ more) line es items h = takes g.Factor 2 (past h.2 (ap kind_of h.3.0) (done h.4))
    (λ P made. ((Some h.0, tt), ap (λ z. string z) (chars_is (chars_on (c ∷ d ∷ more) line) h.0 h.3), made))

mutual
  pub expr_takes : (t : Expr) (es : List Element) (items : Items) → Fit (expr_elements t es) items → Takes g.Expr t es items
  expr_takes (expr s c) es items h = takes_parts g.Expr 0 (simple_takes s _ items h) (comparison_takes c es) (λ P made. ((s, (c, tt)), refl, made))

  pub comparison_takes : (t : Comparison) (es : List Element) (items : Items) → Fit (comparison_elements t es) items → Takes g.Comparison t es items
  comparison_takes (compared r line s) es items h = takes_parts g.Comparison 0 (relation_takes (r, line) _ items h) (simple_takes s es)
      (λ P made. (((r, line), (s, tt)), refl, made))
  comparison_takes no_comparison es items h = takes g.Comparison 1 (done h) (λ P made. (tt, refl, made))

  pub exprs_takes : (t : Exprs) (es : List Element) (items : Items) → Fit (exprs_elements t es) items → Takes g.Exprs t es items
  exprs_takes (next_expr e more) es items h = takes_behind g.Exprs 0 h.2 (ap kind_of h.3.0) (expr_takes e _ h.1 h.4) (exprs_takes more es)
      (λ P made. ((Some h.0, (e, (more, tt))), refl, made))
  exprs_takes no_expr es items h = takes g.Exprs 1 (done h) (λ P made. (tt, refl, made))

  pub simple_takes : (t : Simple) (es : List Element) (items : Items) → Fit (simple_elements t es) items → Takes g.Simple t es items
  simple_takes (simple s t ts) es items h = let p1 = sign_takes s (term_elements t (addends_elements ts es)) items h in
      let p2 = term_takes t (addends_elements ts es) p1.rest p1.fits in let p3 = addends_takes ts es p2.rest p2.fits in
      takes g.Simple 0 (past_part p1 (past_part p2 (past_part p3 (done p3.fits)))) (λ P made. ((s, (t, (ts, tt))), refl, made))

  pub addend_takes : (t : Addend) (es : List Element) (items : Items) → Fit (addend_elements t es) items → Takes g.Addend t es items
  addend_takes (addend o line t) es items h = takes_parts g.Addend 0 (addition_takes (o, line) _ items h) (term_takes t es)
      (λ P made. (((o, line), (t, tt)), refl, made))

  pub addends_takes : (t : Addends) (es : List Element) (items : Items) → Fit (addends_elements t es) items → Takes g.Addends t es items
  addends_takes (next_addend t ts) es items h = takes_parts g.Addends 0 (addend_takes t _ items h) (addends_takes ts es) (λ P made. ((t, (ts, tt)), refl, made))
  addends_takes no_addend es items h = takes g.Addends 1 (done h) (λ P made. (tt, refl, made))

  pub term_takes : (t : Term) (es : List Element) (items : Items) → Fit (term_elements t es) items → Takes g.Term t es items
  term_takes (term f fs) es items h = takes_parts g.Term 0 (factor_takes f _ items h) (multipliers_takes fs es) (λ P made. ((f, (fs, tt)), refl, made))

  pub multiplier_takes : (t : Multiplier) (es : List Element) (items : Items) → Fit (multiplier_elements t es) items → Takes g.Multiplier t es items
  multiplier_takes (multiplier o line f) es items h = takes_parts g.Multiplier 0 (multiplication_takes (o, line) _ items h) (factor_takes f es)
      (λ P made. (((o, line), (f, tt)), refl, made))

  pub multipliers_takes : (t : Multipliers) (es : List Element) (items : Items) → Fit (multipliers_elements t es) items → Takes g.Multipliers t es items
  multipliers_takes (next_multiplier f fs) es items h = takes_parts g.Multipliers 0 (multiplier_takes f _ items h) (multipliers_takes fs es)
      (λ P made. ((f, (fs, tt)), refl, made))
  multipliers_takes no_multiplier es items h = takes g.Multipliers 1 (done h) (λ P made. (tt, refl, made))

  pub factor_takes : (t : Factor) (es : List Element) (items : Items) → Fit (factor_elements t es) items → Takes g.Factor t es items
  factor_takes (numeral v) es items h = takes g.Factor 0 (past h.2 (ap kind_of h.3.0) (done h.4))
      (λ P made. ((Some h.0, tt), ap (λ z. numeral z) (sym (ap value_of h.3.0)), made))
  factor_takes (string s) es items h = string_takes s.text s.line es items h
  factor_takes (not_factor line f) es items h = let p1 = factor_takes f (level_end ∷ es) h.1 h.4 in
      takes g.Factor 3 (past h.2 (ap kind_of h.3.0) (past_part p1 (past_end p1.fits.1 (done p1.fits.2))))
      (λ P made. ((Some h.0, (f, tt)), ap (λ z. not_factor z f) (sym h.3.1), made))
  factor_takes (parenthesized e) es items h = let p1 = expr_takes e (word is.Close ∷ level_end ∷ es) h.1 h.4 in
      takes g.Factor 4 (past h.2 (ap kind_of h.3.0) (past_part p1 (past p1.fits.2 (ap kind_of p1.fits.3.0) (past_end p1.fits.4.1 (done p1.fits.4.2)))))
      (λ P made. ((Some h.0, (e, (Some p1.fits.0, tt))), refl, made))
  factor_takes (call_factor n a) es items h = let p1 = args_takes a es h.1 h.4 in
      let p2 : Takes g.Behind (with_args a) es h.1 = takes g.Behind 0 (past_part p1 (done p1.fits)) (λ P made. ((a, tt), refl, made)) in
      takes g.Factor 5 (past h.2 (ap kind_of h.3.0) (past_part p2 (done p2.fits)))
      (λ P made. ((Some h.0, (with_args a, tt)), ap (λ z. factor_with z (with_args a)) (name_is n h.0 h.3), made))
  factor_takes (variable_factor (variable (root.Name n) ss)) es items h = let p1 = selectors_takes ss es h.1 h.4 in
      let p2 : Takes g.Behind (selected ss) es h.1 = takes g.Behind 1 (past_part p1 (done p1.fits)) (λ P made. ((ss, tt), refl, made)) in
      takes g.Factor 5 (past h.2 (ap kind_of h.3.0) (past_part p2 (done p2.fits)))
      (λ P made. ((Some h.0, (selected ss, tt)), ap (λ z. factor_with z (selected ss)) (name_is n h.0 h.3), made))
  factor_takes (variable_factor (variable (root.Val n) ss)) es items h = let p1 = selectors_takes ss es h.4.1 h.4.4 in
      takes g.Factor 6 (past h.2 (ap kind_of h.3.0) (past h.4.2 (ap kind_of h.4.3.0) (past_part p1 (done p1.fits))))
      (λ P made. ((Some h.0, (Some h.4.0, (ss, tt))), ap (λ z. variable_factor (variable (root.Val z) ss)) (name_is n h.4.0 h.4.3), made))

  pub args_takes : (t : Args) (es : List Element) (items : Items) → Fit (args_elements t es) items → Takes g.Args t es items
  args_takes (args e more) es items h = takes_within g.Args 0 is.Close h.2 (ap kind_of h.3.0) (expr_takes e _ h.1 h.4)
      (exprs_takes more (word is.Close ∷ level_end ∷ es)) (λ c P made. ((Some h.0, (e, (more, (c, tt)))), refl, made))

  pub selector_takes : (t : Selector) (es : List Element) (items : Items) → Fit (selector_elements t es) items → Takes g.Selector t es items
  selector_takes (field line n) es items h = takes g.Selector 0 (past h.2 (ap kind_of h.3.0) (past h.4.2 (ap kind_of h.4.3.0) (done h.4.4)))
      (λ P made. ((Some h.0, (Some h.4.0, tt)), ap (λ z. field z n) (sym h.3.1) ∙ ap (λ z. field (line_in (Some h.0)) z) (name_is n h.4.0 h.4.3), made))
  selector_takes (index line e) es items h = let p1 = expr_takes e (word is.CloseBracket ∷ level_end ∷ es) h.1 h.4 in
      takes g.Selector 1 (past h.2 (ap kind_of h.3.0) (past_part p1 (past p1.fits.2 (ap kind_of p1.fits.3.0) (past_end p1.fits.4.1 (done p1.fits.4.2)))))
      (λ P made. ((Some h.0, (e, (Some p1.fits.0, tt))), ap (λ z. index z e) (sym h.3.1), made))

  pub selectors_takes : (t : Selectors) (es : List Element) (items : Items) → Fit (selectors_elements t es) items → Takes g.Selectors t es items
  selectors_takes (next_selector s ss) es items h = takes_parts g.Selectors 0 (selector_takes s _ items h) (selectors_takes ss es)
      (λ P made. ((s, (ss, tt)), refl, made))
  selectors_takes no_selector es items h = takes g.Selectors 1 (done h) (λ P made. (tt, refl, made))
