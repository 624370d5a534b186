-- How deep expressions nest: at most 5 times as deep as the levels that are open in their text, and 5 more. One level has a
-- relation, a chain of additions, a sign and a chain of multiplications, and what opens it.
use Rattle.std.proofs.Common.{ℕ, suc, ◌+◌, ◌*◌, ◌≤◌, max, Bool, ◌++◌, ◌==◌, arith}
use Rattle.edi_tree.specs.declared.expressions.Root.TheVariants as root
use Rattle.edi_tree.specs.Tree as text
use Rattle.edi_tree.specs.Depth.{expr_depth, comparison_depth, exprs_depth, simple_depth, addend_depth, addends_depth, term_depth, multiplier_depth}
use Rattle.edi_tree.specs.Depth.{multipliers_depth, factor_depth, args_depth, variable_depth, selector_depth, selectors_depth}
use Rattle.edi_unit.specs.Types.{shape_at, bool_type}
use Rattle.edi_unit.specs.Tree as unit
use Rattle.edi_unit.specs.Headings.{Formals, heading_formals}
use Rattle.edi_static.specs.declared.faults.StaticKind.TheVariants as kind
use Rattle.edi_static.specs.Environment.{Environment, look_up}
use Rattle.edi_static.specs.Operators.{Typed, relation_operator, addition_operator, multiplication_operator, signed, operated}
use Rattle.edi_static.specs.Fitting.{Use, constructs, calls, halts, neither, use_of, rest_of, function_called, is_indexed_by, takes_strings}
use Rattle.edi_static.specs.Expressions.{Reached, Located, args_count, rooted, element, argument, expression, comparison, simple, addends, addend, term}
use Rattle.edi_static.specs.Expressions.{multipliers, multiplier, factor, applied, more_elements, more_arguments, variable_value, variable_place, selectors}
use Rattle.edi_static.specs.Expressions.{selector, all_arguments}
use Rattle.edi_static.proofs.Judging.{Gives, bind, behind, ruled, weaker}
use Rattle.edi_static.specs.nesting.Nesting.{place_nesting, parts_nesting, arguments_nesting}
use Rattle.edi_static.proofs.nesting.Parts.{Within, LinkWithin, LinksWithin, PartWithin, ListWithin, ArgumentWithin, chained_within, operated_within, signed_within}
use Rattle.edi_static.proofs.nesting.Parts.{single_within, alone_within, element_within, both_within, constructed_within, argument_within, field_within}

abbrev pub PartsWithin : ℕ → Reached → Type 0
PartsWithin most r = parts_nesting r.parts ≤ most

abbrev pub PlaceWithin : ℕ → Located → Type 0
PlaceWithin most l = place_nesting l.at ≤ most

abbrev pub ArgumentsWithin : ℕ → unit.Arguments → Type 0
ArgumentsWithin most xs = arguments_nesting xs ≤ most

module _ (env : Environment) where
  mutual
    pub expression_within : (e : text.Expr) → Gives (Within (5 * expr_depth e + 5)) (expression env e)
    expression_within (text.expr s c) =
        bind (Within (5 * simple_depth s + 4)) (Within (5 * max (simple_depth s) (comparison_depth c) + 5)) (simple env s) _ (simple_within s)
        (λ left h. comparison_within left (simple_depth s) c h)

    comparison_within : (left : Typed) (d : ℕ) (c : text.Comparison) → Within (5 * d + 4) left → Gives (Within (5 * max d (comparison_depth c) + 5))
        (comparison env left c)
    comparison_within left d text.no_comparison h = omega (arith, h)
    comparison_within left d (text.compared r line s) h =
        bind (Within (5 * simple_depth s + 4)) (Within (5 * max d (simple_depth s) + 5)) (simple env s) _ (simple_within s) (λ right k.
        bind (LinkWithin (5 * simple_depth s + 4)) (Within (5 * max d (simple_depth s) + 5)) (operated env.types (relation_operator r) line left.of right) _
        (operated_within env.types (relation_operator r) line left.of right (5 * simple_depth s + 4) k) (λ l j. omega (arith, h, j)))

    simple_within : (s : text.Simple) → Gives (Within (5 * simple_depth s + 4)) (simple env s)
    simple_within (text.simple sign t more) =
        let most : ℕ = 5 * max (term_depth t) (addends_depth more) + 4 in
        bind (Within (5 * term_depth t + 2)) (Within most) (term env t) _ (term_within t) (λ v h.
        bind (Within (5 * term_depth t + 3)) (Within most) (signed sign v) _ (signed_within sign v (5 * term_depth t + 3) (omega (arith, h))) (λ first k.
        bind (LinksWithin (5 * addends_depth more + 2)) (Within most) (addends env first.of more) _ (addends_within first.of more) (λ links j.
        chained_within first.what links.links most (omega (arith, k)) (omega (arith, j)))))

    addends_within : (left : ℕ) (more : text.Addends) → Gives (LinksWithin (5 * addends_depth more + 2)) (addends env left more)
    addends_within left text.no_addend = omega arith
    addends_within left (text.next_addend a more) =
        let most : ℕ = 5 * max (addend_depth a) (addends_depth more) + 2 in
        bind (LinkWithin (5 * addend_depth a + 2)) (LinksWithin most) (addend env left a) _ (addend_within left a) (λ l h.
        bind (LinksWithin (5 * addends_depth more + 2)) (LinksWithin most) (addends env l.of more) _ (addends_within l.of more) (λ ls k. omega (arith, h, k)))

    addend_within : (left : ℕ) (a : text.Addend) → Gives (LinkWithin (5 * addend_depth a + 2)) (addend env left a)
    addend_within left (text.addend o line t) =
        bind (Within (5 * term_depth t + 2)) (LinkWithin (5 * term_depth t + 2)) (term env t) _ (term_within t) (λ v h.
        operated_within env.types (addition_operator o) line left v (5 * term_depth t + 2) h)

    term_within : (t : text.Term) → Gives (Within (5 * term_depth t + 2)) (term env t)
    term_within (text.term f more) =
        let most : ℕ = 5 * max (factor_depth f) (multipliers_depth more) + 2 in
        bind (Within (5 * factor_depth f + 1)) (Within most) (factor env f) _ (factor_within f) (λ first h.
        bind (LinksWithin (5 * multipliers_depth more + 1)) (Within most) (multipliers env first.of more) _ (multipliers_within first.of more) (λ links j.
        chained_within first.what links.links most (omega (arith, h)) (omega (arith, j))))

    multipliers_within : (left : ℕ) (more : text.Multipliers) → Gives (LinksWithin (5 * multipliers_depth more + 1)) (multipliers env left more)
    multipliers_within left text.no_multiplier = omega arith
    multipliers_within left (text.next_multiplier m more) =
        let most : ℕ = 5 * max (multiplier_depth m) (multipliers_depth more) + 1 in
        bind (LinkWithin (5 * multiplier_depth m + 1)) (LinksWithin most) (multiplier env left m) _ (multiplier_within left m) (λ l h.
        bind (LinksWithin (5 * multipliers_depth more + 1)) (LinksWithin most) (multipliers env l.of more) _ (multipliers_within l.of more)
        (λ ls k. omega (arith, h, k)))

    multiplier_within : (left : ℕ) (m : text.Multiplier) → Gives (LinkWithin (5 * multiplier_depth m + 1)) (multiplier env left m)
    multiplier_within left (text.multiplier o line f) =
        bind (Within (5 * factor_depth f + 1)) (LinkWithin (5 * factor_depth f + 1)) (factor env f) _ (factor_within f) (λ v h.
        operated_within env.types (multiplication_operator o) line left v (5 * factor_depth f + 1) h)

    factor_within : (f : text.Factor) → Gives (Within (5 * factor_depth f + 1)) (factor env f)
    factor_within (text.numeral n) = omega arith
    factor_within (text.string s) = single_within s.line s.text
    factor_within (text.not_factor line f) =
        let most : ℕ = 5 * suc (factor_depth f) + 1 in
        bind (Within (5 * factor_depth f + 1)) (Within most) (factor env f) _ (factor_within f)
        (λ v h. ruled (Within most) (v.of == bool_type) kind.Types line _ (λ e. omega (arith, h)))
    factor_within (text.parenthesized e) = weaker (Within (5 * expr_depth e + 5)) (Within (5 * suc (expr_depth e) + 1)) (expression env e)
        (λ v h. omega (arith, h)) (expression_within e)
    factor_within (text.call_factor name xs) =
        behind (Within (5 * args_depth xs + 1)) (look_up env name) _ (λ means. applied_within name.line (use_of env means) xs)
    factor_within (text.variable_factor v) = value_within v

    applied_within : (line : ℕ) (u : Use) (xs : text.Args) → Gives (Within (5 * args_depth xs + 1)) (applied env line u xs)
    applied_within line (constructs of) (text.args e es) =
        let strings : Bool = takes_strings (shape_at env.types of) in
        let most : ℕ = 5 * suc (max (expr_depth e) (exprs_depth es)) + 1 in
        bind (ListWithin (5 * expr_depth e + 5)) (Within most) (element env strings e (expression env e)) _
        (element_within env strings e (expression env e) (5 * expr_depth e + 5) (omega arith) (expression_within e)) (λ vs h.
        bind (ListWithin (5 * exprs_depth es + 5)) (Within most) (more_elements env strings es) _ (elements_within strings es) (λ ws k.
        let both = both_within vs ws (5 * max (expr_depth e) (exprs_depth es) + 5) (omega (arith, h)) (omega (arith, k)) in
        constructed_within env line of (vs ++ ws) most (omega (arith, both))))
    applied_within line (calls c) (text.args e es) =
        let most : ℕ = 5 * suc (max (expr_depth e) (exprs_depth es)) + 1 in
        behind (Within most) (function_called line c (args_count (text.args e es))) _ (λ r.
        bind (ArgumentWithin (5 * expr_depth e + 5)) (Within most) (argument env line e (expression env e) (heading_formals c.asks)) _
        (argument_within env line e (expression env e) (heading_formals c.asks) (5 * expr_depth e + 5) (expression_within e)) (λ a h.
        bind (ArgumentsWithin (5 * exprs_depth es + 5)) (Within most) (more_arguments env line es (rest_of (heading_formals c.asks))) _
        (more_arguments_within line es (rest_of (heading_formals c.asks))) (λ xs k. omega (arith, h, k))))
    applied_within line halts (text.args e es) = tt
    applied_within line neither (text.args e es) = tt

    elements_within : (strings : Bool) (es : text.Exprs) → Gives (ListWithin (5 * exprs_depth es + 5)) (more_elements env strings es)
    elements_within strings text.no_expr = omega arith
    elements_within strings (text.next_expr e es) =
        let most : ℕ = 5 * max (expr_depth e) (exprs_depth es) + 5 in
        bind (ListWithin (5 * expr_depth e + 5)) (ListWithin most) (element env strings e (expression env e)) _
        (element_within env strings e (expression env e) (5 * expr_depth e + 5) (omega arith) (expression_within e)) (λ vs h.
        bind (ListWithin (5 * exprs_depth es + 5)) (ListWithin most) (more_elements env strings es) _ (elements_within strings es) (λ ws k.
        both_within vs ws most (omega (arith, h)) (omega (arith, k))))

    more_arguments_within : (line : ℕ) (es : text.Exprs) (fs : Formals) → Gives (ArgumentsWithin (5 * exprs_depth es + 5)) (more_arguments env line es fs)
    more_arguments_within line text.no_expr fs = omega arith
    more_arguments_within line (text.next_expr e es) fs =
        let most : ℕ = 5 * max (expr_depth e) (exprs_depth es) + 5 in
        bind (ArgumentWithin (5 * expr_depth e + 5)) (ArgumentsWithin most) (argument env line e (expression env e) fs) _
        (argument_within env line e (expression env e) fs (5 * expr_depth e + 5) (expression_within e)) (λ a h.
        bind (ArgumentsWithin (5 * exprs_depth es + 5)) (ArgumentsWithin most) (more_arguments env line es (rest_of fs)) _
        (more_arguments_within line es (rest_of fs)) (λ xs k. omega (arith, h, k)))

    value_within : (v : text.Variable) → Gives (Within (5 * variable_depth v + 1)) (variable_value env v)
    value_within (text.variable (root.Name name) text.no_selector) = alone_within env name
    value_within (text.variable (root.Name name) (text.next_selector s ss)) =
        let most : ℕ = 5 * max (selector_depth s) (selectors_depth ss) + 1 in
        behind (Within most) (rooted env (root.Name name)) _ (λ r.
        bind (PartsWithin (5 * max (selector_depth s) (selectors_depth ss))) (Within most) (selectors env r.of (text.next_selector s ss)) _
        (selectors_within r.of (text.next_selector s ss)) (λ steps h. omega (arith, h)))
    value_within (text.variable (root.Val name) ss) =
        behind (Within (5 * selectors_depth ss + 1)) (rooted env (root.Val name)) _ (λ r.
        bind (PartsWithin (5 * selectors_depth ss)) (Within (5 * selectors_depth ss + 1)) (selectors env r.of ss) _ (selectors_within r.of ss)
        (λ steps h. omega (arith, h)))

    selectors_within : (of : ℕ) (ss : text.Selectors) → Gives (PartsWithin (5 * selectors_depth ss)) (selectors env of ss)
    selectors_within of text.no_selector = omega arith
    selectors_within of (text.next_selector s ss) =
        let most : ℕ = 5 * max (selector_depth s) (selectors_depth ss) in
        bind (PartWithin (5 * selector_depth s)) (PartsWithin most) (selector env of s) _ (selector_within of s) (λ p h.
        bind (PartsWithin (5 * selectors_depth ss)) (PartsWithin most) (selectors env p.of ss) _ (selectors_within p.of ss) (λ steps k. omega (arith, h, k)))

    selector_within : (of : ℕ) (s : text.Selector) → Gives (PartWithin (5 * selector_depth s)) (selector env of s)
    selector_within of (text.field line name) = field_within env line of name
    selector_within of (text.index line e) =
        let most : ℕ = 5 * suc (expr_depth e) in
        bind (Within (5 * expr_depth e + 5)) (PartWithin most) (expression env e) _ (expression_within e)
        (λ v h. ruled (PartWithin most) (is_indexed_by (shape_at env.types of) v.of) kind.Types line _ (λ r. omega (arith, h)))

  pub place_within : (v : text.Variable) → Gives (PlaceWithin (5 * variable_depth v)) (variable_place env v)
  place_within (text.variable r ss) =
      behind (PlaceWithin (5 * selectors_depth ss)) (rooted env r) _ (λ v.
      bind (PartsWithin (5 * selectors_depth ss)) (PlaceWithin (5 * selectors_depth ss)) (selectors env v.of ss) _ (selectors_within v.of ss) (λ steps h. h))

  pub arguments_within : (line : ℕ) (xs : text.Args) (fs : Formals) → Gives (ArgumentsWithin (5 * args_depth xs)) (all_arguments env line xs fs)
  arguments_within line (text.args e es) fs =
      let most : ℕ = 5 * suc (max (expr_depth e) (exprs_depth es)) in
      bind (ArgumentWithin (5 * expr_depth e + 5)) (ArgumentsWithin most) (argument env line e (expression env e) fs) _
      (argument_within env line e (expression env e) fs (5 * expr_depth e + 5) (expression_within e)) (λ a h.
      bind (ArgumentsWithin (5 * exprs_depth es + 5)) (ArgumentsWithin most) (more_arguments env line es (rest_of fs)) _
      (more_arguments_within line es (rest_of fs)) (λ xs k. omega (arith, h, k)))
