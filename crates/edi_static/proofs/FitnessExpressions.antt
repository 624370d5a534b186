-- What the rules on expressions give fits, construct by construct.
use Rattle.std.proofs.Common.{◌≡◌, ℕ, suc, Bool, ◌&&◌, ◌==◌, ◌++◌, refl, ◌∙◌}
use Rattle.std.proofs.lemmas.Bool.{eqb-true, and_parts}
use Rattle.edi_tree.specs.declared.expressions.Root.TheVariants as root
use Rattle.edi_tree.specs.Tree as text
use Rattle.edi_unit.specs.declared.expressions.Operator.{Operator}
use Rattle.edi_unit.specs.Types.{bool_type, shape_at}
use Rattle.edi_unit.specs.Tree as unit
use Rattle.edi_unit.specs.Headings.{Formals, heading_formals}
use Rattle.edi_static.specs.Leaves.{ExprHolds, ComparisonHolds, ExprsHolds, SimpleHolds, AddendsHolds, TermHolds, MultipliersHolds, FactorHolds, ArgsHolds}
use Rattle.edi_static.specs.Leaves.{VariableHolds, SelectorHolds, SelectorsHolds}
use Rattle.edi_static.specs.InRange.{in_range}
use Rattle.edi_static.specs.declared.faults.StaticKind.TheVariants as kind
use Rattle.edi_static.specs.Judged.{Judged, ◌>>=◌}
use Rattle.edi_static.specs.Environment.{Environment, look_up, formals_count}
use Rattle.edi_static.specs.Operators.{Typed, relation_operator, addition_operator, multiplication_operator, signed, operated}
use Rattle.edi_static.specs.Fitting.{Use, constructs, calls, halts, neither, use_of, is_function, takes_so_many, rest_of, takes_strings}
use Rattle.edi_static.specs.Expressions.{exprs_count, args_count, rooted, element, argument, expression, comparison, simple, addends, addend, term}
use Rattle.edi_static.specs.Expressions.{multipliers, multiplier, factor, applied, more_elements, more_arguments, variable_value, variable_place, selectors}
use Rattle.edi_static.specs.Expressions.{selector, all_arguments}
use Rattle.edi_static.proofs.Judging.{Gives, bind, ruled}
use Rattle.edi_static.proofs.Fitness.{EntitySits, Sits, TypedFits, LocatedFits, UseFits}
use Rattle.edi_static.proofs.FitnessNames.{look_up_sits}
use Rattle.edi_static.proofs.FitnessOperators.{LinkedFits, ChainedFits, signed_fits, operated_fits, chain_fits, link_alone, with_links_fits}
use Rattle.edi_static.proofs.FitnessMade.{TypedsFit, numeral_fits, single_fits, both_fit, element_fits, constructed_fits}
use Rattle.edi_static.proofs.FitnessPlaces.{RootedFits, PartedFits, ReachedFits, rooted_fits, field_fits, element_of_fits, parts_then, located_fits}
use Rattle.edi_static.proofs.FitnessPlaces.{loaded_fits}
use Rattle.edi_static.proofs.FitnessCalls.{ListFits, ArgumentFits, use_fits, none_fit, invoked_fits, alone_fits, argument_fits, rest_count}

-- an operator with its right operand
linked_fits : (env : Environment) (left : ℕ) (o : Operator) (line : ℕ) (m : Judged Typed) → Gives (TypedFits env) m
    → Gives (LinkedFits env left) (m >>= operated env.types o line left)
linked_fits env left o line m h = bind (TypedFits env) (LinkedFits env left) m _ h (λ v k. operated_fits env o line left v k)

mutual
  pub expression_fits : (env : Environment) → Sits env → (e : text.Expr) → ExprHolds in_range e → Gives (TypedFits env) (expression env e)
  expression_fits env s (text.expr l c) h =
      bind (TypedFits env) (TypedFits env) (simple env l) _ (simple_fits env s l h.0) (λ left k. comparison_fits env s left c k h.1)

  comparison_fits : (env : Environment) → Sits env → (left : Typed) (c : text.Comparison) → TypedFits env left → ComparisonHolds in_range c
      → Gives (TypedFits env) (comparison env left c)
  comparison_fits env s left text.no_comparison k h = k
  comparison_fits env s left (text.compared r line x) k h =
      bind (TypedFits env) (TypedFits env) (simple env x) _ (simple_fits env s x h) (λ right j.
      bind (LinkedFits env left.of) (TypedFits env) (operated env.types (relation_operator r) line left.of right) _
      (operated_fits env (relation_operator r) line left.of right j) (λ l i.
      with_links_fits env left _ k (link_alone env left.of l i)))

  simple_fits : (env : Environment) → Sits env → (x : text.Simple) → SimpleHolds in_range x → Gives (TypedFits env) (simple env x)
  simple_fits env s (text.simple sign t more) h =
      bind (TypedFits env) (TypedFits env) (term env t) _ (term_fits env s t h.0) (λ v k.
      bind (TypedFits env) (TypedFits env) (signed sign v) _ (signed_fits env sign v k) (λ first j.
      bind (ChainedFits env first.of) (TypedFits env) (addends env first.of more) _ (addends_fit env s first.of more h.1) (λ links i.
      with_links_fits env first links j i)))

  addends_fit : (env : Environment) → Sits env → (left : ℕ) (more : text.Addends) → AddendsHolds in_range more → Gives (ChainedFits env left) (addends env left more)
  addends_fit env s left text.no_addend h = record { has_type = refl; fits = tt }
  addends_fit env s left (text.next_addend (text.addend o line t) more) h =
      chain_fits env left (addend env left (text.addend o line t)) (λ of. addends env of more)
      (linked_fits env left (addition_operator o) line (term env t) (term_fits env s t h.0)) (λ of. addends_fit env s of more h.1)

  term_fits : (env : Environment) → Sits env → (t : text.Term) → TermHolds in_range t → Gives (TypedFits env) (term env t)
  term_fits env s (text.term f more) h =
      bind (TypedFits env) (TypedFits env) (factor env f) _ (factor_fits env s f h.0) (λ first k.
      bind (ChainedFits env first.of) (TypedFits env) (multipliers env first.of more) _ (multipliers_fit env s first.of more h.1) (λ links j.
      with_links_fits env first links k j))

  multipliers_fit : (env : Environment) → Sits env → (left : ℕ) (more : text.Multipliers) → MultipliersHolds in_range more → Gives (ChainedFits env left)
      (multipliers env left more)
  multipliers_fit env s left text.no_multiplier h = record { has_type = refl; fits = tt }
  multipliers_fit env s left (text.next_multiplier (text.multiplier o line f) more) h =
      chain_fits env left (multiplier env left (text.multiplier o line f)) (λ of. multipliers env of more)
      (linked_fits env left (multiplication_operator o) line (factor env f) (factor_fits env s f h.0)) (λ of. multipliers_fit env s of more h.1)

  factor_fits : (env : Environment) → Sits env → (f : text.Factor) → FactorHolds in_range f → Gives (TypedFits env) (factor env f)
  factor_fits env s (text.numeral n) h = numeral_fits env s.types.table n h
  factor_fits env s (text.string x) h = single_fits env s.types.table x.line x.text h
  factor_fits env s (text.not_factor line f) h =
      bind (TypedFits env) (TypedFits env) (factor env f) _ (factor_fits env s f h) (λ v k.
      ruled (TypedFits env) (v.of == bool_type) kind.Types line _ (λ e. record { has_type = refl; fits = (k.has_type ∙ eqb-true v.of bool_type e, k.fits) }))
  factor_fits env s (text.parenthesized e) h = expression_fits env s e h
  factor_fits env s (text.call_factor name xs) h =
      bind (EntitySits env) (TypedFits env) (look_up env name) _ (look_up_sits env s name) (λ means k.
      applied_fits env s name.line (use_of env means) xs (use_fits env s means k) h)
  factor_fits env s (text.variable_factor v) h = value_fits env s v h

  applied_fits : (env : Environment) → Sits env → (line : ℕ) (u : Use) (xs : text.Args) → UseFits env u → ArgsHolds in_range xs
      → Gives (TypedFits env) (applied env line u xs)
  applied_fits env s line (constructs of) (text.args e es) u h =
      bind (TypedsFit env) (TypedFits env) (element env (takes_strings (shape_at env.types of)) e (expression env e)) _
      (element_fits env s.types.table (takes_strings (shape_at env.types of)) e (expression env e) h.0 (expression_fits env s e h.0)) (λ vs k.
      bind (TypedsFit env) (TypedFits env) (more_elements env (takes_strings (shape_at env.types of)) es) _
      (elements_fit env s (takes_strings (shape_at env.types of)) es h.1) (λ ws j.
      constructed_fits env line of (vs ++ ws) u (both_fit env vs ws k j)))
  applied_fits env s line (calls c) (text.args e es) u h =
      ruled (TypedFits env) (is_function c.asks && takes_so_many c.asks (args_count (text.args e es))) kind.Call line _ (λ r.
      let p = and_parts (is_function c.asks) (takes_so_many c.asks (args_count (text.args e es))) r in
      bind (ArgumentFits env (heading_formals c.asks)) (TypedFits env) (argument env line e (expression env e) (heading_formals c.asks)) _
      (argument_fits env s line e (expression env e) (heading_formals c.asks) (expression_fits env s e h.0)) (λ a k.
      bind (ListFits env (rest_of (heading_formals c.asks))) (TypedFits env) (more_arguments env line es (rest_of (heading_formals c.asks))) _
      (more_arguments_fit env s line es (rest_of (heading_formals c.asks)) h.1
      (rest_count (heading_formals c.asks) (exprs_count es) (eqb-true (formals_count (heading_formals c.asks)) (suc (exprs_count es)) p.1))) (λ xs j.
      invoked_fits env line c (unit.argument_then a xs) u p.0 (k xs j))))
  applied_fits env s line halts (text.args e es) u h = tt
  applied_fits env s line neither (text.args e es) u h = tt

  elements_fit : (env : Environment) → Sits env → (strings : Bool) (es : text.Exprs) → ExprsHolds in_range es → Gives (TypedsFit env) (more_elements env strings es)
  elements_fit env s strings text.no_expr h = tt
  elements_fit env s strings (text.next_expr e es) h =
      bind (TypedsFit env) (TypedsFit env) (element env strings e (expression env e)) _
      (element_fits env s.types.table strings e (expression env e) h.0 (expression_fits env s e h.0)) (λ vs k.
      bind (TypedsFit env) (TypedsFit env) (more_elements env strings es) _ (elements_fit env s strings es h.1) (λ ws j. both_fit env vs ws k j))

  more_arguments_fit : (env : Environment) → Sits env → (line : ℕ) (es : text.Exprs) (fs : Formals) → ExprsHolds in_range es → formals_count fs ≡ exprs_count es
      → Gives (ListFits env fs) (more_arguments env line es fs)
  more_arguments_fit env s line text.no_expr fs h n = none_fit env fs n
  more_arguments_fit env s line (text.next_expr e es) fs h n =
      bind (ArgumentFits env fs) (ListFits env fs) (argument env line e (expression env e) fs) _
      (argument_fits env s line e (expression env e) fs (expression_fits env s e h.0)) (λ a k.
      bind (ListFits env (rest_of fs)) (ListFits env fs) (more_arguments env line es (rest_of fs)) _
      (more_arguments_fit env s line es (rest_of fs) h.1 (rest_count fs (exprs_count es) n)) (λ xs j. k xs j))

  value_fits : (env : Environment) → Sits env → (v : text.Variable) → VariableHolds in_range v → Gives (TypedFits env) (variable_value env v)
  value_fits env s (text.variable (root.Name name) text.no_selector) h = alone_fits env s name
  value_fits env s (text.variable (root.Name name) (text.next_selector x ss)) h =
      bind (RootedFits env) (TypedFits env) (rooted env (root.Name name)) _ (rooted_fits env s (root.Name name)) (λ r k.
      bind (ReachedFits env r.of) (TypedFits env) (selectors env r.of (text.next_selector x ss)) _ (selectors_fit env s r.of (text.next_selector x ss) h)
      (λ steps j.
      loaded_fits env _ (located_fits env r steps k j)))
  value_fits env s (text.variable (root.Val name) ss) h =
      bind (RootedFits env) (TypedFits env) (rooted env (root.Val name)) _ (rooted_fits env s (root.Val name)) (λ r k.
      bind (ReachedFits env r.of) (TypedFits env) (selectors env r.of ss) _ (selectors_fit env s r.of ss h) (λ steps j.
      loaded_fits env _ (located_fits env r steps k j)))

  selectors_fit : (env : Environment) → Sits env → (of : ℕ) (ss : text.Selectors) → SelectorsHolds in_range ss → Gives (ReachedFits env of) (selectors env of ss)
  selectors_fit env s of text.no_selector h = record { has_type = refl; fits = tt }
  selectors_fit env s of (text.next_selector x ss) h =
      bind (PartedFits env of) (ReachedFits env of) (selector env of x) _ (selector_fits env s of x h.0) (λ p k.
      bind (ReachedFits env p.of) (ReachedFits env of) (selectors env p.of ss) _ (selectors_fit env s p.of ss h.1) (λ steps j.
      parts_then env of p steps k j))

  selector_fits : (env : Environment) → Sits env → (of : ℕ) (x : text.Selector) → SelectorHolds in_range x → Gives (PartedFits env of) (selector env of x)
  selector_fits env s of (text.field line name) h = field_fits env s line of name
  selector_fits env s of (text.index line e) h =
      bind (TypedFits env) (PartedFits env of) (expression env e) _ (expression_fits env s e h) (λ i k. element_of_fits env line of i k)

pub place_fits : (env : Environment) → Sits env → (v : text.Variable) → VariableHolds in_range v → Gives (LocatedFits env) (variable_place env v)
place_fits env s (text.variable r ss) h =
    bind (RootedFits env) (LocatedFits env) (rooted env r) _ (rooted_fits env s r) (λ v k.
    bind (ReachedFits env v.of) (LocatedFits env) (selectors env v.of ss) _ (selectors_fit env s v.of ss h) (λ steps j.
    located_fits env v steps k j))

pub arguments_fit : (env : Environment) → Sits env → (line : ℕ) (xs : text.Args) → ArgsHolds in_range xs → (fs : Formals) → formals_count fs ≡ args_count xs
    → Gives (ListFits env fs) (all_arguments env line xs fs)
arguments_fit env s line (text.args e es) h fs n =
    bind (ArgumentFits env fs) (ListFits env fs) (argument env line e (expression env e) fs) _
    (argument_fits env s line e (expression env e) fs (expression_fits env s e h.0)) (λ a k.
    bind (ListFits env (rest_of fs)) (ListFits env fs) (more_arguments env line es (rest_of fs)) _
    (more_arguments_fit env s line es (rest_of fs) h.1 (rest_count fs (exprs_count es) n)) (λ xs j. k xs j))
