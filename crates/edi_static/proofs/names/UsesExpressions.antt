-- The names that are used in an accepted expression are visible.
use Rattle.std.proofs.Common.{◌≡◌, ℕ, Bool, true, false, is_some, List, Option, Some, None, IfSome, refl}
use Rattle.edi_scope.specs.declared.entity.Entity.{Entity}
use Rattle.edi_scope.specs.Scope.{visible}
use Rattle.edi_tree.specs.declared.names.Name.{Name}
use Rattle.edi_tree.specs.declared.constants.Constant.{Constant}
use Rattle.edi_tree.specs.declared.constants.Constant.TheVariants as constant
use Rattle.edi_tree.specs.declared.expressions.Root.{Root}
use Rattle.edi_tree.specs.declared.expressions.Root.TheVariants as root
use Rattle.edi_tree.specs.Tree as text
use Rattle.edi_unit.specs.Headings.{Heading, Formals, no_formal, value_then, variable_then, procedure_then, heading_formals}
use Rattle.edi_unit.specs.Types.{shape_at}
use Rattle.edi_static.specs.Judged.{Judged}
use Rattle.edi_static.specs.Environment.{Environment, found, look_up, type_named}
use Rattle.edi_static.specs.Operators.{Typed}
use Rattle.edi_static.specs.Fitting.{Use, constructs, calls, halts, neither, use_of, rest_of, only_factor, name_of_factor, name_alone, string_of_factor}
use Rattle.edi_static.specs.Fitting.{string_alone, single, takes_strings}
use Rattle.edi_static.specs.Types as types
use Rattle.edi_static.specs.Expressions as spec
use Rattle.edi_static.specs.Leaves.{ExprHolds, ComparisonHolds, ExprsHolds, SimpleHolds, AddendsHolds, TermHolds, MultipliersHolds, FactorHolds, ArgsHolds}
use Rattle.edi_static.specs.Leaves.{VariableHolds, SelectorHolds, SelectorsHolds}
use Rattle.edi_static.specs.names.Uses.{is_among, NameKnown, ConstantKnown, RootKnown, known_by}
use Rattle.edi_static.proofs.names.Shows.{Shows, always, first, over, two, so}

-- every visible name is among these
abbrev pub Within : (names : List (List ℕ)) → Environment → Type 0
Within names env = (name : List ℕ) → is_some (visible env.scopes name) ≡ true → is_among names name ≡ true

found_known : (names : List (List ℕ)) (o : Option Entity) (name : Name) → (is_some o ≡ true → is_among names name.text ≡ true) → Shows (NameKnown names name)
    (found o name)
found_known names None name h = record { shown = tt }
found_known names (Some e) name h = record { shown = h refl }

-- ---- names and strings alone

only_known : (names : List (List ℕ)) (e : text.Expr) → IfSome (only_factor e) (λ f. FactorHolds (known_by names) f → ExprHolds (known_by names) e)
only_known names (text.expr (text.simple None (text.term f text.no_multiplier) text.no_addend) text.no_comparison) = λ k. (((k, tt), tt), tt)
only_known names (text.expr (text.simple None (text.term f text.no_multiplier) text.no_addend) (text.compared r line s)) = tt
only_known names (text.expr (text.simple None (text.term f text.no_multiplier) (text.next_addend a more)) c) = tt
only_known names (text.expr (text.simple None (text.term f (text.next_multiplier m ms)) more) c) = tt
only_known names (text.expr (text.simple (Some sign) t more) c) = tt

string_known : (names : List (List ℕ)) (X : Type 0) (o : Option text.Factor) → IfSome o (λ f. FactorHolds (known_by names) f → X) → IfSome (string_of_factor o) (λ _. X)
string_known names X None h = tt
string_known names X (Some (text.string s)) h = h tt
string_known names X (Some (text.numeral n)) h = tt
string_known names X (Some (text.not_factor line f)) h = tt
string_known names X (Some (text.parenthesized e)) h = tt
string_known names X (Some (text.call_factor name xs)) h = tt
string_known names X (Some (text.variable_factor v)) h = tt

alone_known : (names : List (List ℕ)) (X : Type 0) (o : Option text.Factor) → IfSome o (λ f. FactorHolds (known_by names) f → X)
    → IfSome (name_of_factor o) (λ name. NameKnown names name → X)
alone_known names X None h = tt
alone_known names X (Some (text.variable_factor (text.variable (root.Name name) text.no_selector))) h = λ k. h (k, tt)
alone_known names X (Some (text.variable_factor (text.variable (root.Name name) (text.next_selector s ss)))) h = tt
alone_known names X (Some (text.variable_factor (text.variable (root.Val name) ss))) h = tt
alone_known names X (Some (text.string s)) h = tt
alone_known names X (Some (text.numeral n)) h = tt
alone_known names X (Some (text.not_factor line f)) h = tt
alone_known names X (Some (text.parenthesized e)) h = tt
alone_known names X (Some (text.call_factor name xs)) h = tt

-- ---- expressions

module _ (env : Environment) (names : List (List ℕ)) (within : Within names env) where
  pub look_known : (name : Name) → Shows (NameKnown names name) (look_up env name)
  look_known name = found_known names (visible env.scopes name.text) name (within name.text)

  pub type_known : (name : Name) → Shows (NameKnown names name) (type_named env name)
  type_known name = first _ (look_known name)

  pub constant_known : (c : Constant) → Shows (ConstantKnown names c) (types.constant env c)
  constant_known (constant.Numeral n) = record { shown = tt }
  constant_known (constant.Char c) = record { shown = tt }
  constant_known (constant.Name name None) = first _ (look_known name)
  constant_known (constant.Name name (Some n)) = first _ (look_known name)

  rooted_known : (r : Root) → Shows (RootKnown names r) (spec.rooted env r)
  rooted_known (root.Name name) = first _ (look_known name)
  rooted_known (root.Val name) = first _ (look_known name)

  taken_known : (X : Type 0) (strings : Bool) (o : Option (List ℕ)) (judged : Judged Typed) → IfSome o (λ _. X) → Shows X judged
      → Shows X (spec.taken env strings o judged)
  taken_known X true (Some characters) judged h k = record { shown = h }
  taken_known X true None judged h k = first _ k
  taken_known X false o judged h k = first _ k

  element_known : (strings : Bool) (e : text.Expr) (judged : Judged Typed) → Shows (ExprHolds (known_by names) e) judged
      → Shows (ExprHolds (known_by names) e) (spec.element env strings e judged)
  element_known strings e judged k =
      taken_known (ExprHolds (known_by names) e) strings (string_alone e) judged (string_known names (ExprHolds (known_by names) e) (only_factor e) (only_known names e)) k

  procedure_known : (X : Type 0) (line : ℕ) (asked : Heading) (o : Option Name) (judged : Judged Typed) → IfSome o (λ name. NameKnown names name → X)
      → Shows X judged → Shows X (spec.procedure_argument env line asked o judged)
  procedure_known X line asked (Some name) judged h k = first _ (so h (look_known name))
  procedure_known X line asked None judged h k = first _ k

  argument_known : (line : ℕ) (e : text.Expr) (judged : Judged Typed) (fs : Formals) → Shows (ExprHolds (known_by names) e) judged
      → Shows (ExprHolds (known_by names) e) (spec.argument env line e judged fs)
  argument_known line e judged no_formal k = record { shown = tt }
  argument_known line e judged (value_then of fs) k = first _ k
  argument_known line e judged (variable_then of fs) k = first _ k
  argument_known line e judged (procedure_then asked fs) k =
      procedure_known (ExprHolds (known_by names) e) line asked (name_alone e) judged (alone_known names (ExprHolds (known_by names) e) (only_factor e) (only_known names e)) k

  mutual
    pub expression_known : (x : text.Expr) → Shows (ExprHolds (known_by names) x) (spec.expression env x)
    expression_known (text.expr s c) = two (simple_known s) (λ left. comparison_known left c)

    comparison_known : (left : Typed) (x : text.Comparison) → Shows (ComparisonHolds (known_by names) x) (spec.comparison env left x)
    comparison_known left text.no_comparison = record { shown = tt }
    comparison_known left (text.compared r line s) = first _ (simple_known s)

    simple_known : (x : text.Simple) → Shows (SimpleHolds (known_by names) x) (spec.simple env x)
    simple_known (text.simple sign t more) = two (term_known t) (λ v. over _ (λ x. first _ (addends_known x.of more)))

    addends_known : (left : ℕ) (x : text.Addends) → Shows (AddendsHolds (known_by names) x) (spec.addends env left x)
    addends_known left text.no_addend = record { shown = tt }
    addends_known left (text.next_addend (text.addend o line t) more) = two (first _ (term_known t)) (λ l. first _ (addends_known l.of more))

    term_known : (x : text.Term) → Shows (TermHolds (known_by names) x) (spec.term env x)
    term_known (text.term f more) = two (factor_known f) (λ x. first _ (multipliers_known x.of more))

    multipliers_known : (left : ℕ) (x : text.Multipliers) → Shows (MultipliersHolds (known_by names) x) (spec.multipliers env left x)
    multipliers_known left text.no_multiplier = record { shown = tt }
    multipliers_known left (text.next_multiplier (text.multiplier o line f) more) = two (first _ (factor_known f)) (λ l. first _ (multipliers_known l.of more))

    factor_known : (x : text.Factor) → Shows (FactorHolds (known_by names) x) (spec.factor env x)
    factor_known (text.numeral n) = record { shown = tt }
    factor_known (text.string s) = always (single s.line s.text) tt
    factor_known (text.not_factor line f) = first _ (factor_known f)
    factor_known (text.parenthesized e) = expression_known e
    factor_known (text.call_factor name xs) = two (look_known name) (λ means. applied_known name.line (use_of env means) xs)
    factor_known (text.variable_factor v) = value_known v

    applied_known : (line : ℕ) (use' : Use) (x : text.Args) → Shows (ArgsHolds (known_by names) x) (spec.applied env line use' x)
    applied_known line (constructs of) (text.args e es) =
        two (element_known (takes_strings (shape_at env.types of)) e (spec.expression env e) (expression_known e))
        (λ vs. first _ (elements_known (takes_strings (shape_at env.types of)) es))
    applied_known line (calls c) (text.args e es) =
        over _ (λ _. two (argument_known line e (spec.expression env e) (heading_formals c.asks) (expression_known e))
        (λ a. first _ (arguments_known line es (rest_of (heading_formals c.asks)))))
    applied_known line halts (text.args e es) = record { shown = tt }
    applied_known line neither (text.args e es) = record { shown = tt }

    elements_known : (strings : Bool) (x : text.Exprs) → Shows (ExprsHolds (known_by names) x) (spec.more_elements env strings x)
    elements_known strings text.no_expr = record { shown = tt }
    elements_known strings (text.next_expr e es) =
        two (element_known strings e (spec.expression env e) (expression_known e)) (λ vs. first _ (elements_known strings es))

    arguments_known : (line : ℕ) (x : text.Exprs) (fs : Formals) → Shows (ExprsHolds (known_by names) x) (spec.more_arguments env line x fs)
    arguments_known line text.no_expr fs = record { shown = tt }
    arguments_known line (text.next_expr e es) fs =
        two (argument_known line e (spec.expression env e) fs (expression_known e)) (λ a. first _ (arguments_known line es (rest_of fs)))

    value_known : (x : text.Variable) → Shows (VariableHolds (known_by names) x) (spec.variable_value env x)
    value_known (text.variable (root.Name name) text.no_selector) =
        two (look_known name) (λ means. always (spec.used_alone env name.line (use_of env means) means) tt)
    value_known (text.variable (root.Name name) (text.next_selector s ss)) =
        two (rooted_known (root.Name name)) (λ v. first _ (selectors_known v.of (text.next_selector s ss)))
    value_known (text.variable (root.Val name) ss) = two (rooted_known (root.Val name)) (λ v. first _ (selectors_known v.of ss))

    pub place_known : (x : text.Variable) → Shows (VariableHolds (known_by names) x) (spec.variable_place env x)
    place_known (text.variable r ss) = two (rooted_known r) (λ v. first _ (selectors_known v.of ss))

    selectors_known : (of : ℕ) (x : text.Selectors) → Shows (SelectorsHolds (known_by names) x) (spec.selectors env of x)
    selectors_known of text.no_selector = record { shown = tt }
    selectors_known of (text.next_selector s ss) = two (selector_known of s) (λ p. first _ (selectors_known p.of ss))

    selector_known : (of : ℕ) (x : text.Selector) → Shows (SelectorHolds (known_by names) x) (spec.selector env of x)
    selector_known of (text.field line name) = always (spec.field_of env line of name) tt
    selector_known of (text.index line e) = first _ (expression_known e)

  pub all_arguments_known : (line : ℕ) (x : text.Args) (fs : Formals) → Shows (ArgsHolds (known_by names) x) (spec.all_arguments env line x fs)
  all_arguments_known line (text.args e es) fs =
      two (argument_known line e (spec.expression env e) fs (expression_known e)) (λ a. first _ (arguments_known line es (rest_of fs)))
