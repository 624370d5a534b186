-- Each numeral and character of a tree that symbols may hold is in range: constants, types, headings and expressions.
use Rattle.std.proofs.Common.{List, [], ◌∷◌, Option, None, Some}
use Rattle.edi_lex.specs.declared.symbol.Symbol.TheVariants as is
use Rattle.edi_tree.specs.declared.names.Name.{Name}
use Rattle.edi_tree.specs.declared.constants.Constant.{Constant}
use Rattle.edi_tree.specs.declared.constants.Constant.TheVariants as constant
use Rattle.edi_tree.specs.declared.constants.ConstDecl.{ConstDecl}
use Rattle.edi_tree.specs.declared.expressions.Sign.{Sign}
use Rattle.edi_tree.specs.declared.expressions.Sign.TheVariants as sign
use Rattle.edi_tree.specs.declared.expressions.Root.{Root}
use Rattle.edi_tree.specs.declared.expressions.Root.TheVariants as root
use Rattle.edi_tree.specs.Tree.{Names, no_name, next_name, ConstDecls, no_const_decl, next_const_decl, ConstList, const_list, Group, group, Groups, no_group}
use Rattle.edi_tree.specs.Tree.{next_group, TypeDecl, enum_decl, record_decl, array_decl, set_decl, VarList, var_list, Heading, heading, Params, no_params}
use Rattle.edi_tree.specs.Tree.{params, MoreParams, no_param, next_param, Param, value_param, var_param, procedure_param, Expr, expr, Comparison}
use Rattle.edi_tree.specs.Tree.{no_comparison, compared, Exprs, no_expr, next_expr, Simple, simple, addend, Addends, no_addend, next_addend, Term, term}
use Rattle.edi_tree.specs.Tree.{multiplier, Multipliers, no_multiplier, next_multiplier, Factor, numeral, string, not_factor, parenthesized, call_factor}
use Rattle.edi_tree.specs.Tree.{variable_factor, Args, args, Variable, variable, Selector, field, index, Selectors, no_selector, next_selector}
use Rattle.edi_tree.specs.Stands.{Spelled, just, char_mark, chars_mark, name_mark}
use Rattle.edi_tree.specs.Spelled.{names_then, constant_then, const_decl_then, const_decls_then}
use Rattle.edi_tree.specs.Spelled.{const_list_then, group_then, groups_then, type_decl_then, var_list_then, result_then, heading_then, params_then}
use Rattle.edi_tree.specs.Spelled.{more_params_then, param_then, sign_then, root_then, expr_then, comparison_then, exprs_then, simple_then, addends_then}
use Rattle.edi_tree.specs.Spelled.{term_then, multipliers_then, factor_then, args_then, variable_then, selector_then, selectors_then, optional_args_then}
use Rattle.edi_static.specs.Leaves.{ExprHolds, ComparisonHolds, ExprsHolds, SimpleHolds, AddendsHolds, TermHolds, MultipliersHolds, FactorHolds, ArgsHolds}
use Rattle.edi_static.specs.Leaves.{VariableHolds, SelectorHolds, SelectorsHolds, OptionalArgsHolds}
use Rattle.edi_static.specs.InRange.{ConstantInRange, ConstDeclsInRange, ConstListInRange, TypeDeclInRange, in_range}
use Rattle.edi_sema.proofs.Bounded.{numeral_in_range, numeral_not_negative, string_in_range, Bounded, first_of, rest, Passed, nothing, mark, then_mark}
use Rattle.edi_sema.proofs.Bounded.{in_turn, past, loose}

-- ---- names, constants, types, variables

names_passed : (x : Names) (more : List Spelled) → Bounded (names_then x more) → Passed 0 (Unit {0}) (names_then x more) more
names_passed no_name more h = nothing h
names_passed (next_name n ns) more h = loose (mark (mark (names_passed ns more (rest (rest h)))))

-- a part that is spelled by the first mark
one : {P : Type 0} {s : Spelled} {ss : List Spelled} → Bounded (s ∷ ss) → P → Passed 1 P (s ∷ ss) ss
one h p = mark (record { part = p; behind_it = rest h; fewer = (nothing (rest h)).fewer })

pub constant_passed : (x : Constant) (more : List Spelled) → Bounded (constant_then x more) → Passed 1 (ConstantInRange x) (constant_then x more) more
constant_passed (constant.Numeral v) more h = one h (numeral_in_range v (first_of (just (is.Numeral v)) more h))
constant_passed (constant.Char c) more h = one h (string_in_range (c.character ∷ []) (first_of (char_mark c) more h)).0
constant_passed (constant.Name n None) more h = one h tt
constant_passed (constant.Name n (Some v)) more h =
    let inner = rest (rest h) in
    mark (mark (then_mark (one inner (numeral_not_negative v (first_of (just (is.Numeral v)) (just is.Close ∷ more) inner)))))

const_decl_passed : (x : ConstDecl) (more : List Spelled) → Bounded (const_decl_then x more) → Passed 1 (ConstantInRange x.constant) (const_decl_then x more)
    more
const_decl_passed d more h = mark (mark (constant_passed d.constant more (rest (rest h))))

const_decls_passed : (x : ConstDecls) (more : List Spelled) → Bounded (const_decls_then x more) → Passed 0 (ConstDeclsInRange x) (const_decls_then x more) more
const_decls_passed no_const_decl more h = nothing h
const_decls_passed (next_const_decl d ds) more h =
    loose (mark (in_turn (const_decl_passed d (const_decls_then ds more) (rest h)) (λ b. const_decls_passed ds more b)))

pub const_list_passed : (x : ConstList) (more : List Spelled) → Bounded (const_list_then x more) → Passed 0 (ConstListInRange x) (const_list_then x more) more
const_list_passed (const_list d ds) more h =
    loose (mark (in_turn (const_decl_passed d (const_decls_then ds more) (rest h)) (λ b. const_decls_passed ds more b)))

group_passed : (x : Group) (more : List Spelled) → Bounded (group_then x more) → Passed 0 (Unit {0}) (group_then x more) more
group_passed (group n ns t) more h = loose (mark (then_mark (then_mark (names_passed ns (just is.Colon ∷ name_mark t ∷ more) (rest h)))))

groups_passed : (x : Groups) (more : List Spelled) → Bounded (groups_then x more) → Passed 0 (Unit {0}) (groups_then x more) more
groups_passed no_group more h = nothing h
groups_passed (next_group g gs) more h = loose (mark (past (group_passed g (groups_then gs more) (rest h)) (λ b. groups_passed gs more b)))

pub type_decl_passed : (x : TypeDecl) (more : List Spelled) → Bounded (type_decl_then x more) → Passed 0 (TypeDeclInRange x) (type_decl_then x more) more
type_decl_passed (enum_decl n m ms) more h =
    loose (mark (mark (mark (mark (then_mark (names_passed ms (just is.Close ∷ more) (rest (rest (rest (rest h))))))))))
type_decl_passed (record_decl n g gs) more h =
    loose (mark (mark (mark (past (group_passed g (groups_then gs (just is.Close ∷ more)) (rest (rest (rest h)))) (λ b.
    then_mark (groups_passed gs (just is.Close ∷ more) b))))))
type_decl_passed (array_decl n line lower upper e) more h =
    let last = just is.CloseBracket ∷ just is.Open ∷ name_mark e ∷ just is.Close ∷ more in
    loose (mark (mark (mark (in_turn (then_mark (constant_passed lower (just is.Colon ∷ constant_then upper last) (rest (rest (rest h))))) (λ b.
    then_mark (then_mark (then_mark (then_mark (constant_passed upper last b)))))))))
type_decl_passed (set_decl n b) more h = loose (mark (mark (mark (mark (mark (nothing (rest (rest (rest (rest (rest h)))))))))))

pub var_list_passed : (x : VarList) (more : List Spelled) → Bounded (var_list_then x more) → Passed 0 (Unit {0}) (var_list_then x more) more
var_list_passed (var_list g gs) more h = loose (mark (past (group_passed g (groups_then gs more) (rest h)) (λ b. groups_passed gs more b)))

-- ---- headings

result_passed : (x : Option Name) (more : List Spelled) → Bounded (result_then x more) → Passed 0 (Unit {0}) (result_then x more) more
result_passed None more h = nothing h
result_passed (Some n) more h = loose (mark (mark (nothing (rest (rest h)))))

mutual
  pub heading_passed : (x : Heading) (more : List Spelled) → Bounded (heading_then x more) → Passed 0 (Unit {0}) (heading_then x more) more
  heading_passed (heading n ps r) more h = loose (mark (mark (past (params_passed ps (result_then r more) (rest (rest h))) (λ b. result_passed r more b))))

  params_passed : (x : Params) (more : List Spelled) → Bounded (params_then x more) → Passed 0 (Unit {0}) (params_then x more) more
  params_passed no_params more h = nothing h
  params_passed (params p ps) more h =
      loose (mark (past (param_passed p (more_params_then ps (just is.Close ∷ more)) (rest h)) (λ b. then_mark (more_params_passed ps (just is.Close ∷
      more) b))))

  more_params_passed : (x : MoreParams) (more : List Spelled) → Bounded (more_params_then x more) → Passed 0 (Unit {0}) (more_params_then x more) more
  more_params_passed no_param more h = nothing h
  more_params_passed (next_param p ps) more h = loose (mark (past (param_passed p (more_params_then ps more) (rest h)) (λ b. more_params_passed ps more b)))

  param_passed : (x : Param) (more : List Spelled) → Bounded (param_then x more) → Passed 0 (Unit {0}) (param_then x more) more
  param_passed (value_param g) more h = group_passed g more h
  param_passed (var_param g) more h = loose (mark (group_passed g more (rest h)))
  param_passed (procedure_param p) more h = heading_passed p more h

-- ---- expressions

sign_passed : (x : Option Sign) (more : List Spelled) → Bounded (sign_then x more) → Passed 0 (Unit {0}) (sign_then x more) more
sign_passed None more h = nothing h
sign_passed (Some (sign.Plus line)) more h = loose (mark (nothing (rest h)))
sign_passed (Some (sign.Minus line)) more h = loose (mark (nothing (rest h)))

root_passed : (x : Root) (more : List Spelled) → Bounded (root_then x more) → Passed 1 (Unit {0}) (root_then x more) more
root_passed (root.Name n) more h = mark (nothing (rest h))
root_passed (root.Val n) more h = mark (mark (nothing (rest (rest h))))

mutual
  pub expr_passed : (x : Expr) (more : List Spelled) → Bounded (expr_then x more) → Passed 0 (ExprHolds in_range x) (expr_then x more) more
  expr_passed (expr s c) more h = in_turn (simple_passed s (comparison_then c more) h) (λ b. comparison_passed c more b)

  comparison_passed : (x : Comparison) (more : List Spelled) → Bounded (comparison_then x more) → Passed 0 (ComparisonHolds in_range x) (comparison_then x more) more
  comparison_passed no_comparison more h = nothing h
  comparison_passed (compared r line s) more h = loose (mark (simple_passed s more (rest h)))

  exprs_passed : (x : Exprs) (more : List Spelled) → Bounded (exprs_then x more) → Passed 0 (ExprsHolds in_range x) (exprs_then x more) more
  exprs_passed no_expr more h = nothing h
  exprs_passed (next_expr e es) more h = loose (mark (in_turn (expr_passed e (exprs_then es more) (rest h)) (λ b. exprs_passed es more b)))

  simple_passed : (x : Simple) (more : List Spelled) → Bounded (simple_then x more) → Passed 0 (SimpleHolds in_range x) (simple_then x more) more
  simple_passed (simple s t ts) more h =
      past (sign_passed s (term_then t (addends_then ts more)) h) (λ b.
      in_turn (term_passed t (addends_then ts more) b) (λ c. addends_passed ts more c))

  addends_passed : (x : Addends) (more : List Spelled) → Bounded (addends_then x more) → Passed 0 (AddendsHolds in_range x) (addends_then x more) more
  addends_passed no_addend more h = nothing h
  addends_passed (next_addend (addend o line t) ts) more h =
      in_turn (loose (mark (term_passed t (addends_then ts more) (rest h)))) (λ b. addends_passed ts more b)

  term_passed : (x : Term) (more : List Spelled) → Bounded (term_then x more) → Passed 0 (TermHolds in_range x) (term_then x more) more
  term_passed (term f fs) more h = in_turn (factor_passed f (multipliers_then fs more) h) (λ b. multipliers_passed fs more b)

  multipliers_passed : (x : Multipliers) (more : List Spelled) → Bounded (multipliers_then x more) → Passed 0 (MultipliersHolds in_range x) (multipliers_then x more)
      more
  multipliers_passed no_multiplier more h = nothing h
  multipliers_passed (next_multiplier (multiplier o line f) fs) more h =
      in_turn (loose (mark (factor_passed f (multipliers_then fs more) (rest h)))) (λ b. multipliers_passed fs more b)

  factor_passed : (x : Factor) (more : List Spelled) → Bounded (factor_then x more) → Passed 0 (FactorHolds in_range x) (factor_then x more) more
  factor_passed (numeral v) more h = loose (one h (numeral_in_range v (first_of (just (is.Numeral v)) more h)))
  factor_passed (string s) more h = loose (one h (string_in_range s.text (first_of (chars_mark s) more h)))
  factor_passed (not_factor line f) more h = loose (mark (factor_passed f more (rest h)))
  factor_passed (parenthesized e) more h = loose (mark (then_mark (expr_passed e (just is.Close ∷ more) (rest h))))
  factor_passed (call_factor n a) more h = loose (mark (args_passed a more (rest h)))
  factor_passed (variable_factor v) more h = loose (variable_passed v more h)

  pub args_passed : (x : Args) (more : List Spelled) → Bounded (args_then x more) → Passed 0 (ArgsHolds in_range x) (args_then x more) more
  args_passed (args e es) more h =
      loose (mark (in_turn (expr_passed e (exprs_then es (just is.Close ∷ more)) (rest h)) (λ b. then_mark (exprs_passed es (just is.Close ∷ more) b))))

  pub variable_passed : (x : Variable) (more : List Spelled) → Bounded (variable_then x more) → Passed 0 (VariableHolds in_range x) (variable_then x more) more
  variable_passed (variable r ss) more h = past (root_passed r (selectors_then ss more) h) (λ b. selectors_passed ss more b)

  selector_passed : (x : Selector) (more : List Spelled) → Bounded (selector_then x more) → Passed 0 (SelectorHolds in_range x) (selector_then x more) more
  selector_passed (field line n) more h = loose (mark (mark (nothing (rest (rest h)))))
  selector_passed (index line e) more h = loose (mark (then_mark (expr_passed e (just is.CloseBracket ∷ more) (rest h))))

  selectors_passed : (x : Selectors) (more : List Spelled) → Bounded (selectors_then x more) → Passed 0 (SelectorsHolds in_range x) (selectors_then x more) more
  selectors_passed no_selector more h = nothing h
  selectors_passed (next_selector s ss) more h = in_turn (selector_passed s (selectors_then ss more) h) (λ b. selectors_passed ss more b)

pub optional_args_passed : (x : Option Args) (more : List Spelled) → Bounded (optional_args_then x more) → Passed 0 (OptionalArgsHolds in_range x)
    (optional_args_then x more) more
optional_args_passed None more h = nothing h
optional_args_passed (Some a) more h = args_passed a more h
