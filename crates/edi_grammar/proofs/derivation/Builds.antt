-- The tree that each rule makes of its symbols and trees.
use Rattle.std.proofs.Common.{ℕ, ℤ, pos, List, [], ◌∷◌, Option, Some, None}
use Rattle.edi_lex.specs.declared.symbol.Symbol.{Symbol}
use Rattle.edi_lex.specs.declared.symbol.Symbol.TheVariants as is
use Rattle.edi_lex.specs.declared.symbol.Mark.{Mark}
use Rattle.edi_tree.specs.declared.names.Name.{Name}
use Rattle.edi_tree.specs.declared.names.Char.{Char}
use Rattle.edi_tree.specs.declared.names.Chars.{Chars}
use Rattle.edi_tree.specs.declared.constants.Constant.TheVariants as constant
use Rattle.edi_tree.specs.declared.expressions.Relation.TheVariants as relation
use Rattle.edi_tree.specs.declared.expressions.Sign.TheVariants as sign
use Rattle.edi_tree.specs.declared.expressions.Addition.TheVariants as addition
use Rattle.edi_tree.specs.declared.expressions.Multiplication.TheVariants as multiplication
use Rattle.edi_tree.specs.declared.expressions.Root.TheVariants as root
use Rattle.edi_tree.specs.Tree.{no_name, next_name, no_const_decl, next_const_decl, const_list, group, no_group, next_group, enum_decl, record_decl}
use Rattle.edi_tree.specs.Tree.{array_decl, set_decl, var_list, heading, no_params, params, no_param, next_param, value_param, var_param, procedure_param}
use Rattle.edi_tree.specs.Tree.{expr, no_comparison, compared, no_expr, next_expr, simple, addend, no_addend, next_addend, term, multiplier, no_multiplier}
use Rattle.edi_tree.specs.Tree.{next_multiplier, Factor, numeral, string, not_factor, parenthesized, call_factor, variable_factor, args, variable, field}
use Rattle.edi_tree.specs.Tree.{index, no_selector, next_selector, list, no_statement, next_statement, Statement, skip, assignment, call, if_statement}
use Rattle.edi_tree.specs.Tree.{while_statement, when_statement, cobegin, conditions, condition, no_else, next_else, branch, no_branch, next_branch}
use Rattle.edi_tree.specs.Tree.{procedure, const_item, type_item, var_item, procedure_item, pre_item, post_item, module_with, item_member, exported_member}
use Rattle.edi_tree.specs.Tree.{module_member, no_member, next_member, item_declaration, module_declaration, no_declaration, next_declaration, const_global}
use Rattle.edi_tree.specs.Tree.{type_global, no_global, next_global, program}
use Rattle.edi_grammar.specs.Grammar.{Part}
use Rattle.edi_grammar.specs.Trees.{Trees, Builders}
use Rattle.edi_grammar.specs.Rules as g
use Rattle.edi_grammar.specs.Rules.{Sort, rules}
use Rattle.edi_grammar.specs.derivation.Parts.{After, called, assigned, alone, Behind, with_args, selected, Tree}

abbrev pub text_of : Symbol → List ℕ
text_of (is.Name text) = text
text_of (is.Chars text) = text
text_of _ = []

abbrev pub value_of : Symbol → ℤ
value_of (is.Numeral v) = v
value_of _ = pos 0

abbrev pub first_of : List ℕ → ℕ
first_of [] = 0
first_of (b ∷ more) = b

abbrev pub line_in : Option Mark → ℕ
line_in None = 0
line_in (Some m) = m.line

abbrev pub name_in : Option Mark → Name
name_in None = record { text = []; line = 0 }
name_in (Some m) = record { text = text_of m.symbol; line = m.line }

abbrev pub value_in : Option Mark → ℤ
value_in None = pos 0
value_in (Some m) = value_of m.symbol

abbrev pub char_in : Option Mark → Char
char_in None = record { character = 0; line = 0 }
char_in (Some m) = record { character = first_of (text_of m.symbol); line = m.line }

abbrev pub chars_in : Option Mark → Chars
chars_in None = record { text = []; line = 0 }
chars_in (Some m) = record { text = text_of m.symbol; line = m.line }

abbrev pub couple : {A : Type 0} → A → ℕ → A × ℕ
couple a line = (a, line)

abbrev pub statement_with : Name → After → Statement
statement_with n (called a) = call n (Some a)
statement_with n (assigned ss line e) = assignment (variable (root.Name n) ss) line e
statement_with n alone = call n None

abbrev pub factor_with : Name → Behind → Factor
factor_with n (with_args a) = call_factor n a
factor_with n (selected ss) = variable_factor (variable (root.Name n) ss)

abbrev pub Ts : List (Part Sort) → Type 0
Ts x = Trees (Option Mark) Tree x

abbrev pub build : (k : Sort) → Builders (Option Mark) Tree k (rules k)
build g.Program = ((λ us. program us.0 us.1.0), tt)
build g.Globals = ((λ us. next_global us.0 us.1.0), ((λ us. no_global), tt))
build g.Global = ((λ us. const_global us.0), ((λ us. type_global us.0), tt))
build g.ConstList = ((λ us. const_list us.1.0 us.1.1.0), tt)
build g.ConstDecls = ((λ us. next_const_decl us.1.0 us.1.1.0), ((λ us. no_const_decl), tt))
build g.ConstDecl = ((λ us. record { name = (name_in us.0); constant = us.1.1.0 }), tt)
build g.Constant = ((λ us. constant.Numeral (value_in us.0)), ((λ us. constant.Char (char_in us.0)), ((λ us. constant.Name (name_in us.0) us.1.0), tt)))
build g.Code = ((λ us. Some (value_in us.1.0)), ((λ us. None), tt))
build g.TypeDecl = (
  (λ us. enum_decl (name_in us.1.0) (name_in us.1.1.1.0) us.1.1.1.1.0),
  (
    (λ us. record_decl (name_in us.1.0) us.1.1.1.0 us.1.1.1.1.0),
    (
      (λ us. array_decl (name_in us.1.0) (line_in us.1.1.0) us.1.1.1.0 us.1.1.1.1.1.0 (name_in us.1.1.1.1.1.1.1.1.0)),
      ((λ us. set_decl (name_in us.1.0) (name_in us.1.1.1.0)), tt),
    ),
  ),
)
build g.Names = ((λ us. next_name (name_in us.1.0) us.1.1.0), ((λ us. no_name), tt))
build g.Group = ((λ us. group (name_in us.0) us.1.0 (name_in us.1.1.1.0)), tt)
build g.Groups = ((λ us. next_group us.1.0 us.1.1.0), ((λ us. no_group), tt))
build g.VarList = ((λ us. var_list us.1.0 us.1.1.0), tt)
build g.Head = ((λ us. heading (name_in us.0) us.1.0 us.1.1.0), tt)
build g.Params = ((λ us. params us.1.0 us.1.1.0), ((λ us. no_params), tt))
build g.MoreParams = ((λ us. next_param us.1.0 us.1.1.0), ((λ us. no_param), tt))
build g.Result = ((λ us. Some (name_in us.1.0)), ((λ us. None), tt))
build g.Param = ((λ us. var_param us.1.0), ((λ us. procedure_param us.1.0), ((λ us. value_param us.0), tt)))
build g.Procedure = ((λ us. procedure us.1.0 us.1.1.0 us.1.1.1.1.0 (line_in us.1.1.1.1.1.0)), tt)
build g.Item = (
  (λ us. const_item us.0),
  ((λ us. type_item us.0), ((λ us. var_item us.0), ((λ us. pre_item us.1.1.0), ((λ us. post_item us.1.0), ((λ us. procedure_item us.0), tt))))),
)
build g.Module = ((λ us. module_with us.1.0 us.1.1.1.0), tt)
build g.Member = ((λ us. exported_member us.1.0), ((λ us. module_member us.0), ((λ us. item_member us.0), tt)))
build g.Members = ((λ us. next_member us.0 us.1.0), ((λ us. no_member), tt))
build g.Declaration = ((λ us. module_declaration us.0), ((λ us. item_declaration us.0), tt))
build g.Declarations = ((λ us. next_declaration us.0 us.1.0), ((λ us. no_declaration), tt))
build g.StatementList = ((λ us. list us.0 us.1.0), tt)
build g.Statements = ((λ us. next_statement us.1.0 us.1.1.0), ((λ us. no_statement), tt))
build g.Statement = (
  (λ us. skip),
  (
    (λ us. statement_with (name_in us.0) us.1.0),
    (
      (λ us. assignment (variable (root.Val (name_in us.1.0)) us.1.1.0) (line_in us.1.1.1.0) us.1.1.1.1.0),
      (
        (λ us. if_statement us.1.0),
        (
          (λ us. while_statement us.1.0),
          ((λ us. when_statement (line_in us.0) us.1.0), ((λ us. cobegin (line_in us.0) us.1.0 us.1.1.0), tt)),
        ),
      ),
    ),
  ),
)
build g.After = ((λ us. called us.0), ((λ us. assigned us.0 (line_in us.1.0) us.1.1.0), ((λ us. alone), tt)))
build g.Args = ((λ us. args us.1.0 us.1.1.0), tt)
build g.Exprs = ((λ us. next_expr us.1.0 us.1.1.0), ((λ us. no_expr), tt))
build g.Selectors = ((λ us. next_selector us.0 us.1.0), ((λ us. no_selector), tt))
build g.Selector = ((λ us. field (line_in us.0) (name_in us.1.0)), ((λ us. index (line_in us.0) us.1.0), tt))
build g.Conditions = ((λ us. conditions us.0 us.1.0), tt)
build g.Condition = ((λ us. condition us.0 (line_in us.1.0) us.1.1.0), tt)
build g.Else = ((λ us. next_else us.1.0 us.1.1.0), ((λ us. no_else), tt))
build g.Branch = ((λ us. branch us.0 (line_in us.1.0) us.1.1.0), tt)
build g.Branches = ((λ us. next_branch (line_in us.0) us.1.0 us.1.1.0), ((λ us. no_branch (line_in us.0)), tt))
build g.Expr = ((λ us. expr us.0 us.1.0), tt)
build g.Comparison = ((λ us. compared us.0.0 us.0.1 us.1.0), ((λ us. no_comparison), tt))
build g.Relation = (
  (λ us. couple relation.Equal (line_in us.0)),
  (
    (λ us. couple relation.NotEqual (line_in us.0)),
    (
      (λ us. couple relation.Less (line_in us.0)),
      (
        (λ us. couple relation.AtMost (line_in us.0)),
        ((λ us. couple relation.Greater (line_in us.0)), ((λ us. couple relation.AtLeast (line_in us.0)), ((λ us. couple relation.In (line_in us.0)), tt))),
      ),
    ),
  ),
)
build g.Simple = ((λ us. simple us.0 us.1.0 us.1.1.0), tt)
build g.Sign = ((λ us. Some (sign.Plus (line_in us.0))), ((λ us. Some (sign.Minus (line_in us.0))), ((λ us. None), tt)))
build g.Addends = ((λ us. next_addend us.0 us.1.0), ((λ us. no_addend), tt))
build g.Addend = ((λ us. addend us.0.0 us.0.1 us.1.0), tt)
build g.Addition = (
  (λ us. couple addition.Plus (line_in us.0)),
  ((λ us. couple addition.Minus (line_in us.0)), ((λ us. couple addition.Or (line_in us.0)), tt)),
)
build g.Term = ((λ us. term us.0 us.1.0), tt)
build g.Multipliers = ((λ us. next_multiplier us.0 us.1.0), ((λ us. no_multiplier), tt))
build g.Multiplier = ((λ us. multiplier us.0.0 us.0.1 us.1.0), tt)
build g.Multiplication = (
  (λ us. couple multiplication.Star (line_in us.0)),
  (
    (λ us. couple multiplication.Div (line_in us.0)),
    ((λ us. couple multiplication.Mod (line_in us.0)), ((λ us. couple multiplication.And (line_in us.0)), tt)),
  ),
)
build g.Factor = (
  (λ us. numeral (value_in us.0)),
  (
    (λ us. string (chars_in us.0)),
    (
      (λ us. string (chars_in us.0)),
      (
        (λ us. not_factor (line_in us.0) us.1.0),
        ((λ us. parenthesized us.1.0), ((λ us. factor_with (name_in us.0) us.1.0), ((λ us. variable_factor (variable (root.Val (name_in us.1.0)) us.1.1.0)), tt))),
      ),
    ),
  ),
)
build g.Behind = ((λ us. with_args us.0), ((λ us. selected us.0), tt))
