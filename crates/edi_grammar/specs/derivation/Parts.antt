-- Words of contracts. The parts of the factored grammar, each with the type of its trees and with the elements that a tree of it has. Where a
-- part is a production, these are the tree and the elements of the production.
use Rattle.std.specs.Prelude.{ℕ, ℤ, List, ◌∷◌, Option, Some, None}
use Rattle.edi_lex.specs.declared.symbol.Symbol.TheVariants as is
use Rattle.edi_tree.specs.declared.names.Name.{Name}
use Rattle.edi_tree.specs.declared.constants.Constant.{Constant}
use Rattle.edi_tree.specs.declared.constants.ConstDecl.{ConstDecl}
use Rattle.edi_tree.specs.declared.expressions.Relation.{Relation}
use Rattle.edi_tree.specs.declared.expressions.Sign.{Sign}
use Rattle.edi_tree.specs.declared.expressions.Addition.{Addition}
use Rattle.edi_tree.specs.declared.expressions.Multiplication.{Multiplication}
use Rattle.edi_tree.specs.Tree.{Names, ConstDecls, ConstList, Group, Groups, TypeDecl, VarList, Heading, heading, Params, MoreParams, Param, Expr}
use Rattle.edi_tree.specs.Tree.{Comparison, Exprs, Simple, Addend, Addends, Term, Multiplier, Multipliers, Factor, Args, Selector, Selectors, StatementList}
use Rattle.edi_tree.specs.Tree.{Statements, Statement, Conditions, Condition, Else, Branch, Branches, no_branch, next_branch, Procedure, Item, Module}
use Rattle.edi_tree.specs.Tree.{Member, Members, Declaration, Declarations, Global, Globals, Program}
use Rattle.edi_tree.specs.Stands.{relation_symbol, addition_symbol, multiplication_symbol}
use Rattle.edi_tree.specs.Levels.{Element, level_end, word, kept, named, addend_elements, addends_elements, args_elements, branch_elements}
use Rattle.edi_tree.specs.Levels.{comparison_elements, condition_elements, conditions_elements, const_decl_elements, const_decls_elements}
use Rattle.edi_tree.specs.Levels.{const_list_elements, constant_elements, declaration_elements, declarations_elements, else_elements, expr_elements}
use Rattle.edi_tree.specs.Levels.{exprs_elements, factor_elements, global_elements, globals_elements, group_elements, groups_elements, item_elements}
use Rattle.edi_tree.specs.Levels.{list_elements, member_elements, members_elements, module_elements, more_params_elements, multiplier_elements}
use Rattle.edi_tree.specs.Levels.{multipliers_elements, names_elements, param_elements, params_elements, procedure_elements, program_elements}
use Rattle.edi_tree.specs.Levels.{result_elements, selector_elements, selectors_elements, sign_elements, simple_elements, statement_elements}
use Rattle.edi_tree.specs.Levels.{statements_elements, term_elements, type_decl_elements, var_list_elements}
use Rattle.edi_grammar.specs.Rules as g
use Rattle.edi_grammar.specs.Rules.{Sort}

-- what stands behind the name that begins a statement
pub data After : Type 0 where
  called : Args → After
  assigned : Selectors → (line : ℕ) → Expr → After
  alone : After

-- what stands behind the name that begins a factor
pub data Behind : Type 0 where
  with_args : Args → Behind
  selected : Selectors → Behind

-- a heading behind its `proc`
abbrev pub head_elements : Heading → List Element → List Element
head_elements (heading n ps r) more = named n ∷ params_elements ps (result_elements r more)

-- [ "(" Numeral ")" ]
abbrev pub code_elements : Option ℤ → List Element → List Element
code_elements None more = more
code_elements (Some v) more = word is.Open ∷ word (is.Numeral v) ∷ word is.Close ∷ level_end ∷ more

abbrev pub after_elements : After → List Element → List Element
after_elements (called a) more = args_elements a more
after_elements (assigned ss line e) more = selectors_elements ss (kept is.Becomes line ∷ expr_elements e more)
after_elements alone more = more

abbrev pub behind_elements : Behind → List Element → List Element
behind_elements (with_args a) more = args_elements a more
behind_elements (selected ss) more = selectors_elements ss more

abbrev pub relation_elements : Relation × ℕ → List Element → List Element
relation_elements r more = kept (relation_symbol r.0) r.1 ∷ more

abbrev pub addition_elements : Addition × ℕ → List Element → List Element
addition_elements o more = kept (addition_symbol o.0) o.1 ∷ more

abbrev pub multiplication_elements : Multiplication × ℕ → List Element → List Element
multiplication_elements o more = kept (multiplication_symbol o.0) o.1 ∷ more

-- { "also" Branch } "end", before its level is closed
abbrev pub open_branches : Branches → List Element → List Element
open_branches (no_branch end) more = kept is.End end ∷ more
open_branches (next_branch also b bs) more = kept is.Also also ∷ branch_elements b (open_branches bs more)

abbrev pub Tree : Sort → Type 0
Tree g.Program = Program
Tree g.Globals = Globals
Tree g.Global = Global
Tree g.ConstList = ConstList
Tree g.ConstDecls = ConstDecls
Tree g.ConstDecl = ConstDecl
Tree g.Constant = Constant
Tree g.Code = Option ℤ
Tree g.TypeDecl = TypeDecl
Tree g.Names = Names
Tree g.Group = Group
Tree g.Groups = Groups
Tree g.VarList = VarList
Tree g.Head = Heading
Tree g.Params = Params
Tree g.MoreParams = MoreParams
Tree g.Result = Option Name
Tree g.Param = Param
Tree g.Procedure = Procedure
Tree g.Item = Item
Tree g.Module = Module
Tree g.Member = Member
Tree g.Members = Members
Tree g.Declaration = Declaration
Tree g.Declarations = Declarations
Tree g.StatementList = StatementList
Tree g.Statements = Statements
Tree g.Statement = Statement
Tree g.After = After
Tree g.Args = Args
Tree g.Exprs = Exprs
Tree g.Selectors = Selectors
Tree g.Selector = Selector
Tree g.Conditions = Conditions
Tree g.Condition = Condition
Tree g.Else = Else
Tree g.Branch = Branch
Tree g.Branches = Branches
Tree g.Expr = Expr
Tree g.Comparison = Comparison
Tree g.Relation = Relation × ℕ
Tree g.Simple = Simple
Tree g.Sign = Option Sign
Tree g.Addends = Addends
Tree g.Addend = Addend
Tree g.Addition = Addition × ℕ
Tree g.Term = Term
Tree g.Multipliers = Multipliers
Tree g.Multiplier = Multiplier
Tree g.Multiplication = Multiplication × ℕ
Tree g.Factor = Factor
Tree g.Behind = Behind

abbrev pub elements_of : (k : Sort) → Tree k → List Element → List Element
elements_of g.Program t more = program_elements t more
elements_of g.Globals t more = globals_elements t more
elements_of g.Global t more = global_elements t more
elements_of g.ConstList t more = const_list_elements t more
elements_of g.ConstDecls t more = const_decls_elements t more
elements_of g.ConstDecl t more = const_decl_elements t more
elements_of g.Constant t more = constant_elements t more
elements_of g.Code t more = code_elements t more
elements_of g.TypeDecl t more = type_decl_elements t more
elements_of g.Names t more = names_elements t more
elements_of g.Group t more = group_elements t more
elements_of g.Groups t more = groups_elements t more
elements_of g.VarList t more = var_list_elements t more
elements_of g.Head t more = head_elements t more
elements_of g.Params t more = params_elements t more
elements_of g.MoreParams t more = more_params_elements t more
elements_of g.Result t more = result_elements t more
elements_of g.Param t more = param_elements t more
elements_of g.Procedure t more = procedure_elements t more
elements_of g.Item t more = item_elements t more
elements_of g.Module t more = module_elements t more
elements_of g.Member t more = member_elements t more
elements_of g.Members t more = members_elements t more
elements_of g.Declaration t more = declaration_elements t more
elements_of g.Declarations t more = declarations_elements t more
elements_of g.StatementList t more = list_elements t more
elements_of g.Statements t more = statements_elements t more
elements_of g.Statement t more = statement_elements t more
elements_of g.After t more = after_elements t more
elements_of g.Args t more = args_elements t more
elements_of g.Exprs t more = exprs_elements t more
elements_of g.Selectors t more = selectors_elements t more
elements_of g.Selector t more = selector_elements t more
elements_of g.Conditions t more = conditions_elements t more
elements_of g.Condition t more = condition_elements t more
elements_of g.Else t more = else_elements t more
elements_of g.Branch t more = branch_elements t more
elements_of g.Branches t more = open_branches t more
elements_of g.Expr t more = expr_elements t more
elements_of g.Comparison t more = comparison_elements t more
elements_of g.Relation t more = relation_elements t more
elements_of g.Simple t more = simple_elements t more
elements_of g.Sign t more = sign_elements t more
elements_of g.Addends t more = addends_elements t more
elements_of g.Addend t more = addend_elements t more
elements_of g.Addition t more = addition_elements t more
elements_of g.Term t more = term_elements t more
elements_of g.Multipliers t more = multipliers_elements t more
elements_of g.Multiplier t more = multiplier_elements t more
elements_of g.Multiplication t more = multiplication_elements t more
elements_of g.Factor t more = factor_elements t more
elements_of g.Behind t more = behind_elements t more
