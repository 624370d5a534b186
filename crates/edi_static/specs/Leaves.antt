-- Words of contracts. What is true of an expression or a statement with such leaves: numerals, strings and constants; and names before
-- arguments, roots of variables and branches of a `cobegin`, each with what is true of its parts.
use Rattle.std.specs.Prelude.{ℤ, Option, Some, None}
use Rattle.edi_tree.specs.declared.names.Name.{Name}
use Rattle.edi_tree.specs.declared.names.Chars.{Chars}
use Rattle.edi_tree.specs.declared.constants.Constant.{Constant}
use Rattle.edi_tree.specs.declared.expressions.Root.{Root}
use Rattle.edi_tree.specs.Tree.{Expr, expr, Comparison, no_comparison, compared, Exprs, no_expr, next_expr, Simple, simple, addend, Addends, no_addend}
use Rattle.edi_tree.specs.Tree.{next_addend, Term, term, multiplier, Multipliers, no_multiplier, next_multiplier, Factor, numeral, string, not_factor}
use Rattle.edi_tree.specs.Tree.{parenthesized, call_factor, variable_factor, Args, args, Variable, variable, Selector, field, index, Selectors, no_selector}
use Rattle.edi_tree.specs.Tree.{next_selector, StatementList, list, Statements, no_statement, next_statement, Statement, skip, assignment, call, if_statement}
use Rattle.edi_tree.specs.Tree.{while_statement, when_statement, cobegin, Conditions, conditions, Condition, condition, Else, no_else, next_else, Branch}
use Rattle.edi_tree.specs.Tree.{branch, Branches, no_branch, next_branch}

pub record LeafFacts : Type 1 where
  pub OfNumeral : ℤ → Type 0
  pub OfChars : Chars → Type 0
  pub OfConstant : Constant → Type 0
  pub Called : Name → Type 0 → Type 0
  pub Rooted : Root → Type 0 → Type 0
  pub Forked : Branches → Type 0 → Type 0

module _ (l : LeafFacts) where
  -- ---- expressions

  abbrev mutual
    pub ExprHolds : Expr → Type 0
    ExprHolds (expr s c) = SimpleHolds s × ComparisonHolds c

    pub ComparisonHolds : Comparison → Type 0
    ComparisonHolds no_comparison = Unit {0}
    ComparisonHolds (compared r line s) = SimpleHolds s

    pub ExprsHolds : Exprs → Type 0
    ExprsHolds no_expr = Unit {0}
    ExprsHolds (next_expr e es) = ExprHolds e × ExprsHolds es

    pub SimpleHolds : Simple → Type 0
    SimpleHolds (simple sign t ts) = TermHolds t × AddendsHolds ts

    pub AddendsHolds : Addends → Type 0
    AddendsHolds no_addend = Unit {0}
    AddendsHolds (next_addend (addend o line t) ts) = TermHolds t × AddendsHolds ts

    pub TermHolds : Term → Type 0
    TermHolds (term f ms) = FactorHolds f × MultipliersHolds ms

    pub MultipliersHolds : Multipliers → Type 0
    MultipliersHolds no_multiplier = Unit {0}
    MultipliersHolds (next_multiplier (multiplier o line f) ms) = FactorHolds f × MultipliersHolds ms

    pub FactorHolds : Factor → Type 0
    FactorHolds (numeral n) = l.OfNumeral n
    FactorHolds (string s) = l.OfChars s
    FactorHolds (not_factor line f) = FactorHolds f
    FactorHolds (parenthesized e) = ExprHolds e
    FactorHolds (call_factor name xs) = l.Called name (ArgsHolds xs)
    FactorHolds (variable_factor v) = VariableHolds v

    pub ArgsHolds : Args → Type 0
    ArgsHolds (args e es) = ExprHolds e × ExprsHolds es

    pub VariableHolds : Variable → Type 0
    VariableHolds (variable r ss) = l.Rooted r (SelectorsHolds ss)

    pub SelectorHolds : Selector → Type 0
    SelectorHolds (field line name) = Unit {0}
    SelectorHolds (index line e) = ExprHolds e

    pub SelectorsHolds : Selectors → Type 0
    SelectorsHolds no_selector = Unit {0}
    SelectorsHolds (next_selector s ss) = SelectorHolds s × SelectorsHolds ss

  -- ---- statements

  abbrev pub OptionalArgsHolds : Option Args → Type 0
  OptionalArgsHolds None = Unit {0}
  OptionalArgsHolds (Some xs) = ArgsHolds xs

  abbrev mutual
    pub ListHolds : StatementList → Type 0
    ListHolds (list s ss) = StatementHolds s × StatementsHolds ss

    pub StatementsHolds : Statements → Type 0
    StatementsHolds no_statement = Unit {0}
    StatementsHolds (next_statement s ss) = StatementHolds s × StatementsHolds ss

    pub StatementHolds : Statement → Type 0
    StatementHolds skip = Unit {0}
    StatementHolds (assignment v line e) = VariableHolds v × ExprHolds e
    StatementHolds (call name xs) = l.Called name (OptionalArgsHolds xs)
    StatementHolds (if_statement cs) = ConditionsHolds cs
    StatementHolds (while_statement cs) = ConditionsHolds cs
    StatementHolds (when_statement line cs) = ConditionsHolds cs
    StatementHolds (cobegin line b bs) = l.Forked bs (BranchHolds b × BranchesHolds bs)

    pub ConditionsHolds : Conditions → Type 0
    ConditionsHolds (conditions c cs) = ConditionHolds c × ElseHolds cs

    pub ConditionHolds : Condition → Type 0
    ConditionHolds (condition e line s) = ExprHolds e × ListHolds s

    pub ElseHolds : Else → Type 0
    ElseHolds no_else = Unit {0}
    ElseHolds (next_else c cs) = ConditionHolds c × ElseHolds cs

    pub BranchHolds : Branch → Type 0
    BranchHolds (branch c line s) = l.OfConstant c × ListHolds s

    pub BranchesHolds : Branches → Type 0
    BranchesHolds (no_branch end) = Unit {0}
    BranchesHolds (next_branch also b bs) = BranchHolds b × BranchesHolds bs
