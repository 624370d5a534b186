-- One layer of a tree of the code, seen as the plain tree.
use Rattle.std.proofs.Common.{◌≡◌}
use Rattle.edi_tree.specs.declared.statements.Statement.TheViews.{out-Branch, out-Cobegin, out-Condition, out-Conditions, out-List, out-When}
use Rattle.edi_tree.specs.declared.statements.Statement.TheFolds.{fold_out-Branch, fold_out-Cobegin, fold_out-Condition, fold_out-Conditions, fold_out-List}
use Rattle.edi_tree.specs.declared.statements.Statement.TheFolds.{fold_out-When}
use Rattle.edi_tree.specs.declared.declarations.Declaration.TheViews.{out-Module, out-Procedure}
use Rattle.edi_tree.specs.declared.declarations.Declaration.TheFolds.{fold_out-Module, fold_out-Procedure}
use Rattle.edi_tree.specs.declared.statements.Branch as code_branch
use Rattle.edi_tree.specs.declared.statements.Cobegin as code_cobegin
use Rattle.edi_tree.specs.declared.statements.Condition as code_condition
use Rattle.edi_tree.specs.declared.statements.Conditions as code_conditions
use Rattle.edi_tree.specs.declared.statements.List as code_list
use Rattle.edi_tree.specs.declared.statements.When as code_when
use Rattle.edi_tree.specs.declared.declarations.Module as code_module
use Rattle.edi_tree.specs.declared.declarations.Procedure as code_procedure
use Rattle.edi_tree.specs.Tree.{StatementList, list, Statement, when_statement, cobegin, Conditions, conditions, Condition, condition, branch, Procedure}
use Rattle.edi_tree.specs.Tree.{procedure, Item, Module, module_with, Member, Declaration}
use Rattle.edi_tree.specs.View.{ClosedBranch, statement_of, statements_of, list_of, expr_of, branch_of, branches_of, cobegin_of, condition_of, conditions_of}
use Rattle.edi_tree.specs.View.{else_of, when_of, statement_step, branch_step, cobegin_step, condition_step, conditions_step, list_step, when_step}
use Rattle.edi_tree.specs.View.{heading_of, declarations_of, members_of, module_of, procedure_of, declaration_step, item_step, member_step, module_step}
use Rattle.edi_tree.specs.View.{procedure_step}

pub list_seen : (x : code_list.List) → list_of x ≡ list (statement_of (out-List x).first.value) (statements_of (out-List x).more)
list_seen x = fold_out-List Statement ClosedBranch Statement Condition Conditions StatementList Statement statement_step branch_step cobegin_step
    condition_step conditions_step list_step when_step x

pub conditions_seen : (x : code_conditions.Conditions) → conditions_of x ≡ conditions (condition_of (out-Conditions x).first) (else_of (out-Conditions x).more)
conditions_seen x = fold_out-Conditions Statement ClosedBranch Statement Condition Conditions StatementList Statement statement_step branch_step cobegin_step
    condition_step conditions_step list_step when_step x

pub condition_seen : (x : code_condition.Condition) → condition_of x ≡ condition (expr_of (out-Condition x).expr) (out-Condition x).line
    (list_of (out-Condition x).list)
condition_seen x = fold_out-Condition Statement ClosedBranch Statement Condition Conditions StatementList Statement statement_step branch_step cobegin_step
    condition_step conditions_step list_step when_step x

pub branch_seen : (x : code_branch.Branch)
    → branch_of x ≡ record { opened = branch (out-Branch x).constant (out-Branch x).line (list_of (out-Branch x).list); end = (out-Branch x).end }
branch_seen x = fold_out-Branch Statement ClosedBranch Statement Condition Conditions StatementList Statement statement_step branch_step cobegin_step
    condition_step conditions_step list_step when_step x

pub cobegin_seen : (x : code_cobegin.Cobegin) → cobegin_of x ≡ cobegin (out-Cobegin x).line (branch_of (out-Cobegin x).first).opened
    (branches_of (branch_of (out-Cobegin x).first).end (out-Cobegin x).more)
cobegin_seen x = fold_out-Cobegin Statement ClosedBranch Statement Condition Conditions StatementList Statement statement_step branch_step cobegin_step
    condition_step conditions_step list_step when_step x

pub when_seen : (x : code_when.When) → when_of x ≡ when_statement (out-When x).line (conditions_of (out-When x).conditions)
when_seen x = fold_out-When Statement ClosedBranch Statement Condition Conditions StatementList Statement statement_step branch_step cobegin_step
    condition_step conditions_step list_step when_step x

pub procedure_seen : (x : code_procedure.Procedure) → procedure_of x ≡ procedure (heading_of (out-Procedure x).heading)
    (declarations_of (out-Procedure x).declarations) (list_of (out-Procedure x).list) (out-Procedure x).end
procedure_seen x = fold_out-Procedure Declaration Item Member Module Procedure declaration_step item_step member_step module_step procedure_step x

pub module_seen : (x : code_module.Module) → module_of x ≡ module_with (members_of (out-Module x).members) (list_of (out-Module x).list)
module_seen x = fold_out-Module Declaration Item Member Module Procedure declaration_step item_step member_step module_step procedure_step x
