-- A tree that spells marks that `Symbols` can hold is in range: its numerals and characters are, and no `cobegin` of it has
-- 65,536 branches, since each branch has four marks or more.
use Rattle.std.proofs.Common.{ℕ, suc, ◌+◌, ◌*◌, ◌<◌, ◌^◌, List, [], ◌∷◌, arith}
use Rattle.edi_lex.specs.declared.symbol.Symbol.TheVariants as is
use Rattle.edi_tree.specs.Tree.{StatementList, list, Statements, no_statement, next_statement, Statement, skip, assignment, call, if_statement}
use Rattle.edi_tree.specs.Tree.{while_statement, when_statement, cobegin, Conditions, conditions, Condition, condition, Else, no_else, next_else, Branch}
use Rattle.edi_tree.specs.Tree.{branch, Branches, no_branch, next_branch, Procedure, procedure, Item, const_item, type_item, var_item, procedure_item}
use Rattle.edi_tree.specs.Tree.{pre_item, post_item, Module, module_with, Member, item_member, exported_member, module_member, Members, no_member}
use Rattle.edi_tree.specs.Tree.{next_member, Declaration, item_declaration, module_declaration, Declarations, no_declaration, next_declaration, Global}
use Rattle.edi_tree.specs.Tree.{const_global, type_global, Globals, no_global, next_global, Program, program}
use Rattle.edi_tree.specs.Stands.{Spelled, just, on}
use Rattle.edi_tree.specs.Spelled.{list_then, statements_then, statement_then, conditions_then, condition_then, else_then, branch_then}
use Rattle.edi_tree.specs.Spelled.{branches_then, expr_then, procedure_then, item_then, module_then, member_then, members_then, declaration_then}
use Rattle.edi_tree.specs.Spelled.{declarations_then, global_then, globals_then, program_then}
use Rattle.edi_tree.specs.Spells.{IsBounded}
use Rattle.edi_static.specs.Leaves.{ListHolds, StatementsHolds, StatementHolds, ConditionsHolds, ConditionHolds, ElseHolds, BranchHolds, BranchesHolds}
use Rattle.edi_static.specs.InRange.{branches_count, ProcedureInRange, ItemInRange, ModuleInRange, MemberInRange, MembersInRange, DeclarationInRange}
use Rattle.edi_static.specs.InRange.{DeclarationsInRange, GlobalInRange, GlobalsInRange, ProgramInRange, in_range}
use Rattle.edi_sema.proofs.Bounded.{Bounded, rest, tree_bounded, Passed, nothing, mark, then_mark, in_turn, past, loose}
use Rattle.edi_sema.proofs.RangesParts.{constant_passed, const_list_passed, type_decl_passed, var_list_passed, heading_passed, expr_passed, variable_passed}
use Rattle.edi_sema.proofs.RangesParts.{optional_args_passed}

-- ---- statements

-- three marks and a list, or the four of each branch
branch_of : {P Q : Type 0} {s : Spelled} {a b c : List Spelled} → Passed 1 P a (s ∷ b) → Passed 1 Q b c → Passed 3 (P × Q) a c
branch_of x y = record { part = (x.part, y.part); behind_it = y.behind_it; fewer = omega (arith, x.fewer, y.fewer) }

branches_of : (n : ℕ) {P Q : Type 0} {s : Spelled} {a b c : List Spelled} → Passed 3 P a b → Passed (4 * n + 1) Q b c → Passed (4 * suc n + 1) (P × Q) (s ∷ a) c
branches_of n x y = record { part = (x.part, y.part); behind_it = y.behind_it; fewer = omega (arith, x.fewer, y.fewer) }

cobegin_of : (n : ℕ) {P Q : Type 0} {s : Spelled} {a b c : List Spelled} → Bounded (s ∷ a) → Passed 3 P a b → Passed (4 * n + 1) Q b c
    → Passed 1 ((suc n < 2 ^ 16) × (P × Q)) (s ∷ a) c
cobegin_of n h x y = record {
  part = (omega (arith, h.few, x.fewer, y.fewer), (x.part, y.part));
  behind_it = y.behind_it;
  fewer = omega (arith, x.fewer, y.fewer);
}

mutual
  list_passed : (x : StatementList) (more : List Spelled) → Bounded (list_then x more) → Passed 1 (ListHolds in_range x) (list_then x more) more
  list_passed (list s ss) more h = in_turn (statement_passed s (statements_then ss more) h) (λ b. statements_passed ss more b)

  statements_passed : (x : Statements) (more : List Spelled) → Bounded (statements_then x more) → Passed 0 (StatementsHolds in_range x) (statements_then x more) more
  statements_passed no_statement more h = nothing h
  statements_passed (next_statement s ss) more h =
      loose (mark (in_turn (statement_passed s (statements_then ss more) (rest h)) (λ b. statements_passed ss more b)))

  statement_passed : (x : Statement) (more : List Spelled) → Bounded (statement_then x more) → Passed 1 (StatementHolds in_range x) (statement_then x more) more
  statement_passed skip more h = mark (nothing (rest h))
  statement_passed (assignment v line e) more h =
      let x = variable_passed v (on is.Becomes line ∷ expr_then e more) h in
      let y = expr_passed e more (rest x.behind_it) in
      record { part = (x.part, y.part); behind_it = y.behind_it; fewer = omega (arith, x.fewer, y.fewer) }
  statement_passed (call n a) more h = mark (optional_args_passed a more (rest h))
  statement_passed (if_statement cs) more h = mark (then_mark (conditions_passed cs (just is.End ∷ more) (rest h)))
  statement_passed (while_statement cs) more h = mark (then_mark (conditions_passed cs (just is.End ∷ more) (rest h)))
  statement_passed (when_statement line cs) more h = mark (then_mark (conditions_passed cs (just is.End ∷ more) (rest h)))
  statement_passed (cobegin line b bs) more h =
      let x = branch_passed b (branches_then bs more) (rest h) in
      cobegin_of (branches_count bs) h x (branches_passed bs more x.behind_it)

  conditions_passed : (x : Conditions) (more : List Spelled) → Bounded (conditions_then x more) → Passed 0 (ConditionsHolds in_range x) (conditions_then x more) more
  conditions_passed (conditions c cs) more h = in_turn (condition_passed c (else_then cs more) h) (λ b. else_passed cs more b)

  condition_passed : (x : Condition) (more : List Spelled) → Bounded (condition_then x more) → Passed 0 (ConditionHolds in_range x) (condition_then x more) more
  condition_passed (condition e line l) more h = in_turn (then_mark (expr_passed e (on is.Do line ∷ list_then l more) h)) (λ b. list_passed l more b)

  else_passed : (x : Else) (more : List Spelled) → Bounded (else_then x more) → Passed 0 (ElseHolds in_range x) (else_then x more) more
  else_passed no_else more h = nothing h
  else_passed (next_else c cs) more h = loose (mark (in_turn (condition_passed c (else_then cs more) (rest h)) (λ b. else_passed cs more b)))

  branch_passed : (x : Branch) (more : List Spelled) → Bounded (branch_then x more) → Passed 3 (BranchHolds in_range x) (branch_then x more) more
  branch_passed (branch c line l) more h =
      let x = constant_passed c (on is.Do line ∷ list_then l more) h in
      branch_of x (list_passed l more (rest x.behind_it))

  branches_passed : (x : Branches) (more : List Spelled) → Bounded (branches_then x more) → Passed (4 * branches_count x + 1) (BranchesHolds in_range x)
      (branches_then x more) more
  branches_passed (no_branch end) more h = mark (nothing (rest h))
  branches_passed (next_branch also b bs) more h =
      let x = branch_passed b (branches_then bs more) (rest h) in
      branches_of (branches_count bs) x (branches_passed bs more x.behind_it)

-- ---- declarations

mutual
  procedure_passed : (x : Procedure) (more : List Spelled) → Bounded (procedure_then x more) → Passed 0 (ProcedureInRange x) (procedure_then x more) more
  procedure_passed (procedure head ds l end) more h =
      let behind = just is.Begin ∷ list_then l (on is.End end ∷ more) in
      past (heading_passed head (declarations_then ds behind) h) (λ b.
      in_turn (then_mark (declarations_passed ds behind b)) (λ c. then_mark (list_passed l (on is.End end ∷ more) c)))

  item_passed : (x : Item) (more : List Spelled) → Bounded (item_then x more) → Passed 0 (ItemInRange x) (item_then x more) more
  item_passed (const_item l) more h = const_list_passed l more h
  item_passed (type_item d) more h = type_decl_passed d more h
  item_passed (var_item l) more h = var_list_passed l more h
  item_passed (procedure_item p) more h = procedure_passed p more h
  item_passed (pre_item p) more h = loose (mark (heading_passed p more (rest h)))
  item_passed (post_item p) more h = loose (mark (procedure_passed p more (rest h)))

  module_passed : (x : Module) (more : List Spelled) → Bounded (module_then x more) → Passed 0 (ModuleInRange x) (module_then x more) more
  module_passed (module_with ms l) more h =
      loose (mark (in_turn (then_mark (members_passed ms (just is.Begin ∷ list_then l (just is.End ∷ more)) (rest h))) (λ b.
      then_mark (list_passed l (just is.End ∷ more) b))))

  member_passed : (x : Member) (more : List Spelled) → Bounded (member_then x more) → Passed 0 (MemberInRange x) (member_then x more) more
  member_passed (item_member i) more h = item_passed i more h
  member_passed (exported_member i) more h = loose (mark (item_passed i more (rest h)))
  member_passed (module_member m) more h = module_passed m more h

  members_passed : (x : Members) (more : List Spelled) → Bounded (members_then x more) → Passed 0 (MembersInRange x) (members_then x more) more
  members_passed no_member more h = nothing h
  members_passed (next_member m ms) more h = in_turn (member_passed m (members_then ms more) h) (λ b. members_passed ms more b)

  declaration_passed : (x : Declaration) (more : List Spelled) → Bounded (declaration_then x more) → Passed 0 (DeclarationInRange x) (declaration_then x more)
      more
  declaration_passed (item_declaration i) more h = item_passed i more h
  declaration_passed (module_declaration m) more h = module_passed m more h

  declarations_passed : (x : Declarations) (more : List Spelled) → Bounded (declarations_then x more) → Passed 0 (DeclarationsInRange x)
      (declarations_then x more) more
  declarations_passed no_declaration more h = nothing h
  declarations_passed (next_declaration d ds) more h = in_turn (declaration_passed d (declarations_then ds more) h) (λ b. declarations_passed ds more b)

-- ---- programs

global_passed : (x : Global) (more : List Spelled) → Bounded (global_then x more) → Passed 0 (GlobalInRange x) (global_then x more) more
global_passed (const_global l) more h = const_list_passed l more h
global_passed (type_global d) more h = type_decl_passed d more h

globals_passed : (x : Globals) (more : List Spelled) → Bounded (globals_then x more) → Passed 0 (GlobalsInRange x) (globals_then x more) more
globals_passed no_global more h = nothing h
globals_passed (next_global g gs) more h = in_turn (global_passed g (globals_then gs more) h) (λ b. globals_passed gs more b)

program_passed : (x : Program) (more : List Spelled) → Bounded (program_then x more) → Passed 0 (ProgramInRange x) (program_then x more) more
program_passed (program gs p) more h = in_turn (globals_passed gs (procedure_then p more) h) (λ b. procedure_passed p more b)

pub bounded_in_range : (tree : Program) → ∥ IsBounded tree ∥₁ → ProgramInRange tree
bounded_in_range tree is_bounded = (program_passed tree [] (tree_bounded tree is_bounded)).part
