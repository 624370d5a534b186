use Rattle.std.proofs.Common.{◌≡◌, drop}
use Rattle.std.specs.Prelude.{map}
use Rattle.edi_tree.specs.View.{branch_of, branches, condition_of, else_list, statement_of, statements}
use Rattle.edi_tree.specs.Printing.{print_branches, print_else, print_statements}
use Rattle.edi_tree.proofs.Loops.{Prints}
use Rattle.edi_tree.proofs.printer.Printer.+print_list.Given as goal

abbrev pub invariant-list-loop-statement : goal.invariant-list-loop-statement
invariant-list-loop-statement l = Prints statement_of statements print_statements l.statement-index l.statement-items l.self l.initial.self

abbrev pub invariant-conditions-loop-condition : goal.invariant-conditions-loop-condition
invariant-conditions-loop-condition l = Prints condition_of else_list print_else l.condition-index l.condition-items l.self l.initial.self

abbrev pub invariant-branches-loop-branch : goal.invariant-branches-loop-branch
invariant-branches-loop-branch l = print_branches (branches l.end (map branch_of (drop l.branch-index l.branch-items))) l.self ≡ print_branches
    (branches l.initial.end (map branch_of l.branch-items)) l.initial.self
