use Rattle.edi_tree.specs.View.{statements, statement_of, else_list, condition_of, branch_of}
use Rattle.edi_tree.specs.Depth.{statements_depth, else_depth}
use Rattle.edi_tree.proofs.Deepest.{deepest}
use Rattle.edi_tree.proofs.Loops.{Deepens}
use Rattle.edi_tree.proofs.depths.+statement_depths.Given as goal

abbrev pub invariant-list_depth-loop-statement : goal.invariant-list_depth-loop-statement
invariant-list_depth-loop-statement l = Deepens statement_of statements statements_depth l.depth l.initial.depth l.statement-index l.statement-items

abbrev pub invariant-conditions_depth-loop-condition : goal.invariant-conditions_depth-loop-condition
invariant-conditions_depth-loop-condition l = Deepens condition_of else_list else_depth l.depth l.initial.depth l.condition-index l.condition-items

abbrev pub invariant-branches_depth-loop-branch : goal.invariant-branches_depth-loop-branch
invariant-branches_depth-loop-branch l = Deepens branch_of (λ items. items) deepest l.depth l.initial.depth l.branch-index l.branch-items
