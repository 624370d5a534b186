use Rattle.std.proofs.Common.{◌≡◌, drop}
use Rattle.std.specs.Prelude.{map}
use Rattle.edi_tree.specs.View as tree
use Rattle.edi_tree.specs.View.{statement_of, condition_of, branch_of, ClosedBranch}
use Rattle.edi_sights.specs.named.Naming as spec
use Rattle.edi_sights.specs.named.Views.{naming_of}
use Rattle.edi_sights.proofs.named.statements.+branches.Given as goal

abbrev pub invariant-list_named-loop-one : goal.invariant-list_named-loop-one
invariant-list_named-loop-one l = record {
  left :
      spec.statements_named (tree.statements (map statement_of (drop l.one-index l.one-items))) (naming_of l.walk)
      ≡ spec.statements_named (tree.statements (map statement_of l.one-items)) (naming_of l.initial.walk);
}

abbrev pub invariant-conditions_named-loop-one : goal.invariant-conditions_named-loop-one
invariant-conditions_named-loop-one l = record {
  left :
      spec.elses_named (tree.else_list (map condition_of (drop l.one-index l.one-items))) (naming_of l.walk)
      ≡ spec.elses_named (tree.else_list (map condition_of l.one-items)) (naming_of l.initial.walk);
}

abbrev pub invariant-cobegin_named-loop-one : goal.invariant-cobegin_named-loop-one
invariant-cobegin_named-loop-one l = record {
  left :
      spec.branches_named (tree.branches 0 (map branch_of (drop l.one-index l.one-items))) (naming_of l.walk)
      ≡ spec.branches_named (tree.branches 0 (map branch_of l.one-items)) (naming_of l.initial.walk);
}
