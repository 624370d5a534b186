use Rattle.std.proofs.Common.{ap, ◌∙◌, drop}
use Rattle.std.proofs.Math.ListN.{drop_of_length-le}
use Rattle.std.specs.Prelude.{map}
use Rattle.edi_tree.specs.View.{branch_of, branches}
use Rattle.edi_tree.specs.Depth.{limited, branches_depth}
use Rattle.edi_tree.proofs.Deepest.{branches_seen}
use Rattle.edi_tree.proofs.depths.+statement_depths.Goals as goal

pub branches_depth-returns-clause-exact : goal.branches_depth-returns-clause-exact
branches_depth-returns-clause-exact t c end =
    let items = c.items-branch-items.result.now in
    let none = ap (map branch_of) (drop_of_length-le items c.loop-branch-test.false) in
    let seen = branches_seen (map branch_of items) (map branch_of (drop c.loop-branch.branch-index items)) c.loop-branch.depth end none
    c.loop-branch.invariant.height c.loop-branch.invariant.small in
    seen ∙ ap (λ l. limited (branches_depth (branches end (map branch_of l)))) c.items-branch-items.ensures.exact
