use Rattle.std.proofs.Common.{◌+◌, drop, refl, ap, sym, ◌∙◌}
use Rattle.std.specs.Prelude.{map}
use Rattle.edi_tree.specs.declared.statements.Statement.TheViews.{out-Cobegin, out-Conditions, out-List}
use Rattle.edi_tree.specs.Sequences.{items_of}
use Rattle.edi_tree.specs.View as tree
use Rattle.edi_tree.specs.View.{statement_of, condition_of, branch_of}
use Rattle.edi_unit.proofs.Limits.{drop_item}
use Rattle.edi_sema.proofs.Seen.{list_seen, conditions_seen, cobegin_seen}
use Rattle.edi_sights.specs.named.Naming as spec
use Rattle.edi_sights.specs.named.Views.{naming_of}
use Rattle.edi_sights.proofs.naming.Folding.{all_named, branches_any_end}
use Rattle.edi_sights.proofs.named.statements.+branches.Goals as goal

pub list_named-returns : goal.list_named-returns
list_named-returns t c =
    let items = c.items-one-items.result.now in
    let old = naming_of c.args.walk.now in
    let x = out-List c.args.list.now in
    record {
      exact =
          all_named statement_of (λ ss w. spec.statements_named (tree.statements ss) w) items c.loop-one.one-index (naming_of c.loop-one.walk) _ refl
          c.loop-one.invariant.left c.loop-one-test.false
          ∙ (ap (λ w. spec.statements_named (tree.statements (map statement_of items)) w)
          (c.in_ok-statement_named.ensures.exact ∙ ap (λ s. spec.statement_named (statement_of s) old) c.deref.ensures)
          ∙ (ap (λ xs. spec.statements_named (tree.statements (map statement_of xs)) (spec.statement_named (statement_of x.first.value) old))
          c.items-one-items.ensures.exact
          ∙ ap (λ l. spec.list_named l old) (sym (list_seen c.args.list.now))));
    }

pub conditions_named-returns : goal.conditions_named-returns
conditions_named-returns t c =
    let items = c.items-one-items.result.now in
    let old = naming_of c.args.walk.now in
    let x = out-Conditions c.args.conditions.now in
    record {
      exact =
          all_named condition_of (λ cs w. spec.elses_named (tree.else_list cs) w) items c.loop-one.one-index (naming_of c.loop-one.walk) _ refl
          c.loop-one.invariant.left c.loop-one-test.false
          ∙ (ap (λ w. spec.elses_named (tree.else_list (map condition_of items)) w) c.in_ok-condition_named.ensures.exact
          ∙ (ap (λ xs. spec.elses_named (tree.else_list (map condition_of xs)) (spec.condition_named (condition_of x.first) old))
          c.items-one-items.ensures.exact
          ∙ ap (λ cs. spec.conditions_named cs old) (sym (conditions_seen c.args.conditions.now))));
    }

pub cobegin_named-returns : goal.cobegin_named-returns
cobegin_named-returns t c =
    let items = c.items-one-items.result.now in
    let old = naming_of c.args.walk.now in
    let x = out-Cobegin c.args.cobegin.now in
    let first = branch_of x.first in
    record {
      exact =
          all_named branch_of (λ bs w. spec.branches_named (tree.branches 0 bs) w) items c.loop-one.one-index (naming_of c.loop-one.walk) _ refl
          c.loop-one.invariant.left c.loop-one-test.false
          ∙ (ap (λ w. spec.branches_named (tree.branches 0 (map branch_of items)) w) c.in_ok-branch_named.ensures.exact
          ∙ (ap (λ xs. spec.branches_named (tree.branches 0 (map branch_of xs)) (spec.branch_named first.opened old)) c.items-one-items.ensures.exact
          ∙ (branches_any_end 0 first.end (map branch_of (items_of x.more)) (spec.branch_named first.opened old)
          ∙ ap (λ s. spec.statement_named s old) (sym (cobegin_seen c.args.cobegin.now)))));
    }

-- where one more branch has been named, the next is behind the line that closes it
pub cobegin_named-loop-one-preserved : goal.cobegin_named-loop-one-preserved
cobegin_named-loop-one-preserved t c =
    let items = c.items-one-items.result.now in
    let i = c.loop-one.one-index in
    let b = branch_of c.one-item.result in
    let rest = map branch_of (drop (i + 1) items) in
    record {
      left =
          branches_any_end 0 b.end rest (naming_of c.branch_named-in-loop-one.new.walk)
          ∙ (ap (spec.branches_named (tree.branches b.end rest)) c.in_ok-branch_named-2.ensures.exact
          ∙ (ap (λ bs. spec.branches_named (tree.branches 0 (map branch_of bs)) (naming_of c.loop-one.walk))
          (sym (drop_item items i c.one-item.result c.loop-one-test.true c.one-item.is))
          ∙ c.loop-one.invariant.left));
    }
