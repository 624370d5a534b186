use Rattle.std.proofs.Common.{◌∷◌, ◌++◌, [], ◌+◌, drop, ap, sym, ◌∙◌, subst}
use Rattle.std.proofs.Math.ListN.{drop_of_length-le}
use Rattle.std.proofs.lemmas.Result.{err_from_is_err_and}
use Rattle.std.specs.Prelude.{map}
use Rattle.edi_tree.specs.declared.statements.Statement.TheViews.{out-Branch, out-Cobegin, out-Conditions, out-List}
use Rattle.edi_tree.specs.Sequences.{items_of}
use Rattle.edi_tree.specs.View.{statement_of, condition_of, branch_of}
use Rattle.edi_unit.specs.Lists.{list_items}
use Rattle.edi_unit.specs.Tree as unit
use Rattle.edi_unit.specs.View.{acts, acts_of, act_of, clauses, clause_of}
use Rattle.edi_unit.proofs.Limits.{drop_item}
use Rattle.edi_static.specs.Judged.{gives, ◌>>=◌}
use Rattle.edi_static.specs.Statements.{enter_branch, statement_list, statement, conditions, condition}
use Rattle.edi_static.specs.Views.{environment}
use Rattle.edi_static.proofs.Judging.{Gives}
use Rattle.edi_static.proofs.Proper.{pushed}
use Rattle.edi_sema.specs.Frames.{Stays}
use Rattle.edi_sema.specs.Walks.{walk, seen_as, closed_branch}
use Rattle.edi_sema.proofs.Answered.{part_faults}
use Rattle.edi_sema.proofs.Seen.{list_seen, conditions_seen, cobegin_seen}
use Rattle.edi_sema.proofs.Staying.{branch_stays, close_stays, stays_then, given}
use Rattle.edi_sema.proofs.Walked.{looped, looped_done, looped_next, looped_faults, first_faults, list_is, conditions_are, cobegin_is}
use Rattle.edi_sema.proofs.statements.+statements.Goals as goal

pub branch_block-returns-clause-stays : goal.branch_block-returns-clause-stays
branch_block-returns-clause-stays t c =
    let env = environment c.args.known.now in
    let b = environment c.statement_list.new.known in
    let after = environment c.close_block.new.known in
    let n = c.in_ok-block.block in
    let h : Stays (enter_branch env) b = subst (λ e. Stays e b)
    (sym (given (enter_branch env) (environment c.enter_branch.new.known) c.in_ok-block.ensures.exact)) c.in_ok-acts.ensures.stays in
    let k : Stays b after = subst (Gives (Stays b)) c.in_ok-close_block.ensures.exact
    (close_stays n (acts_of c.in_ok-acts.acts) (out-Branch c.args.branch.now).end b h.proper) in
    subst (Stays env) (sym c.leave_around.ensures.exact) (branch_stays env b after h k)

pub conditions-loop-one-preserved : goal.conditions-loop-one-preserved
conditions-loop-one-preserved t c =
    let i = c.loop-one.one-index in
    record {
      stays = stays_then (environment c.args.known.now) (environment c.loop-one.known) (environment c.condition-in-loop-one.new.known)
          c.loop-one.invariant.stays c.in_ok-clause.ensures.stays;
      left =
          looped_next condition (map condition_of (drop i c.items-one-items.result.now)) (map condition_of (drop (i + 1) c.items-one-items.result.now))
          (condition_of c.one-item.result) (clause_of c.in_ok-clause.clause) (map clause_of (list_items c.loop-one.clauses))
          (map clause_of (list_items c.add-in-loop-one.new.list))
          (environment c.loop-one.known) (environment c.condition-in-loop-one.new.known) _ c.loop-one.invariant.left
          (ap (map condition_of) (drop_item c.items-one-items.result.now i c.one-item.result c.loop-one-test.true c.one-item.is)) c.in_ok-clause.ensures.exact
          (pushed clause_of _ _ _ c.in_ok-add-2.ensures.ok);
    }

pub conditions-returns-in_err-clause-clause-exact : goal.conditions-returns-in_err-clause-clause-exact
conditions-returns-in_err-clause-clause-exact t c =
    let i = c.loop-one.one-index in
    let p = err_from_is_err_and c.from_residual-in_err-clause.result c.from_residual-in_err-clause.ensures.1 in
    rw (p.1, p.2) (part_faults c.in_err-clause.field-0.0 _ _ c.in_err-clause.ensures.exact (λ why line e.
    ap (λ cs. conditions cs (environment c.args.known.now)) (conditions_seen c.args.conditions.now)
    ∙ conditions_are (condition_of (out-Conditions c.args.conditions.now).first) (map condition_of (items_of (out-Conditions c.args.conditions.now).more))
    (environment c.args.known.now) ∙ ap (λ xs. seen_as clauses
    (walk condition ((condition_of (out-Conditions c.args.conditions.now).first) ∷ map condition_of xs) (environment c.args.known.now)))
    (sym c.items-one-items.ensures.exact)
    ∙ ap (λ m. seen_as clauses (m)) (looped_faults condition (map condition_of (drop i c.items-one-items.result.now))
    (map condition_of (drop (i + 1) c.items-one-items.result.now)) (condition_of c.one-item.result) (map clause_of (list_items c.loop-one.clauses))
    (environment c.loop-one.known) (walk condition
    ((condition_of (out-Conditions c.args.conditions.now).first) ∷ map condition_of c.items-one-items.result.now) (environment c.args.known.now))
    (looped condition (condition_of (out-Conditions c.args.conditions.now).first) (map condition_of c.items-one-items.result.now)
    (map condition_of (drop i c.items-one-items.result.now)) (clause_of c.in_ok-first.first) (map clause_of (list_items c.loop-one.clauses))
    (map clause_of (list_items c.add.new.list))
    (environment c.args.known.now) (environment c.condition.new.known) (environment c.loop-one.known)
    (ap (map clause_of) (c.in_ok-add.ensures.ok ∙ ap (λ l. l ++ c.in_ok-first.first ∷ []) c.new-clauses.ensures.exact)) c.in_ok-first.ensures.exact
    c.loop-one.invariant.left) (ap (map condition_of) (drop_item c.items-one-items.result.now i c.one-item.result c.loop-one-test.true c.one-item.is)) why
    line e)))

pub conditions-returns-clause-exact : goal.conditions-returns-clause-exact
conditions-returns-clause-exact t c =
    let i = c.loop-one.one-index in
    ap (λ cs. conditions cs (environment c.args.known.now)) (conditions_seen c.args.conditions.now)
    ∙ conditions_are (condition_of (out-Conditions c.args.conditions.now).first) (map condition_of (items_of (out-Conditions c.args.conditions.now).more))
    (environment c.args.known.now) ∙ ap (λ xs. seen_as clauses
    (walk condition ((condition_of (out-Conditions c.args.conditions.now).first) ∷ map condition_of xs) (environment c.args.known.now)))
    (sym c.items-one-items.ensures.exact)
    ∙ ap (λ m. seen_as clauses (m)) (looped_done condition (map condition_of (drop i c.items-one-items.result.now))
    (map clause_of (list_items c.loop-one.clauses)) (environment c.loop-one.known)
    (walk condition ((condition_of (out-Conditions c.args.conditions.now).first) ∷ map condition_of c.items-one-items.result.now)
    (environment c.args.known.now))
    (looped condition (condition_of (out-Conditions c.args.conditions.now).first) (map condition_of c.items-one-items.result.now)
    (map condition_of (drop i c.items-one-items.result.now)) (clause_of c.in_ok-first.first) (map clause_of (list_items c.loop-one.clauses))
    (map clause_of (list_items c.add.new.list))
    (environment c.args.known.now) (environment c.condition.new.known) (environment c.loop-one.known)
    (ap (map clause_of) (c.in_ok-add.ensures.ok ∙ ap (λ l. l ++ c.in_ok-first.first ∷ []) c.new-clauses.ensures.exact)) c.in_ok-first.ensures.exact
    c.loop-one.invariant.left) (ap (map condition_of) (drop_of_length-le c.items-one-items.result.now c.loop-one-test.false)))

pub statement_list-returns-in_err-act-clause-exact : goal.statement_list-returns-in_err-act-clause-exact
statement_list-returns-in_err-act-clause-exact t c =
    let i = c.loop-one.one-index in
    let p = err_from_is_err_and c.from_residual-in_err-act.result c.from_residual-in_err-act.ensures.1 in
    rw (p.1, p.2) (part_faults c.in_err-act.field-0.0 _ _ c.in_err-act.ensures.exact (λ why line e.
    ap (λ l. statement_list l (environment c.args.known.now)) (list_seen c.args.list.now) ∙ list_is (statement_of (out-List c.args.list.now).first.value)
    (map statement_of (items_of (out-List c.args.list.now).more)) (environment c.args.known.now)
    ∙ ap (λ xs. seen_as acts (walk statement ((statement_of (out-List c.args.list.now).first.value) ∷ map statement_of xs) (environment c.args.known.now)))
    (sym c.items-one-items.ensures.exact)
    ∙ ap (λ m. seen_as acts (m)) (looped_faults statement (map statement_of (drop i c.items-one-items.result.now))
    (map statement_of (drop (i + 1) c.items-one-items.result.now)) (statement_of c.one-item.result) (map act_of (list_items c.loop-one.acts))
    (environment c.loop-one.known) (walk statement ((statement_of (out-List c.args.list.now).first.value) ∷ map statement_of c.items-one-items.result.now)
    (environment c.args.known.now))
    (looped statement (statement_of (out-List c.args.list.now).first.value) (map statement_of c.items-one-items.result.now)
    (map statement_of (drop i c.items-one-items.result.now)) (act_of c.in_ok-first.first) (map act_of (list_items c.loop-one.acts))
    (map act_of (list_items c.add.new.list))
    (environment c.args.known.now) (environment c.statement.new.known) (environment c.loop-one.known)
    (ap (map act_of) (c.in_ok-add.ensures.ok ∙ ap (λ l. l ++ c.in_ok-first.first ∷ []) c.new-acts.ensures.exact))
    (ap (λ s. statement (statement_of s) (environment c.args.known.now)) (sym c.deref.ensures) ∙ c.in_ok-first.ensures.exact) c.loop-one.invariant.left)
    (ap (map statement_of) (drop_item c.items-one-items.result.now i c.one-item.result c.loop-one-test.true c.one-item.is)) why line e)))

pub statement_list-returns-clause-exact : goal.statement_list-returns-clause-exact
statement_list-returns-clause-exact t c =
    let i = c.loop-one.one-index in
    ap (λ l. statement_list l (environment c.args.known.now)) (list_seen c.args.list.now) ∙ list_is (statement_of (out-List c.args.list.now).first.value)
    (map statement_of (items_of (out-List c.args.list.now).more)) (environment c.args.known.now)
    ∙ ap (λ xs. seen_as acts (walk statement ((statement_of (out-List c.args.list.now).first.value) ∷ map statement_of xs) (environment c.args.known.now)))
    (sym c.items-one-items.ensures.exact)
    ∙ ap (λ m. seen_as acts (m)) (looped_done statement (map statement_of (drop i c.items-one-items.result.now)) (map act_of (list_items c.loop-one.acts))
    (environment c.loop-one.known) (walk statement ((statement_of (out-List c.args.list.now).first.value) ∷ map statement_of c.items-one-items.result.now)
    (environment c.args.known.now))
    (looped statement (statement_of (out-List c.args.list.now).first.value) (map statement_of c.items-one-items.result.now)
    (map statement_of (drop i c.items-one-items.result.now)) (act_of c.in_ok-first.first) (map act_of (list_items c.loop-one.acts))
    (map act_of (list_items c.add.new.list))
    (environment c.args.known.now) (environment c.statement.new.known) (environment c.loop-one.known)
    (ap (map act_of) (c.in_ok-add.ensures.ok ∙ ap (λ l. l ++ c.in_ok-first.first ∷ []) c.new-acts.ensures.exact))
    (ap (λ s. statement (statement_of s) (environment c.args.known.now)) (sym c.deref.ensures) ∙ c.in_ok-first.ensures.exact) c.loop-one.invariant.left)
    (ap (map statement_of) (drop_of_length-le c.items-one-items.result.now c.loop-one-test.false)))

pub cobegin-loop-one-preserved : goal.cobegin-loop-one-preserved
cobegin-loop-one-preserved t c =
    let i = c.loop-one.one-index in
    record {
      stays = stays_then (environment c.args.known.now) (environment c.loop-one.known) (environment c.branch_block-in-loop-one.new.known)
          c.loop-one.invariant.stays c.in_ok-block.ensures.stays;
      left =
          looped_next closed_branch (map branch_of (drop i c.items-one-items.result.now)) (map branch_of (drop (i + 1) c.items-one-items.result.now))
          (branch_of c.one-item.result) c.in_ok-block.block (list_items c.loop-one.blocks) (list_items c.add-in-loop-one.new.list)
          (environment c.loop-one.known) (environment c.branch_block-in-loop-one.new.known) _ c.loop-one.invariant.left
          (ap (map branch_of) (drop_item c.items-one-items.result.now i c.one-item.result c.loop-one-test.true c.one-item.is)) c.in_ok-block.ensures.exact
          (c.in_ok-add-2.ensures.ok);
    }

pub cobegin-returns-in_err-block-clause-exact : goal.cobegin-returns-in_err-block-clause-exact
cobegin-returns-in_err-block-clause-exact t c =
    let i = c.loop-one.one-index in
    let p = err_from_is_err_and c.from_residual-in_err-block.result c.from_residual-in_err-block.ensures.1 in
    rw (p.1, p.2) (part_faults c.in_err-block.field-0.0 _ _ c.in_err-block.ensures.exact (λ why line e.
    ap (λ s. statement s (environment c.args.known.now)) (cobegin_seen c.args.cobegin.now) ∙ cobegin_is (out-Cobegin c.args.cobegin.now).line
    (branch_of (out-Cobegin c.args.cobegin.now).first) (map branch_of (items_of (out-Cobegin c.args.cobegin.now).more)) (environment c.args.known.now)
    ∙ ap (λ xs. (walk closed_branch ((branch_of (out-Cobegin c.args.cobegin.now).first) ∷ map branch_of xs) (environment c.args.known.now)) >>= λ done.
    gives (record { what = unit.cobegin done.what (out-Cobegin c.args.cobegin.now).line; env = done.env })) (sym c.items-one-items.ensures.exact)
    ∙ ap (λ m. (m) >>= λ done. gives (record { what = unit.cobegin done.what (out-Cobegin c.args.cobegin.now).line; env = done.env }))
    (looped_faults closed_branch (map branch_of (drop i c.items-one-items.result.now)) (map branch_of (drop (i + 1) c.items-one-items.result.now))
    (branch_of c.one-item.result) (list_items c.loop-one.blocks) (environment c.loop-one.known)
    (walk closed_branch ((branch_of (out-Cobegin c.args.cobegin.now).first) ∷ map branch_of c.items-one-items.result.now) (environment c.args.known.now))
    (looped closed_branch (branch_of (out-Cobegin c.args.cobegin.now).first) (map branch_of c.items-one-items.result.now)
    (map branch_of (drop i c.items-one-items.result.now)) c.in_ok-first.first (list_items c.loop-one.blocks) (list_items c.add.new.list)
    (environment c.args.known.now) (environment c.branch_block.new.known) (environment c.loop-one.known)
    (c.in_ok-add.ensures.ok ∙ ap (λ l. l ++ c.in_ok-first.first ∷ []) c.new-blocks.ensures.exact) c.in_ok-first.ensures.exact c.loop-one.invariant.left)
    (ap (map branch_of) (drop_item c.items-one-items.result.now i c.one-item.result c.loop-one-test.true c.one-item.is)) why line e)))

pub cobegin-returns-clause-exact : goal.cobegin-returns-clause-exact
cobegin-returns-clause-exact t c =
    let i = c.loop-one.one-index in
    ap (λ s. statement s (environment c.args.known.now)) (cobegin_seen c.args.cobegin.now) ∙ cobegin_is (out-Cobegin c.args.cobegin.now).line
    (branch_of (out-Cobegin c.args.cobegin.now).first) (map branch_of (items_of (out-Cobegin c.args.cobegin.now).more)) (environment c.args.known.now)
    ∙ ap (λ xs. (walk closed_branch ((branch_of (out-Cobegin c.args.cobegin.now).first) ∷ map branch_of xs) (environment c.args.known.now)) >>= λ done.
    gives (record { what = unit.cobegin done.what (out-Cobegin c.args.cobegin.now).line; env = done.env })) (sym c.items-one-items.ensures.exact)
    ∙ ap (λ m. (m) >>= λ done. gives (record { what = unit.cobegin done.what (out-Cobegin c.args.cobegin.now).line; env = done.env }))
    (looped_done closed_branch (map branch_of (drop i c.items-one-items.result.now)) (list_items c.loop-one.blocks) (environment c.loop-one.known)
    (walk closed_branch ((branch_of (out-Cobegin c.args.cobegin.now).first) ∷ map branch_of c.items-one-items.result.now) (environment c.args.known.now))
    (looped closed_branch (branch_of (out-Cobegin c.args.cobegin.now).first) (map branch_of c.items-one-items.result.now)
    (map branch_of (drop i c.items-one-items.result.now)) c.in_ok-first.first (list_items c.loop-one.blocks) (list_items c.add.new.list)
    (environment c.args.known.now) (environment c.branch_block.new.known) (environment c.loop-one.known)
    (c.in_ok-add.ensures.ok ∙ ap (λ l. l ++ c.in_ok-first.first ∷ []) c.new-blocks.ensures.exact) c.in_ok-first.ensures.exact c.loop-one.invariant.left)
    (ap (map branch_of) (drop_of_length-le c.items-one-items.result.now c.loop-one-test.false)))
    ∙ ap (λ a. gives (record { what = a; env = environment c.loop-one.known })) (sym c.cobegin_act.ensures.exact)

pub cobegin-returns-in_err-first-clause-exact : goal.cobegin-returns-in_err-first-clause-exact
cobegin-returns-in_err-first-clause-exact t c =
    let p = err_from_is_err_and c.from_residual.result c.from_residual.ensures.1 in
    rw (p.1, p.2) (part_faults c.in_err-first.field-0.0 _ _ c.in_err-first.ensures.exact (λ why line e.
    ap (λ s. statement s (environment c.args.known.now)) (cobegin_seen c.args.cobegin.now)
    ∙ cobegin_is (out-Cobegin c.args.cobegin.now).line (branch_of (out-Cobegin c.args.cobegin.now).first)
    (map branch_of (items_of (out-Cobegin c.args.cobegin.now).more)) (environment c.args.known.now)
    ∙ ap (λ m. m >>= λ done. gives (record { what = unit.cobegin done.what (out-Cobegin c.args.cobegin.now).line; env = done.env }))
    (first_faults closed_branch (branch_of (out-Cobegin c.args.cobegin.now).first) (map branch_of (items_of (out-Cobegin c.args.cobegin.now).more))
    (environment c.args.known.now) why line e)))
