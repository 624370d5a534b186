use Rattle.std.proofs.Common.{ap, sym, ◌∙◌}
use Rattle.std.specs.Prelude.{map}
use Rattle.edi_tree.specs.declared.statements.Statement.TheViews.{out-Cobegin, out-Conditions, out-List}
use Rattle.edi_tree.specs.Sequences.{items_of}
use Rattle.edi_tree.specs.View as tree
use Rattle.edi_tree.specs.View.{statement_of, condition_of, branch_of}
use Rattle.edi_static.specs.Views.{environment}
use Rattle.edi_sema.proofs.Seen.{list_seen, conditions_seen, cobegin_seen}
use Rattle.edi_sights.specs.Counted as spec
use Rattle.edi_sights.specs.Views.{met_of}
use Rattle.edi_sights.proofs.Folded.{loop_done, statements_folded, elses_folded, branches_folded}
use Rattle.edi_sights.proofs.statements.+statements.Goals as goal

pub list_met-returns-clause-exact : goal.list_met-returns-clause-exact
list_met-returns-clause-exact t c =
    let env = environment c.args.known.now in
    let name = c.args.name.now in
    let first = met_of c.statement_met.new.met in
    loop_done statement_of (λ s. spec.statement_counted name s env) c.items-one-items.result.now c.loop-one.one-index (met_of c.loop-one.met) _
    c.loop-one.invariant.left
    c.loop-one-test.false
    ∙ (sym (statements_folded name (map statement_of c.items-one-items.result.now) env first)
    ∙ (ap (λ xs. spec.statements_counted name (tree.statements (map statement_of xs)) env first) c.items-one-items.ensures.exact
    ∙ (ap (spec.statements_counted name (tree.statements (map statement_of (items_of (out-List c.args.list.now).more))) env)
    (c.in_ok-statement_met.ensures.exact ∙ ap (λ s. spec.statement_counted name (statement_of s) env (met_of c.args.met.now)) c.deref.ensures)
    ∙ ap (λ l. spec.list_counted name l env (met_of c.args.met.now)) (sym (list_seen c.args.list.now)))))

pub conditions_met-returns-clause-exact : goal.conditions_met-returns-clause-exact
conditions_met-returns-clause-exact t c =
    let env = environment c.args.known.now in
    let name = c.args.name.now in
    loop_done condition_of (λ c. spec.condition_counted name c env) c.items-one-items.result.now c.loop-one.one-index (met_of c.loop-one.met) _
    c.loop-one.invariant.left
    c.loop-one-test.false
    ∙ (sym (elses_folded name (map condition_of c.items-one-items.result.now) env (met_of c.condition_met.new.met))
    ∙ (ap (λ xs. spec.elses_counted name (tree.else_list (map condition_of xs)) env (met_of c.condition_met.new.met)) c.items-one-items.ensures.exact
    ∙ (ap (spec.elses_counted name (tree.else_list (map condition_of (items_of (out-Conditions c.args.conditions.now).more))) env)
    c.in_ok-condition_met.ensures.exact
    ∙ ap (λ cs. spec.conditions_counted name cs env (met_of c.args.met.now)) (sym (conditions_seen c.args.conditions.now)))))

pub cobegin_met-returns-clause-exact : goal.cobegin_met-returns-clause-exact
cobegin_met-returns-clause-exact t c =
    let env = environment c.args.known.now in
    let name = c.args.name.now in
    let b = out-Cobegin c.args.cobegin.now in
    let end = (branch_of b.first).end in
    loop_done branch_of (λ b. spec.branch_counted name b.opened env) c.items-one-items.result.now c.loop-one.one-index (met_of c.loop-one.met) _
    c.loop-one.invariant.left
    c.loop-one-test.false
    ∙ (sym (branches_folded name end (map branch_of c.items-one-items.result.now) env (met_of c.branch_met.new.met))
    ∙ (ap (λ xs. spec.branches_counted name (tree.branches end (map branch_of xs)) env (met_of c.branch_met.new.met)) c.items-one-items.ensures.exact
    ∙ (ap (spec.branches_counted name (tree.branches end (map branch_of (items_of b.more))) env) c.in_ok-branch_met.ensures.exact
    ∙ ap (λ s. spec.statement_counted name s env (met_of c.args.met.now)) (sym (cobegin_seen c.args.cobegin.now)))))
