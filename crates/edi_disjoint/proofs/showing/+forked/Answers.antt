use Rattle.std.proofs.Common.{refl, sym, ap, ◌∙◌}
use Rattle.std.specs.Prelude.{map}
use Rattle.edi_unit.specs.View.{acts, act_of, clauses, clause_of}
use Rattle.edi_disjoint.specs.Report.{forks_in_act, forks_in_acts, forks_in_clause, forks_in_clauses}
use Rattle.edi_disjoint.specs.Shown.{all_filed, forks_here}
use Rattle.edi_disjoint.proofs.Filing.{clause_forks, filed_step}
use Rattle.edi_disjoint.proofs.showing.+forked.Goals as goal

pub put_acts-loop-act-preserved : goal.put_acts-loop-act-preserved
put_acts-loop-act-preserved t c =
    filed_step (λ xs. forks_in_acts (acts (map act_of xs))) (λ x. forks_in_act (act_of x)) (map forks_here c.loop-act.begun.items) (map forks_here c.put_act.new.begun.items)
    c.items-act-items.result.now c.loop-act.act-index c.act-item.result c.loop-act-test.true c.act-item.is refl c.in_ok-put_act.ensures.exact
    ∙ c.loop-act.invariant

pub put_clauses-loop-clause-preserved : goal.put_clauses-loop-clause-preserved
put_clauses-loop-clause-preserved t c =
    filed_step (λ xs. forks_in_clauses (clauses (map clause_of xs))) (λ x. forks_in_clause (clause_of x)) (map forks_here c.loop-clause.begun.items)
    (map forks_here c.put_acts.new.begun.items) c.items-clause-items.result.now c.loop-clause.clause-index c.clause-item.result c.loop-clause-test.true
    c.clause-item.is refl (c.in_ok-put_acts.ensures.exact ∙ ap (all_filed (map forks_here c.loop-clause.begun.items)) (sym (clause_forks c.clause-item.result)))
    ∙ c.loop-clause.invariant
