use Rattle.std.proofs.Common.{rules, ◌≡◌, ◌+◌, ◌-◌, ◌<◌, ◌^◌, arith}
use Rattle.edi_unit.proofs.Limits.{drop_item}
use Rattle.edi_code.specs.Scope.{clause_kind_of}
use Rattle.edi_code.proofs.Clauses.{words_in, clause_at}
use Rattle.edi_code.proofs.AwaitLoops.{acts_behind, clauses_behind}
use Rattle.edi_code.proofs.mapped.+awaits.Goals as goal

pub acts_awaits-loop-act-preserved : goal.acts_awaits-loop-act-preserved
acts_awaits-loop-act-preserved t c =
    let step = acts_behind c.args.scope.now _ _ _ _ _ _ _ _ _ (drop_item _ _ _ c.loop-act-test.true c.act-item.is) c.loop-act.invariant.room
    c.loop-act.invariant.awaits c.in_ok-here.ensures.behind c.in_ok-here.ensures.awaits in
    record { room = step.0; awaits = step.1 }

pub clauses_awaits-loop-clause-preserved : goal.clauses_awaits-loop-clause-preserved
clauses_awaits-loop-clause-preserved t c =
    let s = c.args.scope.now in
    let kind = clause_kind_of c.args.closing in
    let cut = drop_item _ _ _ c.loop-clause-test.true c.clause-item.is in
    let step = clause_at s kind _ _ _ _ _ _ (λ l. c.args.at + words_in s kind l) cut
    c.loop-clause.invariant.behind c.loop-clause-test.true (c.close_length.ensures.exact 0) c.loop-clause.invariant.room in
    record {
      behind = omega (arith, c.loop-clause.invariant.behind, c.loop-clause-test.true);
      room = omega (arith, step.left, c.in_ok-ends.ensures.behind);
      awaits = clauses_behind s kind _ _ _ _ _ _ _ _ _ cut c.loop-clause.invariant.awaits (omega (arith, c.in_ok-ends.ensures.behind, step.closed))
          c.in_ok-ends.ensures.awaits;
    }

pub clauses_awaits-overflow_add-here : goal.clauses_awaits-overflow_add-here
clauses_awaits-overflow_add-here t c =
    let s = c.args.scope.now in
    let kind = clause_kind_of c.args.closing in
    let step = clause_at s kind _ _ _ _ _ _ (λ l. c.args.at + words_in s kind l)
    (drop_item _ _ _ c.loop-clause-test.true c.clause-item.is) c.loop-clause.invariant.behind c.loop-clause-test.true (c.close_length.ensures.exact 0)
    c.loop-clause.invariant.room in
    omega (arith, step.room _ c.items-clause-items.ensures.exact c.requires.small, c.in_ok-ends.ensures.behind)
