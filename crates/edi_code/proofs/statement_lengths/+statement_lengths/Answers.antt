use Rattle.std.proofs.Common.{◌+◌, ◌-◌, arith}
use Rattle.edi_unit.proofs.Limits.{drop_item}
use Rattle.edi_code.specs.Scope.{clause_kind_of}
use Rattle.edi_code.proofs.Clauses.{words_in, clause_at}
use Rattle.edi_code.proofs.statement_lengths.+statement_lengths.Goals as goal

pub clauses_length-loop-clause-preserved : goal.clauses_length-loop-clause-preserved
clauses_length-loop-clause-preserved t c =
    let step = clause_at c.args.scope.now (clause_kind_of c.args.closing) _ _ _ _ _ _ (words_in c.args.scope.now (clause_kind_of c.args.closing))
    (drop_item _ _ _ c.loop-clause-test.true c.clause-item.is) c.loop-clause.invariant.behind c.loop-clause-test.true (c.close_length.ensures.exact 0)
    c.loop-clause.invariant.words in
    record {
      behind = omega (arith, c.loop-clause.invariant.behind, c.loop-clause-test.true);
      words = omega (arith, step.left, c.clause_length.ensures.exact);
    }

pub clauses_length-overflow_add-words : goal.clauses_length-overflow_add-words
clauses_length-overflow_add-words t c =
    let step = clause_at c.args.scope.now (clause_kind_of c.args.closing) _ _ _ _ _ _ (words_in c.args.scope.now (clause_kind_of c.args.closing))
    (drop_item _ _ _ c.loop-clause-test.true c.clause-item.is) c.loop-clause.invariant.behind c.loop-clause-test.true (c.close_length.ensures.exact 0)
    c.loop-clause.invariant.words in
    omega (arith, step.room _ c.items-clause-items.ensures.exact c.requires.small, c.clause_length.ensures.exact)

pub clauses_length-overflow_add-words-in-loop-clause : goal.clauses_length-overflow_add-words-in-loop-clause
clauses_length-overflow_add-words-in-loop-clause t c =
    let step = clause_at c.args.scope.now (clause_kind_of c.args.closing) _ _ _ _ _ _ (words_in c.args.scope.now (clause_kind_of c.args.closing))
    (drop_item _ _ _ c.loop-clause-test.true c.clause-item.is) c.loop-clause.invariant.behind c.loop-clause-test.true (c.close_length.ensures.exact 0)
    c.loop-clause.invariant.words in
    omega (arith, step.room _ c.items-clause-items.ensures.exact c.requires.small, c.clause_length.ensures.exact)
