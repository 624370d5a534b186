use Rattle.std.proofs.Common.{◌≡◌, ◌+◌, drop, length}
use Rattle.std.specs.Prelude.{map}
use Rattle.edi_unit.specs.View.{acts, act_of, clauses, clause_of}
use Rattle.edi_code.specs.InScope.{acts_length, clauses_length}
use Rattle.edi_code.specs.Scope.{clause_kind_of}
use Rattle.edi_code.proofs.statement_lengths.+statement_lengths.Given as goal

abbrev pub invariant-acts_length-loop-act : goal.invariant-acts_length-loop-act
invariant-acts_length-loop-act l = l.words + acts_length l.scope (acts (map act_of (drop l.act-index l.act-items))) ≡ acts_length l.scope
    (acts (map act_of l.act-items))

abbrev pub invariant-clauses_length-loop-clause : goal.invariant-clauses_length-loop-clause
invariant-clauses_length-loop-clause l = record {
  behind : l.behind + l.clause-index ≡ length l.clause-items;
  words : l.words + clauses_length l.scope (clause_kind_of l.closing) (clauses (map clause_of (drop l.clause-index l.clause-items))) ≡ clauses_length l.scope
      (clause_kind_of l.closing) (clauses (map clause_of l.clause-items));
}
