use Rattle.std.proofs.Common.{◌≡◌, ◌+◌, ◌++◌, drop, length}
use Rattle.std.specs.Prelude.{map}
use Rattle.edi_unit.specs.View.{acts, act_of, clauses, clause_of}
use Rattle.edi_code.specs.InScope.{acts_length, clauses_length}
use Rattle.edi_code.specs.Scope.{clause_kind_of}
use Rattle.edi_code.specs.Mapped.{acts_awaits, clauses_awaits}
use Rattle.edi_code.proofs.mapped.+awaits.Given as goal

abbrev pub invariant-acts_awaits-loop-act : goal.invariant-acts_awaits-loop-act
invariant-acts_awaits-loop-act l = record {
  room : l.here + acts_length l.scope (acts (map act_of (drop l.act-index l.act-items))) ≡ l.at + acts_length l.scope (acts (map act_of l.act-items));
  awaits : l.out.items ++ acts_awaits l.scope (acts (map act_of (drop l.act-index l.act-items))) l.here ≡ l.fn.out.items
      ++ acts_awaits l.scope (acts (map act_of l.act-items)) l.at;
}

abbrev pub invariant-clauses_awaits-loop-clause : goal.invariant-clauses_awaits-loop-clause
invariant-clauses_awaits-loop-clause l = record {
  behind : l.behind + l.clause-index ≡ length l.clause-items;
  room : l.here + clauses_length l.scope (clause_kind_of l.closing) (clauses (map clause_of (drop l.clause-index l.clause-items)))
      ≡ l.at + clauses_length l.scope (clause_kind_of l.closing) (clauses (map clause_of l.clause-items));
  awaits : l.out.items ++ clauses_awaits l.scope (clause_kind_of l.closing) (clauses (map clause_of (drop l.clause-index l.clause-items))) l.here
      ≡ l.fn.out.items ++ clauses_awaits l.scope (clause_kind_of l.closing) (clauses (map clause_of l.clause-items)) l.at;
}
