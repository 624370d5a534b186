use Rattle.std.proofs.Common.{◌≡◌, ◌+◌, drop, length}
use Rattle.std.specs.Prelude.{map}
use Rattle.edi_unit.specs.View.{clauses, clause_of}
use Rattle.edi_code.specs.InScope.{clauses_length, clauses_code, ClausesAreWritable}
use Rattle.edi_code.specs.Scope.{clause_kind_of}
use Rattle.edi_code.proofs.Aiming.{IsOpen}
use Rattle.edi_code.proofs.Listed.{Left, of_acts}
use Rattle.edi_code.proofs.statements.+statements.Given as goal

abbrev pub invariant-emit_acts-loop-act : goal.invariant-emit_acts-loop-act
invariant-emit_acts-loop-act l = Left (of_acts l.scope) l.fn.out.items l.out.items l.at l.here 0 0 l.act-items l.act-index

abbrev pub invariant-emit_open_clauses-loop-clause : goal.invariant-emit_open_clauses-loop-clause
invariant-emit_open_clauses-loop-clause l = record {
  behind : l.behind + l.clause-index ≡ length l.clause-items;
  writable : ClausesAreWritable l.scope (clauses (map clause_of (drop l.clause-index l.clause-items)));
  room : l.here + clauses_length l.scope (clause_kind_of l.closing) (clauses (map clause_of (drop l.clause-index l.clause-items))) ≡ l.at + clauses_length
      l.scope (clause_kind_of l.closing) (clauses (map clause_of l.clause-items));
  opens : IsOpen (clause_kind_of l.closing) l.at l.fn.starts.items l.starts.items l.fn.out.items l.out.items
      (λ t. clauses_code l.scope (clause_kind_of l.closing) t l.here (clauses (map clause_of (drop l.clause-index l.clause-items))))
      (λ t. clauses_code l.scope (clause_kind_of l.closing) t l.at (clauses (map clause_of l.clause-items)));
}
