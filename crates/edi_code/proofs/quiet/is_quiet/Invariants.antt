use Rattle.std.proofs.Common.{◌≡◌, drop}
use Rattle.std.specs.Prelude.{map}
use Rattle.edi_unit.specs.View.{clauses, clause_of}
use Rattle.edi_meaning.specs.Step as step
use Rattle.edi_code.proofs.quiet.is_quiet.Given as goal

abbrev pub invariant-loop-clause : goal.invariant-loop-clause
invariant-loop-clause l = step.is_quiet (clauses (map clause_of (drop l.clause-index l.clause-items))) ≡ step.is_quiet (clauses (map clause_of l.clause-items))
