use Rattle.std.proofs.Common.{◌≡◌, [], None}
use Rattle.edi_told.specs.Told.{WhereTold}
use Rattle.std.specs.Prelude.{map}
use Rattle.edi_calls.specs.Ends.{CallsLast}
use Rattle.edi_unit.specs.View.{clause_of, clauses}
use Rattle.edi_walk.specs.Machine.{IsSameProcess}
use Rattle.edi_walk.proofs.Choosing.{FarOn}
use Rattle.edi_walk.proofs.ChoosingTold.{from_on}
use Rattle.edi_walk.proofs.evaluation.Evaluation.chosen.Given as goal

abbrev pub invariant-loop-clause : goal.invariant-loop-clause
invariant-loop-clause g l = record {
  working : g.C.Calls.failed l.calls None;
  lasts : CallsLast g.C.Calls.faults g.C.Calls.references g.C.Calls.leads l.initial.calls l.calls;
  free : l.self.frames.items ≡ [];
  same : IsSameProcess l.initial.self l.self;
  told : WhereTold (g.C.Calls.state l.initial.calls) (g.C.Calls.state l.calls)
      (λ s t. FarOn (clauses (map clause_of l.clauses)) (from_on l.clause-index l.clauses) l.initial.self l.self s t);
}
