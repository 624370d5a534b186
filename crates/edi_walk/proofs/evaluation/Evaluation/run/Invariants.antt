use Rattle.std.proofs.Common.{Ok, None}
use Rattle.edi_told.specs.Told.{WhereTold}
use Rattle.edi_calls.specs.Ends.{CallsLast}
use Rattle.edi_walk.specs.Machine.{IsSameProcess}
use Rattle.edi_walk.specs.Runs.{Advances}
use Rattle.edi_walk.proofs.evaluation.Evaluation.run.Given as goal

abbrev pub invariant-loop-step : goal.invariant-loop-step
invariant-loop-step g l = record {
  working : g.C.Calls.failed l.calls None;
  lasts : CallsLast g.C.Calls.faults g.C.Calls.references g.C.Calls.leads l.initial.calls l.calls;
  same : IsSameProcess l.initial.self l.self;
  told : WhereTold (g.C.Calls.state l.initial.calls) (g.C.Calls.state l.calls) (λ s t. Advances (Ok tt) l.initial.self l.self s t);
}
