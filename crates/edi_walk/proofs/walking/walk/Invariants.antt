use Rattle.std.proofs.Common.{◌≡◌, ◌≤◌, [], None}
use Rattle.edi_told.specs.Told.{WhereTold}
use Rattle.edi_calls.specs.Ends.{CallsLast}
use Rattle.edi_unit.specs.View.{unit_of}
use Rattle.edi_walk.proofs.Reaching.{Reached}
use Rattle.edi_walk.proofs.walking.walk.Given as goal

abbrev pub invariant-loop-step : goal.invariant-loop-step
invariant-loop-step g l = record {
  working : g.C.Calls.failed l.calls None;
  lasts : CallsLast g.C.Calls.faults g.C.Calls.references g.C.Calls.leads l.initial.calls l.calls;
  free : l.walker.evaluation.frames.items ≡ [];
  source : l.choices.source ≡ l.initial.choices.source;
  drawn : l.choices.drawn ≤ l._step;
  told : WhereTold (g.C.Calls.state l.initial.calls) (g.C.Calls.state l.calls)
      (λ s t. Reached (unit_of l.unit) l.bound l.initial.choices l.walker l.choices s t);
}
