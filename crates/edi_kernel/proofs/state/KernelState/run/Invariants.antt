use Rattle.std.proofs.Common.{◌≡◌, ◌+◌, ◌-◌, ◌^◌, ◌<◌, ◌≤◌, None}
use Rattle.std.specs.Prelude.{IsSome}
use Rattle.edi_told.specs.Told.{WhereTold}
use Rattle.edi_kernel.specs.Kernel.{IsKernel}
use Rattle.edi_calls.specs.Ends.{CallsLast}
use Rattle.edi_kernel.proofs.Underway.{Underway}
use Rattle.edi_kernel.proofs.state.KernelState.run.Given as goal

abbrev pub invariant-rounds : goal.invariant-rounds
invariant-rounds g l = record {
  kernel : IsKernel l.self;
  taken : IsSome l.self.taken;
  working : g.C.Calls.failed l.calls None;
  lasts : CallsLast g.C.Calls.faults g.C.Calls.references g.C.Calls.leads l.initial.calls l.calls;
  used : l.self.used ≤ l.bound;
  source : l.choices.source ≡ l.initial.choices.source;
  drawn : l.choices.drawn + 1 ≤ l.initial.choices.drawn + l.self.used;
  exact : l.initial.choices.drawn + l.bound < 2 ^ 64 →
      WhereTold (g.C.Calls.state l.initial.calls) (g.C.Calls.state l.calls) (λ s t. Underway l.code s l.bound l.initial.choices l.self t l.choices);
}

abbrev pub decreases-rounds : goal.decreases-rounds
decreases-rounds g l = l.bound - l.self.used
