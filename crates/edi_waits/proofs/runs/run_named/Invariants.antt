use Rattle.std.proofs.Common.{◌≡◌, ◌+◌, ◌-◌, ◌<◌, ◌≤◌, ◌^◌, None, length}
use Rattle.std.specs.Prelude.{IsSome}
use Rattle.edi_told.specs.Told.{WhereTold}
use Rattle.edi_calls.specs.Ends.{CallsLast}
use Rattle.edi_kernel.specs.Kernel.{IsKernel}
use Rattle.edi_waits.specs.Runs.{Going}
use Rattle.edi_waits.proofs.runs.run_named.Given as goal

abbrev pub invariant-rounds : goal.invariant-rounds
invariant-rounds g l = record {
  kernel : IsKernel l.kernel;
  taken : IsSome l.kernel.taken;
  working : g.C.Calls.failed l.calls None;
  lasts : CallsLast g.C.Calls.faults g.C.Calls.references g.C.Calls.leads l.fn.calls l.calls;
  used : l.kernel.used ≤ l.bound;
  source : l.choices.source ≡ l.fn.choices.source;
  drawn : l.choices.drawn ≤ l.fn.choices.drawn + l.kernel.used;
  wide : length l.names.births ≡ 32;
  exact : l.fn.choices.drawn + l.bound < 2 ^ 64 → WhereTold (g.C.Calls.state l.fn.calls) (g.C.Calls.state l.calls) (λ s t.
      Going l.code s l.bound l.fn.choices l.kernel t l.choices l.names);
}

abbrev pub decreases-rounds : goal.decreases-rounds
decreases-rounds g l = l.bound - l.kernel.used
