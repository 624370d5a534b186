use Rattle.std.proofs.Common.{◌≡◌, ◌-◌, ◌≤◌, IsSome, None}
use Rattle.edi_kernel.specs.Kernel.{IsKernel}
use Rattle.edi_explore.specs.Underway.{IsUnderway}
use Rattle.edi_explore.specs.Systems.{system_of}
use Rattle.edi_explore.proofs.moved.run_counted.Given as goal

abbrev pub invariant-rounds : goal.invariant-rounds
invariant-rounds l = record {
  kernel : IsKernel l.kernel;
  taken : IsSome l.kernel.taken;
  working : l.calls.failed ≡ None;
  used : l.kernel.used ≤ l.bound;
  few : l.moves ≤ l.kernel.used;
  source : l.choices.source ≡ l.fn.choices.source;
  drawn : l.choices.drawn ≤ l.kernel.used;
  underway : IsUnderway l.code (system_of l.fn.calls) l.bound l.fn.choices.source l.kernel (system_of l.calls) l.choices l.moves;
}

abbrev pub decreases-rounds : goal.decreases-rounds
decreases-rounds l = l.bound - l.kernel.used
