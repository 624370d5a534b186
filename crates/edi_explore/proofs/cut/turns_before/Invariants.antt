use Rattle.std.proofs.Common.{◌≡◌, ◌-◌, ◌≤◌, IsSome, None}
use Rattle.edi_kernel.specs.Kernel.{IsKernel}
use Rattle.edi_explore.specs.Choices.{most_turns}
use Rattle.edi_explore.proofs.cut.turns_before.Given as goal

abbrev pub invariant-rounds : goal.invariant-rounds
invariant-rounds l = record {
  kernel : IsKernel l.kernel;
  taken : IsSome l.kernel.taken;
  working : l.calls.failed ≡ None;
  few : l.moves ≤ l.kernel.used;
}

abbrev pub decreases-rounds : goal.decreases-rounds
decreases-rounds l = most_turns - l.kernel.used
