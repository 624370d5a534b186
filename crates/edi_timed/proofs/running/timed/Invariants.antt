use Rattle.std.proofs.Common.{◌≡◌, ◌+◌, ◌-◌, ◌^◌, ◌<◌, ◌≤◌, None}
use Rattle.std.specs.Prelude.{IsSome}
use Rattle.edi_told.specs.Told.{WhereTold}
use Rattle.edi_calls.specs.Ends.{CallsLast}
use Rattle.edi_kernel.specs.Kernel.{IsKernel}
use Rattle.edi_timed.specs.Seats.{Fits}
use Rattle.edi_timed.specs.Underway.{Going}
use Rattle.edi_timed.proofs.running.timed.Given as goal

abbrev pub invariant-rounds : goal.invariant-rounds
invariant-rounds g l = record {
  taken : IsSome l.kernel.taken;
  kernel : IsKernel l.kernel;
  working : g.C.Calls.failed l.calls.calls.now None;
  lasts : CallsLast g.C.Calls.faults g.C.Calls.references g.C.Calls.leads l.fn.calls.calls.now l.calls.calls.now;
  same_reference : l.calls.calls.ghost_name ≡ l.fn.calls.calls.ghost_name;
  used : l.kernel.used ≤ l.bound;
  fits : Fits l.seats.items l.timeline;
  count : l.timeline.count ≤ l.kernel.used;
  source : l.choices.source ≡ l.fn.choices.source;
  drawn : l.choices.drawn ≤ l.fn.choices.drawn + l.kernel.used;
  exact : l.fn.choices.drawn + l.bound < 2 ^ 64 → WhereTold (g.C.Calls.state l.fn.calls.calls.now) (g.C.Calls.state l.calls.calls.now) (λ s t.
      Going l.code s l.bound l.fn.choices l.kernel t l.choices l.seats.items l.timeline);
}

abbrev pub decreases-rounds : goal.decreases-rounds
decreases-rounds g l = l.bound - l.kernel.used
