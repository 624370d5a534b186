use Rattle.std.proofs.Common.{◌≡◌, ◌+◌, ◌-◌, ◌^◌, ◌<◌, ◌≤◌, None, List}
use Rattle.std.specs.Prelude.{IsSome}
use Rattle.edi_told.specs.Told.{WhereTold}
use Rattle.edi_calls.specs.Ends.{CallsLast}
use Rattle.edi_kernel.specs.Kernel.{IsKernel}
use Rattle.edi_timed.specs.declared.seats.Seated.{Seated}
use Rattle.edi_timed.proofs.Counted.{GoesOn}
use Rattle.edi_timed.proofs.counting.count_rounds.Given as goal

abbrev pub invariant-rounds : goal.invariant-rounds
invariant-rounds g l = record {
  taken : IsSome l.kernel.taken;
  kernel : IsKernel l.kernel;
  working : g.C.Calls.failed l.calls.calls.now None;
  lasts : CallsLast g.C.Calls.faults g.C.Calls.references g.C.Calls.leads l.fn.calls.calls.now l.calls.calls.now;
  same_reference : l.calls.calls.ghost_name ≡ l.fn.calls.calls.ghost_name;
  used : l.kernel.used ≤ l.bound;
  later : l.before + l.fn.kernel.used ≤ l.kernel.used;
  timeline : l.timeline ≡ l.fn.timeline;
  source : l.choices.source ≡ l.fn.choices.source;
  drawn : l.choices.drawn + l.fn.kernel.used ≤ l.fn.choices.drawn + l.kernel.used;
  goes : (seats : List Seated) → l.fn.choices.drawn + (l.bound - l.fn.kernel.used) < 2 ^ 64 →
      WhereTold (g.C.Calls.state l.fn.calls.calls.now) (g.C.Calls.state l.calls.calls.now)
      (GoesOn l.code l.bound seats l.fn.kernel l.fn.choices l.fn.timeline l.kernel l.choices l.before);
}

abbrev pub decreases-rounds : goal.decreases-rounds
decreases-rounds g l = l.bound - l.kernel.used
