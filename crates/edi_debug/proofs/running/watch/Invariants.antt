use Rattle.std.proofs.Common.{◌≡◌, ◌+◌, ◌-◌, ◌^◌, ◌<◌, ◌≤◌, None}
use Rattle.std.specs.Prelude.{IsSome}
use Rattle.edi_told.specs.Told.{WhereTold}
use Rattle.edi_calls.specs.Ends.{CallsLast}
use Rattle.edi_tree.specs.Whole.{program_of}
use Rattle.edi_static.specs.Programs.{Resolved}
use Rattle.edi_unit.specs.Tree.{ProgramUnit}
use Rattle.edi_code.specs.Mapped.{IsMapped}
use Rattle.edi_debug.specs.Kept.{Grows}
use Rattle.edi_debug.specs.stops.Underway.{Going}
use Rattle.edi_debug.specs.Points.{watched_in}
use Rattle.edi_debug.proofs.running.watch.Given as goal

abbrev pub invariant-rounds : goal.invariant-rounds
invariant-rounds g l = record {
  taken : IsSome l.kernel.taken;
  working : g.C.Calls.failed l.calls None;
  lasts : CallsLast g.C.Calls.faults g.C.Calls.references g.C.Calls.leads l.fn.calls l.calls;
  used : l.kernel.used ≤ l.bound;
  source : l.choices.source ≡ l.fn.choices.source;
  grows : Grows l.fn.log l.log;
  drawn : l.choices.drawn ≤ l.fn.choices.drawn + l.kernel.used;
  exact : l.fn.choices.drawn + l.bound < 2 ^ 64 → WhereTold (g.C.Calls.state l.fn.calls) (g.C.Calls.state l.calls) (λ s t.
      (unit : ProgramUnit) → Resolved (program_of l.tree) unit → IsMapped unit l.mapped →
      Going unit (watched_in l.points) s l.bound l.fn.choices l.fn.log l.kernel t l.choices l.log);
}

abbrev pub decreases-rounds : goal.decreases-rounds
decreases-rounds g l = l.bound - l.kernel.used
