use Rattle.std.proofs.Common.{◌+◌, ◌-◌, ◌*◌, ◌≤◌, length, None}
use Rattle.edi_told.specs.Told.{WhereTold}
use Rattle.edi_machine.specs.Activities.{IsOrdered}
use Rattle.edi_calls.specs.Ends.{CallsLast}
use Rattle.std.specs.Prelude.{◌==◌}
use Rattle.edi_kernel.specs.Table.{live_in}
use Rattle.edi_kernel.specs.Stretch.{cleared_in, running_in, IsInPhase, Reaches}
use Rattle.edi_kernel.proofs.stretch.advance.Given as goal

abbrev pub invariant-stretch : goal.invariant-stretch
invariant-stretch g l = record {
  reached : WhereTold (g.C.Calls.state l.initial.calls) (g.C.Calls.state l.calls) (λ s t.
      Reaches l.code.words (live_in l.table) (l.slot == 0)
      (running_in l.initial.store l.initial.progress.activity s l.initial.progress.left) (cleared_in l.initial.progress)
      (running_in l.store l.progress.activity t l.progress.left) (cleared_in l.progress));
  working : g.C.Calls.failed l.calls None;
  lasts : CallsLast g.C.Calls.faults g.C.Calls.references g.C.Calls.leads l.initial.calls l.calls;
  ordered : IsOrdered l.progress.activity;
  phase : IsInPhase l.progress;
  less : l.progress.left ≤ l.initial.progress.left;
}

-- the turns that are left, and then the words of the code that are still ahead
abbrev pub decreases-stretch : goal.decreases-stretch
decreases-stretch g l = l.progress.left * (length l.code.words + 1) + (length l.code.words - l.progress.activity.pc)
