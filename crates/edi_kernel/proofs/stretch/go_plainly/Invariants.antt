use Rattle.std.proofs.Common.{◌+◌, ◌-◌, ◌*◌, ◌≤◌, ℕ, Bool, length}
use Rattle.edi_calls.specs.State.{State}
use Rattle.edi_machine.specs.Activities.{IsOrdered}
use Rattle.edi_kernel.specs.Stretch.{cleared_in, running_in, with_activity, IsInPhase, IsSameSegment, Reaches}
use Rattle.edi_kernel.proofs.stretch.go_plainly.Given as goal

abbrev pub invariant-plain : goal.invariant-plain
invariant-plain l = record {
  reached : (live : ℕ) (is_first : Bool) (s : State) →
      Reaches l.words live is_first (running_in l.initial.store l.initial.progress.activity s l.initial.progress.left) (cleared_in l.initial.progress)
      (running_in l.store l.here s l.progress.left) (cleared_in (with_activity l.progress l.here));
  ordered : IsOrdered l.here;
  phase : IsInPhase (with_activity l.progress l.here);
  segment : IsSameSegment l.progress.activity l.here;
  less : l.progress.left ≤ l.initial.progress.left;
  nearer : l.progress.left * (length l.words + 1) + (length l.words - l.here.pc)
      ≤ l.initial.progress.left * (length l.words + 1) + (length l.words - l.initial.progress.activity.pc);
}

-- the turns that are left, and then the words of the code that are still ahead
abbrev pub decreases-plain : goal.decreases-plain
decreases-plain l = l.progress.left * (length l.words + 1) + (length l.words - l.here.pc)
