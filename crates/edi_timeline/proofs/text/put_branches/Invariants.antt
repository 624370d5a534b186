use Rattle.std.proofs.Common.{◌≡◌, ◌≤◌, ◌++◌, length, take}
use Rattle.edi_timeline.specs.Text.{branches_text}
use Rattle.edi_timeline.specs.Told.{name_of}
use Rattle.edi_timeline.proofs.text.put_branches.Given as goal

abbrev pub invariant-loop-left : goal.invariant-loop-left
invariant-loop-left l = record {
  text : l.out.items ++ branches_text (name_of (take l.left l.path)) ≡ l.fn.out.items ++ branches_text (name_of l.path);
  within : l.left ≤ length l.path;
}

abbrev pub decreases-loop-left : goal.decreases-loop-left
decreases-loop-left l = l.left
