use Rattle.std.proofs.Common.{◌≡◌, ◌≤◌, ◌+◌, ◌-◌, ◌*◌, ◌++◌, drop, length}
use Rattle.edi_timeline.specs.Text.{place_text}
use Rattle.edi_timeline.proofs.plain.write_place.Given as goal

abbrev pub invariant-loop-left : goal.invariant-loop-left
invariant-loop-left l = record {
  text : drop l.at l.line ≡ place_text (drop l.left l.lines) ++ drop l.end l.fn.line;
  left : l.left ≤ length l.lines;
  start : l.end ≤ l.at + 11 * (length l.lines - l.left);
  within : l.at ≤ l.end;
}

abbrev pub decreases-loop-left : goal.decreases-loop-left
decreases-loop-left l = l.left
