use Rattle.std.proofs.Common.{◌≡◌, ◌≤◌, ◌+◌, ◌-◌, ◌^◌, ◌++◌, take, length}
use Rattle.edi_waits.specs.Places.{call_lines, place}
use Rattle.edi_timed.proofs.places.place_of.Given as goal

abbrev pub invariant-loop-many : goal.invariant-loop-many
invariant-loop-many l = record {
  lines : take l.many l.lines ++ call_lines l.code.words (5 - l.many) l.kernel.store l.activity.segment.first l.base
      ≡ place l.code.words l.kernel.store l.activity.segment.first l.activity.base l.activity.pc;
  some : 1 ≤ l.many;
  few : l.many ≤ 5;
  within : l.base + 5 ≤ 2 ^ 16;
  wide : length l.lines ≡ 5;
}

abbrev pub decreases-loop-many : goal.decreases-loop-many
decreases-loop-many l = 5 - l.many
