use Rattle.std.proofs.Common.{◌≡◌, ◌+◌, ◌-◌, ◌≤◌, ◌^◌, ◌++◌}
use Rattle.edi_waits.specs.Places.{call_lines, place}
use Rattle.edi_waits.proofs.places.place_of.Given as goal

-- the lines so far, and those that lead to the frame here, are the place
abbrev pub invariant-loop : goal.invariant-loop
invariant-loop l = record {
  so_far : l.lines.items ++ call_lines l.code.words (5 - l.counter) l.kernel.store l.first l.at ≡ place l.code.words l.kernel.store l.first l.base l.pc;
  within : l.at + 5 ≤ 2 ^ 16;
}
