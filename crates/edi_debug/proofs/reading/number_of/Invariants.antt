use Rattle.std.proofs.Common.{◌≡◌, ◌≤◌, take}
use Rattle.edi_trace.specs.Lines.{number_of}
use Rattle.edi_debug.proofs.reading.number_of.Given as goal

abbrev pub invariant-loop-c : goal.invariant-loop-c
invariant-loop-c l = record {
  exact : l.number ≡ number_of (take l.c-index l.digits);
  none : l.c-index ≤ 0 → l.number ≤ 0;
  one : l.c-index ≤ 1 → l.number ≤ 9;
  two : l.c-index ≤ 2 → l.number ≤ 99;
  three : l.c-index ≤ 3 → l.number ≤ 999;
  four : l.c-index ≤ 4 → l.number ≤ 9999;
  five : l.number ≤ 99999;
}
