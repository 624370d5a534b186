use Rattle.std.proofs.Common.{◌≡◌, ◌≤◌, take}
use Rattle.edi_trace.specs.Lines.{number_of}
use Rattle.edi_shell_io.proofs.words.edit_lines.number_of.Given as goal

abbrev pub invariant-loop-digit : goal.invariant-loop-digit
invariant-loop-digit l = record {
  exact : l.number ≡ number_of (take l.digit-index l.digits);
  none : l.digit-index ≤ 0 → l.number ≤ 0;
  one : l.digit-index ≤ 1 → l.number ≤ 9;
  two : l.digit-index ≤ 2 → l.number ≤ 99;
  three : l.digit-index ≤ 3 → l.number ≤ 999;
  four : l.digit-index ≤ 4 → l.number ≤ 9999;
  five : l.digit-index ≤ 5 → l.number ≤ 99999;
  six : l.number ≤ 999999;
}
