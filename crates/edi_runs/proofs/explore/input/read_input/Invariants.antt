use Rattle.std.proofs.Common.{◌≡◌, ◌≤◌, length}
use Rattle.edi_told.specs.Told.{WhereTold}
use Rattle.edi_runs.specs.explore.Told.{HasTaken}
use Rattle.edi_runs.proofs.explore.input.read_input.Given as goal

abbrev pub invariant-loop-count : goal.invariant-loop-count
invariant-loop-count g l = record {
  told : WhereTold (g.S.Source.left l.fn.source) (g.S.Source.left l.source) (HasTaken l.bytes.items);
  count : length l.bytes.items ≡ l._count;
  most : l._count ≤ 65537;
  later : g.S.Source.faults l.fn.source ≤ g.S.Source.faults l.source;
}
