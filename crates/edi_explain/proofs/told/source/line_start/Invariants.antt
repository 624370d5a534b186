use Rattle.std.proofs.Common.{◌≡◌, drop}
use Rattle.edi_explain.specs.told.Source.{line_start, line_start_from}
use Rattle.edi_explain.proofs.told.source.line_start.Given as goal

abbrev pub invariant-loop-b : goal.invariant-loop-b
invariant-loop-b l = record {
  count : l.at ≡ l.b-index;
  start : line_start_from (drop l.b-index l.text) l.feeds l.at ≡ line_start l.text l.line;
}
