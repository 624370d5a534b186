use Rattle.std.proofs.Common.{◌≡◌, ◌++◌, drop}
use Rattle.edi_timeline.specs.Text.{place_text}
use Rattle.edi_timeline.proofs.words.put_place.Given as goal

abbrev pub invariant-loop-line : goal.invariant-loop-line
invariant-loop-line l = record {
  text : l.out.items ++ place_text (drop l.line-index l.lines) ≡ l.fn.out.items ++ place_text l.lines;
}
