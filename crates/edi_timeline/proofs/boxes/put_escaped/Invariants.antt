use Rattle.std.proofs.Common.{◌≡◌, ◌++◌, drop}
use Rattle.edi_timeline.specs.Picture.{escaped_text}
use Rattle.edi_timeline.proofs.boxes.put_escaped.Given as goal

abbrev pub invariant-loop-c : goal.invariant-loop-c
invariant-loop-c l = record {
  text : l.out.items ++ escaped_text (drop l.c-index l.line) ≡ l.fn.out.items ++ escaped_text l.line;
}
