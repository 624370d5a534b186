use Rattle.std.proofs.Common.{◌≡◌, ◌++◌, drop}
use Rattle.edi_timeline.specs.Text.{characters_text}
use Rattle.edi_timeline.proofs.words.put_characters.Given as goal

abbrev pub invariant-loop-c : goal.invariant-loop-c
invariant-loop-c l = record {
  text : l.out.items ++ characters_text (drop l.c-index l.shown) ≡ l.fn.out.items ++ characters_text l.shown;
}
