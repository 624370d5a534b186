use Rattle.std.proofs.Common.{◌≡◌, ◌++◌, drop}
use Rattle.std.specs.Prelude.{codes, decimal, flat_map}
use Rattle.edi_dump.proofs.raw.put_words.Given as goal

abbrev pub invariant-loop-word : goal.invariant-loop-word
invariant-loop-word l = record {
  text : l.out.items ++ flat_map (λ w. codes " " ++ decimal w) (drop l.word-index l.words)
      ≡ l.fn.out.items ++ flat_map (λ w. codes " " ++ decimal w) l.words;
}
