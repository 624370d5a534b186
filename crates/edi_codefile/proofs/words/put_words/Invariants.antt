use Rattle.std.proofs.Common.{◌≡◌, ◌++◌, drop}
use Rattle.edi_target.specs.File.{bytes_of_words}
use Rattle.edi_codefile.proofs.words.put_words.Given as goal

abbrev pub invariant-loop-word : goal.invariant-loop-word
invariant-loop-word l =
    l.bytes.items ++ bytes_of_words (drop l.word-index l.words) ≡ l.initial.bytes.items ++ bytes_of_words l.words
