use Rattle.std.proofs.Common.{◌≡◌, false, map, drop}
use Rattle.std.specs.String.{string_bytes}
use Rattle.edi_words.specs.Inside.{goes}
use Rattle.edi_words.proofs.parser.are_parts.Given as goal

abbrev pub invariant-loop-word : goal.invariant-loop-word
invariant-loop-word l = goes l.wanted (map string_bytes (drop l.word-index l.words)) ≡ goes false (map string_bytes l.words)
