use Rattle.std.proofs.Common.{◌≡◌, ◌++◌, drop}
use Rattle.edi_utils.specs.Listing.{operand_texts}
use Rattle.edi_utils.proofs.lines.put_operands.Given as goal

abbrev pub invariant-loop-word : goal.invariant-loop-word
invariant-loop-word l =
    l.bytes.items ++ operand_texts (drop l.word-index l.words) ≡ l.initial.bytes.items ++ operand_texts l.words
