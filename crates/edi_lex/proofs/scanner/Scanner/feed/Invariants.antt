use Rattle.std.proofs.Common.{List, ℕ, ◌++◌, take}
use Rattle.edi_lex.specs.Reading.{HasRead, HasFailed}
use Rattle.edi_lex.proofs.scanner.Scanner.feed.Given as goal

-- the bytes so far have been read, and memory has not run out
abbrev pub invariant-loop-byte : goal.invariant-loop-byte
invariant-loop-byte l = record {
  read : (text : List ℕ) → HasRead l.fn.self text → HasRead l.self (text ++ take l.byte-index l.piece);
  works : HasFailed l.self → ⊥;
}
