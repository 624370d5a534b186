use Rattle.std.proofs.Common.{◌≡◌, length, take}
use Rattle.std.specs.Prelude.{map}
use Rattle.edi_calls.specs.State.{character}
use Rattle.edi_system.proofs.reading.title_of.Given as goal

-- the characters so far are those of the words so far
abbrev pub invariant-loop-index : goal.invariant-loop-index
invariant-loop-index l = record {
  long : length l.characters ≡ 12;
  so_far : take l.index l.characters ≡ map character (take l.index l.words);
}
