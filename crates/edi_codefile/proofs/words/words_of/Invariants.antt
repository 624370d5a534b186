use Rattle.std.proofs.Common.{◌≡◌, ◌++◌, length}
use Rattle.edi_target.specs.File.{words_of_bytes}
use Rattle.edi_codefile.proofs.words.words_of.Given as goal

abbrev pub invariant-loop-rest : goal.invariant-loop-rest
invariant-loop-rest l = l.words.items ++ words_of_bytes l.rest ≡ words_of_bytes l.bytes

abbrev pub decreases-loop-rest : goal.decreases-loop-rest
decreases-loop-rest l = length l.rest
