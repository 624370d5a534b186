use Rattle.std.proofs.Common.{◌≡◌, ◌+◌, drop}
use Rattle.edi_target.specs.File.{zeros_fault}
use Rattle.edi_codefile.proofs.header.zeros_fault.Given as goal

abbrev pub invariant-loop-i : goal.invariant-loop-i
invariant-loop-i l = zeros_fault l.at l.bytes ≡ zeros_fault (l.at + l.i) (drop l.i l.bytes)
