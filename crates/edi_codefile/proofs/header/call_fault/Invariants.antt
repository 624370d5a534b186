use Rattle.std.proofs.Common.{◌≡◌, ◌+◌, [], take, drop}
use Rattle.edi_target.specs.Check.{numbers_fault}
use Rattle.edi_codefile.proofs.header.call_fault.Given as goal

abbrev pub invariant-loop-i : goal.invariant-loop-i
invariant-loop-i l = numbers_fault [] 13 l.calls ≡ numbers_fault (take l.i l.calls) (13 + l.i) (drop l.i l.calls)
