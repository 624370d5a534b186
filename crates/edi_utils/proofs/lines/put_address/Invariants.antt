use Rattle.std.proofs.Common.{◌≡◌, ◌-◌, ◌++◌, replicate, length}
use Rattle.edi_utils.proofs.lines.put_address.Given as goal

abbrev pub invariant-loop-place : goal.invariant-loop-place
invariant-loop-place l =
    l.bytes.items ++ replicate (7 - l._place) 32 ≡ l.initial.bytes.items ++ replicate (7 - length l.digits) 32
