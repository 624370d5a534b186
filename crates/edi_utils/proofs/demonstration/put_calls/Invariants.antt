use Rattle.std.proofs.Common.{◌≡◌, ◌+◌, ◌-◌, ◌++◌}
use Rattle.edi_utils.specs.Demo.{next_call, numbered}
use Rattle.edi_utils.proofs.demonstration.put_calls.Given as goal

abbrev pub invariant-loop-before : goal.invariant-loop-before
invariant-loop-before l =
    l.bytes.items ++ numbered next_call (l.before + 1) (l.n - l.before) ≡ l.initial.bytes.items ++ numbered next_call 2 (l.n - 1)
