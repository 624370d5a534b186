use Rattle.std.proofs.Common.{◌≡◌, ◌+◌, ◌-◌, ◌++◌}
use Rattle.edi_utils.specs.Demo.{demo_procedure, numbered}
use Rattle.edi_utils.proofs.demonstration.put_procedures.Given as goal

abbrev pub invariant-loop-before : goal.invariant-loop-before
invariant-loop-before l =
    l.bytes.items ++ numbered demo_procedure (l.before + 1) (l.n - l.before) ≡ l.initial.bytes.items ++ numbered demo_procedure 1 l.n
