use Rattle.std.proofs.Common.{◌≡◌, ◌++◌, true, drop}
use Rattle.edi_dump.specs.Told.{steps_text}
use Rattle.edi_dump.proofs.names.put_steps.Given as goal

abbrev pub invariant-loop-branch : goal.invariant-loop-branch
invariant-loop-branch l = record {
  text : l.out.items ++ steps_text l.first (drop l.branch-index l.branches) ≡ l.fn.out.items ++ steps_text true l.branches;
}
