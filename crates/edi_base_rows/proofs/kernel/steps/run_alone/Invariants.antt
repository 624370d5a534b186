use Rattle.std.proofs.Common.{◌≡◌, None}
use Rattle.edi_memory.specs.MemoryCalls.{failed_of}
use Rattle.edi_machine.specs.Activities.{IsOrdered}
use Rattle.edi_base_rows.proofs.kernel.steps.run_alone.Given as goal

-- nothing has failed
abbrev pub invariant-loop : goal.invariant-loop
invariant-loop l = record {
  working : failed_of l.calls ≡ None;
  ordered : IsOrdered l.activity;
}
