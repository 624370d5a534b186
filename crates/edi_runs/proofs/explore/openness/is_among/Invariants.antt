use Rattle.std.proofs.Common.{◌≡◌, drop, map}
use Rattle.std.specs.List.{list_any}
use Rattle.edi_runs.specs.explore.Openness.{variable_used}
use Rattle.edi_runs.specs.explore.Orders.{same_variable}
use Rattle.edi_runs.proofs.explore.openness.is_among.Given as goal

abbrev pub invariant-loop-there : goal.invariant-loop-there
invariant-loop-there l = record {
  any : list_any (same_variable (variable_used l.one)) (map variable_used (drop l.there-index l.uses))
      ≡ list_any (same_variable (variable_used l.one)) (map variable_used l.uses);
}
