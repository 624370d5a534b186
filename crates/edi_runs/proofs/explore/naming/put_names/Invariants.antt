use Rattle.std.proofs.Common.{◌≡◌, ◌++◌, drop, map}
use Rattle.edi_sights.specs.named.Views.{names_view}
use Rattle.edi_runs.specs.explore.Lines.{name_lines}
use Rattle.edi_runs.specs.explore.Openness.{variable_used}
use Rattle.edi_runs.specs.explore.Orders.{name_in}
use Rattle.edi_runs.proofs.explore.naming.put_names.Given as goal

abbrev pub invariant-loop-one : goal.invariant-loop-one
invariant-loop-one l = record {
  text : l.out.items ++ name_lines (map (name_in (names_view l.names)) (map variable_used (drop l.one-index l.uses)))
      ≡ l.fn.out.items ++ name_lines (map (name_in (names_view l.names)) (map variable_used l.uses));
}
