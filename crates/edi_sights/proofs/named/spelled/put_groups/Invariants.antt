use Rattle.std.proofs.Common.{◌≡◌, ◌++◌, drop}
use Rattle.std.specs.Prelude.{map}
use Rattle.edi_tree.specs.View.{group_of, groups as listed}
use Rattle.edi_sights.specs.named.Names.{groups_names}
use Rattle.edi_sights.proofs.named.spelled.put_groups.Given as goal

abbrev pub invariant-loop-group : goal.invariant-loop-group
invariant-loop-group l = record {
  left :
      l.into.items ++ groups_names (listed (map group_of (drop l.group-index l.groups)))
      ≡ l.fn.into.items ++ groups_names (listed (map group_of l.groups));
}
