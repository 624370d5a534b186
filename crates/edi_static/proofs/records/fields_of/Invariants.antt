use Rattle.std.proofs.Common.{◌≡◌, ◌<◌, drop, length, map, All}
use Rattle.edi_tree.specs.View.{groups as listed, group_of}
use Rattle.edi_unit.specs.Lists.{list_items}
use Rattle.edi_static.specs.Types.{fields_of_groups}
use Rattle.edi_static.specs.Views.{environment, fields_of}
use Rattle.edi_static.proofs.records.fields_of.Given as goal

abbrev pub invariant-loop-group : goal.invariant-loop-group
invariant-loop-group l = record {
  known : All (λ t. t < length l.known.types) (list_items l.fields.types);
  left : fields_of_groups (environment l.known) (listed (map group_of (drop l.group-index l.group-items))) (fields_of l.fields) ≡ fields_of_groups
      (environment l.known) (listed (map group_of l.group-items)) (fields_of l.initial.fields);
}
