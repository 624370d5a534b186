use Rattle.std.proofs.Common.{◌≡◌, ◌<◌, drop, length, All}
use Rattle.edi_tree.specs.View.{names as listed}
use Rattle.edi_unit.specs.Lists.{list_items}
use Rattle.edi_static.specs.Types.{fields_named}
use Rattle.edi_static.specs.Views.{fields_of}
use Rattle.edi_static.proofs.records.Fields.add_group.Given as goal

abbrev pub invariant-loop-name : goal.invariant-loop-name
invariant-loop-name l = record {
  known : All (λ t. t < length l.known.types) (list_items l.self.types);
  left : fields_named l.of (listed (drop l.name-index l.name-items)) (fields_of l.self) ≡ fields_named l.of (listed l.name-items) (fields_of l.initial.self);
}
