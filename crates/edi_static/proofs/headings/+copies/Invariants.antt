use Rattle.std.proofs.Common.{◌≡◌, take}
use Rattle.std.specs.Prelude.{map}
use Rattle.edi_unit.specs.Lists.{list_items}
use Rattle.edi_static.specs.Views.{formal_of}
use Rattle.edi_static.proofs.headings.+copies.Given as goal

abbrev pub invariant-copy_asked-loop-formal : goal.invariant-copy_asked-loop-formal
invariant-copy_asked-loop-formal l = record {
  copied : map formal_of (list_items l.formals) ≡ map formal_of (take l.formal-index l.formal-items);
}
