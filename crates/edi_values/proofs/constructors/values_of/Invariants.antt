use Rattle.std.proofs.Common.{◌≡◌, map}
use Rattle.edi_unit.specs.Lists.{list_items}
use Rattle.edi_unit.specs.View.{expression_of}
use Rattle.edi_values.proofs.constructors.values_of.Given as goal

abbrev pub invariant-loop-part : goal.invariant-loop-part
invariant-loop-part l = record {
  kept : map expression_of (list_items l.values) ≡ map (λ p. expression_of p.what) l.yielded;
}
