use Rattle.std.proofs.Common.{◌≡◌, take}
use Rattle.std.specs.Prelude.{map}
use Rattle.edi_unit.specs.Lists.{list_items}
use Rattle.edi_static.specs.Views.{formal_of, parameter_of}
use Rattle.edi_static.proofs.headings.parameters_of.Given as goal

abbrev pub invariant-loop-formal : goal.invariant-loop-formal
invariant-loop-formal l = record {
  kept : list_items l.parameters ≡ map (λ f. parameter_of (formal_of f)) (take l.formal-index l.formal-items);
}
