use Rattle.std.proofs.Common.{◌≡◌, ◌<◌, drop, length}
use Rattle.edi_tree.specs.View.{names as listed}
use Rattle.edi_static.specs.Types.{variables_named}
use Rattle.edi_static.specs.Declaring.{MayDeclare}
use Rattle.edi_static.specs.Views.{environment}
use Rattle.edi_static.proofs.variables.variable_group.Given as goal

abbrev pub invariant-loop-name : goal.invariant-loop-name
invariant-loop-name l = record {
  may : MayDeclare l.export (environment l.known);
  depth : length l.known.scopes ≡ length l.initial.known.scopes;
  fits : l.of < length l.known.types;
  left : variables_named l.export l.of (listed (drop l.name-index l.name-items)) (environment l.known) ≡ variables_named l.export l.of (listed l.name-items)
      (environment l.initial.known);
}
