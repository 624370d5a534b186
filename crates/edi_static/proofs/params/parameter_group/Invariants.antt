use Rattle.std.proofs.Common.{◌≡◌, ◌<◌, drop, length}
use Rattle.edi_scope.specs.Scope.{outside}
use Rattle.edi_tree.specs.View.{names as listed}
use Rattle.edi_static.specs.Headings.{params_named, formal_one}
use Rattle.edi_static.specs.Proper.{Proper}
use Rattle.edi_static.specs.Views.{environment, listed_of}
use Rattle.edi_static.proofs.params.parameter_group.Given as goal

abbrev pub invariant-loop-name : goal.invariant-loop-name
invariant-loop-name l = record {
  proper : Proper (environment l.known);
  scope : outside l.known.scopes ≡ outside l.initial.known.scopes;
  depth : length l.known.scopes ≡ length l.initial.known.scopes;
  fits : l.of < length l.known.types;
  left :
      params_named l.owner.block l.owner.before l.of (formal_one l.by_variable l.of) (listed (drop l.name-index l.name-items)) (listed_of l.known l.formals)
      ≡ params_named l.owner.block l.owner.before l.of (formal_one l.by_variable l.of) (listed l.name-items) (listed_of l.initial.known l.initial.formals);
}
