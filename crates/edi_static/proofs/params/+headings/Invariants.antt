use Rattle.std.proofs.Common.{◌≡◌, drop, length, map}
use Rattle.edi_scope.specs.Scope.{outside}
use Rattle.edi_tree.specs.View.{more_params as listed, param_of}
use Rattle.edi_static.specs.Headings.{more_parameters}
use Rattle.edi_static.specs.Proper.{Proper}
use Rattle.edi_static.specs.Views.{environment, listed_of}
use Rattle.edi_static.proofs.params.+headings.Given as goal

abbrev pub invariant-parameters-loop-param : goal.invariant-parameters-loop-param
invariant-parameters-loop-param l = record {
  proper : Proper (environment l.known);
  scope : outside l.known.scopes ≡ outside l.initial.known.scopes;
  depth : length l.known.scopes ≡ length l.initial.known.scopes;
  left :
      more_parameters l.owner.block l.owner.before (listed (map param_of (drop l.param-index l.params))) (listed_of l.known l.formals)
      ≡ more_parameters l.owner.block l.owner.before (listed (map param_of l.params)) (listed_of l.initial.known l.initial.formals);
}
