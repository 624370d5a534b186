use Rattle.std.proofs.Common.{◌≡◌, drop, length, map}
use Rattle.edi_tree.specs.View.{groups as listed, group_of}
use Rattle.edi_static.specs.Types.{variables_of_groups}
use Rattle.edi_static.specs.Declaring.{MayDeclare}
use Rattle.edi_static.specs.Views.{environment}
use Rattle.edi_static.proofs.variables.var_list.Given as goal

abbrev pub invariant-loop-group : goal.invariant-loop-group
invariant-loop-group l = record {
  may : MayDeclare l.export (environment l.known);
  depth : length l.known.scopes ≡ length l.initial.known.scopes;
  left : variables_of_groups l.export (listed (map group_of (drop l.group-index l.group-items))) (environment l.known) ≡ variables_of_groups l.export
      (listed (map group_of l.group-items)) (environment l.initial.known);
}
