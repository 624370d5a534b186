use Rattle.std.proofs.Common.{◌≡◌, drop, length}
use Rattle.edi_tree.specs.View.{const_decls as listed}
use Rattle.edi_static.specs.Types.{const_decls}
use Rattle.edi_static.specs.Declaring.{MayDeclare}
use Rattle.edi_static.specs.Views.{environment}
use Rattle.edi_static.proofs.constants.const_list.Given as goal

abbrev pub invariant-loop-declaration : goal.invariant-loop-declaration
invariant-loop-declaration l = record {
  may : MayDeclare l.export (environment l.known);
  depth : length l.known.scopes ≡ length l.initial.known.scopes;
  left : const_decls l.export (listed (drop l.declaration-index l.declaration-items)) (environment l.known) ≡ const_decls l.export
      (listed l.declaration-items) (environment l.initial.known);
}
