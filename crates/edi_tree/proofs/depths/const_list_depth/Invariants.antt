use Rattle.std.proofs.Common.{◌≡◌, ◌≤◌, drop}
use Rattle.std.specs.Prelude.{max}
use Rattle.edi_tree.specs.View.{const_decls}
use Rattle.edi_tree.specs.Depth.{limited, const_decls_depth}
use Rattle.edi_tree.proofs.depths.const_list_depth.Given as goal

abbrev pub invariant-loop-declaration : goal.invariant-loop-declaration
invariant-loop-declaration l = record {
  small : l.depth ≤ 65;
  height : limited (max l.depth (const_decls_depth (const_decls (drop l.declaration-index l.declaration-items)))) ≡ limited
      (max l.initial.depth (const_decls_depth (const_decls l.declaration-items)));
}
