use Rattle.std.proofs.Common.{◌≡◌, drop}
use Rattle.std.specs.Prelude.{map}
use Rattle.edi_tree.specs.View.{global_of, globals as listed}
use Rattle.edi_sights.specs.named.Naming.{globals_named}
use Rattle.edi_sights.specs.named.Views.{naming_of}
use Rattle.edi_sights.proofs.named.programs.globals_named.Given as goal

abbrev pub invariant-loop-global : goal.invariant-loop-global
invariant-loop-global l = record {
  left :
      globals_named (listed (map global_of (drop l.global-index l.declared))) (naming_of l.walk)
      ≡ globals_named (listed (map global_of l.declared)) (naming_of l.initial.walk);
}
