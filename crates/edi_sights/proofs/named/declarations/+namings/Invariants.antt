use Rattle.std.proofs.Common.{◌≡◌, drop}
use Rattle.std.specs.Prelude.{map}
use Rattle.edi_tree.specs.View.{declaration_of, declarations, member_of, members}
use Rattle.edi_sights.specs.named.Naming as spec
use Rattle.edi_sights.specs.named.Views.{naming_of}
use Rattle.edi_sights.proofs.named.declarations.+namings.Given as goal

abbrev pub invariant-procedure_named-loop-declaration : goal.invariant-procedure_named-loop-declaration
invariant-procedure_named-loop-declaration l = record {
  left :
      spec.declarations_named l.block (declarations (map declaration_of (drop l.declaration-index l.declaration-items))) (naming_of l.walk)
      ≡ spec.declarations_named l.block (declarations (map declaration_of l.declaration-items)) (naming_of l.initial.walk);
}

abbrev pub invariant-module_named-loop-one : goal.invariant-module_named-loop-one
invariant-module_named-loop-one l = record {
  left :
      spec.members_named l.block (members (map member_of (drop l.one-index l.one-items))) (naming_of l.walk)
      ≡ spec.members_named l.block (members (map member_of l.one-items)) (naming_of l.initial.walk);
}
