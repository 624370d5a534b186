use Rattle.std.proofs.Common.{◌≡◌, drop}
use Rattle.std.specs.Prelude.{map}
use Rattle.edi_tree.specs.View.{declaration_of, declarations, member_of, members}
use Rattle.edi_static.specs.Declarations as spec
use Rattle.edi_static.specs.Views.{environment}
use Rattle.edi_sema.specs.Frames.{Comes}
use Rattle.edi_sema.proofs.Declaring.{Remains}
use Rattle.edi_sights.specs.Awaits.{declarations_met, members_met}
use Rattle.edi_sights.proofs.declarations.+declarations.Given as goal

abbrev pub invariant-procedure_met-loop-declaration : goal.invariant-procedure_met-loop-declaration
invariant-procedure_met-loop-declaration l = record {
  comes : Comes (environment l.initial.known) (environment l.known);
  left : Remains (λ ds. spec.declarations (declarations (map declaration_of ds))) (drop l.declaration-index l.declaration-items) l.declaration-items
      (environment l.known) (environment l.initial.known);
  met :
      declarations_met l.name (declarations (map declaration_of (drop l.declaration-index l.declaration-items))) (environment l.known) l.awaits.items
      ≡ declarations_met l.name (declarations (map declaration_of l.declaration-items)) (environment l.initial.known) l.initial.awaits.items;
}

abbrev pub invariant-module_met-loop-one : goal.invariant-module_met-loop-one
invariant-module_met-loop-one l = record {
  comes : Comes (environment l.initial.known) (environment l.known);
  left : Remains (λ ms. spec.members (members (map member_of ms))) (drop l.one-index l.one-items) l.one-items (environment l.known)
      (environment l.initial.known);
  met :
      members_met l.name (members (map member_of (drop l.one-index l.one-items))) (environment l.known) l.awaits.items
      ≡ members_met l.name (members (map member_of l.one-items)) (environment l.initial.known) l.initial.awaits.items;
}
