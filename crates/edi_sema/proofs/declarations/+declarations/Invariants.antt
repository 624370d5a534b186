use Rattle.std.proofs.Common.{drop}
use Rattle.std.specs.Prelude.{map}
use Rattle.edi_tree.specs.View.{declaration_of, declarations, member_of, members}
use Rattle.edi_static.specs.Declarations as spec
use Rattle.edi_static.specs.Views.{environment}
use Rattle.edi_sema.specs.Frames.{Comes}
use Rattle.edi_sema.proofs.Declaring.{Remains}
use Rattle.edi_sema.proofs.declarations.+declarations.Given as goal

abbrev pub invariant-procedure_rest-loop-declaration : goal.invariant-procedure_rest-loop-declaration
invariant-procedure_rest-loop-declaration l = record {
  comes : Comes (environment l.initial.known) (environment l.known);
  left : Remains (λ ds. spec.declarations (declarations (map declaration_of ds))) (drop l.declaration-index l.declaration-items) l.declaration-items
      (environment l.known) (environment l.initial.known);
}

abbrev pub invariant-module-loop-one : goal.invariant-module-loop-one
invariant-module-loop-one l = record {
  comes : Comes (environment l.initial.known) (environment l.known);
  left : Remains (λ ms. spec.members (members (map member_of ms))) (drop l.one-index l.one-items) l.one-items (environment l.known)
      (environment l.initial.known);
}
