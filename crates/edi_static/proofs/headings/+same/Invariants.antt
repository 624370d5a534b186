use Rattle.std.proofs.Common.{◌≡◌, drop}
use Rattle.std.specs.Prelude.{map}
use Rattle.edi_static.specs.Environment.{same_formals}
use Rattle.edi_static.specs.Views.{formal_of, formals}
use Rattle.edi_static.proofs.headings.+same.Given as goal

abbrev pub invariant-same_formals-loop-formal : goal.invariant-same_formals-loop-formal
invariant-same_formals-loop-formal l = record {
  at : l.position ≡ l.formal-index;
  rest : same_formals (formals (map formal_of (drop l.formal-index l.formal-items))) (formals (map formal_of (drop l.formal-index l.others))) ≡ same_formals
      (formals (map formal_of l.formal-items)) (formals (map formal_of l.others));
}
