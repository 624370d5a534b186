use Rattle.std.proofs.Common.{◌≡◌, drop}
use Rattle.std.specs.Prelude.{map}
use Rattle.edi_tree.specs.View.{statement_of, condition_of, branch_of}
use Rattle.edi_static.specs.Views.{environment}
use Rattle.edi_sights.specs.Counted.{statement_counted, condition_counted, branch_counted}
use Rattle.edi_sights.specs.Views.{met_of}
use Rattle.edi_sights.proofs.Folded.{FoldsOn}
use Rattle.edi_sights.proofs.statements.+statements.Given as goal

abbrev pub invariant-list_met-loop-one : goal.invariant-list_met-loop-one
invariant-list_met-loop-one l = record {
  same : environment l.known ≡ environment l.fn.known;
  left : FoldsOn (λ s. statement_counted l.name s (environment l.fn.known)) (map statement_of (drop l.one-index l.one-items)) (map statement_of l.one-items)
      (met_of l.met) (met_of l.initial.met);
}

abbrev pub invariant-conditions_met-loop-one : goal.invariant-conditions_met-loop-one
invariant-conditions_met-loop-one l = record {
  same : environment l.known ≡ environment l.fn.known;
  left : FoldsOn (λ c. condition_counted l.name c (environment l.fn.known)) (map condition_of (drop l.one-index l.one-items)) (map condition_of l.one-items)
      (met_of l.met) (met_of l.initial.met);
}

abbrev pub invariant-cobegin_met-loop-one : goal.invariant-cobegin_met-loop-one
invariant-cobegin_met-loop-one l = record {
  same : environment l.known ≡ environment l.fn.known;
  left : FoldsOn (λ b. branch_counted l.name b.opened (environment l.fn.known)) (map branch_of (drop l.one-index l.one-items)) (map branch_of l.one-items)
      (met_of l.met) (met_of l.initial.met);
}
