use Rattle.std.proofs.Common.{◌≡◌, drop}
use Rattle.std.specs.Prelude.{map}
use Rattle.edi_tree.specs.View.{statement_of, condition_of, branch_of}
use Rattle.edi_unit.specs.Lists.{list_items}
use Rattle.edi_unit.specs.View.{act_of, clause_of}
use Rattle.edi_static.specs.Statements.{statement, condition}
use Rattle.edi_static.specs.Views.{environment}
use Rattle.edi_sema.specs.Frames.{Stays}
use Rattle.edi_sema.specs.Walks.{closed_branch}
use Rattle.edi_sema.proofs.Walked.{WalksOn}
use Rattle.edi_sema.proofs.statements.+statements.Given as goal

abbrev pub invariant-statement_list-loop-one : goal.invariant-statement_list-loop-one
invariant-statement_list-loop-one l = record {
  stays : Stays (environment l.fn.known) (environment l.known);
  left : WalksOn statement (map act_of (list_items l.acts)) (map act_of (list_items l.initial.acts)) (map statement_of (drop l.one-index l.one-items))
      (map statement_of l.one-items) (environment l.known) (environment l.initial.known);
}

abbrev pub invariant-conditions-loop-one : goal.invariant-conditions-loop-one
invariant-conditions-loop-one l = record {
  stays : Stays (environment l.fn.known) (environment l.known);
  left : WalksOn condition (map clause_of (list_items l.clauses)) (map clause_of (list_items l.initial.clauses))
      (map condition_of (drop l.one-index l.one-items)) (map condition_of l.one-items) (environment l.known) (environment l.initial.known);
}

abbrev pub invariant-cobegin-loop-one : goal.invariant-cobegin-loop-one
invariant-cobegin-loop-one l = record {
  stays : Stays (environment l.fn.known) (environment l.known);
  left : WalksOn closed_branch (list_items l.blocks) (list_items l.initial.blocks) (map branch_of (drop l.one-index l.one-items)) (map branch_of l.one-items)
      (environment l.known) (environment l.initial.known);
}
