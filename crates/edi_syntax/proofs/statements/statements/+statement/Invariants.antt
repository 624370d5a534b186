use Rattle.std.proofs.Common.{◌≡◌, ◌≤◌, ◌+◌, ◌-◌, ◌*◌, length, map, [], ◌∷◌}
use Rattle.edi_lex.specs.declared.symbol.Symbol.TheVariants as is
use Rattle.edi_tree.specs.View as view
use Rattle.edi_tree.specs.Levels as elements
use Rattle.edi_grammar.specs.Grammar as item
use Rattle.edi_grammar.specs.Grammar.{part}
use Rattle.edi_grammar.specs.Rules as g
use Rattle.edi_phrases.specs.Parses.{Goes}
use Rattle.edi_syntax.specs.statements.Lines.{front_line}
use Rattle.edi_syntax.proofs.statements.Branches.{also_branches, last_end}
use Rattle.edi_phrases.proofs.Pushes.{Repeats}
use Rattle.edi_syntax.proofs.statements.statements.+statement.Given as goal

abbrev pub decreases-parse_guarded : goal.decreases-parse_guarded
decreases-parse_guarded l = (64 - l.level) * 16 + 0

abbrev pub decreases-parse_cobegin : goal.decreases-parse_cobegin
decreases-parse_cobegin l = (64 - l.level) * 16 + 0

abbrev pub decreases-parse_statement : goal.decreases-parse_statement
decreases-parse_statement l = (64 - l.level) * 16 + 1

abbrev pub decreases-parse_statements : goal.decreases-parse_statements
decreases-parse_statements l = (64 - l.level) * 16 + 2

abbrev pub decreases-parse_list : goal.decreases-parse_list
decreases-parse_list l = (64 - l.level) * 16 + 3

abbrev pub decreases-parse_condition : goal.decreases-parse_condition
decreases-parse_condition l = (64 - l.level) * 16 + 4

abbrev pub decreases-parse_branch : goal.decreases-parse_branch
decreases-parse_branch l = (64 - l.level) * 16 + 4

abbrev pub decreases-parse_else : goal.decreases-parse_else
decreases-parse_else l = (64 - l.level) * 16 + 5

abbrev pub decreases-parse_conditions : goal.decreases-parse_conditions
decreases-parse_conditions l = (64 - l.level) * 16 + 6

abbrev pub invariant-parse_else-loop-behind_else : goal.invariant-parse_else-loop-behind_else
invariant-parse_else-loop-behind_else l = Repeats g.Else l.fn.level (elements.else_elements (view.else_list (map view.condition_of l.conditions.items))) l.marks l.rest

abbrev pub decreases-parse_else-loop-behind_else : goal.decreases-parse_else-loop-behind_else
decreases-parse_else-loop-behind_else l = length l.rest

abbrev pub invariant-parse_statements-loop-behind_semicolon : goal.invariant-parse_statements-loop-behind_semicolon
invariant-parse_statements-loop-behind_semicolon l = Repeats g.Statements l.fn.level (elements.statements_elements (view.statements (map view.statement_of l.statements.items))) l.marks l.rest

abbrev pub decreases-parse_statements-loop-behind_semicolon : goal.decreases-parse_statements-loop-behind_semicolon
decreases-parse_statements-loop-behind_semicolon l = length l.rest

abbrev pub invariant-parse_cobegin-loop-behind_also : goal.invariant-parse_cobegin-loop-behind_also
invariant-parse_cobegin-loop-behind_also l = record {
  goes : Goes g.Statement l.fn.level (λ es. elements.kept is.Cobegin l.line ∷ elements.branch_elements (view.branch_of l.first).opened
      (also_branches (view.branch_of l.first).end (map view.branch_of l.branches.items) es)) (part g.Branches ∷ item.level_end ∷ []) l.marks l.rest;
  closed : last_end (view.branch_of l.first).end (map view.branch_of l.branches.items) ≡ front_line l.rest;
  shorter : length l.rest ≤ length l.marks;
}

abbrev pub decreases-parse_cobegin-loop-behind_also : goal.decreases-parse_cobegin-loop-behind_also
decreases-parse_cobegin-loop-behind_also l = length l.rest
