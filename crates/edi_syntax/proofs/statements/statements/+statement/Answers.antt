use Rattle.std.proofs.Common.{rules, ◌∷◌, ◌∙◌, [], map, ap, refl, sym, arith, ◌≡◌, Some}
use Rattle.std.proofs.lemmas.Bool.{ne_eqb}
use Rattle.edi_lex.specs.declared.symbol.Symbol.TheVariants as is
use Rattle.edi_tree.specs.Stands.{on, just}
use Rattle.edi_tree.specs.Levels as elements
use Rattle.edi_tree.specs.View as view
use Rattle.edi_grammar.specs.Grammar as item
use Rattle.edi_grammar.specs.Grammar.{token, part}
use Rattle.edi_grammar.specs.Parser.{rule_at}
use Rattle.edi_grammar.specs.Kinds as kind
use Rattle.edi_grammar.specs.Kind.{kind_of, front}
use Rattle.edi_grammar.specs.Rules as g
use Rattle.edi_grammar.specs.Edison.{edison}
use Rattle.edi_phrases.specs.Words.{at_line}
use Rattle.edi_phrases.proofs.Moves.{at_exit, waits, over_mark, over_end, over_part, into, written, lacks, refused, halts}
use Rattle.edi_phrases.proofs.Opened.{over_front, open_front}
use Rattle.edi_phrases.proofs.Fronts.{apart}
use Rattle.edi_phrases.proofs.Pushes.{separated, separated_halts}
use Rattle.edi_syntax.specs.statements.Lines as lines
use Rattle.edi_syntax.proofs.statements.Guards.{guarded_rule, guard_opens, behind_guard, guarded_elements}
use Rattle.edi_syntax.proofs.statements.Branches.{also_branches, last_end, also_push, last_push, ended}
use Rattle.edi_syntax.proofs.statements.statements.+statement.Goals as goal

statement_cobegin : rule_at edison g.Statement kind.Cobegin ≡ Some (token kind.Cobegin ∷ part g.Branch ∷ part g.Branches ∷ item.level_end ∷ [])
statement_cobegin = refl

branches_also : rule_at edison g.Branches kind.Also ≡ Some (token kind.Also ∷ part g.Branch ∷ part g.Branches ∷ [])
branches_also = refl

branches_end : rule_at edison g.Branches kind.End ≡ Some (token kind.End ∷ [])
branches_end = refl

statement_skip : rule_at edison g.Statement kind.Skip ≡ Some (token kind.Skip ∷ [])
statement_skip = refl

pub parse_condition-returns-in_err-expr-clause-halts : goal.parse_condition-returns-in_err-expr-clause-halts
parse_condition-returns-in_err-expr-clause-halts t c = at_exit _ c.from_residual.ensures.1 (halts (into
    (part g.Expr ∷ token kind.Do ∷ part g.StatementList ∷ []) (waits g.Condition _ _) (refl)) (omega arith) c.in_err-expr.ensures.halts)

pub parse_condition-returns-in_err-line-clause-halts : goal.parse_condition-returns-in_err-line-clause-halts
parse_condition-returns-in_err-line-clause-halts t c = at_exit _ c.from_residual-in_err-line.ensures.1
    (lacks (over_part (into (part g.Expr ∷ token kind.Do ∷ part g.StatementList ∷ []) (waits g.Condition _ _) (refl)) c.in_ok-expr.ensures.passes
    (omega arith)) c.in_err-line.ensures.none)

pub parse_condition-returns-in_err-list-clause-halts : goal.parse_condition-returns-in_err-list-clause-halts
parse_condition-returns-in_err-list-clause-halts t c = at_exit _ c.from_residual-in_err-list.ensures.1
    (halts (over_mark (on is.Do c.in_ok-line.line) (at_line is.Do c.in_ok-line.line) (over_part (into
    (part g.Expr ∷ token kind.Do ∷ part g.StatementList ∷ []) (waits g.Condition _ _) (refl)) c.in_ok-expr.ensures.passes (omega arith))
    c.in_ok-line.ensures.found refl refl (refl, refl)) (omega arith) c.in_err-list.ensures.halts)

pub parse_condition-returns-clause-passes : goal.parse_condition-returns-clause-passes
parse_condition-returns-clause-passes t c = written
    (over_part (over_mark (on is.Do c.in_ok-line.line) (at_line is.Do c.in_ok-line.line)
    (over_part (into (part g.Expr ∷ token kind.Do ∷ part g.StatementList ∷ []) (waits g.Condition _ _) (refl)) c.in_ok-expr.ensures.passes (omega arith))
    c.in_ok-line.ensures.found refl refl (refl, refl)) c.in_ok-list.ensures.passes (omega arith))
    (λ es. ap (λ t. elements.condition_elements t es) (sym c.make_condition.ensures.seen))

pub parse_else-returns-in_err-condition-clause-halts : goal.parse_else-returns-in_err-condition-clause-halts
parse_else-returns-in_err-condition-clause-halts t c = at_exit _ c.from_residual.ensures.1 (separated_halts g.Else g.Condition is.Else refl refl
    c.loop-behind_else.invariant.goes c.in-Some.ensures.found c.in_err-condition.ensures.halts)

pub parse_else-loop-behind_else-preserved : goal.parse_else-loop-behind_else-preserved
parse_else-loop-behind_else-preserved t c =
    record {
      goes = separated g.Else g.Condition is.Else (λ x. elements.condition_elements (view.condition_of x))
          (λ l. elements.else_elements (view.else_list (map view.condition_of l))) (λ es. refl) (λ x l es. refl) refl refl c.loop-behind_else.conditions.items
          c.push.new.self.items c.in_ok-condition.condition (search rules) c.loop-behind_else.invariant.goes c.in-Some.ensures.found
          c.in_ok-condition.ensures.passes;
      shorter = omega (arith, c.loop-behind_else.invariant.shorter, c.in-Some.ensures.shorter, c.in_ok-condition.ensures.shorter);
    }

pub parse_else-returns-clause-passes : goal.parse_else-returns-clause-passes
parse_else-returns-clause-passes t c = written
    (into ([]) (c.loop-behind_else.invariant.goes) (rw (ne_eqb (front _) kind.Else c.in_default.ensures.none) refl))
    (λ es. ap (λ l. elements.else_elements (view.else_list (map view.condition_of l)) es) (sym c.from_vec.ensures.exact))

pub parse_conditions-returns-in_err-first-clause-halts : goal.parse_conditions-returns-in_err-first-clause-halts
parse_conditions-returns-in_err-first-clause-halts t c = at_exit _ c.from_residual.ensures.1 (halts
    (into (part g.Condition ∷ part g.Else ∷ []) (waits g.Conditions _ _) (refl)) (omega arith) c.in_err-first.ensures.halts)

pub parse_conditions-returns-in_err-more-clause-halts : goal.parse_conditions-returns-in_err-more-clause-halts
parse_conditions-returns-in_err-more-clause-halts t c = at_exit _ c.from_residual-in_err-more.ensures.1
    (halts (over_part (into (part g.Condition ∷ part g.Else ∷ []) (waits g.Conditions _ _) (refl)) c.in_ok-first.ensures.passes (omega arith)) (omega arith)
    c.in_err-more.ensures.halts)

pub parse_conditions-returns-clause-passes : goal.parse_conditions-returns-clause-passes
parse_conditions-returns-clause-passes t c = written
    (over_part (over_part (into (part g.Condition ∷ part g.Else ∷ []) (waits g.Conditions _ _) (refl)) c.in_ok-first.ensures.passes (omega arith))
    c.in_ok-more.ensures.passes (omega arith)) (λ es. ap (λ t. elements.conditions_elements t es) (sym c.make_conditions.ensures.seen))

pub parse_guarded-returns-in_err-line-clause-halts : goal.parse_guarded-returns-in_err-line-clause-halts
parse_guarded-returns-in_err-line-clause-halts t c = at_exit _ c.from_residual.ensures.1 (refused (into
    (token (kind_of c.args.wanted.now) ∷ part g.Conditions ∷ token kind.End ∷ item.level_end ∷ []) (waits g.Statement _ _)
    (ap (λ a. rule_at edison g.Statement a) c.requires.chosen ∙ guarded_rule c.args.wanted.now c.requires.guard))
    (guard_opens c.args.wanted.now c.requires.guard) (omega arith) c.in_err-line.ensures.none)

pub parse_guarded-returns-in_err-conditions-clause-halts : goal.parse_guarded-returns-in_err-conditions-clause-halts
parse_guarded-returns-in_err-conditions-clause-halts t c = at_exit _ c.from_residual-in_err-conditions.ensures.1
    (halts (behind_guard c.args.wanted.now c.requires.guard c.in_ok-line.ensures.room c.in_ok-line.ensures.found) (omega arith)
    c.in_err-conditions.ensures.halts)

pub parse_guarded-returns-in_err-rest-clause-halts : goal.parse_guarded-returns-in_err-rest-clause-halts
parse_guarded-returns-in_err-rest-clause-halts t c = at_exit _ c.from_residual-in_err-rest.ensures.1
    (lacks (over_part (behind_guard c.args.wanted.now c.requires.guard c.in_ok-line.ensures.room c.in_ok-line.ensures.found) c.in_ok-conditions.ensures.passes
    (omega arith)) c.in_err-rest.ensures.none)

pub parse_guarded-returns-clause-passes : goal.parse_guarded-returns-clause-passes
parse_guarded-returns-clause-passes t c = written
    (over_end (over_mark (just is.End) (at_line is.End c.in_ok-rest.field-0-0)
    (over_part (behind_guard c.args.wanted.now c.requires.guard c.in_ok-line.ensures.room c.in_ok-line.ensures.found) c.in_ok-conditions.ensures.passes
    (omega arith)) c.in_ok-rest.ensures.found refl refl (refl, tt)))
    (λ es. guarded_elements c.args.wanted.now c.in_ok-line.line (view.conditions_of c.in_ok-conditions.conditions) c.requires.guard es
    ∙ ap (λ t. elements.statement_elements t es) (sym c.make_guarded.ensures.seen))

pub parse_branch-returns-in_err-constant-clause-halts : goal.parse_branch-returns-in_err-constant-clause-halts
parse_branch-returns-in_err-constant-clause-halts t c = at_exit _ c.from_residual.ensures.1 (halts
    (into (part g.Constant ∷ token kind.Do ∷ part g.StatementList ∷ []) (waits g.Branch _ _) (refl)) (omega arith) c.in_err-constant.ensures.halts)

pub parse_branch-returns-in_err-line-clause-halts : goal.parse_branch-returns-in_err-line-clause-halts
parse_branch-returns-in_err-line-clause-halts t c = at_exit _ c.from_residual-in_err-line.ensures.1
    (lacks (over_part (into (part g.Constant ∷ token kind.Do ∷ part g.StatementList ∷ []) (waits g.Branch _ _) (refl)) c.in_ok-constant.ensures.passes
    (omega arith)) c.in_err-line.ensures.none)

pub parse_branch-returns-in_err-list-clause-halts : goal.parse_branch-returns-in_err-list-clause-halts
parse_branch-returns-in_err-list-clause-halts t c = at_exit _ c.from_residual-in_err-list.ensures.1
    (halts (over_mark (on is.Do c.in_ok-line.line) (at_line is.Do c.in_ok-line.line) (over_part (into
    (part g.Constant ∷ token kind.Do ∷ part g.StatementList ∷ []) (waits g.Branch _ _) (refl)) c.in_ok-constant.ensures.passes (omega arith))
    c.in_ok-line.ensures.found refl refl (refl, refl)) (omega arith) c.in_err-list.ensures.halts)

pub parse_branch-returns-clause-passes : goal.parse_branch-returns-clause-passes
parse_branch-returns-clause-passes t c = written
    (over_part (over_mark (on is.Do c.in_ok-line.line) (at_line is.Do c.in_ok-line.line)
    (over_part (into (part g.Constant ∷ token kind.Do ∷ part g.StatementList ∷ []) (waits g.Branch _ _) (refl)) c.in_ok-constant.ensures.passes (omega arith))
    c.in_ok-line.ensures.found refl refl (refl, refl)) c.in_ok-list.ensures.passes (omega arith))
    (λ es. ap (λ t. elements.branch_elements t es) (sym c.make_branch.ensures.seen))

pub parse_branch-returns-clause-closed : goal.parse_branch-returns-clause-closed
parse_branch-returns-clause-closed t c = c.make_branch.ensures.closed ∙ c.line_in_front-end.ensures.exact

pub parse_cobegin-returns-in_err-line-clause-halts : goal.parse_cobegin-returns-in_err-line-clause-halts
parse_cobegin-returns-in_err-line-clause-halts t c = at_exit _ c.from_residual.ensures.1 (refused (into (token kind.Cobegin ∷ part g.Branch ∷ part g.Branches ∷ item.level_end ∷ []) (waits g.Statement _ _)
    (let h1 = apart (front c.args.marks.now) kind.Skip (kind.Name ∷ kind.Val ∷ kind.If ∷ kind.While ∷ kind.When ∷ []) c.requires.chosen in
    let h2 = apart (front c.args.marks.now) kind.Name (kind.Val ∷ kind.If ∷ kind.While ∷ kind.When ∷ []) h1.1 in
    let h3 = apart (front c.args.marks.now) kind.Val (kind.If ∷ kind.While ∷ kind.When ∷ []) h2.1 in
    let h4 = apart (front c.args.marks.now) kind.If (kind.While ∷ kind.When ∷ []) h3.1 in
    let h5 = apart (front c.args.marks.now) kind.While (kind.When ∷ []) h4.1 in let h6 = apart (front c.args.marks.now) kind.When ([]) h5.1 in
    rw (h1.0, h2.0, h3.0, h4.0, h5.0, h6.0) refl)) refl (omega arith) c.in_err-line.ensures.none)

pub parse_cobegin-returns-in_err-first-clause-halts : goal.parse_cobegin-returns-in_err-first-clause-halts
parse_cobegin-returns-in_err-first-clause-halts t c = at_exit _ c.from_residual-in_err-first.ensures.1
    (halts (open_front g.Statement is.Cobegin (on is.Cobegin c.in_ok-line.line) statement_cobegin (omega (arith, c.in_ok-line.ensures.room)) (refl, refl)
    (waits g.Statement _ _) c.in_ok-line.ensures.found) (omega arith) c.in_err-first.ensures.halts)

pub parse_cobegin-loop-behind_also-init : goal.parse_cobegin-loop-behind_also-init
parse_cobegin-loop-behind_also-init t c =
    record {
      goes = written (over_part (open_front g.Statement is.Cobegin (on is.Cobegin c.in_ok-line.line) statement_cobegin
          (omega (arith, c.in_ok-line.ensures.room)) (refl, refl) (waits g.Statement _ _) c.in_ok-line.ensures.found) c.in_ok-first.ensures.passes
          (omega arith))
          (λ es. ap (λ l. elements.kept is.Cobegin c.in_ok-line.line ∷ elements.branch_elements (view.branch_of c.in_ok-first.first).opened
          (also_branches (view.branch_of c.in_ok-first.first).end (map view.branch_of l) es)) (sym c.new-branches.ensures.items));
      closed = ap (λ l. last_end (view.branch_of c.in_ok-first.first).end (map view.branch_of l)) c.new-branches.ensures.items ∙ c.in_ok-first.ensures.closed;
      shorter = omega (arith, c.in_ok-line.ensures.shorter, c.in_ok-first.ensures.shorter);
    }

pub parse_cobegin-returns-in_err-branch-clause-halts : goal.parse_cobegin-returns-in_err-branch-clause-halts
parse_cobegin-returns-in_err-branch-clause-halts t c = at_exit _ c.from_residual-in_err-branch.ensures.1
    (halts (over_front g.Branches is.Also (on is.Also c.in-Some.field-0-0) branches_also refl (refl, refl) (c.loop-behind_also.invariant.goes)
    c.in-Some.ensures.found) (omega arith) c.in_err-branch.ensures.halts)

pub parse_cobegin-loop-behind_also-preserved : goal.parse_cobegin-loop-behind_also-preserved
parse_cobegin-loop-behind_also-preserved t c =
    record {
      goes = written (over_part (over_front g.Branches is.Also (on is.Also c.in-Some.field-0-0) branches_also refl (refl, refl)
          (c.loop-behind_also.invariant.goes) c.in-Some.ensures.found) c.in_ok-branch.ensures.passes (omega arith))
          (λ es. ap (λ l. elements.kept is.Cobegin c.in_ok-line.line ∷ elements.branch_elements (view.branch_of c.in_ok-first.first).opened l)
          (also_push view.branch_of (view.branch_of c.in_ok-first.first).end c.in-Some.field-0-0 c.loop-behind_also.branches.items c.push.new.self.items
          c.in_ok-branch.branch (c.loop-behind_also.invariant.closed ∙ ap lines.front_line c.in-Some.ensures.found) (search rules) es));
      closed = last_push view.branch_of (view.branch_of c.in_ok-first.first).end c.loop-behind_also.branches.items c.push.new.self.items c.in_ok-branch.branch
          (search rules) ∙ c.in_ok-branch.ensures.closed;
      shorter = omega (arith, c.loop-behind_also.invariant.shorter, c.in-Some.ensures.shorter, c.in_ok-branch.ensures.shorter);
    }

pub parse_cobegin-returns-in_err-behind_end-clause-halts : goal.parse_cobegin-returns-in_err-behind_end-clause-halts
parse_cobegin-returns-in_err-behind_end-clause-halts t c = at_exit _ c.from_residual-in_err-behind_end.ensures.1
    (lacks (into (token kind.End ∷ []) (c.loop-behind_also.invariant.goes) (rw (ne_eqb (front _) kind.Also c.in_default.ensures.none) refl))
    c.in_err-behind_end.ensures.none)

pub parse_cobegin-returns-clause-passes : goal.parse_cobegin-returns-clause-passes
parse_cobegin-returns-clause-passes t c = written
    (over_end (over_front g.Branches is.End (on is.End c.in_ok-behind_end.field-0-0) branches_end refl (refl, refl) (c.loop-behind_also.invariant.goes)
    c.in_ok-behind_end.ensures.found)) (λ es.
    ap (λ l. elements.kept is.Cobegin c.in_ok-line.line ∷ elements.branch_elements (view.branch_of c.in_ok-first.first).opened l)
    (ended (view.branch_of c.in_ok-first.first).end c.in_ok-behind_end.field-0-0 (map view.branch_of c.loop-behind_also.branches.items)
    (c.loop-behind_also.invariant.closed ∙ ap lines.front_line c.in_ok-behind_end.ensures.found) es
    ∙ ap (λ l. elements.branches_elements (view.branches (view.branch_of c.in_ok-first.first).end (map view.branch_of l)) es)
    (sym c.from_vec-more.ensures.exact)) ∙ ap (λ t. elements.statement_elements t es) (sym c.make_cobegin.ensures.seen))

pub parse_statement-returns-in-Some-clause-passes : goal.parse_statement-returns-in-Some-clause-passes
parse_statement-returns-in-Some-clause-passes t c = written
    (over_front g.Statement is.Skip (just is.Skip) statement_skip refl (refl, tt) (waits g.Statement _ _) c.in-Some.ensures.found)
    (λ es. ap (λ t. elements.statement_elements t es) (sym c.make_skip.ensures.seen))

pub parse_statements-returns-in_err-statement-clause-halts : goal.parse_statements-returns-in_err-statement-clause-halts
parse_statements-returns-in_err-statement-clause-halts t c = at_exit _ c.from_residual.ensures.1 (separated_halts g.Statements g.Statement is.Semicolon refl
    refl c.loop-behind_semicolon.invariant.goes c.in-Some.ensures.found c.in_err-statement.ensures.halts)

pub parse_statements-loop-behind_semicolon-preserved : goal.parse_statements-loop-behind_semicolon-preserved
parse_statements-loop-behind_semicolon-preserved t c =
    record {
      goes = separated g.Statements g.Statement is.Semicolon (λ x. elements.statement_elements (view.statement_of x))
          (λ l. elements.statements_elements (view.statements (map view.statement_of l))) (λ es. refl) (λ x l es. refl) refl refl
          c.loop-behind_semicolon.statements.items c.push.new.self.items c.in_ok-statement.statement (search rules) c.loop-behind_semicolon.invariant.goes
          c.in-Some.ensures.found c.in_ok-statement.ensures.passes;
      shorter = omega (arith, c.loop-behind_semicolon.invariant.shorter, c.in-Some.ensures.shorter, c.in_ok-statement.ensures.shorter);
    }

pub parse_statements-returns-clause-passes : goal.parse_statements-returns-clause-passes
parse_statements-returns-clause-passes t c = written
    (into ([]) (c.loop-behind_semicolon.invariant.goes) (rw (ne_eqb (front _) kind.Semicolon c.in_default.ensures.none) refl))
    (λ es. ap (λ l. elements.statements_elements (view.statements (map view.statement_of l)) es) (sym c.from_vec.ensures.exact))

pub parse_list-returns-in_err-first-clause-halts : goal.parse_list-returns-in_err-first-clause-halts
parse_list-returns-in_err-first-clause-halts t c = at_exit _ c.from_residual.ensures.1 (halts (into (part g.Statement ∷ part g.Statements ∷ [])
    (waits g.StatementList _ _) (refl)) (omega arith) c.in_err-first.ensures.halts)

pub parse_list-returns-in_err-more-clause-halts : goal.parse_list-returns-in_err-more-clause-halts
parse_list-returns-in_err-more-clause-halts t c = at_exit _ c.from_residual-in_err-more.ensures.1 (halts
    (over_part (into (part g.Statement ∷ part g.Statements ∷ []) (waits g.StatementList _ _) (refl)) c.in_ok-first.ensures.passes (omega arith)) (omega arith)
    c.in_err-more.ensures.halts)

pub parse_list-returns-clause-passes : goal.parse_list-returns-clause-passes
parse_list-returns-clause-passes t c = written
    (over_part (over_part (into (part g.Statement ∷ part g.Statements ∷ []) (waits g.StatementList _ _) (refl)) c.in_ok-first.ensures.passes (omega arith))
    c.in_ok-more.ensures.passes (omega arith)) (λ es. ap (λ t. elements.list_elements t es) (sym c.in_ok-list.ensures.seen))
