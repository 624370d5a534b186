use Rattle.std.proofs.Common.{◌∷◌, ◌∙◌, [], ap, refl, sym, arith, ◌≡◌, Some}
use Rattle.std.proofs.lemmas.Bool.{eqb-true}
use Rattle.edi_lex.specs.declared.symbol.Symbol.TheVariants as is
use Rattle.edi_tree.specs.Stands.{on, name_mark}
use Rattle.edi_tree.specs.Levels as elements
use Rattle.edi_grammar.specs.Grammar.{token, part}
use Rattle.edi_grammar.specs.Parser.{rule_at}
use Rattle.edi_grammar.specs.Kinds as kind
use Rattle.edi_grammar.specs.Kind.{front}
use Rattle.edi_grammar.specs.Rules as g
use Rattle.edi_grammar.specs.Edison.{edison}
use Rattle.edi_phrases.specs.Words.{at_line}
use Rattle.edi_phrases.proofs.Moves.{at_exit, waits, over_mark, over_part, into, written, lacks, halts}
use Rattle.edi_phrases.proofs.Opened.{over_front}
use Rattle.edi_syntax.proofs.statements.Choices as choices
use Rattle.edi_syntax.proofs.statements.assignments.parse_named.Goals as goal

statement_name : rule_at edison g.Statement kind.Name ≡ Some (token kind.Name ∷ part g.After ∷ [])
statement_name = refl

pub returns-in_err-name-clause-halts : goal.returns-in_err-name-clause-halts
returns-in_err-name-clause-halts c = at_exit _ c.from_residual.ensures.1 (lacks (into (token kind.Name ∷ part g.After ∷ []) (waits g.Statement _ _)
    (ap (λ a. rule_at edison g.Statement a) c.requires.chosen ∙ statement_name)) c.in_err-name.ensures.none)

pub returns-in_err-args-clause-halts : goal.returns-in_err-args-clause-halts
returns-in_err-args-clause-halts c = at_exit _ c.from_residual-in_err-args.ensures.1 (halts (into (part g.Args ∷ [])
    (over_front g.Statement (is.Name c.in_ok-name.name.text) (name_mark c.in_ok-name.name) statement_name refl (refl, refl) (waits g.Statement _ _)
    c.in_ok-name.ensures.found) (ap (λ a. rule_at edison g.After a) (eqb-true (front c.in_ok-name.behind_name.now) kind.Open
    (sym c.at.ensures.exact ∙ c.if-at.true)))) (omega arith) c.in_err-args.ensures.halts)

pub returns-then-at-clause-passes : goal.returns-then-at-clause-passes
returns-then-at-clause-passes c = written
    (over_part (into (part g.Args ∷ []) (over_front g.Statement (is.Name c.in_ok-name.name.text) (name_mark c.in_ok-name.name) statement_name refl (refl, refl)
    (waits g.Statement _ _) c.in_ok-name.ensures.found)
    (ap (λ a. rule_at edison g.After a) (eqb-true (front c.in_ok-name.behind_name.now) kind.Open (sym c.at.ensures.exact ∙ c.if-at.true))))
    c.in_ok-args.ensures.passes (omega arith)) (λ es. ap (λ t. elements.statement_elements t es) (sym c.make_call.ensures.seen))

pub returns-in_err-selectors-clause-halts : goal.returns-in_err-selectors-clause-halts
returns-in_err-selectors-clause-halts c = at_exit _ c.from_residual-in_err-selectors.ensures.1 (halts
    (into (part g.Selectors ∷ token kind.Becomes ∷ part g.Expr ∷ []) (over_front g.Statement (is.Name c.in_ok-name.name.text) (name_mark c.in_ok-name.name)
    statement_name refl (refl, refl) (waits g.Statement _ _) c.in_ok-name.ensures.found) (choices.assigned (front c.in_ok-name.behind_name.now)
    (sym c.at.ensures.exact ∙ c.if-at.false) (sym c.at_assignment.ensures.exact ∙ c.if-at_assignment.true))) (omega arith) c.in_err-selectors.ensures.halts)

pub returns-in_err-line-clause-halts : goal.returns-in_err-line-clause-halts
returns-in_err-line-clause-halts c = at_exit _ c.from_residual-in_err-line.ensures.1 (lacks (over_part
    (into (part g.Selectors ∷ token kind.Becomes ∷ part g.Expr ∷ []) (over_front g.Statement (is.Name c.in_ok-name.name.text) (name_mark c.in_ok-name.name)
    statement_name refl (refl, refl) (waits g.Statement _ _) c.in_ok-name.ensures.found) (choices.assigned (front c.in_ok-name.behind_name.now)
    (sym c.at.ensures.exact ∙ c.if-at.false) (sym c.at_assignment.ensures.exact ∙ c.if-at_assignment.true))) c.in_ok-selectors.ensures.passes (omega arith))
    c.in_err-line.ensures.none)

pub returns-in_err-expr-clause-halts : goal.returns-in_err-expr-clause-halts
returns-in_err-expr-clause-halts c = at_exit _ c.from_residual-in_err-expr.ensures.1 (halts (over_mark (on is.Becomes c.in_ok-line.line)
    (at_line is.Becomes c.in_ok-line.line) (over_part (into (part g.Selectors ∷ token kind.Becomes ∷ part g.Expr ∷ [])
    (over_front g.Statement (is.Name c.in_ok-name.name.text) (name_mark c.in_ok-name.name) statement_name refl (refl, refl) (waits g.Statement _ _)
    c.in_ok-name.ensures.found) (choices.assigned (front c.in_ok-name.behind_name.now) (sym c.at.ensures.exact ∙ c.if-at.false)
    (sym c.at_assignment.ensures.exact ∙ c.if-at_assignment.true))) c.in_ok-selectors.ensures.passes (omega arith)) c.in_ok-line.ensures.found refl refl
    (refl, refl)) (omega arith) c.in_err-expr.ensures.halts)

pub returns-then-at_assignment-clause-passes : goal.returns-then-at_assignment-clause-passes
returns-then-at_assignment-clause-passes c = written
    (over_part (over_mark (on is.Becomes c.in_ok-line.line) (at_line is.Becomes c.in_ok-line.line)
    (over_part (into (part g.Selectors ∷ token kind.Becomes ∷ part g.Expr ∷ [])
    (over_front g.Statement (is.Name c.in_ok-name.name.text) (name_mark c.in_ok-name.name) statement_name refl (refl, refl) (waits g.Statement _ _)
    c.in_ok-name.ensures.found) (choices.assigned (front c.in_ok-name.behind_name.now) (sym c.at.ensures.exact ∙ c.if-at.false)
    (sym c.at_assignment.ensures.exact ∙ c.if-at_assignment.true))) c.in_ok-selectors.ensures.passes (omega arith)) c.in_ok-line.ensures.found refl refl
    (refl, refl)) c.in_ok-expr.ensures.passes (omega arith)) (λ es. ap (λ t. elements.statement_elements t es) (sym c.make_assignment-assignment.ensures.seen))

pub returns-clause-passes : goal.returns-clause-passes
returns-clause-passes c = written (into ([])
    (over_front g.Statement (is.Name c.in_ok-name.name.text) (name_mark c.in_ok-name.name) statement_name refl (refl, refl) (waits g.Statement _ _)
    c.in_ok-name.ensures.found) (choices.alone (front c.in_ok-name.behind_name.now) (sym c.at.ensures.exact ∙ c.if-at.false)
    (sym c.at_assignment.ensures.exact ∙ c.if-at_assignment.false))) (λ es. ap (λ t. elements.statement_elements t es) (sym c.make_lone_call.ensures.seen))
