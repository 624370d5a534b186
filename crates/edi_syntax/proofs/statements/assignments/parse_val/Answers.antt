use Rattle.std.proofs.Common.{◌∷◌, [], ap, refl, sym, arith, ◌≡◌, Some, ◌∙◌}
use Rattle.edi_lex.specs.declared.symbol.Symbol.TheVariants as is
use Rattle.edi_tree.specs.Stands.{on, just, name_mark}
use Rattle.edi_tree.specs.Levels as elements
use Rattle.edi_grammar.specs.Grammar.{token, part}
use Rattle.edi_grammar.specs.Parser.{rule_at}
use Rattle.edi_grammar.specs.Kinds as kind
use Rattle.edi_grammar.specs.Rules as g
use Rattle.edi_grammar.specs.Edison.{edison}
use Rattle.edi_phrases.specs.Words.{at_line}
use Rattle.edi_phrases.proofs.Moves.{at_exit, waits, over_mark, over_part, into, written, lacks, halts}
use Rattle.edi_phrases.proofs.Opened.{over_front}
use Rattle.edi_syntax.proofs.statements.assignments.parse_val.Goals as goal

statement_val : rule_at edison g.Statement kind.Val ≡ Some (token kind.Val ∷ token kind.Name ∷ part g.Selectors ∷ token kind.Becomes ∷ part g.Expr ∷ [])
statement_val = refl

pub returns-in_err-behind_val-clause-halts : goal.returns-in_err-behind_val-clause-halts
returns-in_err-behind_val-clause-halts c = at_exit _ c.from_residual.ensures.1 (lacks (into (token kind.Val ∷ token kind.Name ∷ part g.Selectors ∷ token
    kind.Becomes ∷ part g.Expr ∷ []) (waits g.Statement _ _) (ap (λ a. rule_at edison g.Statement a) c.requires.chosen ∙ statement_val))
    c.in_err-behind_val.ensures.none)

pub returns-in_err-name-clause-halts : goal.returns-in_err-name-clause-halts
returns-in_err-name-clause-halts c = at_exit _ c.from_residual-in_err-name.ensures.1 (lacks (over_front g.Statement is.Val (just is.Val) statement_val refl
    (refl, tt) (waits g.Statement _ _) c.in_ok-behind_val.ensures.found) c.in_err-name.ensures.none)

pub returns-in_err-selectors-clause-halts : goal.returns-in_err-selectors-clause-halts
returns-in_err-selectors-clause-halts c = at_exit _ c.from_residual-in_err-selectors.ensures.1 (halts
    (over_mark (name_mark c.in_ok-name.name) (at_line (is.Name c.in_ok-name.name.text) c.in_ok-name.name.line)
    (over_front g.Statement is.Val (just is.Val) statement_val refl (refl, tt) (waits g.Statement _ _) c.in_ok-behind_val.ensures.found)
    c.in_ok-name.ensures.found refl refl (refl, refl)) (omega arith) c.in_err-selectors.ensures.halts)

pub returns-in_err-line-clause-halts : goal.returns-in_err-line-clause-halts
returns-in_err-line-clause-halts c = at_exit _ c.from_residual-in_err-line.ensures.1 (lacks (over_part
    (over_mark (name_mark c.in_ok-name.name) (at_line (is.Name c.in_ok-name.name.text) c.in_ok-name.name.line)
    (over_front g.Statement is.Val (just is.Val) statement_val refl (refl, tt) (waits g.Statement _ _) c.in_ok-behind_val.ensures.found)
    c.in_ok-name.ensures.found refl refl (refl, refl)) c.in_ok-selectors.ensures.passes (omega arith)) c.in_err-line.ensures.none)

pub returns-in_err-expr-clause-halts : goal.returns-in_err-expr-clause-halts
returns-in_err-expr-clause-halts c = at_exit _ c.from_residual-in_err-expr.ensures.1 (halts (over_mark (on is.Becomes c.in_ok-line.line)
    (at_line is.Becomes c.in_ok-line.line) (over_part (over_mark (name_mark c.in_ok-name.name) (at_line (is.Name c.in_ok-name.name.text)
    c.in_ok-name.name.line) (over_front g.Statement is.Val (just is.Val) statement_val refl (refl, tt) (waits g.Statement _ _)
    c.in_ok-behind_val.ensures.found) c.in_ok-name.ensures.found refl refl (refl, refl)) c.in_ok-selectors.ensures.passes (omega arith))
    c.in_ok-line.ensures.found refl refl (refl, refl)) (omega arith) c.in_err-expr.ensures.halts)

pub returns-clause-passes : goal.returns-clause-passes
returns-clause-passes c = written (over_part
    (over_mark (on is.Becomes c.in_ok-line.line) (at_line is.Becomes c.in_ok-line.line)
    (over_part (over_mark (name_mark c.in_ok-name.name) (at_line (is.Name c.in_ok-name.name.text) c.in_ok-name.name.line)
    (over_front g.Statement is.Val (just is.Val) statement_val refl (refl, tt) (waits g.Statement _ _) c.in_ok-behind_val.ensures.found)
    c.in_ok-name.ensures.found refl refl (refl, refl)) c.in_ok-selectors.ensures.passes (omega arith)) c.in_ok-line.ensures.found refl refl (refl, refl))
    c.in_ok-expr.ensures.passes (omega arith)) (λ es. ap (λ t. elements.statement_elements t es) (sym c.make_assignment.ensures.seen))
