use Rattle.std.proofs.Common.{rules, ◌∷◌, ◌∙◌, [], ap, refl, sym, arith}
use Rattle.std.proofs.lemmas.Bool.{eqb-true}
use Rattle.edi_lex.specs.declared.symbol.Symbol.TheVariants as is
use Rattle.edi_tree.specs.Stands.{just}
use Rattle.edi_tree.specs.Levels as elements
use Rattle.edi_grammar.specs.Grammar as item
use Rattle.edi_grammar.specs.Grammar.{token}
use Rattle.edi_grammar.specs.Parser.{rule_at}
use Rattle.edi_grammar.specs.Kinds as kind
use Rattle.edi_grammar.specs.Kind.{front}
use Rattle.edi_grammar.specs.Rules as g
use Rattle.edi_grammar.specs.Edison.{edison}
use Rattle.edi_phrases.specs.Words.{at_line}
use Rattle.edi_phrases.proofs.Moves.{at_exit, waits, over_mark, over_open, over_end, into, written, lacks, refused}
use Rattle.std.proofs.lemmas.Int.{to_z-of_z}
use mir.Syntax.{w16}
use Rattle.edi_phrases.proofs.constants.parse_code.Goals as goal

pub returns-in_err-behind_open-clause-halts : goal.returns-in_err-behind_open-clause-halts
returns-in_err-behind_open-clause-halts c = at_exit _ c.from_residual.ensures.1 (refused (into (token kind.Open ∷ token kind.Numeral ∷ token kind.Close
    ∷ item.level_end ∷ []) (waits g.Code _ _) (ap (λ a. rule_at edison g.Code a) (eqb-true (front c.args.marks.now) kind.Open
    (sym c.at.ensures.exact ∙ c.if-at.true)))) refl (omega arith) c.in_err-behind_open.ensures.none)

pub returns-in_err-value-clause-halts : goal.returns-in_err-value-clause-halts
returns-in_err-value-clause-halts c = at_exit _ c.from_residual-in_err-value.ensures.1 (lacks (over_open (just is.Open)
    (at_line is.Open c.in_ok-behind_open.field-0-0) (into (token kind.Open ∷ token kind.Numeral ∷ token kind.Close ∷ item.level_end ∷ []) (waits g.Code _ _)
    (ap (λ a. rule_at edison g.Code a) (eqb-true (front c.args.marks.now) kind.Open (sym c.at.ensures.exact ∙ c.if-at.true))))
    c.in_ok-behind_open.ensures.found refl (omega (arith, c.in_ok-behind_open.ensures.room)) (refl, tt)) c.in_err-value.ensures.none)

pub returns-in_err-behind_value-clause-halts : goal.returns-in_err-behind_value-clause-halts
returns-in_err-behind_value-clause-halts c = at_exit _ c.from_residual-in_err-behind_value.ensures.1
    (lacks (over_mark (just (is.Numeral c.in_ok-value.value)) (at_line (is.Numeral c.in_ok-value.value) c.in_ok-value.ensures.found.0)
    (over_open (just is.Open) (at_line is.Open c.in_ok-behind_open.field-0-0) (into (token kind.Open ∷ token kind.Numeral ∷ token kind.Close ∷ item.level_end
    ∷ []) (waits g.Code _ _) (ap (λ a. rule_at edison g.Code a) (eqb-true (front c.args.marks.now) kind.Open (sym c.at.ensures.exact ∙ c.if-at.true))))
    c.in_ok-behind_open.ensures.found refl (omega (arith, c.in_ok-behind_open.ensures.room)) (refl, tt)) c.in_ok-value.ensures.found.1 refl refl (refl, tt))
    c.in_err-behind_value.ensures.none)

pub returns-then-at-clause-passes : goal.returns-then-at-clause-passes
returns-then-at-clause-passes c = written
    (over_end (over_mark (just is.Close) (at_line is.Close c.in_ok-behind_value.field-0-0)
    (over_mark (just (is.Numeral c.in_ok-value.value)) (at_line (is.Numeral c.in_ok-value.value) c.in_ok-value.ensures.found.0)
    (over_open (just is.Open) (at_line is.Open c.in_ok-behind_open.field-0-0)
    (into (token kind.Open ∷ token kind.Numeral ∷ token kind.Close ∷ item.level_end ∷ []) (waits g.Code _ _)
    (ap (λ a. rule_at edison g.Code a) (eqb-true (front c.args.marks.now) kind.Open (sym c.at.ensures.exact ∙ c.if-at.true)))) c.in_ok-behind_open.ensures.found
    refl (omega (arith, c.in_ok-behind_open.ensures.room)) (refl, tt)) c.in_ok-value.ensures.found.1 refl refl (refl, tt)) c.in_ok-behind_value.ensures.found
    refl refl (refl, tt))) (λ es. ap (λ v. elements.word is.Open ∷ elements.word (is.Numeral v) ∷ elements.word is.Close ∷ elements.level_end ∷ es)
    (sym (to_z-of_z w16 c.in_ok-value.value (search rules))))

pub returns-clause-passes : goal.returns-clause-passes
returns-clause-passes c = into ([]) (waits g.Code _ _) (rw (sym c.at.ensures.exact ∙ c.if-at.false) refl)
