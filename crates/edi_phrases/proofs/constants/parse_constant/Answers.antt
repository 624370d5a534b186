use Rattle.std.proofs.Common.{rules, ◌∷◌, [], ap, refl, sym, arith}
use Rattle.std.proofs.lemmas.Bool.{ne_eqb}
use Rattle.edi_lex.specs.declared.symbol.Symbol.TheVariants as is
use Rattle.edi_tree.specs.Stands.{just, name_mark, char_mark}
use Rattle.edi_tree.specs.Levels as elements
use Rattle.edi_grammar.specs.Grammar.{token, part}
use Rattle.edi_grammar.specs.Parser.{rule_at}
use Rattle.edi_grammar.specs.Kinds as kind
use Rattle.edi_grammar.specs.Kind.{front}
use Rattle.edi_grammar.specs.Rules as g
use Rattle.edi_grammar.specs.Edison.{edison}
use Rattle.edi_phrases.specs.Words.{at_line}
use Rattle.edi_phrases.proofs.Moves.{at_exit, waits, over_mark, over_part, into, written, lacks, halts}
use Rattle.std.proofs.lemmas.Int.{to_z-of_z}
use mir.Syntax.{w16}
use Rattle.edi_grammar.proofs.derivation.Splits.{constant_split}
use Rattle.edi_phrases.proofs.constants.parse_constant.Goals as goal

pub returns-in-Some-clause-passes : goal.returns-in-Some-clause-passes
returns-in-Some-clause-passes c = written
    (over_mark (just (is.Numeral c.in-Some.value)) (at_line (is.Numeral c.in-Some.value) c.in-Some.ensures.found.0)
    (into (token kind.Numeral ∷ []) (waits g.Constant _ _) (ap (λ q. rule_at edison g.Constant (front q)) c.in-Some.ensures.found.1)) c.in-Some.ensures.found.1
    refl refl (refl, tt)) (λ es. ap (λ v. elements.word (is.Numeral v) ∷ es) (sym (to_z-of_z w16 c.in-Some.value (search rules))))

pub returns-in-Some-eat_char-clause-passes : goal.returns-in-Some-eat_char-clause-passes
returns-in-Some-eat_char-clause-passes c = over_mark (char_mark c.in-Some-eat_char.char)
    (at_line (is.Chars (c.in-Some-eat_char.char.character ∷ [])) c.in-Some-eat_char.char.line)
    (into (token kind.Char ∷ []) (waits g.Constant _ _) (ap (λ q. rule_at edison g.Constant (front q)) c.in-Some-eat_char.ensures.found))
    c.in-Some-eat_char.ensures.found refl refl (refl, refl)

pub returns-in_err-name-clause-halts : goal.returns-in_err-name-clause-halts
returns-in_err-name-clause-halts c = at_exit _ c.from_residual.ensures.1 (lacks (into (token kind.Name ∷ part g.Code ∷ []) (waits g.Constant _ _)
    (rw (ne_eqb (front _) kind.Numeral c.in_default.ensures.none, ne_eqb (front _) kind.Char c.in_default-eat_char.ensures.none) refl))
    c.in_err-name.ensures.none)

pub returns-in_err-code-clause-halts : goal.returns-in_err-code-clause-halts
returns-in_err-code-clause-halts c = at_exit _ c.from_residual-in_err-code.ensures.1 (halts (over_mark (name_mark c.in_ok-name.name)
    (at_line (is.Name c.in_ok-name.name.text) c.in_ok-name.name.line) (into (token kind.Name ∷ part g.Code ∷ []) (waits g.Constant _ _)
    (rw (ne_eqb (front _) kind.Numeral c.in_default.ensures.none, ne_eqb (front _) kind.Char c.in_default-eat_char.ensures.none) refl))
    c.in_ok-name.ensures.found refl refl (refl, refl)) (omega arith) c.in_err-code.ensures.halts)

pub returns-clause-passes : goal.returns-clause-passes
returns-clause-passes c = written (over_part
    (over_mark (name_mark c.in_ok-name.name) (at_line (is.Name c.in_ok-name.name.text) c.in_ok-name.name.line)
    (into (token kind.Name ∷ part g.Code ∷ []) (waits g.Constant _ _)
    (rw (ne_eqb (front _) kind.Numeral c.in_default.ensures.none, ne_eqb (front _) kind.Char c.in_default-eat_char.ensures.none) refl))
    c.in_ok-name.ensures.found refl refl (refl, refl)) c.in_ok-code.ensures.passes (omega arith))
    (λ es. sym (constant_split c.in_ok-name.name c.in_ok-code.code es))
