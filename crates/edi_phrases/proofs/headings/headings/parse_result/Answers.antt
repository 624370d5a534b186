use Rattle.std.proofs.Common.{◌∷◌, [], ap, refl}
use Rattle.std.proofs.lemmas.Bool.{ne_eqb}
use Rattle.edi_lex.specs.declared.symbol.Symbol.TheVariants as is
use Rattle.edi_tree.specs.Stands.{just, name_mark}
use Rattle.edi_grammar.specs.Grammar.{token}
use Rattle.edi_grammar.specs.Parser.{rule_at}
use Rattle.edi_grammar.specs.Kinds as kind
use Rattle.edi_grammar.specs.Kind.{front}
use Rattle.edi_grammar.specs.Rules as g
use Rattle.edi_grammar.specs.Edison.{edison}
use Rattle.edi_phrases.specs.Words.{at_line}
use Rattle.edi_phrases.proofs.Moves.{at_exit, waits, over_mark, into, lacks}
use Rattle.edi_phrases.proofs.headings.headings.parse_result.Goals as goal

pub returns-in_default-clause-passes : goal.returns-in_default-clause-passes
returns-in_default-clause-passes c = into ([]) (waits g.Result _ _) (rw (ne_eqb (front _) kind.Colon c.in_default.ensures.none) refl)

pub returns-in_err-name-clause-halts : goal.returns-in_err-name-clause-halts
returns-in_err-name-clause-halts c = at_exit _ c.from_residual.ensures.1 (lacks (over_mark (just is.Colon) (at_line is.Colon c.in-Some.field-0-0)
    (into (token kind.Colon ∷ token kind.Name ∷ []) (waits g.Result _ _) (ap (λ q. rule_at edison g.Result (front q)) c.in-Some.ensures.found))
    c.in-Some.ensures.found refl refl (refl, tt)) c.in_err-name.ensures.none)

pub returns-clause-passes : goal.returns-clause-passes
returns-clause-passes c = over_mark (name_mark c.in_ok-name.name) (at_line (is.Name c.in_ok-name.name.text) c.in_ok-name.name.line)
    (over_mark (just is.Colon) (at_line is.Colon c.in-Some.field-0-0)
    (into (token kind.Colon ∷ token kind.Name ∷ []) (waits g.Result _ _) (ap (λ q. rule_at edison g.Result (front q)) c.in-Some.ensures.found))
    c.in-Some.ensures.found refl refl (refl, tt)) c.in_ok-name.ensures.found refl refl (refl, refl)
