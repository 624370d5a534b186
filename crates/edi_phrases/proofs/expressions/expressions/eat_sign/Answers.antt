use Rattle.std.proofs.Common.{◌∷◌, [], ap, refl}
use Rattle.std.proofs.lemmas.Bool.{ne_eqb}
use Rattle.edi_lex.specs.declared.symbol.Symbol.TheVariants as is
use Rattle.edi_tree.specs.Stands.{on}
use Rattle.edi_grammar.specs.Grammar.{token}
use Rattle.edi_grammar.specs.Parser.{rule_at}
use Rattle.edi_grammar.specs.Kinds as kind
use Rattle.edi_grammar.specs.Kind.{front}
use Rattle.edi_grammar.specs.Rules as g
use Rattle.edi_grammar.specs.Edison.{edison}
use Rattle.edi_phrases.specs.Words.{at_line}
use Rattle.edi_phrases.proofs.Moves.{waits, over_mark, into}
use Rattle.edi_phrases.proofs.expressions.expressions.eat_sign.Goals as goal

pub returns-in-Some-clause-passes : goal.returns-in-Some-clause-passes
returns-in-Some-clause-passes c = λ n. over_mark (on is.Plus c.in-Some.line) (at_line is.Plus c.in-Some.line)
    (into (token kind.Plus ∷ []) (waits g.Sign n _) (ap (λ q. rule_at edison g.Sign (front q)) c.in-Some.ensures.found)) c.in-Some.ensures.found refl refl
    (refl, refl)

pub returns-in-Some-eat-clause-passes : goal.returns-in-Some-eat-clause-passes
returns-in-Some-eat-clause-passes c = λ n. over_mark (on is.Minus c.in-Some-eat.line) (at_line is.Minus c.in-Some-eat.line)
    (into (token kind.Minus ∷ []) (waits g.Sign n _) (ap (λ q. rule_at edison g.Sign (front q)) c.in-Some-eat.ensures.found)) c.in-Some-eat.ensures.found refl
    refl (refl, refl)

pub returns-clause-passes : goal.returns-clause-passes
returns-clause-passes c = λ n. into ([]) (waits g.Sign n _)
    (rw (ne_eqb (front _) kind.Plus c.in_default.ensures.none, ne_eqb (front _) kind.Minus c.in_default-eat.ensures.none) refl)
