use Rattle.std.proofs.Common.{rules, ◌≡◌, ◌∷◌, ◌∙◌, ap, sym}
use Rattle.std.proofs.lemmas.Int.{to_z-of_z}
use mir.Syntax.{w16}
use Rattle.edi_lex.specs.declared.symbol.Symbol.TheVariants as is
use Rattle.edi_phrases.specs.Words.{at_line}
use Rattle.edi_phrases.proofs.names.eat_numeral.Goals as goal

pub returns-in-Numeral-clause-found : goal.returns-in-Numeral-clause-found
returns-in-Numeral-clause-found c =
    let all : c.args.marks.now ≡ c.in_ok-first.first.now ∷ c.in_ok-first.rest.now = search rules in
    let here : c.in_ok-first.first.now.symbol ≡ is.Numeral c.in-Numeral.value = c.in-Numeral.is in (
      c.in_ok-first.first.now.line,
      all ∙ ap (λ s. at_line s c.in_ok-first.first.now.line ∷ c.in_ok-first.rest.now)
          (here ∙ ap is.Numeral (sym (to_z-of_z w16 c.in-Numeral.value (search rules)))),
    )
