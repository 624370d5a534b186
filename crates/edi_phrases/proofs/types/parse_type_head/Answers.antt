use Rattle.std.proofs.Common.{◌∷◌, ◌∙◌, ap}
use Rattle.std.proofs.lemmas.Result.{err_from_is_err_and}
use Rattle.edi_lex.specs.declared.symbol.Symbol.TheVariants as is
use Rattle.edi_phrases.specs.Words.{at_line}
use Rattle.edi_phrases.proofs.Heads.{no_word, no_name, no_bracket}
use Rattle.edi_phrases.proofs.types.parse_type_head.Goals as goal

pub returns-in_err-behind_word-clause-halts : goal.returns-in_err-behind_word-clause-halts
returns-in_err-behind_word-clause-halts c = let p = err_from_is_err_and c.from_residual.result c.from_residual.ensures.1 in rw (p.1, p.2)
    (no_word c.in_err-behind_word.ensures.none)

pub returns-in_err-name-clause-halts : goal.returns-in_err-name-clause-halts
returns-in_err-name-clause-halts c = let p = err_from_is_err_and c.from_residual-in_err-name.result c.from_residual-in_err-name.ensures.1 in rw (p.1, p.2)
    (no_name c.requires.shut c.in_ok-behind_word.ensures.found c.in_err-name.ensures.none)

pub returns-in_err-line-clause-halts : goal.returns-in_err-line-clause-halts
returns-in_err-line-clause-halts c = let p = err_from_is_err_and c.from_residual-in_err-line.result c.from_residual-in_err-line.ensures.1 in rw (p.1, p.2)
    (no_bracket c.in_ok-name.name c.requires.shut c.requires.opening c.in_ok-behind_word.ensures.found c.in_ok-name.ensures.found c.in_err-line.ensures.none)

pub returns-clause-found : goal.returns-clause-found
returns-clause-found c = (
  c.in_ok-behind_word.field-0-0,
  c.in_ok-behind_word.ensures.found
      ∙ ap (λ q. at_line c.args.wanted.now c.in_ok-behind_word.field-0-0 ∷ q) (c.in_ok-name.ensures.found
      ∙ ap (λ q. at_line (is.Name c.in_ok-name.name.text) c.in_ok-name.name.line ∷ q) c.in_ok-line.ensures.found),
)
