use Rattle.std.proofs.Common.{ap, sym}
use Rattle.edi_tree.specs.Levels as elements
use Rattle.edi_grammar.specs.Rules as g
use Rattle.edi_phrases.proofs.Moves.{at_exit, waits, written}
use Rattle.edi_phrases.proofs.expressions.Strings.{over_string, no_string}
use Rattle.edi_phrases.proofs.expressions.expressions.parse_string.Goals as goal

pub returns-in_err-chars-clause-halts : goal.returns-in_err-chars-clause-halts
returns-in_err-chars-clause-halts c = at_exit _ c.from_residual.ensures.1 (no_string _ _ _ _ c.requires.chosen c.in_err-chars.ensures.none)

pub returns-clause-passes : goal.returns-clause-passes
returns-clause-passes c = written (over_string (waits g.Factor _ _) c.in_ok-chars.chars.text c.in_ok-chars.chars.line c.in_ok-chars.ensures.found)
    (λ es. ap (λ t. elements.factor_elements t es) (sym c.make_string.ensures.seen))
