use Rattle.std.proofs.Common.{◌∷◌, [], refl, arith}
use Rattle.edi_lex.specs.declared.symbol.Symbol.TheVariants as is
use Rattle.edi_tree.specs.Stands.{just, name_mark}
use Rattle.edi_grammar.specs.Grammar.{token, part}
use Rattle.edi_grammar.specs.Kinds as kind
use Rattle.edi_grammar.specs.Rules as g
use Rattle.edi_phrases.specs.Words.{at_line}
use Rattle.edi_phrases.proofs.Moves.{at_exit, waits, over_mark, over_part, into, lacks, halts}
use Rattle.edi_phrases.proofs.names.parse_group.Goals as goal

pub returns-in_err-first-clause-halts : goal.returns-in_err-first-clause-halts
returns-in_err-first-clause-halts c = at_exit _ c.from_residual.ensures.1 (lacks (into (token kind.Name ∷ part g.Names ∷ token kind.Colon ∷ token kind.Name
    ∷ []) (waits g.Group _ _) (refl)) c.in_err-first.ensures.none)

pub returns-in_err-more-clause-halts : goal.returns-in_err-more-clause-halts
returns-in_err-more-clause-halts c = at_exit _ c.from_residual-in_err-more.ensures.1 (halts (over_mark (name_mark c.in_ok-first.first)
    (at_line (is.Name c.in_ok-first.first.text) c.in_ok-first.first.line) (into (token kind.Name ∷ part g.Names ∷ token kind.Colon ∷ token kind.Name ∷ [])
    (waits g.Group _ _) (refl)) c.in_ok-first.ensures.found refl refl (refl, refl)) (omega arith) c.in_err-more.ensures.halts)

pub returns-in_err-behind_colon-clause-halts : goal.returns-in_err-behind_colon-clause-halts
returns-in_err-behind_colon-clause-halts c = at_exit _ c.from_residual-in_err-behind_colon.ensures.1
    (lacks (over_part (over_mark (name_mark c.in_ok-first.first) (at_line (is.Name c.in_ok-first.first.text) c.in_ok-first.first.line)
    (into (token kind.Name ∷ part g.Names ∷ token kind.Colon ∷ token kind.Name ∷ []) (waits g.Group _ _) (refl)) c.in_ok-first.ensures.found refl refl
    (refl, refl)) c.in_ok-more.ensures.passes (omega arith)) c.in_err-behind_colon.ensures.none)

pub returns-in_err-type_name-clause-halts : goal.returns-in_err-type_name-clause-halts
returns-in_err-type_name-clause-halts c = at_exit _ c.from_residual-in_err-type_name.ensures.1 (lacks
    (over_mark (just is.Colon) (at_line is.Colon c.in_ok-behind_colon.field-0-0) (over_part (over_mark (name_mark c.in_ok-first.first)
    (at_line (is.Name c.in_ok-first.first.text) c.in_ok-first.first.line) (into (token kind.Name ∷ part g.Names ∷ token kind.Colon ∷ token kind.Name ∷ [])
    (waits g.Group _ _) (refl)) c.in_ok-first.ensures.found refl refl (refl, refl)) c.in_ok-more.ensures.passes (omega arith))
    c.in_ok-behind_colon.ensures.found refl refl (refl, tt)) c.in_err-type_name.ensures.none)

pub returns-clause-passes : goal.returns-clause-passes
returns-clause-passes c = over_mark (name_mark c.in_ok-type_name.type_name)
    (at_line (is.Name c.in_ok-type_name.type_name.text) c.in_ok-type_name.type_name.line)
    (over_mark (just is.Colon) (at_line is.Colon c.in_ok-behind_colon.field-0-0)
    (over_part (over_mark (name_mark c.in_ok-first.first) (at_line (is.Name c.in_ok-first.first.text) c.in_ok-first.first.line)
    (into (token kind.Name ∷ part g.Names ∷ token kind.Colon ∷ token kind.Name ∷ []) (waits g.Group _ _) (refl)) c.in_ok-first.ensures.found refl refl
    (refl, refl)) c.in_ok-more.ensures.passes (omega arith)) c.in_ok-behind_colon.ensures.found refl refl (refl, tt)) c.in_ok-type_name.ensures.found refl refl
    (refl, refl)
