use Rattle.std.proofs.Common.{List, ◌∷◌, [], refl, arith}
use Rattle.edi_lex.specs.declared.symbol.Symbol.TheVariants as is
use Rattle.edi_tree.specs.Stands.{just}
use Rattle.edi_grammar.specs.Grammar.{Part, token, part}
use Rattle.edi_grammar.specs.Kinds as kind
use Rattle.edi_grammar.specs.Rules as g
use Rattle.edi_grammar.specs.Rules.{Sort}
use Rattle.edi_phrases.proofs.Moves.{at_exit, waits, over_part, into, lacks, halts}
use Rattle.edi_phrases.proofs.Opened.{over_front}
use Rattle.edi_phrases.proofs.constants.parse_const_list.Goals as goal

abbrev rest : List (Part Sort)
rest = part g.ConstDecl ∷ part g.ConstDecls ∷ []

pub returns-in_err-behind_const-clause-halts : goal.returns-in_err-behind_const-clause-halts
returns-in_err-behind_const-clause-halts c = at_exit _ c.from_residual.ensures.1 (lacks (into (token kind.Const ∷ rest) (waits g.ConstList _ _) refl)
    c.in_err-behind_const.ensures.none)

pub returns-in_err-first-clause-halts : goal.returns-in_err-first-clause-halts
returns-in_err-first-clause-halts c = at_exit _ c.from_residual-in_err-first.ensures.1 (halts (over_front {rule = rest} g.ConstList is.Const (just is.Const)
    refl refl (refl, tt) (waits g.ConstList _ _) c.in_ok-behind_const.ensures.found) (omega arith) c.in_err-first.ensures.halts)

pub returns-in_err-more-clause-halts : goal.returns-in_err-more-clause-halts
returns-in_err-more-clause-halts c = at_exit _ c.from_residual-in_err-more.ensures.1 (halts (over_part
    (over_front {rule = rest} g.ConstList is.Const (just is.Const) refl refl (refl, tt) (waits g.ConstList _ _) c.in_ok-behind_const.ensures.found)
    c.in_ok-first.ensures.passes (omega arith)) (omega arith) c.in_err-more.ensures.halts)

pub returns-clause-passes : goal.returns-clause-passes
returns-clause-passes c = over_part (over_part (over_front {rule = rest} g.ConstList is.Const (just is.Const) refl refl (refl, tt) (waits g.ConstList _ _)
    c.in_ok-behind_const.ensures.found) c.in_ok-first.ensures.passes (omega arith)) c.in_ok-more.ensures.passes (omega arith)
