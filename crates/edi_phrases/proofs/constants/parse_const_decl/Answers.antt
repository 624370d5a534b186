use Rattle.std.proofs.Common.{◌∷◌, [], refl, arith}
use Rattle.edi_lex.specs.declared.symbol.Symbol.TheVariants as is
use Rattle.edi_tree.specs.Stands.{just, name_mark}
use Rattle.edi_grammar.specs.Grammar.{token, part}
use Rattle.edi_grammar.specs.Kinds as kind
use Rattle.edi_grammar.specs.Rules as g
use Rattle.edi_phrases.specs.Words.{at_line}
use Rattle.edi_phrases.proofs.Moves.{at_exit, waits, over_mark, over_part, into, lacks, halts}
use Rattle.edi_phrases.proofs.constants.parse_const_decl.Goals as goal

pub returns-in_err-name-clause-halts : goal.returns-in_err-name-clause-halts
returns-in_err-name-clause-halts c = at_exit _ c.from_residual.ensures.1 (lacks (into (token kind.Name ∷ token kind.Equal ∷ part g.Constant ∷ [])
    (waits g.ConstDecl _ _) (refl)) c.in_err-name.ensures.none)

pub returns-in_err-behind_equal-clause-halts : goal.returns-in_err-behind_equal-clause-halts
returns-in_err-behind_equal-clause-halts c = at_exit _ c.from_residual-in_err-behind_equal.ensures.1
    (lacks (over_mark (name_mark c.in_ok-name.name) (at_line (is.Name c.in_ok-name.name.text) c.in_ok-name.name.line)
    (into (token kind.Name ∷ token kind.Equal ∷ part g.Constant ∷ []) (waits g.ConstDecl _ _) (refl)) c.in_ok-name.ensures.found refl refl (refl, refl))
    c.in_err-behind_equal.ensures.none)

pub returns-in_err-constant-clause-halts : goal.returns-in_err-constant-clause-halts
returns-in_err-constant-clause-halts c = at_exit _ c.from_residual-in_err-constant.ensures.1 (halts
    (over_mark (just is.Equal) (at_line is.Equal c.in_ok-behind_equal.field-0-0) (over_mark (name_mark c.in_ok-name.name)
    (at_line (is.Name c.in_ok-name.name.text) c.in_ok-name.name.line) (into (token kind.Name ∷ token kind.Equal ∷ part g.Constant ∷ [])
    (waits g.ConstDecl _ _) (refl)) c.in_ok-name.ensures.found refl refl (refl, refl)) c.in_ok-behind_equal.ensures.found refl refl (refl, tt)) (omega arith)
    c.in_err-constant.ensures.halts)

pub returns-clause-passes : goal.returns-clause-passes
returns-clause-passes c = over_part (over_mark (just is.Equal) (at_line is.Equal c.in_ok-behind_equal.field-0-0)
    (over_mark (name_mark c.in_ok-name.name) (at_line (is.Name c.in_ok-name.name.text) c.in_ok-name.name.line)
    (into (token kind.Name ∷ token kind.Equal ∷ part g.Constant ∷ []) (waits g.ConstDecl _ _) (refl)) c.in_ok-name.ensures.found refl refl (refl, refl))
    c.in_ok-behind_equal.ensures.found refl refl (refl, tt)) c.in_ok-constant.ensures.passes (omega arith)
