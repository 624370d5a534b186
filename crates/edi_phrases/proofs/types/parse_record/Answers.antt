use Rattle.std.proofs.Common.{refl, arith}
use Rattle.edi_lex.specs.declared.symbol.Symbol.TheVariants as is
use Rattle.edi_tree.specs.Stands.{just}
use Rattle.edi_grammar.specs.Rules as g
use Rattle.edi_phrases.specs.Words.{at_line}
use Rattle.edi_phrases.proofs.Moves.{at_exit, over_mark, over_end, over_part, lacks, halts}
use Rattle.edi_phrases.proofs.Heads.{decl_rule, within}
use Rattle.edi_phrases.proofs.types.parse_record.Goals as goal

pub returns-in_err-name-clause-halts : goal.returns-in_err-name-clause-halts
returns-in_err-name-clause-halts c = at_exit _ c.from_residual.ensures.1 (c.in_err-name.ensures.halts.at g.TypeDecl _ (decl_rule _ c.requires.chosen)
    (omega arith))

pub returns-in_err-first-clause-halts : goal.returns-in_err-first-clause-halts
returns-in_err-first-clause-halts c = at_exit _ c.from_residual-in_err-first.ensures.1 (halts (within is.Record c.in_ok-name.name (decl_rule _ c.requires.chosen)
    refl (omega (arith, c.in_ok-name.ensures.room)) c.in_ok-name.ensures.found) (omega arith) c.in_err-first.ensures.halts)

pub returns-in_err-more-clause-halts : goal.returns-in_err-more-clause-halts
returns-in_err-more-clause-halts c = at_exit _ c.from_residual-in_err-more.ensures.1 (halts (over_part
    (within is.Record c.in_ok-name.name (decl_rule _ c.requires.chosen) refl (omega (arith, c.in_ok-name.ensures.room)) c.in_ok-name.ensures.found)
    c.in_ok-first.ensures.passes (omega arith)) (omega arith) c.in_err-more.ensures.halts)

pub returns-in_err-rest-clause-halts : goal.returns-in_err-rest-clause-halts
returns-in_err-rest-clause-halts c = at_exit _ c.from_residual-in_err-rest.ensures.1 (lacks (over_part
    (over_part (within is.Record c.in_ok-name.name (decl_rule _ c.requires.chosen) refl (omega (arith, c.in_ok-name.ensures.room)) c.in_ok-name.ensures.found)
    c.in_ok-first.ensures.passes (omega arith)) c.in_ok-more.ensures.passes (omega arith)) c.in_err-rest.ensures.none)

pub returns-clause-passes : goal.returns-clause-passes
returns-clause-passes c = over_end (over_mark (just is.Close) (at_line is.Close c.in_ok-rest.field-0-0)
    (over_part (over_part (within is.Record c.in_ok-name.name (decl_rule _ c.requires.chosen) refl (omega (arith, c.in_ok-name.ensures.room))
    c.in_ok-name.ensures.found) c.in_ok-first.ensures.passes (omega arith)) c.in_ok-more.ensures.passes (omega arith)) c.in_ok-rest.ensures.found refl refl
    (refl, tt))
