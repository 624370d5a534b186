use Rattle.std.proofs.Common.{◌∷◌, ◌∙◌, [], ap, refl, sym, arith, ◌≡◌, Some}
use Rattle.edi_lex.specs.declared.symbol.Symbol.TheVariants as is
use Rattle.edi_tree.specs.Stands.{just}
use Rattle.edi_tree.specs.Levels as elements
use Rattle.edi_tree.specs.View as view
use Rattle.edi_grammar.specs.Grammar as item
use Rattle.edi_grammar.specs.Grammar.{token, part}
use Rattle.edi_grammar.specs.Parser.{rule_at}
use Rattle.edi_grammar.specs.Kinds as kind
use Rattle.edi_grammar.specs.Rules as g
use Rattle.edi_grammar.specs.Edison.{edison}
use Rattle.edi_grammar.proofs.derivation.Splits.{heading_split}
use Rattle.edi_phrases.specs.Words.{at_line}
use Rattle.edi_phrases.proofs.Moves.{at_exit, waits, over_open, over_end, over_part, into, written, lacks, refused, halts}
use Rattle.edi_phrases.proofs.Opened.{over_front}
use Rattle.edi_syntax.proofs.declarations.items.parse_pre.Goals as goal

item_pre : rule_at edison g.Item kind.Pre ≡ Some (token kind.Pre ∷ token kind.Proc ∷ part g.Head ∷ item.level_end ∷ [])
item_pre = refl

pub returns-in_err-behind_pre-clause-halts : goal.returns-in_err-behind_pre-clause-halts
returns-in_err-behind_pre-clause-halts c = at_exit _ c.from_residual.ensures.1 (lacks (into (token kind.Pre ∷ token kind.Proc ∷ part g.Head ∷ item.level_end
    ∷ []) (waits g.Item _ _) (ap (λ a. rule_at edison g.Item a) c.requires.chosen ∙ item_pre)) c.in_err-behind_pre.ensures.none)

pub returns-in_err-behind_proc-clause-halts : goal.returns-in_err-behind_proc-clause-halts
returns-in_err-behind_proc-clause-halts c = at_exit _ c.from_residual-in_err-behind_proc.ensures.1
    (refused (over_front g.Item is.Pre (just is.Pre) item_pre refl (refl, tt) (waits g.Item _ _) c.in_ok-behind_pre.ensures.found) refl (omega arith)
    c.in_err-behind_proc.ensures.none)

pub returns-in_err-heading-clause-halts : goal.returns-in_err-heading-clause-halts
returns-in_err-heading-clause-halts c = at_exit _ c.from_residual-in_err-heading.ensures.1 (halts (over_open (just is.Proc)
    (at_line is.Proc c.in_ok-behind_proc.field-0-0) (over_front g.Item is.Pre (just is.Pre) item_pre refl (refl, tt) (waits g.Item _ _)
    c.in_ok-behind_pre.ensures.found) c.in_ok-behind_proc.ensures.found refl (omega (arith, c.in_ok-behind_proc.ensures.room)) (refl, tt)) (omega arith)
    c.in_err-heading.ensures.halts)

pub returns-clause-passes : goal.returns-clause-passes
returns-clause-passes c = written (over_end
    (over_part (over_open (just is.Proc) (at_line is.Proc c.in_ok-behind_proc.field-0-0)
    (over_front g.Item is.Pre (just is.Pre) item_pre refl (refl, tt) (waits g.Item _ _) c.in_ok-behind_pre.ensures.found) c.in_ok-behind_proc.ensures.found refl
    (omega (arith, c.in_ok-behind_proc.ensures.room)) (refl, tt)) c.in_ok-heading.ensures.passes (omega arith)))
    (λ es. ap (λ l. elements.word is.Pre ∷ l) (sym (heading_split (view.heading_of c.in_ok-heading.heading) (elements.level_end ∷ es)))
    ∙ ap (λ t. elements.item_elements t es) (sym c.make_pre.ensures.seen))
