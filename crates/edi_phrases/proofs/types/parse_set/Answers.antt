use Rattle.std.proofs.Common.{◌≡◌, List, [], ◌∷◌, false, Some, refl, arith}
use Rattle.edi_lex.specs.declared.symbol.Symbol.TheVariants as is
use Rattle.edi_lex.specs.declared.symbol.Mark.{Mark}
use Rattle.edi_tree.specs.Stands.{just, name_mark}
use Rattle.edi_grammar.specs.Grammar as item
use Rattle.edi_grammar.specs.Grammar.{Part, token}
use Rattle.edi_grammar.specs.Parser.{rule_at, has}
use Rattle.edi_grammar.specs.Kind.{front}
use Rattle.edi_grammar.specs.Kinds as kind
use Rattle.edi_grammar.specs.Rules as g
use Rattle.edi_grammar.specs.Rules.{Sort}
use Rattle.edi_grammar.specs.Edison.{edison}
use Rattle.edi_phrases.specs.Words.{at_line}
use Rattle.edi_phrases.proofs.Moves.{at_exit, over_mark, over_end, lacks}
use Rattle.edi_phrases.proofs.Heads.{within}
use Rattle.edi_phrases.proofs.Fronts.{apart}
use Rattle.edi_phrases.proofs.types.parse_set.Goals as goal

abbrev inner : List (Part Sort)
inner = token kind.Name ∷ token kind.Close ∷ item.level_end ∷ []

set_rule : (p : List Mark) → has (front p) (kind.Enum ∷ kind.Record ∷ kind.Array ∷ []) ≡ false → rule_at edison g.TypeDecl (front p) ≡ Some
    (token kind.Set ∷ token kind.Name ∷ token kind.Open ∷ inner)
set_rule p chosen = let h1 = apart (front p) kind.Enum (kind.Record ∷ kind.Array ∷ []) chosen in
    let h2 = apart (front p) kind.Record (kind.Array ∷ []) h1.1 in let h3 = apart (front p) kind.Array [] h2.1 in rw (h1.0, h2.0, h3.0) refl

pub returns-in_err-name-clause-halts : goal.returns-in_err-name-clause-halts
returns-in_err-name-clause-halts c = at_exit _ c.from_residual.ensures.1 (c.in_err-name.ensures.halts.at g.TypeDecl inner
    (set_rule c.args.marks.now c.requires.chosen) (omega arith))

pub returns-in_err-base-clause-halts : goal.returns-in_err-base-clause-halts
returns-in_err-base-clause-halts c = at_exit _ c.from_residual-in_err-base.ensures.1 (lacks (within is.Set c.in_ok-name.name
    (set_rule c.args.marks.now c.requires.chosen) refl (omega (arith, c.in_ok-name.ensures.room)) c.in_ok-name.ensures.found) c.in_err-base.ensures.none)

pub returns-in_err-rest-clause-halts : goal.returns-in_err-rest-clause-halts
returns-in_err-rest-clause-halts c = at_exit _ c.from_residual-in_err-rest.ensures.1 (lacks (over_mark (name_mark c.in_ok-base.base)
    (at_line (is.Name c.in_ok-base.base.text) c.in_ok-base.base.line) (within is.Set c.in_ok-name.name (set_rule c.args.marks.now c.requires.chosen) refl
    (omega (arith, c.in_ok-name.ensures.room)) c.in_ok-name.ensures.found) c.in_ok-base.ensures.found refl refl (refl, refl)) c.in_err-rest.ensures.none)

pub returns-clause-passes : goal.returns-clause-passes
returns-clause-passes c = over_end (over_mark (just is.Close) (at_line is.Close c.in_ok-rest.field-0-0)
    (over_mark (name_mark c.in_ok-base.base) (at_line (is.Name c.in_ok-base.base.text) c.in_ok-base.base.line)
    (within is.Set c.in_ok-name.name (set_rule c.args.marks.now c.requires.chosen) refl (omega (arith, c.in_ok-name.ensures.room)) c.in_ok-name.ensures.found)
    c.in_ok-base.ensures.found refl refl (refl, refl)) c.in_ok-rest.ensures.found refl refl (refl, tt))
