-- The rule of a statement with conditions, by the symbol that begins it.
use Rattle.std.proofs.Common.{◌≡◌, ℕ, ◌<◌, List, [], ◌∷◌, true, Some, refl, arith}
use Rattle.edi_lex.specs.declared.symbol.Symbol.{Symbol}
use Rattle.edi_lex.specs.declared.symbol.Symbol.TheVariants as is
use Rattle.edi_lex.specs.declared.symbol.Mark.{Mark}
use Rattle.edi_tree.specs.Stands.{Spelled, on, just, StandsAsMark}
use Rattle.edi_tree.specs.Tree.{Conditions}
use Rattle.edi_tree.specs.Levels.{Element, mark, word, level_end, conditions_elements, statement_elements}
use Rattle.edi_grammar.specs.Grammar as item
use Rattle.edi_grammar.specs.Grammar.{token, part}
use Rattle.edi_grammar.specs.Parser.{rule_at}
use Rattle.edi_grammar.specs.Kind.{kind_of}
use Rattle.edi_grammar.specs.Kinds as kind
use Rattle.edi_grammar.specs.Rules as g
use Rattle.edi_grammar.specs.Rules.{opens}
use Rattle.edi_grammar.specs.Edison.{edison}
use Rattle.edi_phrases.specs.Words.{at_line}
use Rattle.edi_phrases.specs.Parses.{Goes}
use Rattle.edi_phrases.proofs.Moves.{waits}
use Rattle.edi_phrases.proofs.Opened.{open_front}
use Rattle.edi_syntax.specs.statements.Guards.{is_guard, guarded}

pub guarded_rule : (w : Symbol) → is_guard w ≡ true
    → rule_at edison g.Statement (kind_of w) ≡ Some (token (kind_of w) ∷ part g.Conditions ∷ token kind.End ∷ item.level_end ∷ [])
guarded_rule is.If e = refl
guarded_rule is.While e = refl
guarded_rule is.When e = refl
guarded_rule w e = cc

pub guard_opens : (w : Symbol) → is_guard w ≡ true → opens (kind_of w) ≡ true
guard_opens is.If e = refl
guard_opens is.While e = refl
guard_opens is.When e = refl
guard_opens w e = cc

-- the mark that such a statement spells first: only a `when` keeps its line
abbrev pub guard_mark : Symbol → ℕ → Spelled
guard_mark is.When line = on is.When line
guard_mark w line = just w

guard_stands : (w : Symbol) (line : ℕ) → StandsAsMark (guard_mark w line) (at_line w line)
guard_stands is.When line = (refl, refl)
guard_stands w line = (refl, tt)

pub behind_guard : {n line : ℕ} {p q : List Mark} (w : Symbol) → is_guard w ≡ true → n < 64 → p ≡ at_line w line ∷ q
    → Goes g.Statement n (λ es. mark (guard_mark w line) ∷ es) (part g.Conditions ∷ token kind.End ∷ item.level_end ∷ []) p q
behind_guard {line = line} w guard room here = open_front g.Statement w (guard_mark w line) (guarded_rule w guard) (omega (arith, room)) (guard_stands w line)
    (waits g.Statement _ _) here

pub guarded_elements : (w : Symbol) (line : ℕ) (cs : Conditions) → is_guard w ≡ true → (es : List Element)
    → mark (guard_mark w line) ∷ conditions_elements cs (word is.End ∷ level_end ∷ es) ≡ statement_elements (guarded w line cs) es
guarded_elements is.If line cs e es = refl
guarded_elements is.While line cs e es = refl
guarded_elements is.When line cs e es = refl
guarded_elements w line cs e es = cc
