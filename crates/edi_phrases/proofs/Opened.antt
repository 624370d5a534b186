-- Rules that the symbol in front chooses.
use Rattle.std.proofs.Common.{◌≡◌, ℕ, ◌≤◌, List, ◌∷◌, ◌++◌, false, Some, refl, ap, ◌∙◌}
use Rattle.edi_lex.specs.declared.symbol.Symbol.{Symbol}
use Rattle.edi_lex.specs.declared.symbol.Mark.{Mark}
use Rattle.edi_tree.specs.Stands.{Spelled, StandsAsMark}
use Rattle.edi_tree.specs.Levels.{Element, mark}
use Rattle.edi_grammar.specs.Grammar.{Part, token, part, level}
use Rattle.edi_grammar.specs.Parser.{rule_at}
use Rattle.edi_grammar.specs.Kind.{kind_of, front}
use Rattle.edi_grammar.specs.Rules.{Sort, opens}
use Rattle.edi_grammar.specs.Edison.{edison}
use Rattle.edi_phrases.specs.Words.{at_line}
use Rattle.edi_phrases.specs.Parses.{Goes}
use Rattle.edi_phrases.proofs.Moves.{over_mark, over_open, into}

-- the part takes the rule that begins with the symbol in front, which opens no level
pub over_front : {k : Sort} {n line : ℕ} {f : List Element → List Element} {x : List (Part Sort)} {p q r : List Mark} {rule : List (Part Sort)} (j : Sort)
    (w : Symbol) (s : Spelled) → rule_at edison j (kind_of w) ≡ Some (token (kind_of w) ∷ rule) → opens (kind_of w) ≡ false
    → StandsAsMark s (at_line w line) → Goes k n f (part j ∷ x) p q → q ≡ at_line w line ∷ r → Goes k n (λ es. f (mark s ∷ es)) (rule ++ x) p r
over_front {line = line} {rule = rule} j w s chosen shut stands go here =
    over_mark s (at_line w line) (into (token (kind_of w) ∷ rule) go (ap (λ q. rule_at edison j (front q)) here ∙ chosen)) here refl shut stands

-- so, where it opens one
pub open_front : {k : Sort} {n line : ℕ} {f : List Element → List Element} {x : List (Part Sort)} {p q r : List Mark} {rule : List (Part Sort)} (j : Sort)
    (w : Symbol) (s : Spelled) → rule_at edison j (kind_of w) ≡ Some (token (kind_of w) ∷ rule) → level edison (rule ++ x) n ≤ 64
    → StandsAsMark s (at_line w line) → Goes k n f (part j ∷ x) p q → q ≡ at_line w line ∷ r → Goes k n (λ es. f (mark s ∷ es)) (rule ++ x) p r
open_front {line = line} {rule = rule} j w s chosen room stands go here =
    over_open s (at_line w line) (into (token (kind_of w) ∷ rule) go (ap (λ q. rule_at edison j (front q)) here ∙ chosen)) here refl room stands
