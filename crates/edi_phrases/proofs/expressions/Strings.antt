-- Strings, of which there are two kinds.
use Rattle.std.proofs.Common.{◌≡◌, ℕ, List, [], ◌∷◌, true, false, refl, sym, ◌∙◌}
use Rattle.edi_lex.specs.declared.symbol.Symbol.TheVariants as is
use Rattle.edi_lex.specs.declared.symbol.Mark.{Mark}
use Rattle.edi_tree.specs.Stands.{chars_mark}
use Rattle.edi_tree.specs.Levels.{Element, mark}
use Rattle.edi_grammar.specs.Grammar.{Part, part}
use Rattle.edi_grammar.specs.Parser.{has}
use Rattle.edi_grammar.specs.Kinds as kind
use Rattle.edi_grammar.specs.Kind.{front, kind_of}
use Rattle.edi_grammar.specs.Rules as g
use Rattle.edi_grammar.specs.Rules.{Sort}
use Rattle.edi_phrases.specs.declared.stop.Stop.{Stop}
use Rattle.edi_phrases.specs.declared.stop.Stop.TheVariants as stop
use Rattle.edi_phrases.specs.Words.{at_line}
use Rattle.edi_phrases.specs.Parses.{Goes}
use Rattle.edi_phrases.specs.Stopped.{HaltsAt}
use Rattle.edi_phrases.proofs.Opened.{over_front}
use Rattle.edi_phrases.specs.expressions.Strings.{NoString}

pub string_kind : (text : List ℕ) → has (kind_of (is.Chars text)) (kind.Char ∷ kind.Text ∷ []) ≡ true
string_kind [] = refl
string_kind (c ∷ []) = refl
string_kind (c ∷ d ∷ more) = refl

pub over_string : {k : Sort} {n : ℕ} {f : List Element → List Element} {x : List (Part Sort)} {p q rest : List Mark} → Goes k n f (part g.Factor ∷ x) p q
    → (text : List ℕ) (line : ℕ) → q ≡ at_line (is.Chars text) line ∷ rest → Goes k n (λ es. f (mark (chars_mark (record { text = text; line = line })) ∷ es)) x
    p rest
over_string go [] line e = over_front {rule = []} g.Factor (is.Chars []) (chars_mark (record { text = []; line = line })) refl refl (refl, refl) go e
over_string go (c ∷ []) line e = over_front {rule = []} g.Factor (is.Chars (c ∷ [])) (chars_mark (record { text = c ∷ []; line = line })) refl refl (refl, refl) go e
over_string go (c ∷ d ∷ more) line e = over_front {rule = []} g.Factor (is.Chars (c ∷ d ∷ more)) (chars_mark (record { text = c ∷ d ∷ more; line = line })) refl refl
    (refl, refl) go e

pub no_string : (k : Sort) (n : ℕ) (p : List Mark) (e : Stop) → has (front p) (kind.Char ∷ kind.Text ∷ []) ≡ true → NoString p e → HaltsAt k n p e
no_string k n p (stop.Fault rest) h s = let no : true ≡ false = sym h ∙ s.at in absurd (cc)
no_string k n p (stop.TooDeep rest) h s = absurd s.at
no_string k n p stop.NoMemory h s = record { at = tt }
