-- One more at the end of a list, and the loops that read one.
use Rattle.std.proofs.Common.{◌≡◌, ◌≤◌, ℕ, List, [], ◌∷◌, ◌++◌, length, false, Some, refl, sym, ap, ◌∙◌}
use Rattle.edi_lex.specs.declared.symbol.Symbol.{Symbol}
use Rattle.edi_lex.specs.declared.symbol.Mark.{Mark}
use Rattle.edi_tree.specs.Stands.{just}
use Rattle.edi_tree.specs.Levels.{Element, word}
use Rattle.edi_grammar.specs.Grammar.{token, part}
use Rattle.edi_grammar.specs.Parser.{rule_at}
use Rattle.edi_grammar.specs.Kind.{kind_of, front}
use Rattle.edi_grammar.specs.Rules.{Sort, opens}
use Rattle.edi_grammar.specs.Edison.{edison}
use Rattle.edi_phrases.specs.declared.stop.Stop.{Stop}
use Rattle.edi_phrases.specs.Words.{at_line}
use Rattle.edi_phrases.specs.Parses.{Goes, Passes}
use Rattle.edi_phrases.specs.Stopped.{HaltsAt}
use Rattle.edi_phrases.proofs.Moves.{over_part, into, written, halts}
use Rattle.edi_phrases.proofs.Opened.{over_front}

grown : {A : Type 0} (one : A → List Element → List Element) (all : List A → List Element → List Element) → ((es : List Element) → all [] es ≡ es)
    → ((x : A) (items : List A) (es : List Element) → all (x ∷ items) es ≡ one x (all items es)) → (items : List A) (x : A) (es : List Element)
    → all items (one x es) ≡ all (items ++ x ∷ []) es
grown one all none next [] x es = none (one x es) ∙ sym (next x [] es ∙ ap (one x) (none es))
grown one all none next (y ∷ items) x es = next y items (one x es) ∙ (ap (one y) (grown one all none next items x es) ∙ sym (next y (items ++ x ∷ []) es))

-- Where `all` puts the elements of the items of a list in front, one item after the other, those of one more stand behind them.
pub one_more : {A : Type 0} (one : A → List Element → List Element) (all : List A → List Element → List Element) → ((es : List Element) → all [] es ≡ es)
    → ((x : A) (items : List A) (es : List Element) → all (x ∷ items) es ≡ one x (all items es)) → (items more : List A) (x : A) → more ≡ items ++ x ∷ []
    → (es : List Element) → all items (one x es) ≡ all more es
one_more one all none next items more x e es = grown one all none next items x es ∙ ap (λ l. all l es) (sym e)

-- One more item j behind the symbol that separates it from those of k that have been read.
pub separated : {A : Type 0} {n line : ℕ} {p q r t : List Mark} (k j : Sort) (w : Symbol) (one : A → List Element → List Element)
    (all : List A → List Element → List Element) → ((es : List Element) → all [] es ≡ es)
    → ((x : A) (items : List A) (es : List Element) → all (x ∷ items) es ≡ word w ∷ one x (all items es))
    → rule_at edison k (kind_of w) ≡ Some (token (kind_of w) ∷ part j ∷ part k ∷ []) → opens (kind_of w) ≡ false → (items more : List A) (x : A)
    → more ≡ items ++ x ∷ [] → Goes k n (all items) (part k ∷ []) p q → q ≡ at_line w line ∷ r → Passes j n (one x) r t
    → Goes k n (all more) (part k ∷ []) p t
separated k j w one all none next rule shut items more x e go here passes = written (over_part (over_front k w (just w) rule shut (refl, tt) go here) passes refl)
    (one_more (λ x es. word w ∷ one x es) all none next items more x e)

-- it does not stand there whole
pub separated_halts : {n line : ℕ} {f : List Element → List Element} {p q r : List Mark} {e : Stop} (k j : Sort) (w : Symbol)
    → rule_at edison k (kind_of w) ≡ Some (token (kind_of w) ∷ part j ∷ part k ∷ []) → opens (kind_of w) ≡ false → Goes k n f (part k ∷ []) p q
    → q ≡ at_line w line ∷ r → HaltsAt j n r e → HaltsAt k n p e
separated_halts k j w rule shut go here none = halts (over_front k w (just w) rule shut (refl, tt) go here) refl none

-- One more item j, which the symbol in front chooses, behind those of k that have been read.
pub repeated : {A : Type 0} {n : ℕ} {p q r : List Mark} (k j : Sort) (one : A → List Element → List Element) (all : List A → List Element → List Element)
    → ((es : List Element) → all [] es ≡ es) → ((x : A) (items : List A) (es : List Element) → all (x ∷ items) es ≡ one x (all items es))
    → (items more : List A) (x : A) → more ≡ items ++ x ∷ [] → rule_at edison k (front q) ≡ Some (part j ∷ part k ∷ [])
    → Goes k n (all items) (part k ∷ []) p q → Passes j n (one x) q r → Goes k n (all more) (part k ∷ []) p r
repeated k j one all none next items more x e rule go passes = written (over_part (into (part j ∷ part k ∷ []) go rule) passes refl)
    (one_more one all none next items more x e)

-- it does not stand there whole
pub repeated_halts : {n : ℕ} {f : List Element → List Element} {p q : List Mark} {e : Stop} (k j : Sort)
    → rule_at edison k (front q) ≡ Some (part j ∷ part k ∷ []) → Goes k n f (part k ∷ []) p q → HaltsAt j n q e → HaltsAt k n p e
repeated_halts k j rule go none = halts (into (part j ∷ part k ∷ []) go rule) refl none

-- What a loop keeps that reads the items of k: they are the elements that f puts in front, and stand between p and q.
abbrev pub Repeats : Sort → ℕ → (List Element → List Element) → List Mark → List Mark → Type 0
Repeats k n f p q = record {
  goes : Goes k n f (part k ∷ []) p q;
  shorter : length q ≤ length p;
}
