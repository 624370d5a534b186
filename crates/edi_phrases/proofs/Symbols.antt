-- A symbol by its kind.
use Rattle.std.proofs.Common.{◌≡◌, ℕ, List, [], ◌∷◌, length, Some, true, refl, arith}
use Rattle.edi_lex.specs.declared.symbol.Symbol.{Symbol}
use Rattle.edi_lex.specs.declared.symbol.Symbol.TheVariants as is
use Rattle.edi_grammar.specs.Kind.{kind_of}
use Rattle.edi_grammar.proofs.derivation.Stands.{of_kind}
use Rattle.edi_phrases.specs.Words.{is_word}

some_same : (x y : Symbol) → Some x ≡ Some y → x ≡ y
some_same x y e = cc

-- a symbol of the kind of a word is that word
pub same_word : (w s : Symbol) → is_word w ≡ true → kind_of s ≡ kind_of w → s ≡ w
same_word (is.Name text) s h e = cc
same_word (is.Numeral value) s h e = cc
same_word (is.Chars text) s h e = cc
same_word w s h e = some_same s w (of_kind s (kind_of w) e)

pub one_character : (text : List ℕ) → length text ≡ 1 → kind_of (is.Chars text) ≡ 3
one_character [] e = absurd (omega (arith, e))
one_character (c ∷ []) e = refl
one_character (c ∷ d ∷ more) e = absurd (omega (arith, e))

pub not_one_character : (text : List ℕ) → (length text ≡ 1 → ⊥) → kind_of (is.Chars text) ≡ 4
not_one_character [] e = refl
not_one_character (c ∷ []) e = absurd (e (omega arith))
not_one_character (c ∷ d ∷ more) e = refl
