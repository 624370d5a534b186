-- Marks by their kinds: what stands where a rule takes a symbol.
use Rattle.std.proofs.Common.{◌≡◌, ℕ, ℤ, List, [], ◌∷◌, Option, Some, None, refl, sym, ap, ◌∙◌, subst, suc}
use Rattle.edi_lex.specs.declared.symbol.Symbol.{Symbol}
use Rattle.edi_lex.specs.declared.symbol.Symbol.TheVariants as is
use Rattle.edi_lex.specs.declared.symbol.Mark.{Mark}
use Rattle.edi_tree.specs.declared.names.Name.{Name}
use Rattle.edi_tree.specs.declared.names.Char.{Char}
use Rattle.edi_tree.specs.declared.names.Chars.{Chars}
use Rattle.edi_tree.specs.Stands.{Spelled, on, just, name_mark, chars_mark, char_mark, StandsAsMark}
use Rattle.edi_tree.specs.Levels.{Element, mark}
use Rattle.edi_grammar.specs.Grammar as item
use Rattle.edi_grammar.specs.Kinds as kind
use Rattle.edi_grammar.specs.Kind.{kind_of, kind_at, symbols_with, symbol_no}
use Rattle.edi_grammar.specs.derivation.Fits.{Items, Fit}
use Rattle.edi_grammar.proofs.derivation.Builds.{text_of, value_of, first_of, line_in, name_in, value_in, char_in, chars_in}

-- a symbol is the one of its kind with its values
symbol_at : (s : Symbol) → Some s ≡ symbol_no (symbols_with (text_of s) (first_of (text_of s)) (value_of s)) (kind_of s)
symbol_at (is.Chars []) = refl
symbol_at (is.Chars (c ∷ [])) = refl
symbol_at (is.Chars (c ∷ d ∷ more)) = refl
symbol_at s = refl

pub of_kind : (s : Symbol) (a : ℕ) → kind_of s ≡ a → Some s ≡ symbol_no (symbols_with (text_of s) (first_of (text_of s)) (value_of s)) a
of_kind s a e = subst (λ a. Some s ≡ symbol_no (symbols_with (text_of s) (first_of (text_of s)) (value_of s)) a) e (symbol_at s)

some_same : {A : Type 0} (x y : A) → Some x ≡ Some y → x ≡ y
some_same x y e = cc

-- a mark stands here, as is said
abbrev pub StandsAt : Spelled → Option Mark → Type 0
StandsAt s o = (m : Mark) × (o ≡ Some m) × StandsAsMark s m

none_is_end : (a : ℕ) (s : Spelled) → kind_at None ≡ suc a → StandsAt s None
none_is_end a s e = absurd (by a e) where
  by : (a : ℕ) → kind.End_of_text ≡ suc a → ⊥
  by a e = cc

-- a symbol that is the only one of its kind
abbrev pub IsOnly : Symbol → ℕ → Type 0
IsOnly w a = (text : List ℕ) (c : ℕ) (v : ℤ) → symbol_no (symbols_with text c v) (suc a) ≡ Some w

pub word_at : (w : Symbol) (a : ℕ) → IsOnly w a → (o : Option Mark) → kind_at o ≡ suc a → StandsAt (just w) o
word_at w a only None e = none_is_end a (just w) e
word_at w a only (Some m) e = (
  m,
  refl,
  (
    some_same m.symbol w
        (of_kind m.symbol (suc a) e ∙ only (text_of m.symbol) (first_of (text_of m.symbol)) (value_of m.symbol)),
    tt,
  ),
)

pub kept_at : (w : Symbol) (a : ℕ) → IsOnly w a → (o : Option Mark) → kind_at o ≡ suc a → StandsAt (on w (line_in o)) o
kept_at w a only None e = none_is_end a (on w 0) e
kept_at w a only (Some m) e = (
  m,
  refl,
  (
    some_same m.symbol w
        (of_kind m.symbol (suc a) e ∙ only (text_of m.symbol) (first_of (text_of m.symbol)) (value_of m.symbol)),
    refl,
  ),
)

pub name_at : (o : Option Mark) → kind_at o ≡ kind.Name → StandsAt (name_mark (name_in o)) o
name_at None e = none_is_end 0 (name_mark (name_in None)) e
name_at (Some m) e = (m, refl, (some_same m.symbol (is.Name (text_of m.symbol)) (of_kind m.symbol kind.Name e), refl))

pub numeral_at : (o : Option Mark) → kind_at o ≡ kind.Numeral → StandsAt (just (is.Numeral (value_in o))) o
numeral_at None e = none_is_end 1 (just (is.Numeral (value_in None))) e
numeral_at (Some m) e = (m, refl, (some_same m.symbol (is.Numeral (value_of m.symbol)) (of_kind m.symbol kind.Numeral e), tt))

pub char_at : (o : Option Mark) → kind_at o ≡ kind.Char → StandsAt (char_mark (char_in o)) o
char_at None e = none_is_end 2 (char_mark (char_in None)) e
char_at (Some m) e = (m, refl, (some_same m.symbol (is.Chars (first_of (text_of m.symbol) ∷ [])) (of_kind m.symbol kind.Char e), refl))

pub short_string_at : (o : Option Mark) → kind_at o ≡ kind.Char → StandsAt (chars_mark (chars_in o)) o
short_string_at None e = none_is_end 2 (chars_mark (chars_in None)) e
short_string_at (Some m) e = let one : m.symbol ≡ is.Chars (first_of (text_of m.symbol) ∷ []) = some_same _ _ (of_kind m.symbol kind.Char e) in
    (m, refl, (one ∙ ap is.Chars (sym (ap text_of one)), refl))

pub long_string_at : (o : Option Mark) → kind_at o ≡ kind.Text → StandsAt (chars_mark (chars_in o)) o
long_string_at None e = none_is_end 3 (chars_mark (chars_in None)) e
long_string_at (Some m) e = (m, refl, (some_same m.symbol (is.Chars (text_of m.symbol)) (of_kind m.symbol kind.Text e), refl))

pub none_at : (o : Option Mark) → kind_at o ≡ kind.End_of_text → o ≡ None
none_at None e = refl
none_at (Some m) e = let no : Some m.symbol ≡ None = of_kind m.symbol kind.End_of_text e in cc

-- what is kept of a mark that stands as is said
abbrev named_on : List ℕ → ℕ → Name
named_on text line = record { text = text; line = line }

abbrev pub chars_on : List ℕ → ℕ → Chars
chars_on text line = record { text = text; line = line }

abbrev char_on : ℕ → ℕ → Char
char_on character line = record { character = character; line = line }

pub name_is : (n : Name) (m : Mark) → StandsAsMark (name_mark n) m → n ≡ name_in (Some m)
name_is n m s = sym (ap (λ text. named_on text m.line) (ap text_of s.0) ∙ ap (λ line. named_on n.text line) s.1)

pub chars_is : (c : Chars) (m : Mark) → StandsAsMark (chars_mark c) m → c ≡ chars_in (Some m)
chars_is c m s = sym (ap (λ text. chars_on text m.line) (ap text_of s.0) ∙ ap (λ line. chars_on c.text line) s.1)

pub char_is : (c : Char) (m : Mark) → StandsAsMark (char_mark c) m → c ≡ char_in (Some m)
char_is c m s = sym (ap (λ text. char_on text m.line) (ap (λ s. first_of (text_of s)) s.0) ∙ ap (λ line. char_on c.character line) s.1)

pub put : (s : Spelled) (es : List Element) {o : Option Mark} {items mid : Items} → items ≡ item.mark o ∷ mid → StandsAt s o → Fit es mid
    → Fit (mark s ∷ es) items
put s es {mid = mid} e st fit = (st.0, mid, e ∙ ap (λ o. item.mark o ∷ mid) st.1, st.2, fit)
