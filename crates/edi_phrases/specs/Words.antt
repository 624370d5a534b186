-- Words of contracts. Symbols that are the only ones of their kind.
use Rattle.std.specs.Prelude.{◌≡◌, ℕ, List, ◌∷◌, Bool, true, false}
use Rattle.edi_lex.specs.declared.symbol.Symbol.{Symbol}
use Rattle.edi_lex.specs.declared.symbol.Symbol.TheVariants as is
use Rattle.edi_lex.specs.declared.symbol.Mark.{Mark}
use Rattle.edi_tree.specs.declared.names.Name.{Name}

-- no name, numeral or string
abbrev pub is_word : Symbol → Bool
is_word (is.Name text) = false
is_word (is.Numeral value) = false
is_word (is.Chars text) = false
is_word _ = true

abbrev pub at_line : Symbol → ℕ → Mark
at_line symbol line = record { symbol = symbol; line = line }

-- the symbol is in front of the marks, on some line, and the rest stands behind it
abbrev pub StandsHere : Symbol → List Mark → List Mark → Type 0
StandsHere symbol marks rest = (line : ℕ) × (marks ≡ at_line symbol line ∷ rest)

-- so stand the word, on some line, the name and the bracket, with which the declaration of a type begins
abbrev pub HeadStands : Symbol → Name → Symbol → ℕ → List Mark → List Mark → Type 0
HeadStands word name bracket line marks rest = (first : ℕ)
    × (marks ≡ at_line word first ∷ at_line (is.Name name.text) name.line ∷ at_line bracket line ∷ rest)
