-- Definition. What each kind of symbol is called, and what is said of a symbol that stands at a place.
use Rattle.std.specs.Prelude.{ℕ, Bool, List, [], ◌∷◌, ◌++◌, Option, Some, None, slice_index_or, take, codes}
use Rattle.std.specs.List.{list_any}
use Rattle.std.specs.Str.{bytes_eq}
use Rattle.edi_lex.specs.declared.symbol.Symbol.{Symbol}
use Rattle.edi_lex.specs.declared.symbol.Symbol.TheVariants as is
use Rattle.edi_lex.specs.declared.symbol.Mark.{Mark}
use Rattle.edi_grammar.specs.Kind.{kind_of}

-- a text that stands in the code
abbrev pub Text : Type 0
Text = record { now : List ℕ }

-- THE NAMES OF THE KINDS, by their numbers (`edi_grammar`, Kinds)
abbrev pub kind_names : List (List ℕ)
kind_names =
    codes "the end of the text" ∷ codes "a name" ∷ codes "a number" ∷ codes "a character" ∷ codes "a string" ∷ codes "'also'" ∷ codes "'and'"
    ∷ codes "'array'" ∷ codes "'begin'" ∷ codes "'cobegin'" ∷ codes "'const'" ∷ codes "'div'" ∷ codes "'do'" ∷ codes "'else'" ∷ codes "'end'"
    ∷ codes "'enum'" ∷ codes "'if'" ∷ codes "'in'" ∷ codes "'lib'" ∷ codes "'mod'" ∷ codes "'module'" ∷ codes "'not'" ∷ codes "'or'"
    ∷ codes "'post'" ∷ codes "'pre'" ∷ codes "'proc'" ∷ codes "'record'" ∷ codes "'set'" ∷ codes "'skip'" ∷ codes "'val'" ∷ codes "'var'"
    ∷ codes "'when'" ∷ codes "'while'" ∷ codes "'='" ∷ codes "'<>'" ∷ codes "'<'" ∷ codes "'<='" ∷ codes "'>'" ∷ codes "'>='" ∷ codes "'+'"
    ∷ codes "'-'" ∷ codes "'*'" ∷ codes "':'" ∷ codes "':='" ∷ codes "','" ∷ codes "';'" ∷ codes "'.'" ∷ codes "'('" ∷ codes "')'" ∷ codes "'['"
    ∷ codes "']'" ∷ []

abbrev pub kind_name : ℕ → List ℕ
kind_name kind = slice_index_or kind_names kind []

abbrev pub is_text_of : List ℕ → List (List ℕ) → Bool
is_text_of letters texts = list_any (bytes_eq letters) texts

-- as many letters of a name as are shown
abbrev pub most_letters : ℕ
most_letters = 64

unfoldable pub name_text : List ℕ → List ℕ
name_text letters = codes "the name '" ++ (take most_letters letters ++ codes "'")

-- a name is shown with its letters, any other symbol by its kind
abbrev pub symbol_text : Symbol → List ℕ
symbol_text (is.Name letters) = name_text letters
symbol_text symbol = kind_name (kind_of symbol)

-- what stands there; None is the end of the text
abbrev pub here_text : Option Mark → List ℕ
here_text None = kind_name 0
here_text (Some m) = symbol_text m.symbol
