-- Definition. THE NOTES: what is often meant at a syntax fault. Each says how the language is, not what the writer meant. At most one is shown: that
-- of a word, else the first row that fits.
use Rattle.std.specs.Prelude.{ℕ, ◌==◌, Bool, true, false, not, ◌&&◌, ◌||◌, List, [], ◌∷◌, ◌++◌, Option, Some, None, unwrap_or, if◌then◌else◌, codes}
use Rattle.std.specs.List.{list_all, list_any, range_with_len}
use Rattle.std.specs.Str.{bytes_eq}
use Rattle.edi_lex.specs.declared.symbol.Symbol.{Symbol}
use Rattle.edi_lex.specs.declared.symbol.Symbol.TheVariants as is
use Rattle.edi_lex.specs.declared.symbol.Mark.{Mark}
use Rattle.edi_grammar.specs.Kinds as kind
use Rattle.edi_explain.specs.declared.told.foreign.TheConstants as foreign
use Rattle.edi_explain.specs.declared.told.sentences.TheConstants as say
use Rattle.edi_explain.specs.told.Groups.{is_among, statement, declaration, comparison}
use Rattle.edi_explain.specs.told.Names.{declarers, is_introduced}
use Rattle.edi_explain.specs.told.Words.{Text, is_text_of}

-- ---- words that other languages have and this one has not

-- the text beside a word in a table
abbrev pub note_beside : List (Text × Text) → List ℕ → Option (List ℕ)
note_beside [] word = None
note_beside (row ∷ rows) word = if bytes_eq word row.0.now then Some row.1.now else note_beside rows word

-- such a word, which is a name here, means what the text says where it is declared in it
abbrev pub word_note : (marks : List Mark) → List ℕ → Option (List ℕ)
word_note marks word = if is_introduced word 0 marks then None else note_beside foreign.WORDS word

-- the note of a symbol that is such a word, in a text of these symbols
abbrev pub symbol_note : (marks : List Mark) → Symbol → Option (List ℕ)
symbol_note marks (is.Name letters) = word_note marks letters
symbol_note marks symbol = None

abbrev pub mark_note : (marks : List Mark) → Option Mark → Option (List ℕ)
mark_note marks None = None
mark_note marks (Some m) = symbol_note marks m.symbol

-- ---- names that mean nothing

-- THE NOTE of a name that means nothing: that of a word of other languages, or of a call of the system; empty where it is neither
abbrev pub lost_note : List ℕ → List ℕ
lost_note word = unwrap_or (note_beside foreign.WORDS word) (unwrap_or (note_beside foreign.CALLS word) [])

-- ---- rows

-- what is seen at the fault: the kind of what stands there, that of the symbol before it and that of the innermost symbol that is open, of which
-- each is 0 where there is none; what may stand there; and whether the line has a quotation mark
pub record Seen : Type 0 where
  pub found : ℕ
  pub last : ℕ
  pub inside : ℕ
  pub may : ℕ → Bool
  pub quoted : Bool

-- A row fits where what stands there, what stands before it and what is open are of its kinds, where a list of none stands for all; where each
-- of `may` may stand, and none of `not_these`; and where the line has a quotation mark, if it asks for one.
pub record Row : Type 0 where
  pub found : List ℕ
  pub last : List ℕ
  pub inside : List ℕ
  pub may : List ℕ
  pub not_these : List ℕ
  pub quoted : Bool
  pub note : List ℕ

abbrev pub takes : List ℕ → ℕ → Bool
takes [] k = true
takes (a ∷ kinds) k = is_among k (a ∷ kinds)

abbrev pub stands : Row → Seen → Bool
stands row seen = takes row.found seen.found && takes row.last seen.last && takes row.inside seen.inside

abbrev pub fits : Row → Seen → Bool
fits row seen = stands row seen && list_all seen.may row.may && not (list_any seen.may row.not_these) && (seen.quoted || not row.quoted)

abbrev pub first_fit : List Row → Seen → List ℕ
first_fit [] seen = []
first_fit (row ∷ rows) seen = if fits row seen then row.note else first_fit rows seen

-- a row that asks for what stands there and what may stand there
abbrev pub asking : (found may : List ℕ) → Text → Row
asking found may note = record { found = found; last = []; inside = []; may = may; not_these = []; quoted = false; note = note.now }

-- what ends a list of statements
abbrev pub ends : List ℕ
ends = kind.End_of_text ∷ kind.Also ∷ kind.Else ∷ kind.End ∷ []

-- the word symbols, from `also` to `while`
abbrev pub words : List ℕ
words = range_with_len kind.Also 28

-- what may stand after a name, a number or a bracket besides `(` where more than that may stand
abbrev pub beside_open : List ℕ
beside_open =
    kind.Name ∷ kind.Begin ∷ kind.Do ∷ kind.Plus ∷ kind.Colon ∷ kind.Becomes ∷ kind.Semicolon ∷ kind.Close ∷ kind.CloseBracket ∷ []

-- THE TABLE
abbrev pub note_rows : List Row
note_rows =
    record (asking [] (kind.Numeral ∷ kind.Char ∷ []) say.APOSTROPHES) { quoted = true }
    ∷ record (asking [] (kind.Do ∷ []) say.BRANCH) { inside = kind.Cobegin ∷ [] }
    ∷ record (asking [] [] say.BRANCH) { last = kind.Cobegin ∷ kind.Also ∷ [] }
    ∷ record (asking (kind.Numeral ∷ kind.Char ∷ []) [] say.ALSO) { last = kind.Semicolon ∷ []; inside = kind.Cobegin ∷ [] }
    ∷ record (asking (kind.Do ∷ []) (kind.Also ∷ []) say.ALSO) { inside = kind.Cobegin ∷ [] }
    ∷ record (asking (kind.Name ∷ []) [] say.MODULE_NAME) { last = kind.Module ∷ [] }
    ∷ record (asking words (kind.Name ∷ []) say.WORD_AS_NAME) { last = declarers }
    ∷ record (asking [] [] say.ELSE_CONDITION) { last = kind.Else ∷ [] }
    ∷ record (asking (kind.Do ∷ []) [] say.NO_CONDITION) { last = kind.If ∷ kind.When ∷ kind.While ∷ [] }
    ∷ asking (kind.Becomes ∷ []) (kind.Do ∷ []) say.CONDITION_HERE
    ∷ record (asking (kind.Becomes ∷ []) (kind.Equal ∷ []) say.BRACKET_MISSING) { inside = kind.Open ∷ kind.OpenBracket ∷ [] }
    ∷ asking (kind.Becomes ∷ []) (kind.Equal ∷ []) say.EQUAL_MEANT
    ∷ asking (kind.Equal ∷ []) (kind.Becomes ∷ []) say.BECOMES_MEANT
    ∷ record (asking (kind.Equal ∷ kind.Less ∷ kind.Greater ∷ []) [] say.COMPARISONS) { last = kind.Equal ∷ kind.Less ∷ kind.Greater ∷ [] }
    ∷ asking (kind.Begin ∷ []) (kind.Skip ∷ []) say.STATEMENTS_HERE
    ∷ record (asking (kind.Semicolon ∷ ends) (kind.Skip ∷ []) say.NO_STATEMENT) { last = kind.Begin ∷ kind.Do ∷ [] }
    ∷ record (asking (kind.Semicolon ∷ ends) (kind.Skip ∷ []) say.LAST_STATEMENT) { last = kind.Semicolon ∷ [] }
    ∷ record (asking (kind.Begin ∷ kind.Close ∷ declaration) (kind.Name ∷ []) say.LAST_GROUP) { last = kind.Semicolon ∷ []; not_these = kind.Skip ∷ [] }
    ∷ asking (kind.Semicolon ∷ []) (kind.Begin ∷ []) say.NO_SEMICOLON
    ∷ record (asking (kind.Period ∷ []) [] say.WHOLE_NUMBER) { last = kind.Numeral ∷ []; not_these = kind.Colon ∷ [] }
    ∷ record (asking (kind.OpenBracket ∷ []) (kind.Semicolon ∷ []) say.ARRAY_TYPE) { last = kind.Name ∷ [] }
    ∷ record (asking (kind.Comma ∷ []) (kind.CloseBracket ∷ []) say.ONE_INDEX) { inside = kind.OpenBracket ∷ [] }
    ∷ asking comparison (kind.Do ∷ []) say.ONE_COMPARISON
    ∷ asking (kind.Semicolon ∷ ends) (kind.Do ∷ []) say.DO_OR_ELSE
    ∷ asking [] (kind.Do ∷ []) say.DO_MISSING
    ∷ asking (kind.Numeral ∷ kind.Char ∷ kind.Text ∷ []) (kind.Open ∷ kind.Becomes ∷ []) say.ARGUMENTS
    ∷ asking (kind.Plus ∷ kind.Minus ∷ []) (kind.Becomes ∷ []) say.CHANGE
    ∷ asking (kind.Colon ∷ []) (kind.Becomes ∷ []) say.ONE_SYMBOL
    ∷ record (asking (kind.Name ∷ []) (kind.Open ∷ kind.Becomes ∷ []) say.TWO_NAMES) { last = kind.Name ∷ [] }
    ∷ asking statement (kind.Semicolon ∷ kind.End ∷ []) say.TWO_STATEMENTS
    ∷ asking (kind.Begin ∷ []) (kind.End ∷ []) say.END_MISSING
    ∷ asking (kind.End ∷ []) (kind.Begin ∷ []) say.DECLARATIONS_HERE
    ∷ record (asking (kind.Name ∷ []) (kind.Comma ∷ kind.Colon ∷ []) say.NAME_FIRST) { last = kind.Name ∷ [] }
    ∷ record (asking (kind.Equal ∷ kind.Becomes ∷ []) (kind.Begin ∷ kind.Semicolon ∷ []) say.NO_VALUE) { not_these = kind.Open ∷ [] }
    ∷ record (asking (kind.Plus ∷ kind.Minus ∷ []) (kind.Numeral ∷ []) say.CONSTANT_SIGN) { not_these = kind.Not ∷ [] }
    ∷ asking (kind.Plus ∷ kind.Minus ∷ []) (kind.Numeral ∷ kind.Not ∷ []) say.FIRST_SIGN
    ∷ record (asking [] (kind.Open ∷ []) say.TYPE_PARTS) { not_these = beside_open }
    ∷ record (asking [] (kind.OpenBracket ∷ []) say.TYPE_PARTS) { not_these = kind.Open ∷ beside_open }
    ∷ record (asking [] (kind.Name ∷ []) say.TYPE_PARTS) { last = kind.Array ∷ kind.Enum ∷ kind.Record ∷ kind.Set ∷ [] }
    ∷ record (asking (kind.Name ∷ []) (kind.Semicolon ∷ []) say.GROUP_OR_STATEMENT) { not_these = kind.End ∷ [] }
    ∷ record (asking (kind.Comma ∷ []) (kind.Semicolon ∷ []) say.TWO_GROUPS) { not_these = kind.End ∷ [] }
    ∷ record (asking (kind.Semicolon ∷ []) (kind.Comma ∷ []) say.COMMA) { inside = kind.Open ∷ kind.OpenBracket ∷ []; not_these = kind.Colon ∷ [] }
    ∷ record (asking (kind.Close ∷ []) [] say.NO_PARAMETERS) { last = kind.Open ∷ [] }
    ∷ record (asking (kind.Else ∷ kind.Also ∷ []) [] say.ONE_END) { last = kind.End ∷ [] }
    ∷ record (asking declaration [] say.LATE_DECLARATION) { inside = kind.Begin ∷ kind.Cobegin ∷ kind.If ∷ kind.When ∷ kind.While ∷ [] }
    ∷ asking (kind.End_of_text ∷ []) (kind.End ∷ []) say.COUNT_ENDS
    ∷ asking declaration (kind.End_of_text ∷ []) say.ONE_PROCEDURE
    ∷ asking [] (kind.End_of_text ∷ []) say.PROGRAM_ENDED
    ∷ record (asking (kind.Colon ∷ []) (kind.Equal ∷ []) say.CONSTANT_TYPE) { not_these = kind.Plus ∷ [] }
    ∷ record (asking (kind.Array ∷ kind.Enum ∷ kind.Record ∷ kind.Set ∷ []) (kind.Name ∷ []) say.TYPE_NAME) { last = kind.Colon ∷ [] }
    ∷ record (asking [] (kind.Colon ∷ []) say.BOUNDS) { inside = kind.OpenBracket ∷ [] }
    ∷ record (asking statement (kind.Begin ∷ kind.Var ∷ []) say.VARIABLES) { inside = kind.End_of_text ∷ [] }
    ∷ asking [] (kind.Becomes ∷ []) say.ASSIGNMENT_OR_CALL
    ∷ record (asking [] (kind.Proc ∷ []) say.PROGRAM_BEGINS) { last = kind.End_of_text ∷ []; not_these = kind.Begin ∷ [] }
    ∷ []

-- ---- a type in front of a name, where a statement stands

abbrev pub is_type_name : Symbol → Bool
is_type_name (is.Name letters) = is_text_of letters (codes "int" ∷ codes "char" ∷ codes "bool" ∷ [])
is_type_name symbol = false

abbrev pub is_type_mark : Option Mark → Bool
is_type_mark None = false
is_type_mark (Some m) = is_type_name m.symbol

-- an assignment may go on here, and a name stands after one of these types
abbrev pub type_before : (before : Option Mark) → Seen → Option (List ℕ)
type_before before seen =
    if (seen.found == kind.Name) && seen.may kind.Becomes && is_type_mark before then Some say.TYPED_VARIABLE.now else None

-- ---- the note

-- THE NOTE at what stands there and what stands before it, in a text of these symbols: none where it is empty
abbrev pub note_of : (marks : List Mark) → (here before : Option Mark) → Seen → List ℕ
note_of marks here before seen =
    unwrap_or (mark_note marks here) (unwrap_or (mark_note marks before) (unwrap_or (type_before before seen) (first_fit note_rows seen)))

abbrev pub note_line : List ℕ → List ℕ
note_line [] = []
note_line (b ∷ note) = (b ∷ note) ++ codes "\n"
