-- Definition. WHAT `explain` SHOWS of a text, by its first fault.
use Rattle.std.specs.Prelude.{◌≡◌, ◌⊎◌, ℕ, ◌-◌, ◌==◌, nat_lt, Bool, List, [], ◌∷◌, ◌++◌, length, take, drop, Option, Some, None, Result, Ok, Err}
use Rattle.std.specs.Prelude.{slice_get, slice_index_or, option_map, unwrap_or, if◌then◌else◌, codes}
use Rattle.std.specs.Fmt.{decimal}
use Rattle.std.specs.List.{list_any}
use Rattle.edi_lex.specs.declared.symbol.Mark.{Mark}
use Rattle.edi_lex.specs.declared.fault.LexFault.{LexFault}
use Rattle.edi_lex.specs.declared.fault.LexFault.TheVariants as lex
use Rattle.edi_lex.specs.Symbols.{symbols_of}
use Rattle.edi_tree.specs.Tree.{Program}
use Rattle.edi_grammar.specs.Kind.{kind_at}
use Rattle.edi_grammar.specs.derivation.Faults.{IsTheTree}
use Rattle.edi_syntax.specs.Refusal.{IsSyntaxFault, line_of}
use Rattle.edi_syntax.specs.declared.fault.SyntaxFault.{SyntaxFault}
use Rattle.edi_syntax.specs.declared.fault.SyntaxFault.TheVariants as syntax
use Rattle.edi_texts.specs.declared.kind.RefusalKind.{RefusalKind}
use Rattle.edi_texts.specs.declared.kind.RefusalKind.TheVariants as kind
use Rattle.edi_explain.specs.declared.expected.waiting.Held.{Held}
use Rattle.edi_explain.specs.declared.told.foreign.TheConstants as foreign
use Rattle.edi_explain.specs.declared.told.sentences.TheConstants as say
use Rattle.edi_explain.specs.expected.Opened.{opened}
use Rattle.edi_explain.specs.expected.Reaches.{May}
use Rattle.edi_explain.specs.places.Places.{place_of}
use Rattle.edi_explain.specs.told.Names.{Found, before_of, declared_after, marked_name}
use Rattle.edi_explain.specs.told.Words.{kind_name, here_text}
use Rattle.edi_explain.specs.told.Words.{name_text as name_of_letters}
use Rattle.edi_explain.specs.told.Groups.{may_lines}
use Rattle.edi_explain.specs.told.Source.{pointed_line, whole_line, end_line, line_bytes}
use Rattle.edi_explain.specs.told.Stray.{stray_of}
use Rattle.edi_explain.specs.told.Notes.{Seen, lost_note, note_beside, note_line, note_of}
use Rattle.edi_explain.specs.told.Advice.{advice_of}

-- ---- a text that is accepted

abbrev pub accepted_text : List ℕ
accepted_text = codes "accepted\n"

-- ---- lexical faults

-- what begins at a byte at which no piece stands
abbrev pub stray_text : ℕ → List ℕ
stray_text b = unwrap_or (note_beside foreign.BEGINNINGS (b ∷ [])) say.NO_SYMBOL.now

-- what another language means by a byte, and how this one says it; empty where nothing is known of the byte
abbrev pub stray_note : ℕ → List ℕ
stray_note b = if nat_lt 127 b then say.ACCENTS.now else unwrap_or (note_beside foreign.SIGNS (b ∷ [])) []

abbrev pub stray_lines : ℕ → List ℕ
stray_lines b = stray_text b ++ note_line (stray_note b)

-- the line of the place where no piece stands, and what begins there
abbrev pub character_text : List ℕ → (line : ℕ) → List ℕ
character_text text line =
    pointed_line text line (stray_of text) ++ (stray_lines (slice_index_or text (stray_of text) 0) ++ advice_of kind.InvalidCharacter)

abbrev pub lexical_text : List ℕ → LexFault → List ℕ
lexical_text text (lex.BadCharacter line) = character_text text line
lexical_text text (lex.BadNumeral line) = pointed_line text line (stray_of text) ++ advice_of kind.InvalidNumeral
lexical_text text lex.TooLong = advice_of kind.TextTooLong
lexical_text text lex.NoMemory = []

-- ---- syntax faults

abbrev pub index_of : SyntaxFault → ℕ
index_of (syntax.Syntax line index) = index
index_of (syntax.TooDeep line index) = index
index_of (syntax.NotInProfile line index) = index
index_of syntax.NoMemory = 0

abbrev pub kind_of_fault : SyntaxFault → RefusalKind
kind_of_fault (syntax.Syntax line index) = kind.InvalidSyntax
kind_of_fault (syntax.TooDeep line index) = kind.NestingTooDeep
kind_of_fault (syntax.NotInProfile line index) = kind.NotInProfile
kind_of_fault syntax.NoMemory = kind.InvalidSyntax

-- the line of the symbol of this index, with the caret at it, or that of the end of the text
abbrev pub place_text : List ℕ → (index last : ℕ) → Option Mark → List ℕ
place_text text index last None = end_line last
place_text text index last (Some m) = pointed_line text m.line (place_of text index).0

-- what stands there, and what may
abbrev pub instead_text : Option Mark → (may : ℕ → Bool) → List ℕ
instead_text here may = here_text here ++ (codes " may not stand here; these may:\n" ++ may_lines may)

abbrev pub held_line : Held → List ℕ
held_line held = codes "the " ++ (kind_name held.kind ++ (codes " of line " ++ (decimal held.line ++ codes " is open\n")))

abbrev pub held_lines : List Held → List ℕ
held_lines [] = []
held_lines (held ∷ more) = held_line held ++ held_lines more

-- the innermost of them, at most three, the innermost last
abbrev pub innermost : List Held → List Held
innermost held = drop (length held - 3) held

-- the kind of the innermost of them; 0 where there is none
abbrev pub last_kind : List Held → ℕ
last_kind held = unwrap_or (option_map (λ (h : Held). h.kind) (slice_get held (length held - 1))) 0

-- what the notes look at: the line, what stands there and before it, what is open and what may stand there
abbrev pub seen_by : (line : List ℕ) → (here before : Option Mark) → List Held → (may : ℕ → Bool) → Seen
seen_by line here before held may =
    record { found = kind_at here; last = kind_at before; inside = last_kind held; may = may; quoted = list_any (λ b. b == 34) line }

-- the whole, where these may stand at the symbol of this index; the text ends on the line `last`
abbrev pub wrong_text : List ℕ → (marks : List Mark) → (last index : ℕ) → (may : ℕ → Bool) → List ℕ
wrong_text text marks last index may =
    let here = slice_get marks index in
    let before = before_of marks index in
    let held = opened (take index marks) in
    place_text text index last here
    ++ (instead_text here may
    ++ (held_lines (innermost held)
    ++ note_line (note_of marks here before (seen_by (line_bytes text (line_of last here)) here before held may))))

-- What is shown of a text whose symbols have a syntax fault: exactly those kinds are named that may stand there.
pub record IsSyntaxText (text : List ℕ) (known : List Mark × ℕ) (shown : List ℕ) : Type 0 where
  pub fault : SyntaxFault
  pub is : IsSyntaxFault known.0 known.1 fault
  pub may : ℕ → Bool
  pub exact : (k : ℕ) → May (take (index_of fault) known.0) k (may k)
  pub shown_is : shown ≡ wrong_text text known.0 known.1 (index_of fault) may ++ advice_of (kind_of_fault fault)

-- ---- static faults

-- where a procedure of the name is declared further down, or else its note
abbrev pub later_text : List ℕ → Option ℕ → List ℕ
later_text letters None = note_line (lost_note letters)
later_text letters (Some line) = codes "a procedure of this name is declared further down, on line " ++ (decimal line ++ codes "\n")

-- the line with the caret at the name that is marked, and where a procedure of that name is declared after it, or its note; or the line alone
abbrev pub name_text : List ℕ → List Mark → (line : ℕ) → Found → List ℕ
name_text text marks line None = whole_line text line
name_text text marks line (Some one) =
    pointed_line text line (place_of text one.0).0
    ++ (name_of_letters one.1 ++ (codes " seems to mean nothing here\n" ++ later_text one.1 (declared_after one.1 marks one.0)))

abbrev pub static_line : List ℕ → List Mark → RefusalKind → (line : ℕ) → List ℕ
static_line text marks kind.UndeclaredName line = name_text text marks line (marked_name marks line)
static_line text marks why line = whole_line text line

-- the line of the construct that breaks a static rule
abbrev pub static_text : List ℕ → List Mark → RefusalKind → (line : ℕ) → List ℕ
static_text text marks why line = static_line text marks why line ++ advice_of why

-- its symbols are those of a tree
pub record IsStaticText (text : List ℕ) (known : List Mark × ℕ) (why : RefusalKind) (line : ℕ) (shown : List ℕ) : Type 0 where
  pub tree : Program
  pub tree_is : IsTheTree known.0 tree
  pub shown_is : shown ≡ static_text text known.0 why line

-- ---- THE WHOLE

abbrev pub IsExplainedBy : List ℕ → RefusalKind → (line : ℕ) → Result (List Mark × ℕ) LexFault → (shown : List ℕ) → Type 0
IsExplainedBy text why line (Err fault) shown = shown ≡ lexical_text text fault
IsExplainedBy text why line (Ok known) shown = IsSyntaxText text known shown ⊎ IsStaticText text known why line shown

-- what is shown of a text whose first fault is of this kind and on this line
abbrev pub IsExplained : List ℕ → RefusalKind → (line : ℕ) → (shown : List ℕ) → Type 0
IsExplained text why line shown = IsExplainedBy text why line (symbols_of text) shown

-- ---- a law

-- a text with this first fault has one explanation, whatever it is
abbrev pub OneExplanation : Type 0
OneExplanation =
    (text : List ℕ) (why : RefusalKind) (line : ℕ) (one other : List ℕ) → IsExplained text why line one → IsExplained text why line other → one ≡ other
