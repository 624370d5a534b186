-- Definition. THE UNDECLARED NAME of a line: the one name of it that can be undeclared, or else the first one that is declared nowhere in the text. A name
-- can be undeclared that is no standard name, is not declared at its place, and is no call of the system that the heading of the program names before it.
-- This is told by the symbols alone, and not by scopes: another name of the line may mean nothing at its place too.
use Rattle.std.specs.Prelude.{ℕ, zero, suc, ◌+◌, ◌-◌, ◌==◌, Bool, true, false, not, ◌&&◌, ◌||◌, List, [], ◌∷◌, length, take, drop, Option, Some, None}
use Rattle.std.specs.Prelude.{slice_get, option_and_then, option_map, if◌then◌else◌, codes}
use Rattle.std.specs.Option.{option_or}
use Rattle.std.specs.Str.{bytes_eq}
use Rattle.edi_lex.specs.declared.symbol.Symbol.{Symbol}
use Rattle.edi_lex.specs.declared.symbol.Symbol.TheVariants as is
use Rattle.edi_lex.specs.declared.symbol.Mark.{Mark}
use Rattle.edi_grammar.specs.Kinds as kind
use Rattle.edi_grammar.specs.Kind.{kind_of, kind_at}
use Rattle.edi_explain.specs.told.Groups.{declaration, is_among}
use Rattle.edi_explain.specs.told.Words.{is_text_of}

abbrev pub standard_names : List (List ℕ)
standard_names = codes "int" ∷ codes "char" ∷ codes "bool" ∷ codes "false" ∷ codes "true" ∷ codes "halt" ∷ []

-- ---- names that are declared at their place

-- the kinds of symbols after which a name is declared
abbrev pub declarers : List ℕ
declarers = kind.Array ∷ kind.Const ∷ kind.Enum ∷ kind.Proc ∷ kind.Record ∷ kind.Set ∷ kind.Var ∷ []

-- by the kinds of the symbols before and after the name: a further constant, or a name before `:` that is no bound of an array
abbrev pub is_declared : (last next : ℕ) → Bool
is_declared last next =
    is_among last declarers || (next == kind.Colon && not (last == kind.OpenBracket)) || (last == kind.Semicolon && next == kind.Equal)

-- ---- names of the heading

-- as many symbols as are looked at for the heading of the program
abbrev pub most_heading : ℕ
most_heading = 256

abbrev pub name_in : Symbol → Option (List ℕ)
name_in (is.Name letters) = Some letters
name_in symbol = None

abbrev pub is_name : List ℕ → Option (List ℕ) → Bool
is_name letters None = false
is_name letters (Some other) = bytes_eq letters other

-- how many parentheses are open behind a symbol of this kind
abbrev pub opened_by : (open_ k : ℕ) → ℕ
opened_by open_ k = if k == kind.Open then open_ + 1 else if k == kind.Close then open_ - 1 else open_

-- Whether the heading of a parameter of the program ends in these marks, where so many parentheses are open before them: by a semicolon or a parenthesis
-- in one.
abbrev pub ends_heading : (open_ : ℕ) → List Mark → Bool
ends_heading open_ [] = false
ends_heading open_ (m ∷ marks) =
    if (open_ == 1) && (kind_of m.symbol == kind.Semicolon || kind_of m.symbol == kind.Close) then true
    else ends_heading (opened_by open_ (kind_of m.symbol)) marks

-- So many parentheses are open. A name after `proc` in one parenthesis is a parameter of the program; the heading ends where none is open. A parameter is
-- declared behind its own heading, and not within it.
abbrev pub is_parameter : List ℕ → (open_ last : ℕ) → List Mark → Bool
is_parameter letters open_ last [] = false
is_parameter letters open_ last (m ∷ marks) =
    if open_ == 0 then false
    else if (open_ == 1) && (last == kind.Proc) && is_name letters (name_in m.symbol) then ends_heading 1 marks
    else is_parameter letters (opened_by open_ (kind_of m.symbol)) (kind_of m.symbol) marks

-- the marks after the first `proc`, its name and `(`
abbrev pub after_open : List Mark → List Mark
after_open [] = []
after_open (name ∷ []) = []
after_open (name ∷ open_ ∷ marks) = if kind_of open_.symbol == kind.Open then marks else []

abbrev pub heading_of : List Mark → List Mark
heading_of [] = []
heading_of (m ∷ marks) = if kind_of m.symbol == kind.Proc then after_open marks else heading_of marks

abbrev pub is_in_heading : List ℕ → List Mark → Bool
is_in_heading letters marks = is_parameter letters 1 0 (heading_of (take most_heading marks))

-- ---- the names of a line that can be undeclared

-- the symbol before that of this index
abbrev pub before_of : List Mark → (index : ℕ) → Option Mark
before_of marks index = if index == 0 then None else slice_get marks (index - 1)

-- a name after a period is that of a field, whatever else it means; the heading counts where it stands before the name
abbrev pub can_be_after : (last next : ℕ) → (before : List Mark) → List ℕ → Bool
can_be_after last next before letters =
    (last == kind.Period) || (not (is_declared last next) && not (is_text_of letters standard_names) && not (is_in_heading letters before))

abbrev pub can_be : List Mark → (index : ℕ) → List ℕ → Bool
can_be marks index letters =
    can_be_after (kind_at (before_of marks index)) (kind_at (slice_get marks (index + 1))) (take index marks) letters

abbrev pub if_can_be : List Mark → (index : ℕ) → List ℕ → Option (List ℕ)
if_can_be marks index letters = if can_be marks index letters then Some letters else None

abbrev pub used_by : List Mark → (line index : ℕ) → Option Mark → Option (List ℕ)
used_by marks line index None = None
used_by marks line index (Some m) = if m.line == line then option_and_then (if_can_be marks index) (name_in m.symbol) else None

-- the letters of the symbol of this index, if it is such a name of the line
abbrev pub used_at : List Mark → (line index : ℕ) → Option (List ℕ)
used_at marks line index = used_by marks line index (slice_get marks index)

-- a name that was found, with its index, or none
abbrev pub Found : Type 0
Found = Option (ℕ × List ℕ)

-- the first such name of the line, from this index on, among so many symbols
abbrev pub next_from : List Mark → (line index many : ℕ) → Found
next_from marks line index zero = None
next_from marks line index (suc many) =
    option_or (option_map (λ (letters : List ℕ). (index, letters)) (used_at marks line index)) (next_from marks line (index + 1) many)

abbrev pub next_name : List Mark → (line index : ℕ) → Found
next_name marks line index = next_from marks line index (length marks - index)

-- ---- a name that is declared nowhere in the text

-- whether declarations stand after a symbol of this kind: from one that begins a declaration to the next `begin`
abbrev pub declares_after : (declares : Bool) → (k : ℕ) → Bool
declares_after declares k = not (k == kind.Begin) && (declares || is_among k declaration)

-- whether a parenthesis that comes next, or was just opened, has a type that is used: that of an array's elements, after `]`, or that of a set's members
abbrev pub uses_after : (uses : Bool) → (k : ℕ) → Bool
uses_after uses k = k == kind.CloseBracket || k == kind.Set || (uses && (k == kind.Name || k == kind.Open))

-- the kinds of symbols after which a name is used, among declarations too
abbrev pub users : List ℕ
users = kind.Colon ∷ kind.Equal ∷ kind.OpenBracket ∷ []

-- among declarations each name may be declared, but for those after such a symbol, and those in such a parenthesis
abbrev pub may_declare : (declares uses : Bool) → (last : ℕ) → Bool
may_declare declares uses last = declares && not (is_among last users || (uses && last == kind.Open))

-- whether such a place has the name
abbrev pub is_placed : List ℕ → (declares uses : Bool) → (last : ℕ) → List Mark → Bool
is_placed letters declares uses last [] = false
is_placed letters declares uses last (m ∷ marks) =
    if may_declare declares uses last && is_name letters (name_in m.symbol) then true
    else is_placed letters (declares_after declares (kind_of m.symbol)) (uses_after uses (kind_of m.symbol)) (kind_of m.symbol) marks

-- whether the name may be declared somewhere in the text, which begins with declarations; if not, it means nothing anywhere
abbrev pub may_mean : List ℕ → List Mark → Bool
may_mean letters marks = is_placed letters true false 0 marks

-- ---- the name that is marked

-- as many names of a line are looked up in the whole text
abbrev pub most_names : ℕ
most_names = 16

-- the first name from this index on that is declared nowhere, among so many that can be undeclared
abbrev pub lost_from : List Mark → (line index names : ℕ) → Found
lost_from marks line index zero = None
lost_from marks line index (suc names) =
    option_and_then (λ (one : ℕ × List ℕ). if may_mean one.1 marks then lost_from marks line (one.0 + 1) names else Some one)
    (next_name marks line index)

abbrev pub lost_name : List Mark → (line : ℕ) → Found
lost_name marks line = lost_from marks line 0 most_names

-- this one where there is no second one, else the first that is declared nowhere
abbrev pub with_second : List Mark → (line : ℕ) → Found → Found
with_second marks line None = None
with_second marks line (Some one) = elim (next_name marks line (one.0 + 1)) [ None ↦ Some one | Some second ↦ lost_name marks line ]

-- THE NAME THAT IS MARKED, with its index: the one name of the line that can be undeclared, or, where more than one can, the first that is declared
-- nowhere
abbrev pub marked_name : List Mark → (line : ℕ) → Found
marked_name marks line = with_second marks line (next_name marks line 0)

-- ---- a name that is declared by the symbol before it

abbrev pub is_introduced : List ℕ → (last : ℕ) → List Mark → Bool
is_introduced letters last [] = false
is_introduced letters last (m ∷ marks) =
    if is_among last declarers && is_name letters (name_in m.symbol) then true else is_introduced letters (kind_of m.symbol) marks

-- ---- a procedure of that name further down

-- So many parentheses are open. A name after `proc` in a parenthesis is a parameter.
abbrev pub declared_from : List ℕ → (open_ last : ℕ) → List Mark → Option ℕ
declared_from letters open_ last [] = None
declared_from letters open_ last (m ∷ marks) =
    if (open_ == 0) && (last == kind.Proc) && is_name letters (name_in m.symbol) then Some m.line
    else declared_from letters (opened_by open_ (kind_of m.symbol)) (kind_of m.symbol) marks

-- how many parentheses are open behind symbols, where so many were open before them
abbrev pub open_behind : (open_ : ℕ) → List Mark → ℕ
open_behind open_ [] = open_
open_behind open_ (m ∷ marks) = open_behind (opened_by open_ (kind_of m.symbol)) marks

-- the line on which a procedure of this name is declared behind so many symbols
abbrev pub declared_after : List ℕ → List Mark → (index : ℕ) → Option ℕ
declared_after letters marks index = declared_from letters (open_behind 0 (take index marks)) 0 (drop index marks)
