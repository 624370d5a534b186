-- Definition. Whether a `begin` stands in marks whose closing `end` does not.
use Rattle.std.specs.Prelude.{ℕ, zero, suc, Bool, true, false, List, [], ◌∷◌, ◌||◌, if◌then◌else◌}
use Rattle.edi_lex.specs.declared.symbol.Symbol.{Symbol}
use Rattle.edi_lex.specs.declared.symbol.Symbol.TheVariants as is
use Rattle.edi_lex.specs.declared.symbol.Mark.{Mark}

abbrev pub is_begin : Symbol → Bool
is_begin is.Begin = true
is_begin _ = false

-- the statements that an `end` closes
abbrev pub is_statement : Symbol → Bool
is_statement is.If = true
is_statement is.While = true
is_statement is.When = true
is_statement is.Cobegin = true
is_statement _ = false

abbrev pub is_end : Symbol → Bool
is_end is.End = true
is_end _ = false

-- behind an `end` all but the innermost are open
abbrev pub closed : List Bool → List Bool
closed [] = []
closed (o ∷ waiting) = waiting

-- What waits for its `end` behind a symbol, the innermost first: true for a `begin`, false for a statement. An `end` closes
-- the innermost.
abbrev pub open_with : Symbol → List Bool → List Bool
open_with s waiting = if is_begin s then true ∷ waiting else if is_statement s then false ∷ waiting else if is_end s then closed waiting else waiting

-- what waits for its `end` behind these marks, where so much waits before them
abbrev pub open_behind : List Bool → List Mark → List Bool
open_behind waiting [] = waiting
open_behind waiting (m ∷ marks) = open_behind (open_with m.symbol waiting) marks

-- whether a `begin` is among what waits
abbrev pub has_begin : List Bool → Bool
has_begin [] = false
has_begin (o ∷ waiting) = o || has_begin waiting

abbrev pub is_in_begin : List Mark → Bool
is_in_begin marks = has_begin (open_behind [] marks)

-- how many wait from the outermost `begin` on, itself counted, where so many do without the innermost
abbrev pub one_more : ℕ → Bool → ℕ
one_more zero o = if o then 1 else 0
one_more (suc h) o = suc (suc h)

abbrev pub height : List Bool → ℕ
height [] = 0
height (o ∷ waiting) = one_more (height waiting) o
