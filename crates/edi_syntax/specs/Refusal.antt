-- Definition. The syntax fault of marks: the first place where they are no program, or open a 65th level.
use Rattle.std.specs.Prelude.{◌≡◌, ℕ, Bool, true, false, List, length, Option, Some, None}
use Rattle.edi_lex.specs.declared.symbol.Symbol.{Symbol}
use Rattle.edi_lex.specs.declared.symbol.Symbol.TheVariants as is
use Rattle.edi_lex.specs.declared.symbol.Mark.{Mark}
use Rattle.edi_grammar.specs.derivation.Faults.{IsMisplaced, IsTooDeepAt}
use Rattle.edi_syntax.specs.Inside.{is_in_begin}
use Rattle.edi_syntax.specs.declared.fault.SyntaxFault.{SyntaxFault}
use Rattle.edi_syntax.specs.declared.fault.SyntaxFault.TheVariants as fault

-- the line of a symbol, or of the end of the text
abbrev pub line_of : ℕ → Option Mark → ℕ
line_of last None = last
line_of last (Some m) = m.line

-- Edison has this symbol here, and the profile leaves it out: `lib`, and `:` where a `begin` waits for its `end`.
abbrev pub leaves_out : Bool → Symbol → Bool
leaves_out in_begin is.Lib = true
leaves_out in_begin is.Colon = in_begin
leaves_out in_begin _ = false

abbrev pub is_outside : List Mark → Option Mark → Bool
is_outside before None = false
is_outside before (Some m) = leaves_out (is_in_begin before) m.symbol

-- Behind so many marks, on this line, stands the first symbol, or the end of the text, with which they begin no program; it
-- is outside the profile, or not.
pub record IsWrong (outside : Bool) (marks : List Mark) (last line index : ℕ) : Type 0 where
  pub before : List Mark
  pub here : Option Mark
  pub misplaced : IsMisplaced marks before here
  pub kind : is_outside before here ≡ outside
  pub on_line : line ≡ line_of last here
  pub at_index : index ≡ length before

-- Behind so many marks, on this line, stands the first symbol that may stand there and opens a 65th level.
pub record IsDeep (marks : List Mark) (line index : ℕ) : Type 0 where
  pub before : List Mark
  pub m : Mark
  pub deep : IsTooDeepAt marks before m
  pub on_line : line ≡ m.line
  pub at_index : index ≡ length before

-- these marks, whose text ends on the line `last`, have this syntax fault
abbrev pub IsSyntaxFault : List Mark → ℕ → SyntaxFault → Type 0
IsSyntaxFault marks last (fault.Syntax line index) = IsWrong false marks last line index
IsSyntaxFault marks last (fault.TooDeep line index) = IsDeep marks line index
IsSyntaxFault marks last (fault.NotInProfile line index) = IsWrong true marks last line index
IsSyntaxFault marks last fault.NoMemory = ⊥

-- so, unless memory is wanting
abbrev pub Refuses : List Mark → ℕ → SyntaxFault → Type 0
Refuses marks last fault.NoMemory = Unit {0}
Refuses marks last (fault.Syntax line index) = IsSyntaxFault marks last (fault.Syntax line index)
Refuses marks last (fault.TooDeep line index) = IsSyntaxFault marks last (fault.TooDeep line index)
Refuses marks last (fault.NotInProfile line index) = IsSyntaxFault marks last (fault.NotInProfile line index)
