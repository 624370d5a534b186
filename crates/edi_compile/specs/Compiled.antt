-- Words of contracts. What a text is compiled to.
use Rattle.std.specs.Prelude.{◌≡◌, ◌+◌, ◌*◌, ◌≤◌, ℕ, List, length}
use Rattle.edi_lex.specs.declared.symbol.Mark.{Mark}
use Rattle.edi_lex.specs.Order.{extent}
use Rattle.edi_unit.specs.Tree.{ProgramUnit}
use Rattle.edi_target.specs.Check.{CodeParts}
use Rattle.edi_scheme.specs.Code.{code_of}
use Rattle.edi_scheme.specs.Laws.{parts_of}
use Rattle.edi_follows.specs.Theorem.{CanBeCoded}
use Rattle.edi_texts.specs.Texts.{HaveUnit, IsUnit}
use Rattle.edi_texts.specs.Length.{symbol_count}
use Rattle.edi_texts.specs.Run.{IsCodeFor}

-- at most 8 words for each of so many symbols, and 64
abbrev pub IsShort : (symbols words : ℕ) → Type 0
IsShort symbols words = words ≤ 8 * symbols + 64

-- the unit of a text: it can be coded, and its code is so short
pub record IsFrontOf (text : List ℕ) (unit : ProgramUnit) : Type 0 where
  pub unit_is : IsUnit text unit
  pub can : CanBeCoded unit
  pub short : IsShort (symbol_count text) (length (code_of unit))

-- THE CODE OF A TEXT: that of its unit by the scheme, which may be made of the text
pub record IsCodeOf (text : List ℕ) (code : CodeParts) : Type 0 where
  pub unit : ProgramUnit
  pub unit_is : IsUnit text unit
  pub code_is : code ≡ parts_of unit
  pub code_for : IsCodeFor text (parts_of unit)

-- The same by the symbols of the text. No public contract cites these.
pub record IsFront (known : List Mark × ℕ) (unit : ProgramUnit) : Type 0 where
  pub unit_is : HaveUnit known unit
  pub can : CanBeCoded unit
  pub short : IsShort (extent known.0) (length (code_of unit))

pub record IsCompiledFrom (known : List Mark × ℕ) (code : CodeParts) : Type 0 where
  pub unit : ProgramUnit
  pub unit_is : HaveUnit known unit
  pub code_is : code ≡ parts_of unit
  pub short : IsShort (extent known.0) (length code.words)
  pub can : CanBeCoded unit
