-- Definition. Whether marks begin a program, and whether a symbol may stand after them, with truth values.
use Rattle.std.specs.Prelude.{List, ℕ, Bool, true, false}
use Rattle.edi_lex.specs.declared.symbol.Mark.{Mark}
use Rattle.edi_explain.specs.expected.MayStand.{Begin, MayStand}

-- whether they begin a program in which none opens a 65th level
abbrev pub DoBegin : List Mark → Bool → Type 0
DoBegin marks true = Begin marks
DoBegin marks false = Begin marks → ⊥

-- whether a symbol of the kind may stand after the marks
abbrev pub May : List Mark → ℕ → Bool → Type 0
May before a true = MayStand before a
May before a false = MayStand before a → ⊥
