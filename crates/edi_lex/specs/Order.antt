-- Definition. The lines of marks, and how much marks hold.
use Rattle.std.specs.Prelude.{ℕ, Bool, ◌&&◌, nat_le, List, [], ◌∷◌, length}
use Rattle.std.specs.List.{sum_by}
use Rattle.edi_lex.specs.declared.symbol.Symbol.{Symbol}
use Rattle.edi_lex.specs.declared.symbol.Symbol.TheVariants.{Chars}
use Rattle.edi_lex.specs.declared.symbol.Mark.{Mark}

-- the lines of these marks begin on this line or a later one, never fall, and end on the last or before it
abbrev pub is_orderly : ℕ → List Mark → ℕ → Bool
is_orderly line [] last = nat_le line last
is_orderly line (m ∷ marks) last = nat_le line m.line && is_orderly m.line marks last

-- a string counts its characters, every other symbol counts one
abbrev pub size_of : Symbol → ℕ
size_of (Chars string) = length string
size_of _ = 1

-- the sizes of the symbols together
abbrev pub extent : List Mark → ℕ
extent marks = sum_by (λ m. size_of m.symbol) marks
