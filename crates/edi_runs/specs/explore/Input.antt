-- Definition. THE INPUT of a text that is explored: all bytes that are given, where its program names `accept`; else none.
use Rattle.std.specs.Prelude.{ℕ, ◌==◌, Bool}
use Rattle.std.specs.List.{list_any}
use Rattle.edi_unit.specs.Tree.{ProgramUnit}

-- the program names `accept`, the call of the system with the number 1, as a parameter
abbrev pub names_accept : ProgramUnit → Bool
names_accept unit = list_any (λ number. number == 1) unit.calls

-- the bytes that an input may have
abbrev pub most_input : ℕ
most_input = 65536
