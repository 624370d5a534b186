-- Definition. No program is ever bad: that is an ending of code alone.
use Rattle.std.specs.Prelude.{⊤}
use Rattle.edi_calls.specs.Outcome as outcome
use Rattle.edi_calls.specs.Outcome.{Ending}

-- whether a run ended so, no instruction without a meaning was met
abbrev pub IsNoBad : Ending → Type 0
IsNoBad outcome.done = ⊤
IsNoBad (outcome.halted line) = ⊤
IsNoBad (outcome.failed cause line) = ⊤
IsNoBad outcome.turns = ⊤
IsNoBad outcome.standstill = ⊤
IsNoBad (outcome.bad address) = ⊥
