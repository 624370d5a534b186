-- Words of contracts. HOW MANY MOVES EVERY EXECUTION MAKES. Of a stint without end nothing is said.
use Rattle.std.specs.Prelude.{ℕ, ◌<◌}
use Rattle.edi_calls.specs.State.{State}
use Rattle.edi_calls.specs.Choice.{Choices}
use Rattle.edi_unit.specs.Tree.{ProgramUnit}
use Rattle.edi_explored.specs.Moves.{moves_of}

-- EVERY EXECUTION MAKES FEWER MOVES than so many, whatever the choices and the bound are, and however far one looks. Attempts that fail and mark
-- their process are no moves: choices that always take such a process again go nowhere, and each bound cuts them.
abbrev pub MakeFewer : (most : ℕ) → ProgramUnit → State → Type 0
MakeFewer most unit system = (bound : ℕ) (choices : Choices) (steps : ℕ) → moves_of unit system bound choices steps < most
