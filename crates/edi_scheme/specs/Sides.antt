-- Helper. The two sides of a program: what it means, and what the machine does with its code.
use Rattle.std.specs.Prelude.{ℕ, suc, ◌-◌, List, [], ◌∷◌, Option, Some, None}
use Rattle.edi_calls.specs.State.{State}
use Rattle.edi_calls.specs.Choice.{Choices}
use Rattle.edi_calls.specs.Outcome.{Ending}
use Rattle.edi_unit.specs.Types.{Shape}
use Rattle.edi_unit.specs.Tree.{Block, ProgramUnit}
use Rattle.edi_unit.specs.Need.{need}
use Rattle.edi_meaning.specs.Select as source
use Rattle.edi_target.specs.Fetch.{fetch}
use Rattle.edi_target.specs.Mach as target
use Rattle.edi_scheme.specs.Code.{code_of}

-- ---- needs

abbrev needing : List Shape → List Block → ℕ → List Block → List Block
needing types blocks n [] = []
needing types blocks n (b ∷ bs) = record b { need = need types blocks n } ∷ needing types blocks (suc n) bs

-- a program in which each block says what it needs
abbrev pub with_needs : ProgramUnit → ProgramUnit
with_needs unit = record unit { blocks = needing unit.types unit.blocks 0 unit.blocks }

-- ---- runs

-- the end of a run: the system that it leaves, how it ends, the turns that it took, and the choices that it drew
abbrev pub End : Type 0
End = State × Ending × ℕ × ℕ

abbrev pub end_of_selection : ℕ → source.Selected → Option End
end_of_selection bound source.unfinished = None
end_of_selection bound (source.finished ending system turns drawn order) = Some (system.now, ending, bound - turns, drawn)

abbrev pub end_of_run : ℕ → target.MachineRun → Option End
end_of_run bound target.unfinished = None
end_of_run bound (target.finished ending m drawn) = Some (m.system, ending, bound - m.turns, drawn)

-- the end of the selection, and that of the code's run, with this bound on the turns; none after a thousand steps, or ten
-- thousand instructions
abbrev pub both : ProgramUnit → State → ℕ → Choices → Option End × Option End
both unit system bound choices = (
  end_of_selection bound (source.select_from_start unit system bound choices 1000),
  end_of_run bound (target.run_from_start (fetch (code_of unit)) 0 unit.calls system bound choices 10000),
)

-- both sides end so
abbrev pub twice : End → Option End × Option End
twice end = (Some end, Some end)
