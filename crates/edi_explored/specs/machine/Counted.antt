-- Words of contracts. The moves of a run of the machine, as `Moves` has those of an execution: how often a process gives way to the next one
-- and leaves nobody marked.
use Rattle.std.specs.Prelude.{◌≡◌, ℕ, zero, suc, Bool, true, false, List, [], ◌∷◌, length, Option}
use Rattle.edi_calls.specs.Choice.{Choices}
use Rattle.edi_calls.specs.Names.{Name}
use Rattle.edi_calls.specs.Outcome.{Ending}
use Rattle.edi_calls.specs.State.{State, Traced}
use Rattle.edi_unit.specs.Tree.{ProgramUnit}
use Rattle.edi_meaning.specs.Select as selection
use Rattle.edi_target.specs.Check.{CodeParts}
use Rattle.edi_target.specs.Fetch.{fetch}
use Rattle.edi_target.specs.Op.{Instruction}
use Rattle.edi_target.specs.Mach.{Machine, Stepped, went, ended, finished, run, after_step, entered, step}
use Rattle.edi_follows.specs.Theorem.{CanBeCoded}
use Rattle.edi_explored.specs.Moves.{moves_next, moves_of}
use Rattle.edi_explored.specs.machine.Kernels.{IsUnitCode}

-- whether anybody is marked
abbrev pub is_marked : List Name → Bool
is_marked [] = false
is_marked (p ∷ marks) = true

abbrev pub moved_after : Choices → (Machine → Name → List Name → ℕ → ℕ) → Name → List Name → ℕ → Stepped → ℕ
moved_after choices more p others drawn (ended ending m) = 0
moved_after choices more p others drawn (went m next) = moves_next choices (more m) p others drawn (is_marked m.marks) next

-- in at most n instructions from here, where p is taken and the others are ready
abbrev pub moved : (ℕ → Option (Instruction × ℕ)) → Choices → ℕ → Machine → Name → List Name → ℕ → ℕ
moved fetch choices zero m p others drawn = 0
moved fetch choices (suc n) m p others drawn = moved_after choices (moved fetch choices n) p others drawn (step fetch m p others)

-- a run of this code from its start ends so after some number of instructions, with so many moves
pub record EndsMoved (code : CodeParts) (system : State) (bound : ℕ) (choices : Choices) (ending : Ending) (m : Machine) (drawn count : ℕ) : Type 0 where
  pub steps : ℕ
  pub ends : after_step choices (run (fetch code.words) choices steps) [] [] 0 (entered (fetch code.words code.entry) code.entry code.calls bound system)
      ≡ finished ending m drawn
  pub counts : moved_after choices (moved (fetch code.words) choices steps) [] [] 0 (entered (fetch code.words code.entry) code.entry code.calls bound system)
      ≡ count

-- THE MOVES ARE COUNTED: where a run of the code of a unit ends after so many moves, so many moves has the execution that the same choices select
abbrev pub MovesAreCounted : Type 0
MovesAreCounted =
    (unit : ProgramUnit) → CanBeCoded unit → (code : CodeParts) → IsUnitCode unit code → (system : State) (bound : ℕ) (choices : Choices) →
    (ending : Ending) (m : Machine) (drawn count : ℕ) → EndsMoved code system bound choices ending m drawn count →
    (meant : Ending) (end : Traced) (turns number : ℕ) (order : List Name) →
    selection.Ends unit system bound choices meant end turns number order → moves_of unit system bound choices (length order) ≡ count
