-- Words of contracts. At a standstill the machine that runs a code agrees with the state of the meaning in which the program stands still.
use Rattle.std.specs.Prelude.{◌≡◌, ℕ, true, List, Some}
use Rattle.edi_calls.specs.Choice.{Choices}
use Rattle.edi_calls.specs.Names.{Name}
use Rattle.edi_calls.specs.Outcome as outcome
use Rattle.edi_calls.specs.State.{State}
use Rattle.edi_unit.specs.Tree.{ProgramUnit}
use Rattle.edi_meaning.specs.Laws.{Settled}
use Rattle.edi_meaning.specs.Permitted.{at, permitted}
use Rattle.edi_meaning.specs.Select as selection
use Rattle.edi_meaning.specs.Step.{Processes, start}
use Rattle.edi_meaning.proofs.Dangling.{Coherent}
use Rattle.edi_target.specs.Check.{is_start, starts_of}
use Rattle.edi_target.specs.Fetch.{fetch}
use Rattle.edi_target.specs.Mach as target
use Rattle.edi_target.specs.Mach.{Machine}
use Rattle.edi_target.specs.Op.{Instruction}
use Rattle.edi_scheme.specs.Code.{code_of}
use Rattle.edi_follows.specs.Theorem.{CanBeCoded}
use Rattle.edi_follows.specs.places.Coded.{Coded}
use Rattle.edi_follows.specs.places.Related.{Related}

module _ (unit : ProgramUnit) where
  -- The execution that the choices select stands still in this state: its steps lead there, and there no permitted steps change anything but
  -- the turns.
  pub record StandsIn (system : State) (bound : ℕ) (choices : Choices) (s : Processes) (drawn : ℕ) : Type 0 where
    pub order : List Name
    pub ends : selection.Ends unit system bound choices outcome.standstill s.world.system s.world.turns drawn order
    pub leads : permitted unit order (start unit system bound) ≡ at s
    pub settled : (names : List Name) → Settled s (permitted unit names s)

  -- The machine agrees with the state: of its processes with theirs, of its memory with what their variables hold, and of its program counters
  -- with their work. Instructions are read only where one starts in the code.
  pub record AgreesWith (s : Processes) (m : Machine) : Type 0 where
    pub coded : Coded
    pub of : coded.unit ≡ unit
    pub reads : (at : ℕ) (found : Instruction × ℕ) → coded.fetched at ≡ Some found →
        (is_start (starts_of (code_of unit)) at ≡ true) × (fetch (code_of unit) at ≡ Some found)
    pub coherent : Coherent s
    pub related : Related coded s m

-- THE CODE STANDS STILL AS MEANT: where a run of the code stands still, so does the execution with these choices, in a state with which the last
-- machine agrees
abbrev pub CodeStandsAsMeant : Type 0
CodeStandsAsMeant =
    (unit : ProgramUnit) → CanBeCoded unit → (system : State) (bound : ℕ) (choices : Choices) (m : Machine) (drawn : ℕ) →
    target.Ends (fetch (code_of unit)) 0 unit.calls system bound choices outcome.standstill m drawn →
    (s : Processes) × StandsIn unit system bound choices s drawn × AgreesWith unit s m
