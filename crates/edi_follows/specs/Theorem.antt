-- Words of contracts. THE THEOREM: the code of a program does what the program means.
use Rattle.std.specs.Prelude.{◌≡◌, ℕ, zero, suc, ◌≤◌, true, List, [], ◌∷◌, ◌++◌, length, Option}
use Rattle.edi_calls.specs.Choice.{Choices}
use Rattle.edi_calls.specs.Names.{Name}
use Rattle.edi_calls.specs.Outcome as outcome
use Rattle.edi_calls.specs.Outcome.{Ending, Outcome}
use Rattle.edi_calls.specs.Ready.{all_marked, stays, joins, taking, take_next}
use Rattle.edi_calls.specs.State.{State, Traced}
use Rattle.edi_unit.specs.Tree.{ProgramUnit}
use Rattle.edi_unit.specs.Fits.{Fits}
use Rattle.edi_meaning.specs.Bad.{IsNoBad}
use Rattle.edi_meaning.specs.Select as source
use Rattle.edi_target.specs.Op.{Instruction}
use Rattle.edi_target.specs.Memory.{word}
use Rattle.edi_target.specs.Fetch.{fetch}
use Rattle.edi_target.specs.Mach as target
use Rattle.edi_target.specs.Mach.{Machine, OwnWords}
use Rattle.edi_target.specs.Moments.{EndsThrough, ComesThrough}
use Rattle.edi_target.specs.segments.Nested.{machine_after}
use Rattle.edi_scheme.specs.Code.{code_of}
use Rattle.edi_scheme.specs.Laws.{HaveParts}
use Rattle.edi_scheme.specs.Lines.{UnitLines}

-- a unit that can be coded
pub record CanBeCoded (unit : ProgramUnit) : Type 0 where
  pub fits : Fits unit
  pub parts : HaveParts unit.types
  pub lines : UnitLines unit
  pub short : length (code_of unit) ≤ 4194304

-- the run of the code comes to the end of the selection: the same ending and line, the whole system, with the states behind each
-- call one after another, the turns that are left and the choices drawn
abbrev pub CodeEndsAsMeant : Type 0
CodeEndsAsMeant =
    (unit : ProgramUnit) → CanBeCoded unit → (system : State) (bound : ℕ) (choices : Choices) (ending : Ending) (end : Traced) (turns drawn : ℕ)
    (order : List Name) →
    source.Ends unit system bound choices ending end turns drawn order →
    (m : Machine) × EndsThrough (fetch (code_of unit)) 0 unit.calls system bound choices 0 ending m drawn end.past × (m.system ≡ end.now) × (m.turns ≡ turns)

-- and so both sides have the same outcome
abbrev pub SameOutcome : Type 0
SameOutcome =
    (unit : ProgramUnit) → CanBeCoded unit → (system : State) (bound : ℕ) (choices : Choices) (outcome : Outcome) →
    (source.Select unit system bound choices outcome → target.Mach (fetch (code_of unit)) 0 unit.calls system bound choices outcome)
    × (target.Mach (fetch (code_of unit)) 0 unit.calls system bound choices outcome → source.Select unit system bound choices outcome)

-- and come through the same states of the system
abbrev pub SameMoments : Type 0
SameMoments =
    (unit : ProgramUnit) → CanBeCoded unit → (system : State) (bound : ℕ) (choices : Choices) (moment : State) →
    (source.ComesThrough unit system bound choices moment → ComesThrough (fetch (code_of unit)) 0 unit.calls system bound choices 0 moment)
    × (ComesThrough (fetch (code_of unit)) 0 unit.calls system bound choices 0 moment → source.ComesThrough unit system bound choices moment)

-- no instruction of the code is without a meaning in the state that it meets, so no run of it ends as bad
abbrev pub CodeIsNeverBad : Type 0
CodeIsNeverBad =
    (unit : ProgramUnit) → CanBeCoded unit → (system : State) (bound : ℕ) (choices : Choices) (ending : Ending) (m : Machine) (drawn : ℕ) →
    target.Ends (fetch (code_of unit)) 0 unit.calls system bound choices ending m drawn → IsNoBad ending

-- ---- taken processes

module _ (fetched : ℕ → Option (Instruction × ℕ)) where
  -- n instructions of p, after each of which it goes on itself
  abbrev pub Onward : ℕ → Machine → Name → List Name → Machine → Type 0
  Onward zero m p others t = m ≡ t
  Onward (suc n) m p others t = (u : Machine) × (target.step fetched m p others ≡ target.went u stays) × Onward n u p others t

  -- p is taken in this machine: at the start, or after a switch
  pub data IsTaken (entry : ℕ) (calls : List ℕ) (system : State) (bound : ℕ) (choices : Choices) : Machine → Name → List Name → ℕ → Type 0 where
    at_start : (m : Machine) → target.entered (fetched entry) entry calls bound system ≡ target.went m stays →
        IsTaken entry calls system bound choices m [] [] 0
    after_switch : (m u t : Machine) (p q : Name) (others rest ps : List Name) (n drawn drawn' : ℕ) →
        IsTaken entry calls system bound choices m p others drawn → Onward n m p others u → target.step fetched u p others ≡ target.went t (joins ps) →
        take_next choices drawn (others ++ ps) ≡ taking q rest drawn' → IsTaken entry calls system bound choices t q rest drawn'

  -- The run stands still in this machine by the marks: at the end of an attempt of a taken process, which has now marked the
  -- last of all that are ready.
  pub record StandsByMarks (entry : ℕ) (calls : List ℕ) (system : State) (bound : ℕ) (choices : Choices) (m : Machine) (drawn : ℕ) : Type 0 where
    pub taken : Machine
    pub name : Name
    pub others : List Name
    pub is_taken : IsTaken entry calls system bound choices taken name others drawn
    pub steps : ℕ
    pub before : Machine
    pub onward : Onward steps taken name others before
    pub ends : target.step fetched before name others ≡ target.ended outcome.standstill m
    pub marked : all_marked m.marks (name ∷ others) ≡ true

  -- What a taken process does up to its next switch, or the end of the run, changes no word but its own: at no time between.
  abbrev pub ProcessesArePrivate : (entry : ℕ) (calls : List ℕ) → Type 0
  ProcessesArePrivate entry calls =
      (system : State) (bound : ℕ) (choices : Choices) (m : Machine) (p : Name) (others : List Name) (drawn : ℕ) →
      IsTaken entry calls system bound choices m p others drawn →
      (n : ℕ) (u : Machine) → Onward n m p others u →
      (a : ℕ) → (OwnWords m p a → ⊥) →
      (word u.memory a ≡ word m.memory a) × (word (machine_after (target.step fetched u p others)).memory a ≡ word m.memory a)

-- each standstill of the code comes so, and none for want of a ready process
abbrev pub CodeStandsByMarks : Type 0
CodeStandsByMarks =
    (unit : ProgramUnit) → CanBeCoded unit → (system : State) (bound : ℕ) (choices : Choices) (m : Machine) (drawn : ℕ) →
    target.Ends (fetch (code_of unit)) 0 unit.calls system bound choices outcome.standstill m drawn →
    StandsByMarks (fetch (code_of unit)) 0 unit.calls system bound choices m drawn

-- and no process changes a word of a stranger
abbrev pub CodeIsPrivate : Type 0
CodeIsPrivate = (unit : ProgramUnit) → CanBeCoded unit → ProcessesArePrivate (fetch (code_of unit)) 0 unit.calls
