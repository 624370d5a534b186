-- Words of contracts. What is true of every code that the machine runs.
use Rattle.std.specs.Prelude.{◌≡◌, ℕ, ◌<◌, Bool, List, ⊤, Option, Some}
use Rattle.edi_calls.specs.Choice.{Choices}
use Rattle.edi_calls.specs.State.{State}
use Rattle.edi_calls.specs.Outcome as outcome
use Rattle.edi_calls.specs.Outcome.{Outcome}
use Rattle.edi_target.specs.Op.{Instruction}
use Rattle.edi_target.specs.Effect.{Local, Effect, goes, released, asks, due, fails, bad}
use Rattle.edi_target.specs.Fetch.{fetch}
use Rattle.edi_target.specs.Perform.{perform}
use Rattle.edi_target.specs.Mach.{Machine, Mach}
use Rattle.edi_target.specs.Moments.{EndsThrough}

-- an instruction that goes on without a turn leaves the program counter above its own address
abbrev pub MovesUp : ℕ → Effect → Type 0
MovesUp at (goes l) = at < l.pc
MovesUp at (released l) = at < l.pc
MovesUp at (asks number arguments address line l) = at < l.pc
MovesUp at (due turn l) = ⊤
MovesUp at (fails c line) = ⊤
MovesUp at bad = ⊤

-- each instruction takes a turn, ends the run, is refused, or moves the program counter up
abbrev pub EachMovesUp : Type 0
EachMovesUp =
    (fetch : ℕ → Option (Instruction × ℕ)) (live : ℕ) (is_first : Bool) (instruction : Instruction) (next : ℕ) (l : Local) →
    l.pc < next → MovesUp l.pc (perform fetch live is_first instruction next l)

-- an instruction stands only below `size`, and the next address is above its own
abbrev pub StandsBelow : ℕ → (ℕ → Option (Instruction × ℕ)) → Type 0
StandsBelow size fetch = (at : ℕ) (found : Instruction × ℕ) → fetch at ≡ Some found → (at < size) × (at < found.1)

-- every run of every code ends, after some number of instructions
abbrev pub EveryRunEnds : Type 0
EveryRunEnds =
    (words : List ℕ) (entry : ℕ) (calls : List ℕ) (system : State) (bound : ℕ) (choices : Choices) →
    (outcome : Outcome) × Mach (fetch words) entry calls system bound choices outcome

-- and it ends in one way
abbrev pub RunsAreDetermined : Type 0
RunsAreDetermined =
    (fetch : ℕ → Option (Instruction × ℕ)) (entry : ℕ) (calls : List ℕ) (system : State) (bound : ℕ) (choices : Choices) (one other : Outcome) →
    Mach fetch entry calls system bound choices one → Mach fetch entry calls system bound choices other → one ≡ other

-- a run ends by its turns only where none is left, however many choices were drawn before it
abbrev pub EndsByTurnsSpent : Type 0
EndsByTurnsSpent =
    (fetch : ℕ → Option (Instruction × ℕ)) (entry : ℕ) (calls : List ℕ) (system : State) (bound : ℕ) (choices : Choices) (before : ℕ) (m : Machine)
    (drawn : ℕ) (past : List State) →
    EndsThrough fetch entry calls system bound choices before outcome.turns m drawn past → m.turns ≡ 0
