-- Words of contracts. Laws on the states that a run comes through.
use Rattle.std.specs.Prelude.{◌≡◌, ℕ, ◌≤◌, List, ◌++◌, Option, Contains}
use Rattle.edi_calls.specs.Choice.{Choices}
use Rattle.edi_calls.specs.Outcome.{Ending}
use Rattle.edi_calls.specs.State.{State, moments_of, newest}
use Rattle.edi_target.specs.Op.{Instruction}
use Rattle.edi_target.specs.Fetch as code
use Rattle.edi_target.specs.Mach.{Machine}
use Rattle.edi_target.specs.Moments.{ComesThrough, EndsThrough, history_from_start}

module _ (fetch : ℕ → Option (Instruction × ℕ)) (entry : ℕ) (calls : List ℕ) (system : State) (bound : ℕ) (choices : Choices) (before : ℕ) where
  -- a run has one end, and one past there
  abbrev pub EndIsDetermined : Type 0
  EndIsDetermined =
      (one other : Ending) (m m' : Machine) (drawn drawn' : ℕ) (past past' : List State) → EndsThrough fetch entry calls system bound choices before one m
      drawn past →
      EndsThrough fetch entry calls system bound choices before other m' drawn' past' → (one ≡ other) × (m ≡ m') × (drawn ≡ drawn') × (past ≡ past')

  -- and it comes through the states of its past, and the first one, and no others
  abbrev pub ComesThroughItsPast : Type 0
  ComesThroughItsPast =
      (ending : Ending) (m : Machine) (drawn : ℕ) (past : List State) (moment : State) → EndsThrough fetch entry calls system bound choices before ending m
      drawn past →
      (ComesThrough fetch entry calls system bound choices before moment → Contains (moments_of system past) moment)
      × (Contains (moments_of system past) moment → ComesThrough fetch entry calls system bound choices before moment)

  -- a past grows along the run
  abbrev pub PastGrows : Type 0
  PastGrows =
      (n k : ℕ) → n ≤ k → (news : List State) ×
      (history_from_start fetch entry calls system bound choices before k ≡ news ++ history_from_start fetch entry calls system bound choices before n)

  -- its last state is the system at the end of the run
  abbrev pub SystemIsNewest : Type 0
  SystemIsNewest =
      (ending : Ending) (m : Machine) (drawn : ℕ) (past : List State) → EndsThrough fetch entry calls system bound choices before ending m drawn past
      → newest system past ≡ m.system

-- so of every run
abbrev pub OfEveryRun : ((ℕ → Option (Instruction × ℕ)) → ℕ → List ℕ → State → ℕ → Choices → ℕ → Type 0) → Type 0
OfEveryRun Law =
    (fetch : ℕ → Option (Instruction × ℕ)) (entry : ℕ) (calls : List ℕ) (system : State) (bound : ℕ) (choices : Choices) (before : ℕ)
    → Law fetch entry calls system bound choices before

-- and every run of every code ends, however many choices were drawn before it
abbrev pub EveryRunEndsThrough : Type 0
EveryRunEndsThrough =
    (words : List ℕ) (entry : ℕ) (calls : List ℕ) (system : State) (bound : ℕ) (choices : Choices) (before : ℕ) →
    (ending : Ending) × (m : Machine) × (drawn : ℕ) × (past : List State) × EndsThrough (code.fetch words) entry calls system bound choices before ending m
    drawn past
