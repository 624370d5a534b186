-- Words of contracts. A search whose states have ranks, which fall along each stint. So no execution comes to a state twice, and the rank of the
-- first state bounds what is left from there.
use Rattle.std.specs.Prelude.{ℕ, ◌<◌, ◌⊎◌, List, length, Contains}
use Rattle.edi_calls.specs.Outcome as outcome
use Rattle.edi_calls.specs.State.{State}
use Rattle.edi_target.specs.Check.{CodeParts}
use Rattle.edi_explored.specs.Covered.{Report, Tells}
use Rattle.edi_explored.specs.machine.Kernels.{AreApart, StintOf, FirstStint, OneGoes}
use Rattle.edi_explored.specs.machine.Levels.{StateTable, Nothing, AreKept}

module _ (code : CodeParts) (start : State) (bound : ℕ) (report : Report) (table : StateTable) (count : ℕ) (targets : ℕ → List ℕ) where
  -- one of the first so many states, and one of these
  abbrev pub Among : List ℕ → ℕ → ℕ → Type 0
  Among ws n w = (w < count) × Contains ws w

  -- the state was expanded whole, and where its stints lead on they lead to its targets
  pub record IsExpandedTo (v : ℕ) : Type 0 where
    pub follows : AreApart (table.processes v) → (index : ℕ) → index < length (table.slots v) →
        StintOf code start bound report ℕ table.processes table.slots table.system (Nothing code start bound report table) (Among (targets v)) 0 v index
    pub stands : AreApart (table.processes v) → Tells report outcome.standstill (table.system v).shown
        ⊎ OneGoes code start bound report ℕ table.processes table.slots table.system (Nothing code start bound report table) (Among (targets v)) 0 v

  -- all states were expanded so, and the first stint leads to one of `firsts`
  pub record IsLinked (firsts : List ℕ) : Type 0 where
    pub some : 0 < bound
    pub first : FirstStint code start bound report ℕ table.processes table.slots table.system (Nothing code start bound report table) (Among firsts) 0
    pub kept : AreKept code start bound report table count
    pub expanded : (v : ℕ) → v < count → IsExpandedTo v

-- the ranks fall from each of the first so many states to its targets, and those of `firsts` are below `most`
pub record RanksFall (rank : ℕ → ℕ) (count most : ℕ) (firsts : List ℕ) (targets : ℕ → List ℕ) : Type 0 where
  pub first : (w : ℕ) → Contains firsts w → rank w < most
  pub each : (v w : ℕ) → v < count → Contains (targets v) w → rank w < rank v
