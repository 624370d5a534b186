-- Words of contracts. A breadth-first search with a kernel: of each state alone, that it was expanded.
use Rattle.std.specs.Prelude.{◌≡◌, ◌⊎◌, ℕ, suc, ◌<◌, ◌≤◌, List, length}
use Rattle.edi_calls.specs.Outcome as outcome
use Rattle.edi_calls.specs.State.{State}
use Rattle.edi_target.specs.Check.{CodeParts}
use Rattle.edi_kernel.specs.declared.kept.Kept.{Kept}
use Rattle.edi_kernel.specs.declared.state.KernelState.{KernelState}
use Rattle.edi_kernel.specs.Table.{ready_slots}
use Rattle.edi_explored.specs.Covered.{Report, Tells}
use Rattle.edi_explored.specs.machine.Kernels.{AreApart, IsBack, StintOf, FirstStint, OneGoes}

-- what is kept of each state, by its number: its processes, the slots of those that are ready, and the system with which it is put back
pub record StateTable : Type 0 where
  pub processes : ℕ → List Kept
  pub slots : ℕ → List ℕ
  pub system : ℕ → State

module _ (code : CodeParts) (start : State) (bound : ℕ) (report : Report) (table : StateTable) where
  -- nothing is asked of the start here
  abbrev pub Nothing : ℕ → Type 0
  Nothing n = Unit {0}

  abbrev pub Below : ℕ → ℕ → ℕ → Type 0
  Below next n w = w < next

  -- a stint of the process at this index, which leads to a state below `next` where it leads on
  abbrev pub StintBelow : ℕ → ℕ → ℕ → Type 0
  StintBelow next v index = StintOf code start bound report ℕ table.processes table.slots table.system Nothing (Below next) 0 v index

  abbrev pub GoesBelow : ℕ → ℕ → Type 0
  GoesBelow next v = OneGoes code start bound report ℕ table.processes table.slots table.system Nothing (Below next) 0 v

  abbrev pub FirstBelow : ℕ → Type 0
  FirstBelow next = FirstStint code start bound report ℕ table.processes table.slots table.system Nothing (Below next) 0

  -- the state was expanded whole
  pub record IsExpanded (next v : ℕ) : Type 0 where
    pub follows : AreApart (table.processes v) → (index : ℕ) → index < length (table.slots v) → StintBelow next v index
    pub stands : AreApart (table.processes v) → Tells report outcome.standstill (table.system v).shown ⊎ GoesBelow next v

  -- each of the first so many states was kept of some kernel
  abbrev pub AreKept : ℕ → Type 0
  AreKept count = (v : ℕ) → v < count → (k : KernelState) × IsBack (table.processes v) k × (ready_slots k.table ≡ table.slots v)

  -- all states were expanded, and the first stint leads to one of them
  pub record IsClosed (count : ℕ) : Type 0 where
    pub some : 0 < bound
    pub first : FirstBelow count
    pub kept : AreKept count
    pub expanded : (v : ℕ) → v < count → IsExpanded count v

  -- Of the states that were found at depths below k there are `starts k`. Those at depths below `depth` were expanded.
  pub record IsLevelled (starts : ℕ → ℕ) (depth : ℕ) : Type 0 where
    pub some : 0 < bound
    pub first : FirstBelow (starts 1)
    pub rises : (k : ℕ) → starts k ≤ starts (suc k)
    pub kept : AreKept (starts depth)
    pub expanded : (k v : ℕ) → k < depth → starts k ≤ v → v < starts (suc k) → IsExpanded (starts (suc (suc k))) v
    pub begins : starts 0 ≡ 0
