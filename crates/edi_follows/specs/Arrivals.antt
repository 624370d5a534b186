-- Words of contracts. THE ARRIVALS: a run of the code leaves its processes at their `when`s exactly where the selection does, one arrival after
-- another, each after as many turns, and the variables stand in the memory where the frames say.
use Rattle.std.specs.Prelude.{◌≡◌, ℕ, ℤ, ◌+◌, List, [], ◌∷◌, Some, IsTrue, ⊤}
use Rattle.edi_calls.specs.Choice.{Choices}
use Rattle.edi_calls.specs.Names.{Name}
use Rattle.edi_calls.specs.Outcome.{Ending}
use Rattle.edi_calls.specs.State.{State, Traced}
use Rattle.edi_word.specs.Words.{signed}
use Rattle.edi_unit.specs.declared.units.Parameter.TheVariants as slot
use Rattle.edi_unit.specs.Types.{is_elementary}
use Rattle.edi_unit.specs.Values.{ordinal_of}
use Rattle.edi_unit.specs.Tree.{ProgramUnit}
use Rattle.edi_unit.specs.Need.{outer, slot_at}
use Rattle.edi_meaning.specs.Store.{Spot, shape, frame_at, reached, now, get}
use Rattle.edi_meaning.specs.Store as store
use Rattle.edi_meaning.specs.Step.{start}
use Rattle.edi_meaning.specs.Select as source
use Rattle.edi_target.specs.Memory.{word, level}
use Rattle.edi_target.specs.Fetch.{fetch}
use Rattle.edi_target.specs.Mach as target
use Rattle.edi_target.specs.Mach.{Machine}
use Rattle.edi_scheme.specs.Code.{code_of}
use Rattle.edi_scheme.specs.Awaits.{await_number, await_address, variable_offset}
use Rattle.edi_meaning.specs.Arrivals.{Arrival, arrivals}
use Rattle.edi_target.specs.Arrivals.{Arrived, arrived_from_start}
use Rattle.edi_follows.specs.Theorem.{CanBeCoded}

module _ (unit : ProgramUnit) where
  -- where variable v of the block k levels out from that of the `when` stands
  abbrev pub variable_address : Arrival → Arrived → (k v : ℕ) → ℕ
  variable_address x y k v = level y.memory k y.activity.base + variable_offset unit (outer unit.blocks x.position.of k) v

  -- the ordinal of the variable there
  abbrev pub ordinal_at : Arrival → (k v : ℕ) → ℤ
  ordinal_at x k v = ordinal_of (get x.store (store.slot x.store x.process k v))

  -- an arrival of the run is this one of the meaning
  pub record StandsFor (x : Arrival) (y : Arrived) : Type 0 where
    pub process : y.process ≡ x.process
    -- after as many turns
    pub turns : y.turns ≡ x.turns
    -- at that `when`
    pub number : ℕ
    pub is : await_number unit x.position ≡ Some number
    pub address : await_address unit x.position.of number ≡ Some y.activity.pc
    -- the blocks of the instances that static parents lead to from the newest of the process
    pub blocks : (k : ℕ) → (frame_at (shape x.store) (reached (shape x.store) k (now (shape x.store) x.process))).block ≡ outer unit.blocks x.position.of k
    -- the word of an elementary variable is its ordinal
    pub values : (k v t : ℕ) → slot_at unit.blocks x.position.of k v ≡ Some (slot.Value t) → IsTrue (is_elementary unit.types t) →
        signed (word y.memory (variable_address x y k v)) ≡ ordinal_at x k v
    -- that of a `var` parameter is the address where the variable that it means has its ordinal
    pub places : (k v t : ℕ) → slot_at unit.blocks x.position.of k v ≡ Some (slot.Var t) → IsTrue (is_elementary unit.types t) →
        signed (word y.memory (word y.memory (variable_address x y k v))) ≡ ordinal_at x k v

  -- one after another
  abbrev pub AreAlike : List Arrival → List Arrived → Type 0
  AreAlike [] [] = ⊤
  AreAlike (x ∷ xs) (y ∷ ys) = StandsFor x y × AreAlike xs ys
  AreAlike _ _ = ⊥

-- where a selection ends, the run of the code ends after some number of instructions, and up to there has its arrivals
abbrev pub CodeArrivesAsMeant : Type 0
CodeArrivesAsMeant =
    (unit : ProgramUnit) → CanBeCoded unit → (system : State) (bound : ℕ) (choices : Choices) (ending : Ending) (end : Traced) (turns drawn : ℕ)
    (order : List Name) →
    source.Ends unit system bound choices ending end turns drawn order →
    (n : ℕ) × (m : Machine)
    × (target.run_from_start (fetch (code_of unit)) 0 unit.calls system bound choices n ≡ target.finished ending m drawn)
    × AreAlike unit (arrivals unit order (start unit system bound)) (arrived_from_start (fetch (code_of unit)) 0 unit.calls system bound choices 0 n)
