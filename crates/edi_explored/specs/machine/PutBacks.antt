-- Words of contracts. What a search with a kernel has to say of itself: of each number, one stint of each ready process from the machine that
-- the kernel is when it has been put back.
use Rattle.std.specs.Prelude.{◌≡◌, ◌⊎◌, ℕ, suc, ◌<◌, List, [], ◌∷◌, ◌++◌}
use Rattle.edi_calls.specs.State.{State}
use Rattle.edi_calls.specs.Names.{Name}
use Rattle.edi_calls.specs.Outcome as outcome
use Rattle.edi_calls.specs.Outcome.{Ending}
use Rattle.edi_calls.specs.Ready.{stays}
use Rattle.edi_calls.proofs.Names.{Once}
use Rattle.edi_target.proofs.segments.Families.{Sound}
use Rattle.edi_target.specs.Mach as target
use Rattle.edi_target.specs.Mach.{Machine}
use Rattle.edi_kernel.specs.Stints.{Stint, unfinished, stint, switched, over}
use Rattle.edi_follows.specs.places.Coded.{Coded}
use Rattle.edi_explored.specs.machine.Alike.{Other}
use Rattle.edi_explored.specs.Covered.{Reordered, Report, Tells, tells_shown}
use Rattle.edi_explored.specs.machine.Machines.{Fails, ServesAs}

module _ (g : Coded) (system : State) (report : Report) (V : Type 0) (begin : V) (PutBack : V → Machine → List Name → Type 0) (Has : ℕ → V → Type 0) where
  -- what is put back is this machine with these ready, but for marks, turns, output and order
  pub record KeepsBy (v : V) (t : Machine) (names : List Name) : Type 0 where
    pub machine : Machine
    pub order : List Name
    pub put : PutBack v machine order
    pub other : Other (tells_shown report) machine t
    pub reordered : Reordered order names

  -- what was found of a stint: not cut, it ends in a reported ending, or leads to what is had; a marking attempt need not be followed
  abbrev pub IsFollowed : ℕ → List Name → Stint → Type 0
  IsFollowed n rest unfinished = ⊥
  IsFollowed n rest (over ending u) = (ending ≡ outcome.turns → ⊥) × ((ending ≡ outcome.standstill) ⊎ Tells report ending u.system.shown)
  IsFollowed n rest (switched u joined) =
      u.marks ≡ [] → (w : V) × Has n w × (m : List ℕ) × ServesAs g u m × KeepsBy w (record u { memory = m }) (rest ++ joined)

  pub record FollowedPutBacks : Type 0 where
    -- nobody is marked, turns are left, and each ready one stands once
    pub unmarked : (v : V) (t : Machine) (order : List Name) → PutBack v t order → t.marks ≡ []
    pub some : (v : V) (t : Machine) (order : List Name) → PutBack v t order → 0 < t.turns
    pub once : (v : V) (t : Machine) (order : List Name) → PutBack v t order → Once order
    -- one stint of each ready process, from some memory that serves, with the others in the kernel's order
    pub follows : (n : ℕ) (v : V) (t : Machine) (order : List Name) (p : Name) (others : List Name) → Has (suc n) v → PutBack v t order →
        Sound t.activities → Reordered order (p ∷ others) → (m : List ℕ) × ServesAs g t m × (rest : List Name) × Reordered rest others × (steps : ℕ)
        × IsFollowed n rest (stint g.fetched steps (record t { memory = m }) p rest)
    pub stands : (n : ℕ) (v : V) (t : Machine) (order : List Name) → Has (suc n) v → PutBack v t order → Sound t.activities →
        ((m : List ℕ) → ServesAs g t m → (p : Name) (others : List Name) → Reordered order (p ∷ others) → Fails g (record t { memory = m }) p others) →
        Tells report outcome.standstill t.system.shown
    -- the first stint, behind the entry of the program, with some bound
    pub entry : (n : ℕ) → Has (suc n) begin → (bound : ℕ) × (t : Machine) × (target.entered (g.fetched 0) 0 g.unit.calls bound system ≡ target.went t stays)
        × (steps : ℕ) × IsFollowed n [] (stint g.fetched steps t [] [])
