-- Words of contracts. A search over machines: what it keeps stands for every machine that differs in nothing but marks, turns, what was
-- printed, what was shown where the report does not tell that, and the order of the ready ones; and it has followed every stint of these.
use Rattle.std.specs.Prelude.{◌≡◌, ◌⊎◌, ℕ, suc, ◌<◌, List, [], ◌∷◌, ◌++◌}
use Rattle.edi_calls.specs.State.{State}
use Rattle.edi_calls.specs.Names.{Name}
use Rattle.edi_calls.specs.Outcome as outcome
use Rattle.edi_calls.specs.Outcome.{Ending}
use Rattle.edi_calls.specs.Ready.{stays}
use Rattle.edi_meaning.specs.Step.{Processes, start}
use Rattle.edi_target.proofs.segments.Families.{Sound}
use Rattle.edi_target.specs.Mach as target
use Rattle.edi_target.specs.Mach.{Machine}
use Rattle.edi_kernel.specs.Stints.{stint, switched, over}
use Rattle.edi_follows.specs.places.Coded.{Coded}
use Rattle.edi_follows.specs.places.Related.{Related, Kept, Queue}
use Rattle.edi_explored.specs.machine.Alike.{Other}
use Rattle.edi_explored.specs.Covered.{Reordered, SameButTurns, Report, Tells, tells_shown, IsCutOrTold}

-- with turns left and nobody marked, p only fails an attempt that marks it
abbrev pub Fails : Coded → Machine → Name → List Name → Type 0
Fails g t p others =
    (steps : ℕ) × (u : Machine)
    × ((stint g.fetched steps t p others ≡ over outcome.standstill u) ⊎ ((stint g.fetched steps t p others ≡ switched u (p ∷ [])) × (u.marks ≡ p ∷ [])))

-- another memory serves as well: a machine with it is related to every state to which this machine is (`kept_words_serve` says when)
abbrev pub ServesAs : Coded → Machine → List ℕ → Type 0
ServesAs g u m = (s : Processes) → Related g s u → Related g s (record u { memory = m })

module _ (g : Coded) (system : State) (report : Report) (V : Type 0) (begin : V) (Keeps : V → Machine → List Name → Type 0) (Has : ℕ → V → Type 0) where
  -- a stint of p from this machine has been followed: what it leads to is had for n moves more
  pub record FollowedFrom (n : ℕ) (t : Machine) (p : Name) (others : List Name) : Type 0 where
    -- a standstill is seen where all have failed
    pub reports : (steps : ℕ) (ending : Ending) (u : Machine) → stint g.fetched steps t p others ≡ over ending u → (ending ≡ outcome.standstill → ⊥) →
        IsCutOrTold report ending u.system.shown
    -- what is kept has the words that count; an attempt that marks its process leaves what is kept, so it need not be followed
    pub leads : (steps : ℕ) (u : Machine) (joined : List Name) → stint g.fetched steps t p others ≡ switched u joined → u.marks ≡ [] →
        (w : V) × Has n w × (m : List ℕ) × ServesAs g u m × Keeps w (record u { memory = m }) (others ++ joined)

  pub record FollowedMachines : Type 0 where
    pub forgets : (v : V) (t u : Machine) (names other : List Name) → Keeps v t names → Other (tells_shown report) t u → Reordered names other → Keeps v u other
    -- from some memory that serves
    pub follows : (n : ℕ) (v : V) (t : Machine) (p : Name) (others : List Name) → Has (suc n) v → Keeps v t (p ∷ others) → t.marks ≡ [] → Sound t.activities →
        (m : List ℕ) × ServesAs g t m × FollowedFrom n (record t { memory = m }) p others
    -- a standstill is told where each of the ready ones only fails, with turns left, from each memory that serves
    pub stands : (n : ℕ) (v : V) (t : Machine) (names : List Name) → Has (suc n) v → Keeps v t names → Sound t.activities →
        ((q : Machine) → Other (tells_shown report) t q → q.marks ≡ [] → 0 < q.turns → (m : List ℕ) → ServesAs g q m →
        (p : Name) (others : List Name) → Reordered names (p ∷ others) → Fails g (record q { memory = m }) p others) →
        Tells report outcome.standstill t.system.shown
    -- the first stint, behind the entry of the program, whatever the bound
    pub entry : (n bound : ℕ) (t : Machine) → Has (suc n) begin → target.entered (g.fetched 0) 0 g.unit.calls bound system ≡ target.went t stays →
        FollowedFrom n t [] []

  -- A STATE OF THE MEANING IS COVERED: some machine that is kept is related to it
  pub record CoversBy (v : V) (s : Processes) (names : List Name) : Type 0 where
    pub machine : Machine
    pub related : Related g s machine
    pub kept : Kept s machine
    pub queue : Queue s names
    pub keeps : Keeps v machine names
    pub unmarked : machine.marks ≡ []

  -- or it is the start
  pub record IsStart (v : V) (s : Processes) (names : List Name) : Type 0 where
    pub is : v ≡ begin
    pub state : SameButTurns (start g.unit system 0) s
    pub alone : Reordered ([] ∷ []) names

  abbrev pub Covers : V → Processes → List Name → Type 0
  Covers v s names = CoversBy v s names ⊎ IsStart v s names
