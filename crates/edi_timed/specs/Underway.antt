-- Helper. How far a timed run has come, which stints it has had, and where each of its processes sits.
use Rattle.std.specs.Prelude.{◌≡◌, ◌≤◌, ◌<◌, ℕ, ◌+◌, ◌-◌, ◌^◌, true, List, [], ◌∷◌, length, Option, Some, None, ⊤}
use Rattle.edi_told.specs.Told.{WhereTold}
use Rattle.edi_calls.specs.Choice.{Choices}
use Rattle.edi_calls.specs.declared.ends.Outside.{Outside}
use Rattle.edi_calls.specs.Names.{Name, find}
use Rattle.edi_calls.specs.Ready.{child}
use Rattle.edi_calls.specs.State.{State}
use Rattle.edi_target.specs.Check.{CodeParts}
use Rattle.edi_target.specs.Fetch.{fetch}
use Rattle.edi_target.specs.Mach.{Machine, MachineRun, after_step, run, entered}
use Rattle.edi_trace.specs.Drawn.{Drawn}
use Rattle.edi_kernel.specs.declared.ends.Ending.{Ending}
use Rattle.edi_kernel.specs.declared.state.KernelState.{KernelState}
use Rattle.edi_kernel.specs.declared.table.Table.{Table}
use Rattle.edi_kernel.specs.Table.{is_live}
use Rattle.edi_kernel.specs.TableIsMachine.{Naming}
use Rattle.edi_kernel.specs.Moments.{Moment, moment, moment_after}
use Rattle.edi_kernel.specs.Named.{HoldsBy}
use Rattle.edi_kernel.specs.Runs.{FaultsBy, IsAt}
use Rattle.edi_timeline.specs.Stints.{Stint}
use Rattle.edi_timeline.specs.Timelines.{Told, told_of}
use Rattle.edi_timeline.specs.Adding.{is_at, nth_stint, process_after, used_by}
use Rattle.edi_timed.specs.declared.seats.Seated.{Seated}
use Rattle.edi_timed.specs.Ran.{Open, newest_of, spot_of, start_in, stints_of_code, timed}
use Rattle.edi_timed.specs.Seats.{seat_at}
use Rattle.edi_timed.specs.Timed.{Timed}

-- ---- where processes sit

-- the process of this name, which has forked so often, sits here
pub record Sits (xs : List Stint) (p : Name) (forks : ℕ) (s : Seated) : Type 0 where
  pub named : process_after (nth_stint xs s.seat.born) s.seat.fork s.seat.branch ≡ p
  pub born : s.seat.born ≤ length xs
  pub before : nth_stint xs s.seat.before ≡ newest_of xs p
  pub within : s.seat.before ≤ length xs
  pub forked : s.forks ≡ forks
  pub stands : s.stands ≡ is_at (start_in xs p)

abbrev pub AreSeated : List Stint → Table → Naming → List Seated → Type 0
AreSeated xs t n seats = (slot : ℕ) → is_live t slot ≡ true → Sits xs (n.name slot) (n.forks slot) (seat_at seats slot)

-- the processes below one, each by the forks and branches that lead there, the last one first
abbrev pub below : Name → List (ℕ × ℕ) → Name
below p [] = p
below p (b ∷ path) = child (below p path) b.0 b.1

-- nobody has had a stint whom a later fork of one that lives will bear
abbrev pub AreUnborn : List Stint → Table → Naming → Type 0
AreUnborn xs t n =
    (slot : ℕ) → is_live t slot ≡ true → (f i : ℕ) (path : List (ℕ × ℕ)) → n.forks slot < f → newest_of xs (below (child (n.name slot) f i) path) ≡ None

-- ---- how far the run has come

module _ (code : CodeParts) (choices : Choices) (system : State) (bound before : ℕ) where
  -- from the start: the run, the moment to which it comes, and the stints
  abbrev pub From : ℕ → MachineRun
  From n = after_step choices (run (fetch code.words) choices n) [] [] before (entered (fetch code.words code.entry) code.entry code.calls bound system)

  abbrev pub MomentOf : ℕ → Option Moment
  MomentOf n =
      moment_after choices (moment (fetch code.words) choices n) [] [] before (entered (fetch code.words code.entry) code.entry code.calls bound system)

  abbrev pub StintsOf : ℕ → List Stint
  StintsOf n = stints_of_code code system bound choices before n

  -- p is taken here, in a stint that has begun so, after these stints
  pub record Underway (m : Machine) (p : Name) (others : List Name) (drawn : ℕ) (b : Open) (xs : List Stint) : Type 0 where
    pub goes : (n : ℕ) → (k : ℕ) × (From k ≡ run (fetch code.words) choices n m p others drawn)
        × (MomentOf k ≡ moment (fetch code.words) choices n m p others drawn)
        × (StintsOf k ≡ timed code.words choices bound n b xs m p others drawn)

-- the stint of p, where the kernel is this machine, has begun so
pub record HasBegun (bound : ℕ) (k : KernelState) (x : State) (m : Machine) (p : Name) (xs : List Stint) (b : Open) : Type 0 where
  pub process : b.process ≡ p
  pub turns : b.turns ≡ bound - k.used
  pub shown : b.shown ≡ length x.shown
  pub stood : is_at (start_in xs p) ≡ true → b.stood ≡ spot_of (find m.activities p)

module _ (code : CodeParts) (s : State) (bound : ℕ) (first : Drawn) where
  -- the kernel is at a stint of the run: THE INVARIANT
  pub record Going (k : KernelState) (x : State) (now : Drawn) (seats : List Seated) (told : Told) : Type 0 where
    pub machine : Machine
    pub name : Name
    pub others : List Name
    pub naming : Naming
    pub stints : List Stint
    pub begun : Open
    pub at : IsAt code k x (bound - k.used) machine name others
    pub by : HoldsBy naming k machine (Some name) others
    pub underway : Underway code first.source s bound first.drawn machine name others now.drawn begun stints
    pub has_begun : HasBegun bound k x machine name stints begun
    pub used : used_by 0 stints ≡ k.used
    pub unborn : AreUnborn stints k.table naming
    pub seated : length stints < 100000 → AreSeated stints k.table naming seats
    pub told_is : told ≡ told_of stints

  -- after a round it goes on so, or has ended so
  abbrev pub RoundsTo : Option Ending → KernelState → State → Drawn → List Seated → Told → Type 0
  RoundsTo None k x now seats told = Going k x now seats told
  RoundsTo (Some e) k x now seats told = Timed code s bound first e k x now told

  -- where it has ended by a fault, the call that failed uses the object that has failed
  abbrev pub AsksFailed : (failed : Option Outside → Type 0) → Option Ending → KernelState → State → Drawn → Type 0
  AsksFailed failed None k x now = ⊤
  AsksFailed failed (Some e) k x now = FaultsBy failed code s bound first e k.used x now

-- ---- rounds whose stints are counted

-- From wherever the run has come to it these rounds end it so, and the timeline tells then all its stints. By a fault it ends where the call that failed
-- uses the object that has failed.
pub record CountsOn {C : Type 0} (state : C → Option State) (failed : C → Option Outside → Type 0) (code : CodeParts) (bound : ℕ) (old new : KernelState)
    (before after : C) (now next : Drawn) (told later : Told) (e : Ending) : Type 0 where
  pub ends : (seats : List Seated) → now.drawn + (bound - old.used) < 2 ^ 64 → WhereTold (state before) (state after) (λ x y.
      (s : State) (first : Drawn) → first.source ≡ now.source → Going code s bound first old x now seats told → Timed code s bound first e new y next later)
  pub asked : (seats : List Seated) → now.drawn + (bound - old.used) < 2 ^ 64 → WhereTold (state before) (state after) (λ x y.
      (s : State) (first : Drawn) → first.source ≡ now.source → Going code s bound first old x now seats told →
      FaultsBy (failed after) code s bound first e new.used y next)
