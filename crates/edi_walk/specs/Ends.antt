-- Words of contracts. What the answer of a walk means.
use Rattle.std.specs.Prelude.{◌≡◌, ◌≤◌, ◌<◌, ◌+◌, ◌-◌, ◌^◌, ◌%◌, ℕ, Bool, true, false, List, ◌∷◌, ◌++◌, Option, Some, None, Result, Ok, Err, Contains, ⊤}
use Rattle.edi_told.specs.Faults.{CountRose}
use Rattle.edi_calls.specs.declared.ends.Outside.{Outside}
use Rattle.edi_calls.specs.Choice.{choice}
use Rattle.edi_calls.specs.Asked.{Asks, uses}
use Rattle.edi_calls.specs.Ends.{IsTorn}
use Rattle.edi_calls.specs.Names.{Name}
use Rattle.edi_calls.specs.Outcome as outcome
use Rattle.edi_calls.specs.Outcome.{Ending}
use Rattle.edi_calls.specs.State.{State, Traced, moments_of, newest}
use Rattle.edi_unit.specs.Tree.{ProgramUnit}
use Rattle.edi_trace.specs.Drawn.{Drawn}
use Rattle.edi_walk.specs.declared.walking.WalkEnd.{WalkEnd}
use Rattle.edi_walk.specs.declared.walking.WalkEnd.TheVariants as end
use Rattle.edi_walk.specs.declared.stop.Stop.{Stop}
use Rattle.edi_walk.specs.declared.stop.Stop.TheVariants as stop
use Rattle.edi_walk.specs.Walk.{WalkEnds}

-- an index in the list of so many processes: the first of a single one, and else by the next choice
abbrev pub PicksBy : Bool → (listed : ℕ) → (old : Drawn) → (index : ℕ) → (new : Drawn) → Type 0
PicksBy true listed old index new = (index ≡ 0) × (new ≡ old)
PicksBy false listed old index new =
    old.drawn < 2 ^ 64 - 1 → (index ≡ choice old.source (old.drawn + 1) % listed) × (new ≡ record old { drawn = old.drawn + 1 })

-- the walk has come to this end, exactly as its definition has it
pub record WalkedTo (unit : ProgramUnit) (system : State) (bound : ℕ) (old : Drawn) (ending : Ending) (now : State) (new : Drawn) : Type 0 where
  pub last : Traced
  pub turns : ℕ
  pub order : List Name
  pub is : WalkEnds unit system bound old.source old.drawn ending last turns new.drawn order
  pub system_is : last.now ≡ now

-- An object outside failed in a system call of the walk: each call before it was answered as the definition has it. The walk of the
-- definition goes through this past, in which that call was to lead from the state before it to the next one; the system is
-- as it may be when such a call is torn.
pub record WalkFails (unit : ProgramUnit) (system : State) (bound : ℕ) (old : Drawn) (now : State) (new : Drawn) : Type 0 where
  pub ending : Ending
  pub last : Traced
  pub turns : ℕ
  pub drawn : ℕ
  pub order : List Name
  pub is : WalkEnds unit system bound old.source old.drawn ending last turns drawn order
  pub later : List State
  pub earlier : List State
  pub next : State
  pub past : last.past ≡ later ++ next ∷ earlier
  pub torn : IsTorn (newest system earlier) next now
  pub draws : new.drawn ≤ drawn

-- The walk was given up, as memory was wanting: the system is as it was after some first part of the system calls that the walk makes.
pub record WalkIsCut (unit : ProgramUnit) (system : State) (bound : ℕ) (old : Drawn) (now : State) (new : Drawn) : Type 0 where
  pub ending : Ending
  pub last : Traced
  pub turns : ℕ
  pub drawn : ℕ
  pub order : List Name
  pub is : WalkEnds unit system bound old.source old.drawn ending last turns drawn order
  pub moment : Contains (moments_of system last.past) now
  pub draws : new.drawn ≤ drawn

-- what the answer means
abbrev pub WalksTo : ProgramUnit → State → (bound : ℕ) → (old : Drawn) → WalkEnd → (now : State) → (new : Drawn) → Type 0
WalksTo unit system bound old end.Done now new = WalkedTo unit system bound old outcome.done now new
WalksTo unit system bound old (end.Halted line) now new = WalkedTo unit system bound old (outcome.halted line) now new
WalksTo unit system bound old (end.Failed cause line) now new = WalkedTo unit system bound old (outcome.failed cause line) now new
WalksTo unit system bound old end.Turns now new = WalkedTo unit system bound old outcome.turns now new
WalksTo unit system bound old end.Fault now new = WalkFails unit system bound old now new
WalksTo unit system bound old end.NoMemory now new = WalkIsCut unit system bound old now new

-- It failed so in a call that uses the object which has failed.
pub record WalkFailsBy (failed : Option Outside → Type 0) (unit : ProgramUnit) (system : State) (bound : ℕ) (old : Drawn) (now : State) (new : Drawn) : Type 0 where
  pub fails : WalkFails unit system bound old now new
  pub outside : Outside
  pub failed_is : failed (Some outside)
  pub asks : Asks outside (newest system fails.earlier) fails.next

abbrev pub WalkFaultsBy : (failed : Option Outside → Type 0) → ProgramUnit → State → (bound : ℕ) → (old : Drawn) → WalkEnd → (now : State) → (new : Drawn) → Type 0
WalkFaultsBy failed unit system bound old end.Fault now new = WalkFailsBy failed unit system bound old now new
WalkFaultsBy failed unit system bound old _ now new = ⊤

-- the answer of a walk whose step goes no further
abbrev pub end_for : Stop → WalkEnd
end_for stop.Done = end.Done
end_for (stop.Halted line) = end.Halted line
end_for (stop.Failed cause line) = end.Failed cause line
end_for stop.Turns = end.Turns
end_for (stop.Fault number) = end.Fault
end_for stop.NoMemory = end.NoMemory

-- an object outside has failed exactly at a fault, and its count of faults rose
abbrev pub WalkBlames : WalkEnd → (failed : Option Outside → Type 0) → (old new : Outside → ℕ) → Type 0
WalkBlames end.Fault failed old new = (outside : Outside) × failed (Some outside) × CountRose (old outside) (new outside)
WalkBlames _ failed old new = failed None

-- the same of what goes no further, where the object is one that the call of this number uses
abbrev pub ErrBlames : Stop → (failed : Option Outside → Type 0) → (old new : Outside → ℕ) → Type 0
ErrBlames (stop.Fault number) failed old new =
    (outside : Outside) × failed (Some outside) × CountRose (old outside) (new outside) × (uses number outside ≡ true)
ErrBlames _ failed old new = failed None

-- and of a part of a walk: of one that goes no further it is said by what stops it alone, whatever the part gives
abbrev pub StopBlames : Result (Unit {0}) Stop → (failed : Option Outside → Type 0) → (old new : Outside → ℕ) → Type 0
StopBlames (Ok _) failed old new = failed None
StopBlames (Err s) failed old new = ErrBlames s failed old new

abbrev pub PartBlames : {T : Type 0} → Result T Stop → (failed : Option Outside → Type 0) → (old new : Outside → ℕ) → Type 0
PartBlames (Ok _) failed old new = failed None
PartBlames (Err s) failed old new = ErrBlames s failed old new
