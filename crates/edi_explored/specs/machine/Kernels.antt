-- Words of contracts. What a search with a kernel has to have done: of each state that it keeps, a stint of each ready process from a kernel to
-- which that state was put back.
use Rattle.std.specs.Prelude.{◌≡◌, ◌⊎◌, ◌^◌, ℕ, suc, ◌<◌, ◌≤◌, true, false, List, length, Contains, Some, None, ⊤}
use Rattle.edi_calls.specs.Names.{Name}
use Rattle.edi_calls.specs.Outcome as outcome
use Rattle.edi_calls.specs.Ready.{name_at, without_index}
use Rattle.edi_calls.specs.State.{State}
use Rattle.edi_target.specs.Check.{CodeParts}
use Rattle.edi_target.specs.Fetch.{fetch}
use Rattle.edi_target.specs.Mach.{Machine}
use Rattle.edi_kernel.specs.declared.ends.Ending.{Ending}
use Rattle.edi_kernel.specs.declared.ends.Ending.TheVariants as ending
use Rattle.edi_kernel.specs.declared.ends.StintEnd.{StintEnd}
use Rattle.edi_kernel.specs.declared.ends.StintEnd.TheVariants as stint_end
use Rattle.edi_kernel.specs.declared.kept.Kept.{Kept}
use Rattle.edi_kernel.specs.declared.state.KernelState.{KernelState}
use Rattle.edi_kernel.specs.Table.{is_live, no_marks, ready_slots}
use Rattle.edi_kernel.specs.Kernel.{IsKernel, Holds, EndsAs, GoesTo, is_over}
pub use Rattle.edi_kernel.specs.Kernel.{ending_of}
use Rattle.edi_kernel.specs.Kept.{IsKeptOf}
use Rattle.edi_kernel.specs.Runs.{Started, IsAt}
use Rattle.edi_unit.specs.Tree.{ProgramUnit}
use Rattle.edi_scheme.specs.Code.{code_of}
use Rattle.edi_follows.specs.places.Coded.{Coded}
use Rattle.edi_explored.specs.Reached.{IsReached, IsShown}
use Rattle.edi_explored.specs.Covered.{Report, Tells, tells_shown}
use Rattle.edi_explored.specs.machine.Alike.{Alike}

-- the live processes of this kernel are those that are kept
pub record AreKeptOf (processes : List Kept) (k : KernelState) : Type 0 where
  pub each : (kept : Kept) → Contains processes kept → IsKeptOf k kept
  pub all : (slot : ℕ) → is_live k.table slot ≡ true → (kept : Kept) × Contains processes kept × (kept.slot ≡ slot)

-- their frames share no word, so that they can be put back one after another
abbrev pub AreApart : List Kept → Type 0
AreApart processes =
    (a b : Kept) → Contains processes a → Contains processes b → (a.slot ≡ b.slot → ⊥) → (a.top ≤ b.first) ⊎ (b.top ≤ a.first)

-- a kernel between two stints that has these processes, of which none is marked
pub record IsBack (processes : List Kept) (k : KernelState) : Type 0 where
  pub kernel : IsKernel k
  pub free : k.taken ≡ None
  pub unmarked : k.table.marked ≡ no_marks
  pub long : length k.store ≡ 2 ^ 16
  pub has : AreKeptOf processes k

-- the code is that of the unit
pub record IsCodeOf (g : Coded) (code : CodeParts) : Type 0 where
  pub fetched : g.fetched ≡ fetch code.words
  pub entry : code.entry ≡ 0
  pub calls : code.calls ≡ g.unit.calls

pub record IsUnitCode (unit : ProgramUnit) (code : CodeParts) : Type 0 where
  pub words : code.words ≡ code_of unit
  pub entry : code.entry ≡ 0
  pub calls : code.calls ≡ unit.calls

-- these choices reach what this ending is, with all that is shown
abbrev pub ReachesAs : ProgramUnit → State → (choices : List ℕ) → Ending → (shown : List ℕ) → Type 0
ReachesAs unit system choices e shown =
    (end : outcome.Ending) → ending_of e ≡ Some end → (end ≡ outcome.turns → ⊥) → IsReached unit system choices end × IsShown unit system choices end shown

-- whether a stint was only an attempt that failed
abbrev pub IsFailed : StintEnd → KernelState → Type 0
IsFailed (stint_end.Over used ending.Standstill) k = ⊤
IsFailed (stint_end.Over used e) k = ⊥
IsFailed end k = 0 < k.table.marks

module _ (code : CodeParts) (start : State) (bound : ℕ) (report : Report) (V : Type 0) (processes : V → List Kept) (slots : V → List ℕ)
    (system : V → State) (Begun : ℕ → Type 0) (Has : ℕ → V → Type 0) where
  -- where a stint leads that leaves nobody marked: to what is had
  abbrev pub LeadsOn : ℕ → KernelState → State → Type 0
  LeadsOn n k now = k.table.marks ≡ 0 → (w : V) × Has n w × AreKeptOf (processes w) k × Alike (tells_shown report) (system w) now

  -- what was found of a stint: not cut, and no fault of an object; an ending is told; a standstill or a marked process is a failed attempt
  abbrev pub IsFound : ℕ → StintEnd → KernelState → State → Type 0
  IsFound n (stint_end.Over used ending.Turns) k now = ⊥
  IsFound n (stint_end.Over used ending.Fault) k now = ⊥
  IsFound n (stint_end.Over used ending.Standstill) k now = ⊤
  IsFound n (stint_end.Over used e) k now = (end : outcome.Ending) → EndsAs end e → Tells report end now.shown
  IsFound n end k now = LeadsOn n k now

  -- a stint of the process at this index of the ready list
  pub record StintOf (n : ℕ) (v : V) (index : ℕ) : Type 0 where
    pub back : KernelState
    pub is_back : IsBack (processes v) back
    pub order : ready_slots back.table ≡ slots v
    pub taken : KernelState
    pub takes : (m : Machine) (ready : List Name) → Holds back m None ready → Holds taken m (Some (name_at ready index)) (without_index ready index)
    pub entering : taken.entering ≡ false
    pub end : StintEnd
    pub after : KernelState
    pub now : State
    pub goes : (m : Machine) (p : Name) (others : List Name) → IsAt code taken (system v) bound m p others → GoesTo code.words end bound after now m p others
    pub kernel : IsKernel after
    pub long : length after.store ≡ 2 ^ 16
    pub free : is_over end ≡ false → after.taken ≡ None
    pub found : IsFound n end after now

  -- the first one, behind the entry of the program
  pub record FirstStint (n : ℕ) : Type 0 where
    pub started : KernelState
    pub starts : Started code started
    pub end : StintEnd
    pub after : KernelState
    pub now : State
    pub goes : (m : Machine) (p : Name) (others : List Name) → IsAt code started start bound m p others → GoesTo code.words end bound after now m p others
    pub kernel : IsKernel after
    pub long : length after.store ≡ 2 ^ 16
    pub free : is_over end ≡ false → after.taken ≡ None
    pub found : IsFound n end after now

  -- one of the stints was more than a failed attempt
  pub record OneGoes (n : ℕ) (v : V) : Type 0 where
    pub index : ℕ
    pub among : index < length (slots v)
    pub one : StintOf n v index
    pub goes : IsFailed one.end one.after → ⊥

  -- THE SEARCH HAS FOLLOWED EVERYTHING within n moves of what it has: `Has n v` says that it has v, and all that fewer than n moves lead to from
  -- there, and `Begun n` says so of the start of the program
  pub record FollowedKernels : Type 0 where
    pub some : 0 < bound
    pub first : (n : ℕ) → Begun (suc n) → FirstStint n
    -- what is had was kept of some kernel, whose ready list was this
    pub kept : (n : ℕ) (v : V) → Has (suc n) v → (k : KernelState) × IsBack (processes v) k × (ready_slots k.table ≡ slots v)
    pub follows : (n : ℕ) (v : V) → Has (suc n) v → AreApart (processes v) → (index : ℕ) → index < length (slots v) → StintOf n v index
    -- a standstill is told, or one of them goes
    pub stands : (n : ℕ) (v : V) → Has (suc n) v → AreApart (processes v) → Tells report outcome.standstill (system v).shown ⊎ OneGoes n v
