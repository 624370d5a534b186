-- Words of contracts. What the kernel keeps, and how it stands for a machine.
use Rattle.std.specs.Prelude.{◌≡◌, ◌⊎◌, ℕ, ◌+◌, ◌-◌, ◌<◌, ◌==◌, ◌++◌, Bool, true, false, List, [], ◌∷◌, length, map, Option, Some, None, IfSome, if◌then◌else◌, ⊤}
use Rattle.std.specs.Option.{option_map}
use Rattle.edi_calls.specs.declared.ends.Outside.{Outside}
use Rattle.edi_calls.specs.Names.{Name, find, with_at}
use Rattle.edi_calls.specs.Outcome as outcome
use Rattle.edi_calls.specs.Ready.{children}
use Rattle.edi_calls.specs.State.{State}
use Rattle.edi_calls.specs.Calls.{call}
use Rattle.edi_calls.specs.Ends.{IsUsed}
use Rattle.edi_target.specs.Fetch.{fetch}
use Rattle.edi_target.specs.Effect.{Local, asks}
use Rattle.edi_target.specs.Mach as mach
use Rattle.edi_target.specs.Mach.{Machine, activity_of, running_of, is_first}
use Rattle.edi_machine.specs.declared.activity.Activity.{Activity}
use Rattle.edi_machine.specs.declared.ends.TurnKind.{TurnKind}
use Rattle.edi_machine.specs.declared.ends.TurnKind.TheVariants as kind
use Rattle.edi_machine.specs.Activities.{IsOrdered, local_of}
use Rattle.edi_machine.specs.Starts.{branches_at}
use Rattle.edi_machine.specs.Steps.{Tears, effect_of}
use Rattle.edi_kernel.specs.declared.ends.Ending.{Ending}
use Rattle.edi_kernel.specs.declared.ends.Ending.TheVariants as ending
use Rattle.edi_kernel.specs.declared.ends.StintEnd.{StintEnd}
use Rattle.edi_kernel.specs.declared.ends.StintEnd.TheVariants as stint_end
use Rattle.edi_kernel.specs.declared.stretch.Pause.{Pause}
use Rattle.edi_kernel.specs.declared.stretch.Pause.TheVariants as pause
use Rattle.edi_kernel.specs.declared.table.Standing.TheVariants as standing
use Rattle.edi_kernel.specs.declared.table.Table.{Table}
use Rattle.edi_kernel.specs.declared.state.KernelState.{KernelState}
use Rattle.edi_kernel.specs.Table.{PutsProcess, Removed, at_its_when, going_by, waiting_for, process_at, marks_with, marked_with, unmarked, ready_slots}
use Rattle.edi_kernel.specs.Table.{with_process}
use Rattle.edi_kernel.specs.Stretch.{IsExecuted}
use Rattle.edi_kernel.specs.TableIsMachine.{IsTable, IsTaken, IsBetween, Naming, TableIsMachine}
use Rattle.edi_kernel.specs.Stints as stints
use Rattle.edi_kernel.specs.Stints.{stint, followed}
use Rattle.edi_kernel.specs.Forks.{HaveBegun}

-- ---- what every kernel keeps

abbrev pub IsTakenIn : Table → Option ℕ → Type 0
IsTakenIn t None = IsBetween t
IsTakenIn t (Some slot) = IsTaken t slot

pub record IsKernel (k : KernelState) : Type 0 where
  pub table : IsTable k.table
  pub taken : IsTakenIn k.table k.taken
  pub arrived : IfSome k.arrived IsOrdered

-- ---- the kernel and the machine

-- The kernel is this machine, where this process is taken, if any is, and these others are ready in this order.
pub record Holds (k : KernelState) (m : Machine) (taken : Option Name) (ready : List Name) : Type 0 where
  pub naming : Naming
  pub stands : TableIsMachine k.table naming m
  pub memory : m.memory ≡ k.store
  pub is_taken : taken ≡ option_map naming.name k.taken
  pub is_ready : ready ≡ map naming.name (ready_slots k.table)

-- ---- the end of a run

-- the machine in which the process p goes on as `l` says, and nobody is marked
abbrev pub going_on : Machine → Name → Local → (forks : ℕ) → Machine
going_on m p l forks = record m { memory = l.memory; activities = with_at m.activities p (activity_of l forks mach.ready); marks = [] }

-- How the process p goes on whose instruction ended the run in this machine: as before that instruction, which has changed nothing. Where no
-- turn was left for it, it has been executed all the same, unless it was the program's entry.
abbrev pub GoesOnAs : List ℕ → Ending → Machine → Name → (was now : Local) → Type 0
GoesOnAs words ending.Turns m p was now = (now ≡ was) ⊎ IsExecuted words (length m.activities) (is_first p) was now
GoesOnAs words e m p was now = now ≡ was

-- The run has ended in this machine by an instruction of the process p, beside these ready ones. The kernel is the machine, but that nobody
-- is marked, and that p is still taken and goes on.
pub record HoldsBroken (words : List ℕ) (e : Ending) (k : KernelState) (m : Machine) (p : Name) (others : List Name) : Type 0 where
  pub activity : mach.Activity
  pub found : find m.activities p ≡ Some activity
  pub local : Local
  pub goes_on : GoesOnAs words e m p (running_of m activity).local local
  pub holds : Holds k (going_on m p local activity.forks) (Some p) others

-- ---- stints

abbrev pub EndsAs : outcome.Ending → Ending → Type 0
EndsAs outcome.done ending.Done = ⊤
EndsAs (outcome.halted line) (ending.Halted at) = at ≡ line
EndsAs (outcome.failed cause line) (ending.Failed c at) = (c ≡ cause) × (at ≡ line)
EndsAs outcome.turns ending.Turns = ⊤
EndsAs outcome.standstill ending.Standstill = ⊤
EndsAs (outcome.bad address) (ending.Bad at) = at ≡ address
EndsAs _ _ = ⊥

-- an ending of the kernel as one of the definition; a fault of an object outside is none
abbrev pub ending_of : Ending → Option outcome.Ending
ending_of ending.Done = Some outcome.done
ending_of (ending.Halted line) = Some (outcome.halted line)
ending_of (ending.Failed cause line) = Some (outcome.failed cause line)
ending_of ending.Turns = Some outcome.turns
ending_of ending.Standstill = Some outcome.standstill
ending_of (ending.Bad address) = Some (outcome.bad address)
ending_of ending.Fault = None

-- after these endings the words of the memory are those of the machine
abbrev pub KeepsWords : Ending → (machine kept : List ℕ) → Type 0
KeepsWords ending.Done machine kept = machine ≡ kept
KeepsWords (ending.Halted line) machine kept = machine ≡ kept
KeepsWords (ending.Failed cause line) machine kept = machine ≡ kept
KeepsWords ending machine kept = ⊤

-- the stint switches, and the kernel is the machine that it leaves, with so many turns left
pub record Switches (words : List ℕ) (left : ℕ) (k : KernelState) (now : State) (m : Machine) (p : Name) (others : List Name) : Type 0 where
  pub steps : ℕ
  pub machine : Machine
  pub joined : List Name
  pub is : stint (fetch words) steps m p others ≡ stints.switched machine joined
  pub holds : Holds k machine None (others ++ joined)
  pub system : machine.system ≡ now
  pub turns : machine.turns ≡ left

-- the stint ends the run
pub record EndsRun (words : List ℕ) (left : ℕ) (e : Ending) (k : KernelState) (now : State) (m : Machine) (p : Name) (others : List Name) : Type 0 where
  pub steps : ℕ
  pub machine : Machine
  pub end : outcome.Ending
  pub is : stint (fetch words) steps m p others ≡ stints.over end machine
  pub same : EndsAs end e
  pub memory : KeepsWords e machine.memory k.store
  pub system : machine.system ≡ now
  pub turns : machine.turns ≡ left

-- The next instruction of p in this machine is a system call that was to be answered. An object outside failed in it, and
-- the system is now as it may be when such a call is torn.
pub record FailsAt (words : List ℕ) (m : Machine) (p : Name) (now : State) : Type 0 where
  pub activity : mach.Activity
  pub found : find m.activities p ≡ Some activity
  pub number : ℕ
  pub arguments : List ℕ
  pub address : Option ℕ
  pub line : ℕ
  pub next : Local
  pub effect : effect_of words (length m.activities) (is_first p) (running_of m activity).local ≡ asks number arguments address line next
  pub tears : Tears (call number arguments m.system) m.system now

-- the stint comes to a system call in which an object outside failed, with so many turns left
pub record BreaksOff (words : List ℕ) (left : ℕ) (now : State) (m : Machine) (p : Name) (others : List Name) : Type 0 where
  pub steps : ℕ
  pub machine : Machine
  pub is : followed (fetch words) steps m p others ≡ Some machine
  pub fails : FailsAt words machine p now
  pub turns : machine.turns ≡ left

-- the activity that the kernel keeps is the one with which p stands at its `when` in this machine
pub record StandsArrived (k : KernelState) (m : Machine) (p : Name) : Type 0 where
  pub activity : Activity
  pub forks : ℕ
  pub arrival : k.arrived ≡ Some activity
  pub found : find m.activities p ≡ Some (activity_of (local_of [] activity) forks mach.at_when)

-- the processes that join are the children of a fork of p, one at least
pub record ForksInto (p : Name) (joined : List Name) : Type 0 where
  pub fork : ℕ
  pub number : ℕ
  pub some : 0 < number
  pub are : joined ≡ children p fork 0 number

-- how the stint of p ends, where so many turns were left at its start
abbrev pub GoesTo : List ℕ → StintEnd → (left : ℕ) → KernelState → State → Machine → Name → List Name → Type 0
GoesTo words (stint_end.Over used ending.Fault) left k now m p others = BreaksOff words (left - used) now m p others
GoesTo words (stint_end.Over used ending.Standstill) left k now m p others =
    (h : EndsRun words (left - used) ending.Standstill k now m p others) × StandsArrived k h.machine p × (h.machine.memory ≡ k.store)
    × Holds k h.machine None (others ++ p ∷ [])
GoesTo words (stint_end.Over used e) left k now m p others = EndsRun words (left - used) e k now m p others
GoesTo words (stint_end.Arrived used) left k now m p others =
    (h : Switches words (left - used) k now m p others) × StandsArrived k h.machine p
GoesTo words (stint_end.Forked used) left k now m p others =
    (h : Switches words (left - used) k now m p others) × ForksInto p h.joined
GoesTo words (stint_end.Exited used) left k now m p others =
    (h : Switches words (left - used) k now m p others) × (find h.machine.activities p ≡ None)

-- where the stint of p comes to a call in which an object outside failed, this call uses the object that has failed
abbrev pub BreaksBy : (failed : Option Outside → Type 0) → List ℕ → StintEnd → (left : ℕ) → State → Machine → Name → List Name → Type 0
BreaksBy failed words (stint_end.Over used ending.Fault) left now m p others =
    (b : BreaksOff words (left - used) now m p others) × IsUsed b.fails.number failed
BreaksBy failed words end left now m p others = ⊤

abbrev pub used_in : StintEnd → ℕ
used_in (stint_end.Arrived used) = used
used_in (stint_end.Forked used) = used
used_in (stint_end.Exited used) = used
used_in (stint_end.Over used ending) = used

abbrev pub is_over : StintEnd → Bool
is_over (stint_end.Over used ending) = true
is_over end = false

-- how the run has ended, if it has
abbrev pub ended_by : StintEnd → Option Ending
ended_by (stint_end.Over used ending) = Some ending
ended_by end = None

-- the pause that a fault is, if the stint ended by one
abbrev pub faulted : StintEnd → Option Pause
faulted (stint_end.Over used ending.Fault) = Some (pause.Over ending.Fault)
faulted end = None

abbrev pub fault_of : Option Ending → Option Pause
fault_of (Some ending.Fault) = Some (pause.Over ending.Fault)
fault_of e = None

-- The process that was taken stands at its `when` with the activity that the kernel keeps, and went to the back of those
-- that were ready.
pub record StandsLast (taken : Option ℕ) (ready : List ℕ) (t : Table) (arrived : Option Activity) : Type 0 where
  pub slot : ℕ
  pub was : taken ≡ Some slot
  pub last : ready_slots t ≡ ready ++ slot ∷ []
  pub activity : Activity
  pub arrival : arrived ≡ Some activity
  pub standing : (process_at t slot).standing ≡ standing.AtWhen
  pub is : (process_at t slot).activity ≡ activity

-- a process stands so after an arrival, and after the attempt that completes a standstill; after any other end none is kept
abbrev pub StandsAfter : StintEnd → (taken : Option ℕ) → (ready : List ℕ) → Table → (arrived : Option Activity) → Type 0
StandsAfter (stint_end.Arrived used) taken ready t arrived = StandsLast taken ready t arrived
StandsAfter (stint_end.Over used ending.Standstill) taken ready t arrived = StandsLast taken ready t arrived
StandsAfter end taken ready t arrived = arrived ≡ None

-- The same at the end of a run: after a standstill the process whose attempt completed it stands so, unless none was left that
-- is ready.
abbrev pub StandsAtEnd : Option Ending → Table → (arrived : Option Activity) → Type 0
StandsAtEnd None t arrived = ⊤
StandsAtEnd (Some ending.Standstill) t arrived =
    ((taken : Option ℕ) × (ready : List ℕ) × StandsLast taken ready t arrived) ⊎ ((arrived ≡ None) × (ready_slots t ≡ []))
StandsAtEnd (Some e) t arrived = arrived ≡ None

-- whether a stint that ended so has ended by an attempt that failed: it may have after an arrival, it has after a standstill, and it
-- has not after any other end
abbrev pub MayFail : StintEnd → (failed : Bool) → Type 0
MayFail (stint_end.Arrived used) failed = ⊤
MayFail (stint_end.Over used ending.Standstill) failed = failed ≡ true
MayFail end failed = failed ≡ false

-- the same end of a stint after so many more turns
abbrev pub later_by : ℕ → StintEnd → StintEnd
later_by n (stint_end.Arrived used) = stint_end.Arrived (used + n)
later_by n (stint_end.Forked used) = stint_end.Forked (used + n)
later_by n (stint_end.Exited used) = stint_end.Exited (used + n)
later_by n (stint_end.Over used ending) = stint_end.Over (used + n) ending

-- ---- what a pause changes

abbrev pub IsForked : (words : List ℕ) → (slot : ℕ) → Activity → (at : ℕ) → (old new : KernelState) → Type 0
IsForked words slot a at old new =
    let branches = branches_at words at in
    let waits = waiting_for (length branches) (process_at old.table slot) a in
    HaveBegun slot a branches old.store (with_process (unmarked old.table) slot waits) (length branches) new.store new.table

-- the turn of an attempt that marks its process: where all ready ones are marked then, the run is at a standstill
abbrev pub attempt_end : Bool → (used : ℕ) → StintEnd
attempt_end true used = stint_end.Over used ending.Standstill
attempt_end false used = stint_end.Arrived used

-- the turn of an attempt of which no condition was true
abbrev pub is_failure : TurnKind → Bool
is_failure (kind.Again marks) = true
is_failure kind = false

abbrev pub HandlesTurn : TurnKind → (words : List ℕ) → (slot used : ℕ) → Activity → (old new : KernelState) → StintEnd → Type 0
HandlesTurn (kind.Again true) words slot used a old new result =
    PutsProcess 0 slot (at_its_when (process_at old.table slot) a) (marked_with old.table slot) new.table × (new.store ≡ old.store)
    × (result ≡ attempt_end (marks_with old.table slot == length (ready_slots new.table)) used) × (new.arrived ≡ Some a) × (new.failed ≡ true)
HandlesTurn (kind.Fork at) words slot used a old new result =
    IsForked words slot a at old new × (result ≡ stint_end.Forked used) × (new.failed ≡ false)
HandlesTurn kind.Exit words slot used a old new result =
    Removed slot (unmarked old.table) new.table × (new.store ≡ old.store) × (result ≡ stint_end.Exited used) × (new.failed ≡ false)
HandlesTurn kind words slot used a old new result =
    PutsProcess 0 slot (at_its_when (process_at old.table slot) a) (unmarked old.table) new.table × (new.store ≡ old.store)
    × (result ≡ stint_end.Arrived used) × (new.arrived ≡ Some a) × (new.failed ≡ is_failure kind)

-- whether a process pauses because it has arrived at a `when`
abbrev pub is_arrival : Pause → Bool
is_arrival (pause.At kind.Arrive) = true
is_arrival pause = false

-- the kernel, where it is noted that a process has arrived with this activity
abbrev pub noting : Activity → KernelState → KernelState
noting a k = record k { arrived = Some a; failed = false }

-- whether a stint has ended by an arrival, also by that of an attempt
abbrev pub is_arrived : StintEnd → Bool
is_arrived (stint_end.Arrived used) = true
is_arrived end = false

-- A call that leaves `new` may be told to note no arrival; what it promises, it promises of `noted`, where one is noted. All else is the same,
-- and `new` is `noted` where it was told to note, or where the stint has not ended by an arrival.
pub record IsNotedAs (notes : Bool) (old noted new : KernelState) (result : StintEnd) : Type 0 where
  pub rest : new ≡ record noted { arrived = new.arrived; failed = new.failed }
  pub noting : notes ≡ true → new ≡ noted
  pub other : is_arrived result ≡ false → new ≡ noted
  pub arrived : (new.arrived ≡ noted.arrived) ⊎ (new.arrived ≡ old.arrived)

-- marks are taken away where that is noted
abbrev pub paused : (cleared : Bool) → KernelState → KernelState
paused cleared k = record k { table = if cleared then unmarked k.table else k.table }

-- who is taken after a pause: nobody after a turn, and after an end of the run still the process that ended it
abbrev pub taken_after : Pause → Option ℕ → Option ℕ
taken_after (pause.At kind) taken = None
taken_after (pause.Over ending) taken = taken

-- the process at this slot, with this activity, pauses after so many turns
abbrev pub Handles : Pause → (words : List ℕ) → (slot used : ℕ) → Activity → (old new : KernelState) → StintEnd → Type 0
Handles (pause.Over ending) words slot used a old new result =
    (new.table ≡ with_process (unmarked old.table) slot (going_by (process_at old.table slot) a)) × (new.store ≡ old.store)
    × (result ≡ stint_end.Over used ending)
Handles (pause.At kind) words slot used a old new result = HandlesTurn kind words slot used a old new result

-- the pause is handled, and an arrival is noted or not
pub record Settles (notes : Bool) (pause : Pause) (words : List ℕ) (slot used : ℕ) (a : Activity) (cleared : Bool) (old new : KernelState)
    (result : StintEnd) : Type 0 where
  pub noted : KernelState
  pub is : IsNotedAs notes old noted new result
  pub handles : Handles pause words slot used a (paused cleared old) noted result
  pub standing : StandsAfter result (Some slot) (ready_slots old.table) noted.table noted.arrived
  pub failed : MayFail result noted.failed
