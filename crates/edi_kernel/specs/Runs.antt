-- Words of contracts. Whole runs: the choice of the next process, and the rounds of a run.
use Rattle.std.specs.Prelude.{◌≡◌, ℕ, ◌+◌, ◌-◌, ◌<◌, ◌^◌, ◌%◌, Bool, true, false, nat_eq, List, [], length, slice_get, Option, Some, None, ⊤}
use Rattle.edi_calls.specs.declared.ends.Outside.{Outside}
use Rattle.edi_calls.specs.Choice.{Choices, choice}
use Rattle.edi_calls.specs.Ends.{IsUsed}
use Rattle.edi_calls.specs.Names.{Name}
use Rattle.edi_calls.specs.Outcome as outcome
use Rattle.edi_calls.specs.Outcome.{outcome_of}
use Rattle.edi_calls.specs.Ready.{stays, taking, take_next}
use Rattle.edi_calls.specs.State.{State}
use Rattle.edi_target.specs.Check.{CodeParts}
use Rattle.edi_target.specs.Fetch.{fetch}
use Rattle.edi_target.specs.Mach.{Machine, MachineRun, went, finished, run, after_step, entered, Mach}
use Rattle.edi_trace.specs.Drawn.{Drawn}
use Rattle.edi_machine.specs.declared.activity.Activity.{Activity}
use Rattle.edi_machine.specs.Starts.{ActivityBegins}
use Rattle.edi_kernel.specs.declared.ends.Ending.{Ending}
use Rattle.edi_kernel.specs.declared.ends.Ending.TheVariants as ending
use Rattle.edi_kernel.specs.declared.state.KernelState.{KernelState}
use Rattle.edi_kernel.specs.Table.{FirstAlone, Withdraws, ready_slots}
use Rattle.edi_kernel.specs.Kernel.{IsKernel, Holds, HoldsBroken, EndsAs, KeepsWords, FailsAt}
use Rattle.edi_kernel.specs.Moments.{Moment, moment, moment_at, moment_of}
use Rattle.edi_kernel.specs.Stints as stints
use Rattle.edi_kernel.specs.Stints.{stint}
use Rattle.edi_kernel.specs.Enders.{ender_from_start}

-- ---- the next process

-- an index in the list of so many ready processes: the first of a single one, and else by the next choice
abbrev pub PicksBy : Bool → (ready : ℕ) → (old : Drawn) → (index : ℕ) → (new : Drawn) → Type 0
PicksBy true ready old index new = (index ≡ 0) × (new ≡ old)
PicksBy false ready old index new =
    old.drawn < 2 ^ 64 - 1 → (index ≡ choice old.source (old.drawn + 1) % ready) × (new ≡ record old { drawn = old.drawn + 1 })

abbrev pub Picks : (ready : ℕ) → (old : Drawn) → (index : ℕ) → (new : Drawn) → Type 0
Picks ready old index new = PicksBy (nat_eq ready 1) ready old index new

-- The process that stands in the ready list at the index of the rule is taken, and is in no list. All else is as before.
pub record TakesNext (old new : KernelState) (before after : Drawn) : Type 0 where
  pub index : ℕ
  pub picks : Picks (length (ready_slots old.table)) before index after
  pub slot : ℕ
  pub at : slice_get (ready_slots old.table) index ≡ Some slot
  pub withdrawn : Withdraws slot old.table new.table
  pub rest : new ≡ record old { table = new.table; taken = Some slot }

-- where a run ends since nobody is ready, all is as before
abbrev pub EndsUnready : Option Ending → (old new : KernelState) → Type 0
EndsUnready None old new = ⊤
EndsUnready (Some ending.Standstill) old new = (new ≡ old) × (ready_slots old.table ≡ [])
EndsUnready (Some e) old new = ⊥

-- the kernel has taken the process that the rule has as the next of these ready ones
pub record Chooses (k : KernelState) (m : Machine) (old new : Drawn) (ready : List Name) : Type 0 where
  pub name : Name
  pub others : List Name
  pub is : take_next old.source old.drawn ready ≡ taking name others new.drawn
  pub holds : Holds k m (Some name) others

-- the next process is taken, or nobody is ready
abbrev pub Proceeds : Option Ending → KernelState → Machine → (old new : Drawn) → (ready : List Name) → Type 0
Proceeds None k m old new ready = Chooses k m old new ready
Proceeds (Some ending.Standstill) k m old new ready = (ready ≡ []) × (new ≡ old)
Proceeds (Some e) k m old new ready = ⊥

-- ---- the start

-- the first process of this code is taken, the turn of its entry is still due, and none stands at a `when`
pub record Started (code : CodeParts) (k : KernelState) : Type 0 where
  pub kernel : IsKernel k
  pub first : Activity
  pub begins : ActivityBegins (fetch code.words code.entry) code.calls k.store first
  pub alone : FirstAlone k.table first
  pub taken : k.taken ≡ Some 0
  pub entering : k.entering ≡ true
  pub used : k.used ≡ 0
  pub arrived : k.arrived ≡ None
  pub failed : k.failed ≡ false

-- ---- a round of a run: a stint, and the choice of the next process

-- the run from this moment on, and the moments of it
abbrev pub run_from : List ℕ → Choices → ℕ → Moment → MachineRun
run_from words choices n at = run (fetch words) choices n at.machine at.name at.others at.drawn

abbrev pub moment_from : List ℕ → Choices → ℕ → Moment → Option Moment
moment_from words choices n at = moment (fetch words) choices n at.machine at.name at.others at.drawn

-- the run of any number of steps from here comes to what one from there comes to
abbrev pub ComesTo : List ℕ → Choices → (here there : Moment) → Type 0
ComesTo words choices here there = (n : ℕ) (r : MachineRun) → run_from words choices n there ≡ r → (k : ℕ) × (run_from words choices k here ≡ r)

-- each moment of the run from there is one of the run from here
abbrev pub PassesTo : List ℕ → Choices → (here there : Moment) → Type 0
PassesTo words choices here there =
    (n : ℕ) (x : Option Moment) → moment_from words choices n there ≡ x → (k : ℕ) × (moment_from words choices k here ≡ x)

pub record GoesRound (words : List ℕ) (bound : ℕ) (k : KernelState) (now : State) (old new : Drawn) (m : Machine) (p : Name) (others : List Name) : Type 0 where
  pub machine : Machine
  pub name : Name
  pub rest : List Name
  pub comes : ComesTo words old.source (moment_at m p others old.drawn) (moment_at machine name rest new.drawn)
  pub passes : PassesTo words old.source (moment_at m p others old.drawn) (moment_at machine name rest new.drawn)
  pub holds : Holds k machine (Some name) rest
  pub system : machine.system ≡ now
  pub turns : machine.turns ≡ bound - k.used

-- after a standstill the kernel is the machine of that end, where nobody is taken
abbrev pub KeepsMachine : Ending → KernelState → Machine → Type 0
KeepsMachine ending.Standstill k m = (ready : List Name) × Holds k m None ready
KeepsMachine e k m = ⊤

pub record RunEnds (words : List ℕ) (bound : ℕ) (e : Ending) (k : KernelState) (now : State) (old new : Drawn) (m : Machine) (p : Name) (others : List Name) :
    Type 0 where
  pub steps : ℕ
  pub machine : Machine
  pub end : outcome.Ending
  pub is : run (fetch words) old.source steps m p others old.drawn ≡ finished end machine new.drawn
  pub same : EndsAs end e
  pub memory : KeepsWords e machine.memory k.store
  pub system : machine.system ≡ now
  pub turns : machine.turns ≡ bound - k.used
  pub stands : KeepsMachine e k machine

-- an object outside failed in the system call at which the run stands at some moment
pub record RunFails (words : List ℕ) (bound : ℕ) (k : KernelState) (now : State) (old new : Drawn) (m : Machine) (p : Name) (others : List Name) : Type 0 where
  pub steps : ℕ
  pub at : Moment
  pub is : moment (fetch words) old.source steps m p others old.drawn ≡ Some at
  pub fails : FailsAt words at.machine at.name now
  pub drawn : at.drawn ≡ new.drawn
  pub turns : at.machine.turns ≡ bound - k.used

abbrev pub Rounds : List ℕ → (bound : ℕ) → Option Ending → KernelState → State → (old new : Drawn) → Machine → Name → List Name → Type 0
Rounds words bound None k now old new m p others = GoesRound words bound k now old new m p others
Rounds words bound (Some ending.Fault) k now old new m p others = RunFails words bound k now old new m p others
Rounds words bound (Some e) k now old new m p others = RunEnds words bound e k now old new m p others

-- the system call in which an object outside failed uses the object that has failed
abbrev pub RoundsBy : (failed : Option Outside → Type 0) → List ℕ → (bound : ℕ) → Option Ending → KernelState → State → (old new : Drawn) → Machine → Name
    → List Name → Type 0
RoundsBy failed words bound (Some ending.Fault) k now old new m p others =
    (f : RunFails words bound k now old new m p others) × IsUsed f.fails.number failed
RoundsBy failed words bound e k now old new m p others = ⊤

-- a stint of p ends the run so
abbrev pub EndsStint : List ℕ → outcome.Ending → (machine : Machine) → Machine → Name → List Name → Type 0
EndsStint words end machine m p others = (n : ℕ) × (stint (fetch words) n m p others ≡ stints.over end machine)

-- where a round has ended the run by an instruction of p, the kernel is the machine of that end
abbrev pub RoundsBroken : List ℕ → (bound : ℕ) → Option Ending → KernelState → State → (old new : Drawn) → Machine → Name → List Name → Type 0
RoundsBroken words bound None k now old new m p others = ⊤
RoundsBroken words bound (Some ending.Standstill) k now old new m p others = ⊤
RoundsBroken words bound (Some ending.Fault) k now old new m p others = ⊤
RoundsBroken words bound (Some e) k now old new m p others =
    (h : RunEnds words bound e k now old new m p others) × HoldsBroken words e k h.machine p others
    × EndsStint words h.end h.machine m p others × (new.drawn ≡ old.drawn)

-- where the next stint begins: at this machine; or, where the entry's turn is still due, at the one after that turn
abbrev pub IsAtBy : Bool → CodeParts → KernelState → State → (left : ℕ) → Machine → Name → List Name → Type 0
IsAtBy false code k s left m p others = Holds k m (Some p) others × (m.system ≡ s) × (m.turns ≡ left)
IsAtBy true code k s left m p others =
    Started code k × (entered (fetch code.words code.entry) code.entry code.calls left s ≡ went m stays) × (p ≡ []) × (others ≡ [])

abbrev pub IsAt : CodeParts → KernelState → State → (left : ℕ) → Machine → Name → List Name → Type 0
IsAt code k s left m p others = IsAtBy k.entering code k s left m p others

-- ---- a whole run

-- The run of this code ends so after some number of instructions, where so many choices had been drawn before it. With
-- none drawn before this is the machine's definition itself.
abbrev pub EndsAfter : CodeParts → State → (bound : ℕ) → Choices → (before : ℕ) → outcome.Ending → Machine → (drawn : ℕ) → Type 0
EndsAfter code system bound choices before end m drawn =
    (n : ℕ) × (after_step choices (run (fetch code.words) choices n) [] [] before (entered (fetch code.words code.entry) code.entry code.calls bound system)
    ≡ finished end m drawn)

-- the kernel has run this code to its end, exactly as the machine does
pub record RunsAs (code : CodeParts) (system : State) (bound : ℕ) (old : Drawn) (e : Ending) (words : List ℕ) (used : ℕ) (now : State) (new : Drawn) : Type 0
  where
    pub machine : Machine
    pub end : outcome.Ending
    pub is : EndsAfter code system bound old.source old.drawn end machine new.drawn
    pub same : EndsAs end e
    pub memory : KeepsWords e machine.memory words
    pub system_is : machine.system ≡ now
    pub turns : bound - machine.turns ≡ used

-- An object outside failed in the system call at which the run of this code stands after some number of instructions. Up
-- to there each instruction did, and each system call was answered, as the machine's definition has it; that call was to
-- be answered, and the system is as it may be when such a call is torn.
pub record FailsIn (code : CodeParts) (system : State) (bound : ℕ) (old : Drawn) (used : ℕ) (now : State) (new : Drawn) : Type 0 where
  pub steps : ℕ
  pub at : Moment
  pub is : moment_of code system bound old.source old.drawn steps ≡ Some at
  pub fails : FailsAt code.words at.machine at.name now
  pub drawn : at.drawn ≡ new.drawn
  pub turns : bound - at.machine.turns ≡ used

abbrev pub RunsTo : CodeParts → State → (bound : ℕ) → (old : Drawn) → Ending → (words : List ℕ) → (used : ℕ) → (now : State) → (new : Drawn) → Type 0
RunsTo code system bound old ending.Fault words used now new = FailsIn code system bound old used now new
RunsTo code system bound old e words used now new = RunsAs code system bound old e words used now new

-- the same, and the system call in which an object outside failed uses the object that has failed
abbrev pub FailsInBy : (failed : Option Outside → Type 0) → CodeParts → State → (bound : ℕ) → (old : Drawn) → (used : ℕ) → (now : State) → (new : Drawn)
    → Type 0
FailsInBy failed code system bound old used now new = (f : FailsIn code system bound old used now new) × IsUsed f.fails.number failed

-- so where the run has ended by a fault
abbrev pub FaultsBy : (failed : Option Outside → Type 0) → CodeParts → State → (bound : ℕ) → (old : Drawn) → Ending → (used : ℕ) → (now : State)
    → (new : Drawn) → Type 0
FaultsBy failed code system bound old ending.Fault used now new = FailsInBy failed code system bound old used now new
FaultsBy failed code system bound old e used now new = ⊤

-- the machine in which this run of the code came to a standstill: the kernel is that machine, where nobody is taken
pub record StandsStill (code : CodeParts) (system : State) (bound : ℕ) (old : Drawn) (k : KernelState) (new : Drawn) : Type 0 where
  pub machine : Machine
  pub is : EndsAfter code system bound old.source old.drawn outcome.standstill machine new.drawn
  pub ready : List Name
  pub holds : Holds k machine None ready

-- The machine in which this run of the code ended by an instruction of the process `name`: the kernel is that machine, but that nobody is
-- marked, and that this process is still taken and goes on.
pub record StandsBroken (code : CodeParts) (system : State) (bound : ℕ) (old : Drawn) (e : Ending) (k : KernelState) (new : Drawn) : Type 0 where
  pub machine : Machine
  pub end : outcome.Ending
  pub is : EndsAfter code system bound old.source old.drawn end machine new.drawn
  pub same : EndsAs end e
  pub name : Name
  pub ran : ender_from_start (fetch code.words) code.entry code.calls system bound old.source old.drawn is.0 ≡ Some name
  pub others : List Name
  pub broken : HoldsBroken code.words e k machine name others

-- after each end of a run but a fault the kernel is the machine of that end
abbrev pub StandsIn : CodeParts → State → (bound : ℕ) → (old : Drawn) → Ending → KernelState → (new : Drawn) → Type 0
StandsIn code system bound old ending.Standstill k new = StandsStill code system bound old k new
StandsIn code system bound old ending.Fault k new = ⊤
StandsIn code system bound old e k new = StandsBroken code system bound old e k new

-- where no choice had been drawn before, a run of the kernel has an outcome of the machine's definition
abbrev pub RunsAreTheMachines : Type 0
RunsAreTheMachines =
    (code : CodeParts) (system : State) (bound : ℕ) (old new : Drawn) (e : Ending) (words : List ℕ) (used : ℕ) (now : State) → old.drawn ≡ 0
    → (r : RunsAs code system bound old e words used now new) →
    Mach (fetch code.words) code.entry code.calls system bound old.source (outcome_of now r.end used new.drawn)
