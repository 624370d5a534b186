-- Words of contracts. What a taken process does until it gives way: a stretch of steps of the one activity.
use Rattle.std.specs.Prelude.{◌≡◌, ℕ, zero, suc, ◌+◌, ◌-◌, ◌<◌, ◌≤◌, ◌⊎◌, Bool, true, false, ◌&&◌, ◌||◌, nat_eq, List, length, Option, Some, None, ⊤}
use Rattle.edi_told.specs.Faults.{CountRose}
use Rattle.edi_calls.specs.declared.ends.Outside.{Outside}
use Rattle.edi_calls.specs.declared.kinds.Cause.{Cause}
use Rattle.edi_calls.specs.declared.kinds.Cause.TheVariants as cause
use Rattle.edi_calls.specs.State.{State}
use Rattle.edi_calls.specs.Calls.{call}
use Rattle.edi_calls.specs.Outcome as outcome
use Rattle.edi_target.specs.Op.{Instruction}
use Rattle.edi_target.specs.Fetch.{fetch}
use Rattle.edi_target.specs.Effect.{Local, Turn, entering, leaving, looping, arriving, again, forking, exiting, finishing, asks, due}
use Rattle.edi_target.specs.Mach.{Running, Answer, on, behind, turned, over, local_step}
use Rattle.edi_machine.specs.declared.activity.Activity.{Activity}
use Rattle.edi_machine.specs.declared.ends.TurnKind.{TurnKind}
use Rattle.edi_machine.specs.declared.ends.TurnKind.TheVariants as kind
use Rattle.edi_machine.specs.declared.ends.StepEnd.{StepEnd}
use Rattle.edi_machine.specs.declared.ends.StepEnd.TheVariants as end
use Rattle.edi_machine.specs.Activities.{local_of}
use Rattle.edi_machine.specs.Starts.{IsFork, branches_at}
use Rattle.edi_machine.specs.Steps.{Tears, UsesFailed, effect_of}
use Rattle.edi_kernel.specs.declared.ends.Ending.{Ending}
use Rattle.edi_kernel.specs.declared.ends.Ending.TheVariants as ending
use Rattle.edi_kernel.specs.declared.stretch.Pause.{Pause}
use Rattle.edi_kernel.specs.declared.stretch.Pause.TheVariants as pause
use Rattle.edi_kernel.specs.declared.stretch.Plain.{Plain}
use Rattle.edi_kernel.specs.declared.stretch.Plain.TheVariants as plain
use Rattle.edi_kernel.specs.declared.stretch.Progress.{Progress}

-- the activity with the memory, the system and the turns that are left
abbrev pub running_in : List ℕ → Activity → State → ℕ → Running
running_in memory a system left = record { local = local_of memory a; system = system; turns = left }

-- ---- the definition: steps of one activity

-- where a stretch of steps ends, and whether marks were taken away on the way
pub data Paused : Type 0 where
  -- it goes on
  going : Paused
  -- it took a turn that the kernel handles
  pausing : Turn → Running → (cleared : Bool) → Paused
  -- the run has ended
  stopping : outcome.Ending → Running → (cleared : Bool) → Paused

-- a turn in which a process goes on takes the marks away
abbrev pub after_turn : (Running → Bool → Paused) → Bool → Turn → Running → Paused
after_turn more cleared entering r = more r true
after_turn more cleared leaving r = more r true
after_turn more cleared looping r = more r true
after_turn more cleared turn r = pausing turn r cleared

abbrev pub after_answer : (Running → Bool → Paused) → Bool → Answer → Paused
after_answer more cleared (on r) = more r cleared
after_answer more cleared (behind r) = more r true
after_answer more cleared (turned turn r) = after_turn more cleared turn r
after_answer more cleared (over ending r) = stopping ending r cleared

-- the same, where only an activity counts that goes on
abbrev pub walk_turn : (Running → Bool → Option (Running × Bool)) → Turn → Running → Option (Running × Bool)
walk_turn more entering r = more r true
walk_turn more leaving r = more r true
walk_turn more looping r = more r true
walk_turn more turn r = None

abbrev pub walk_on : (Running → Bool → Option (Running × Bool)) → Bool → Answer → Option (Running × Bool)
walk_on more cleared (on r) = more r cleared
walk_on more cleared (behind r) = more r true
walk_on more cleared (turned turn r) = walk_turn more turn r
walk_on more cleared (over ending r) = None

module _ (fetch : ℕ → Option (Instruction × ℕ)) (live : ℕ) (is_first : Bool) where
  -- at most n steps
  abbrev pub stretch : ℕ → Running → Bool → Paused
  stretch zero r cleared = going
  stretch (suc n) r cleared = after_answer (stretch n) cleared (local_step fetch live is_first r)

  -- where the activity is after n steps, if it goes on in each of them
  abbrev pub walked : ℕ → Running → Bool → Option (Running × Bool)
  walked zero r cleared = Some (r, cleared)
  walked (suc n) r cleared = walk_on (walked n) cleared (local_step fetch live is_first r)

-- ---- the code

abbrev pub failure_of : Cause → ℕ → Ending
failure_of cause.Halt line = ending.Halted line
failure_of c line = ending.Failed c line

abbrev pub pause_by : TurnKind → Option Pause
pause_by kind.Enter = None
pause_by kind.End = None
pause_by kind.Loop = None
pause_by kind.ProgramEnd = Some (pause.Over ending.Done)
pause_by kind = Some (pause.At kind)

abbrev pub pause_with : ℕ → TurnKind → Option Pause
pause_with zero kind = Some (pause.Over ending.Turns)
pause_with (suc n) kind = pause_by kind

-- whether a process pauses whose instruction ended so, with so many turns left
abbrev pub pause_of : StepEnd → ℕ → Option Pause
pause_of end.On left = None
pause_of (end.Turn kind) left = pause_with left kind
pause_of (end.Fail c line) left = Some (pause.Over (failure_of c line))
pause_of (end.Bad at) left = Some (pause.Over (ending.Bad at))
pause_of end.Fault left = Some (pause.Over ending.Fault)

abbrev pub left_after : StepEnd → ℕ → ℕ
left_after (end.Turn kind) left = left - 1
left_after end left = left

abbrev pub goes_on : TurnKind → Bool
goes_on kind.Enter = true
goes_on kind.End = true
goes_on kind.Loop = true
goes_on kind = false

-- whether an instruction that ended so takes the marks away
abbrev pub clears_after : StepEnd → (before after : ℕ) → Bool
clears_after end.On before after = nat_eq before 1 && nat_eq after 0
clears_after (end.Turn kind) before after = goes_on kind
clears_after end before after = false

-- whether marks were taken away, of an activity that goes on: as it is noted, or at the end of the phase in which it began
abbrev pub cleared_by : (noted phase : Bool) → (held : ℕ) → Bool
cleared_by noted phase held = noted || (phase && nat_eq held 0)

abbrev pub cleared_in : Progress → Bool
cleared_in p = cleared_by p.cleared p.phase p.activity.held

-- the same of an activity that may pause: then it is noted
abbrev pub cleared_of : Option Pause → (noted phase : Bool) → (held : ℕ) → Bool
cleared_of None noted phase held = cleared_by noted phase held
cleared_of (Some pause) noted phase held = noted

abbrev pub cleared_at : Option Pause → Progress → Bool
cleared_at result p = cleared_of result p.cleared p.phase p.activity.held

-- what is noted after an instruction that ended so, before which the activity held so many phases and calls
abbrev pub noted_after : StepEnd → (noted phase : Bool) → (held : ℕ) → Bool
noted_after end.On noted phase held = noted
noted_after (end.Turn kind) noted phase held = goes_on kind || cleared_by noted phase held
noted_after end noted phase held = cleared_by noted phase held

-- the progress of an activity that has done nothing yet
abbrev pub at_start : Activity → (left : ℕ) → Progress
at_start a left = record { activity = a; left = left; cleared = false; phase = nat_eq a.held 1 }

-- an activity that is in a phase began in it, where no marks are noted as taken away
abbrev pub IsInPhase : Progress → Type 0
IsInPhase p = p.activity.held ≡ 1 → (p.cleared || p.phase) ≡ true

-- ---- what the code does is what the definition says

-- the kind of a turn at which a process pauses; that of a fork carries the address of its COBEGIN
abbrev pub IsKind : List ℕ → Turn → TurnKind → Type 0
IsKind words arriving kind.Arrive = ⊤
IsKind words (again marks) (kind.Again q) = q ≡ marks
IsKind words (forking branches) (kind.Fork at) = branches_at words at ≡ branches
IsKind words exiting kind.Exit = ⊤
IsKind words _ _ = ⊥

-- an instruction of which a turn is due was executed
abbrev pub IsExecuted : List ℕ → (live : ℕ) → (is_first : Bool) → (was now : Local) → Type 0
IsExecuted words live is_first was now = (turn : Turn) × (effect_of words live is_first was ≡ due turn now)

-- The endings of the run. Where a turn was due and none was left, the instruction has been executed all the same.
abbrev pub Stops : List ℕ → (live : ℕ) → (is_first : Bool) → outcome.Ending → Ending → (was now : Running) → Type 0
Stops words live is_first (outcome.halted line) (ending.Halted at) was now = (at ≡ line) × (now ≡ was)
Stops words live is_first (outcome.failed cause line) (ending.Failed c at) was now = (c ≡ cause) × (at ≡ line) × (now ≡ was)
Stops words live is_first outcome.turns ending.Turns was now =
    (now.turns ≡ was.turns) × (now.system ≡ was.system) × IsExecuted words live is_first was.local now.local
Stops words live is_first (outcome.bad address) (ending.Bad at) was now = (at ≡ address) × (now ≡ was)
Stops words live is_first _ _ was now = ⊥

-- An arrival takes all marks away, whatever is noted of them. Where a process pauses at another turn, that is noted which was cleared.
abbrev pub IsNoted : TurnKind → (is_cleared cleared : Bool) → Type 0
IsNoted kind.Arrive is_cleared cleared = ⊤
IsNoted kind is_cleared cleared = is_cleared ≡ cleared

abbrev pub Pauses : List ℕ → (live : ℕ) → (is_first : Bool) → Paused → Pause → (now : Running) → (cleared : Bool) → Type 0
Pauses words live is_first (pausing finishing r cleared) (pause.Over ending.Done) now is_cleared = now ≡ r
Pauses words live is_first (pausing turn r cleared) (pause.At kind) now is_cleared = IsKind words turn kind × (now ≡ r) × IsNoted kind is_cleared cleared
Pauses words live is_first (stopping ending r cleared) (pause.Over e) now is_cleared = Stops words live is_first ending e r now
Pauses words live is_first _ _ now is_cleared = ⊥

-- an object outside failed in a system call of this instruction, which the activity has still before it
pub record Torn (words : List ℕ) (live : ℕ) (is_first : Bool) (was now : Running) : Type 0 where
  pub number : ℕ
  pub arguments : List ℕ
  pub address : Option ℕ
  pub line : ℕ
  pub next : Local
  pub effect : effect_of words live is_first was.local ≡ asks number arguments address line next
  pub tears : Tears (call number arguments was.system) was.system now.system
  pub turns : now.turns ≡ was.turns
  pub same : now.local ≡ was.local

-- one instruction: the activity goes on, or it pauses as the definition says, or an object outside failed
abbrev pub StepsFrom : List ℕ → (live : ℕ) → (is_first : Bool) → (was : Running) → Bool → Answer → Option Pause → (now : Running) → Bool → Type 0
StepsFrom words live is_first was cleared answer None now is_cleared =
    (more : Running → Bool → Paused) → after_answer more cleared answer ≡ more now is_cleared
StepsFrom words live is_first was cleared answer (Some (pause.Over ending.Fault)) now is_cleared = Torn words live is_first was now
StepsFrom words live is_first was cleared answer (Some pause) now is_cleared =
    (x : Paused) × ((more : Running → Bool → Paused) → after_answer more cleared answer ≡ x) × Pauses words live is_first x pause now is_cleared

abbrev pub OneStep : List ℕ → (live : ℕ) → (is_first : Bool) → (was : Running) → Bool → Option Pause → (now : Running) → Bool → Type 0
OneStep words live is_first was cleared result now is_cleared =
    StepsFrom words live is_first was cleared (local_step (fetch words) live is_first was) result now is_cleared

-- ---- the instructions of the loop, whose activity goes on apart from the rest of its progress

abbrev pub with_activity : Progress → Activity → Progress
with_activity p a = record p { activity = a }

abbrev pub IsSameSegment : (old new : Activity) → Type 0
IsSameSegment old new = new.segment ≡ old.segment

-- one instruction, whatever processes live and whatever the system is
abbrev pub OnePlain : List ℕ → Plain → (memory : List ℕ) → Activity → Progress → (new_memory : List ℕ) → Activity → Progress → Type 0
OnePlain words plain.On memory a p new_memory b q =
    (live : ℕ) (is_first : Bool) (s : State) → OneStep words live is_first (running_in memory a s p.left) (cleared_in (with_activity p a)) None
    (running_in new_memory b s q.left) (cleared_in (with_activity q b))
OnePlain words plain.Arrived memory a p new_memory b q =
    (live : ℕ) (is_first : Bool) (s : State) → OneStep words live is_first (running_in memory a s p.left) (cleared_in (with_activity p a))
    (Some (pause.At kind.Arrive)) (running_in new_memory b s q.left) q.cleared
OnePlain words plain.Other memory a p new_memory b q = (new_memory ≡ memory) × (b ≡ a) × (q ≡ p)

-- ---- stretches

-- where a stretch from `r` ends, and where its activity is on the way, there those of one from `was` are as well
pub record Reaches (words : List ℕ) (live : ℕ) (is_first : Bool) (was : Running) (cleared : Bool) (r : Running) (is_cleared : Bool) : Type 0 where
  pub ends : (n : ℕ) (x : Paused) → stretch (fetch words) live is_first n r is_cleared ≡ x → (k : ℕ) × (stretch (fetch words) live is_first k was cleared ≡ x)
  pub gets : (n : ℕ) (x : Option (Running × Bool)) → walked (fetch words) live is_first n r is_cleared ≡ x → (k : ℕ)
      × (walked (fetch words) live is_first k was cleared ≡ x)

-- a stretch that an object outside ended, in the system call of the instruction that it had reached
pub record Breaks (words : List ℕ) (live : ℕ) (is_first : Bool) (was : Running) (cleared : Bool) (now : Running) : Type 0 where
  pub steps : ℕ
  pub at : Running
  pub emptied : Bool
  pub reached : walked (fetch words) live is_first steps was cleared ≡ Some (at, emptied)
  pub torn : Torn words live is_first at now

-- a stretch that pauses as the definition says
pub record Arrives (words : List ℕ) (live : ℕ) (is_first : Bool) (was : Running) (cleared : Bool) (pause : Pause) (now : Running) (is_cleared : Bool) : Type 0
  where
    pub steps : ℕ
    pub end : Paused
    pub is : stretch (fetch words) live is_first steps was cleared ≡ end
    pub pauses : Pauses words live is_first end pause now is_cleared

abbrev pub Stretches : List ℕ → (live : ℕ) → (is_first : Bool) → (was : Running) → Bool → Pause → (now : Running) → Bool → Type 0
Stretches words live is_first was cleared (pause.Over ending.Fault) now is_cleared = Breaks words live is_first was cleared now
Stretches words live is_first was cleared pause now is_cleared = Arrives words live is_first was cleared pause now is_cleared

-- ---- what holds of any code

-- where a process pauses at a fork its COBEGIN may be executed, and the first process does not end as a branch does
abbrev pub Allows : Option Pause → List ℕ → (live : ℕ) → (is_first : Bool) → Local → Type 0
Allows (Some (pause.At (kind.Fork at))) words live is_first l =
    IsFork words at (branches_at words at) l × (live + length (branches_at words at) ≤ 32)
Allows (Some (pause.At kind.Exit)) words live is_first l = is_first ≡ false
Allows _ words live is_first l = ⊤

-- an activity that goes on has taken a turn, or is further on in the code
abbrev pub Falls : Option Pause → List ℕ → (left pc new_left new_pc : ℕ) → Type 0
Falls None words left pc new_left new_pc =
    (new_left < left) ⊎ ((new_left ≡ left) × (pc < new_pc) × (pc < length words))
Falls (Some pause) words left pc new_left new_pc = ⊤

-- a process alone does not come to a standstill
abbrev pub is_standstill : Pause → Bool
is_standstill (pause.Over ending.Standstill) = true
is_standstill pause = false

abbrev pub IsNoStandstill : Option Pause → Type 0
IsNoStandstill (Some pause) = is_standstill pause ≡ false
IsNoStandstill None = ⊤

-- a process that pauses at a turn has taken it
abbrev pub Spends : Option Pause → (left new_left : ℕ) → Type 0
Spends (Some (pause.At kind)) left new_left = new_left < left
Spends _ left new_left = ⊤

-- an object outside has failed exactly at a fault, and its count of faults rose
abbrev pub Blamed : Option Pause → (failed : Option Outside → Type 0) → (old new : Outside → ℕ) → Type 0
Blamed (Some (pause.Over ending.Fault)) failed old new = (outside : Outside) × failed (Some outside) × CountRose (old outside) (new outside)
Blamed _ failed old new = failed None

-- after a fault the activity still has the call before it that failed, and the call uses the object that has failed
abbrev pub AsksFailed : Option Pause → List ℕ → (live : ℕ) → (is_first : Bool) → Local → (failed : Option Outside → Type 0) → Type 0
AsksFailed (Some (pause.Over ending.Fault)) words live is_first l failed = UsesFailed (effect_of words live is_first l) failed
AsksFailed _ words live is_first l failed = ⊤
