-- Words of contracts. The four objects that a program sees, and what a run of code leaves of them.
use Rattle.std.specs.Prelude.{◌≡◌, ◌⊎◌, ℕ, ◌+◌, ◌<◌, ◌≤◌, ◌^◌, false, List, drop, length, Option, Some, None, ⊤, true}
use Rattle.edi_told.specs.Faults.{CountRose}
use Rattle.edi_told.specs.Told.{WhereTold}
use Rattle.edi_calls.specs.declared.ends.Outside.{Outside}
use Rattle.edi_calls.specs.declared.ends.Outside.TheVariants as outside
use Rattle.edi_calls.specs.Asked.{may_have_done, Asks, IsFollowed}
use Rattle.edi_calls.specs.State.{State}
use Rattle.edi_image.specs.Image.{slots_of}
use Rattle.edi_kernel.specs.declared.ends.Ending.{Ending}
use Rattle.edi_kernel.specs.declared.ends.Ending.TheVariants as ending
use Rattle.edi_kernel.specs.Passed.{past_at}
use Rattle.edi_kernel.specs.Runs.{RunsTo}
use Rattle.edi_system.specs.AsCalls.{LeavesByte}
use Rattle.edi_system.specs.Parts.{due_after, ToldStays}
use Rattle.edi_system.specs.State.{all_told}
use Rattle.edi_system.specs.Begun.{state_begun}
use Rattle.edi_target.specs.Check.{CodeParts}
use Rattle.edi_target.specs.Fetch.{fetch}
use Rattle.edi_target.specs.Moments.{ComesThrough}
use Rattle.edi_trace.specs.Drawn.{Drawn}
use Rattle.edi_execute.specs.declared.run.Ran.{Ran}

pub record Objects (D S T P : Type 0) : Type 0 where
  pub drive : D
  pub input : S
  pub terminal : T
  pub printer : P

abbrev pub objects : {D S T P : Type 0} → D → S → T → P → Objects D S T P
objects drive input terminal printer = record { drive = drive; input = input; terminal = terminal; printer = printer }

-- ---- their contents

-- the drive's blocks; what is left of the input; what the terminal and the printer have taken
pub record Contents : Type 0 where
  pub disk : List (List ℕ)
  pub input : List ℕ
  pub shown : List ℕ
  pub printed : List ℕ

abbrev pub contents_with : (disk : List (List ℕ)) → (input shown printed : List ℕ) → Contents
contents_with disk input shown printed = record { disk = disk; input = input; shown = shown; printed = printed }

-- the contents of the four, where all of them are told
abbrev pub contents_of : {D S T P : Type 0} → (D → Option (List (List ℕ))) → (S → Option (List ℕ)) → (T → Option (List ℕ)) → (P → Option (List ℕ))
    → Objects D S T P → Option Contents
contents_of contents left shown printed o =
    all_told contents_with (contents o.drive) (left o.input) (shown o.terminal) (printed o.printer)

-- the state of a system over these objects, with no file open
abbrev pub system_on : Contents → State
system_on c = state_begun c.disk c.input c.shown c.printed

-- the objects have what this state has
pub record Show (state : State) (c : Contents) : Type 0 where
  pub input : c.input ≡ state.input
  pub shown : c.shown ≡ state.shown
  pub printed : c.printed ≡ state.printed
  pub slots : slots_of c.disk ≡ state.slots
  pub blocks : length c.disk ≡ state.blocks

-- The code was run on these objects, and in the end they have what the kernel's run leaves.
pub record HasRun (code : CodeParts) (bound : ℕ) (old : Drawn) (e : Ending) (words : List ℕ) (used : ℕ) (new : Drawn) (before after : Contents) : Type 0 where
  pub state : State
  pub runs : RunsTo code (system_on before) bound old e words used state new
  pub shows : Show state after

-- The objects have what a state has through which the run of the code comes.
pub record StandsAtMoment (code : CodeParts) (bound : ℕ) (old : Drawn) (before after : Contents) : Type 0 where
  pub moment : State
  pub comes : ComesThrough (fetch code.words) code.entry code.calls (system_on before) bound old.source old.drawn moment
  pub shows : Show moment after

-- This object has failed a call of the run that uses it: the objects have what the state before that call has, or, unless it is the input, the
-- one that it was to leave. The input has failed before its end.
pub record StandsAtCall (code : CodeParts) (bound : ℕ) (old : Drawn) (outside : Outside) (before after : Contents) : Type 0 where
  pub from : State
  pub next : State
  pub calls : (n : ℕ) × IsFollowed (system_on before) (past_at code (system_on before) bound old.source old.drawn n) from next
  pub asks : Asks outside from next
  pub left : LeavesByte outside from.input
  pub shows : Show from after ⊎ ((may_have_done outside ≡ true) × Show next after)

-- What a run leaves: where the four objects tell what they hold, what the kernel's run leaves; after a fault, what a state has
-- through which it comes; what is told in the end was told at the start, the input only loses its first bytes, what the terminal and
-- the printer have taken only grows, and the drive is a valid image; and whether a line is due is told by the bytes that the
-- terminal has taken in between.
pub record RunLeaves {D S T P : Type 0} (contents : D → Option (List (List ℕ))) (left : S → Option (List ℕ)) (shown : T → Option (List ℕ))
    (printed : P → Option (List ℕ)) (code : CodeParts) (bound : ℕ) (old : Drawn) (ran : Ran) (words : List ℕ) (used : ℕ) (new : Drawn)
    (before after : Objects D S T P) : Type 0 where
  pub runs : old.drawn + bound < 2 ^ 64 →
      WhereTold (contents_of contents left shown printed before) (contents_of contents left shown printed after)
      (HasRun code bound old ran.ending words used new)
  pub moment : ran.ending ≡ ending.Fault → old.drawn + bound < 2 ^ 64 →
      WhereTold (contents_of contents left shown printed before) (contents_of contents left shown printed after) (StandsAtMoment code bound old)
  pub told : ToldStays (contents before.drive) (contents after.drive) (left before.input) (left after.input) (shown before.terminal) (shown after.terminal)
      (printed before.printer) (printed after.printer)
  pub due : WhereTold (shown before.terminal) (shown after.terminal) (λ taken now. ran.due ≡ due_after false (drop (length taken) now))

-- ---- their faults

-- how often each has failed
abbrev pub faults_in : {D S T P : Type 0} → (D → ℕ) → (S → ℕ) → (T → ℕ) → (P → ℕ) → Objects D S T P → Outside → ℕ
faults_in drive input terminal printer o outside.Drive = drive o.drive
faults_in drive input terminal printer o outside.Input = input o.input
faults_in drive input terminal printer o outside.Terminal = terminal o.terminal
faults_in drive input terminal printer o outside.Printer = printer o.printer

-- no count has fallen
pub record NoneFalls {D S T P : Type 0} (drive : D → ℕ) (input : S → ℕ) (terminal : T → ℕ) (printer : P → ℕ) (before after : Objects D S T P) : Type 0 where
  pub later : (outside : Outside) → faults_in drive input terminal printer before outside ≤ faults_in drive input terminal printer after outside

-- the count of the object that has failed rose, if one has
abbrev pub FailedIs : Option Outside → (before now : Outside → ℕ) → Type 0
FailedIs None before now = ⊤
FailedIs (Some outside) before now = CountRose (before outside) (now outside)
