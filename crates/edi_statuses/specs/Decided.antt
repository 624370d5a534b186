-- Words of contracts. What a command comes to before the line of its status, and the laws on what decides a status.
use Rattle.std.specs.Prelude.{◌≡◌, ℕ, Bool, true, List, Option, None, IsSome, ⊤}
use Rattle.edi_told.specs.Faults.{CountRose}
use Rattle.edi_calls.specs.declared.ends.Outside as failing
use Rattle.edi_words.specs.Words.{Command}
use Rattle.edi_statuses.specs.declared.status.Status.{Status}
use Rattle.edi_statuses.specs.declared.status.Status.TheVariants as status
use Rattle.edi_statuses.specs.Lines.{closing_line, is_due, text_of}
use Rattle.edi_statuses.specs.Showing.{ClosesWith}
use Rattle.edi_statuses.specs.Counts.{Counts, HasCause, OutputRose}
use Rattle.edi_statuses.specs.Outside.{Outside, Shows, Lent, blaming}
use Rattle.edi_statuses.specs.EachObject.{LeavesEach, command_does, is_before_drive, uses_devices}
use Rattle.edi_statuses.specs.Facts.{Comes, facts_of}
use Rattle.edi_statuses.specs.Means.{EndsWith, Means}

-- A command, or words that are none, came to this status, and the line of the status is still to be shown. A line feed is due before
-- it, or not. What is left of each object is told whatever the others tell.
pub record Came (s : Status) (due : Bool) (c : Option Command) (before after : Outside) (kernel : Lent) : Type 0 where
  pub shown : List ℕ
  pub means : Means s c before after shown kernel
  pub shows : Shows before after shown
  pub due_is : due ≡ is_due shown
  pub each : LeavesEach c before after

-- So it came, and if the output has failed, the count of the object rose that is blamed.
abbrev pub CameBlaming : Status → (due : Bool) → Option Command → Outside → Outside → (had has : Counts) → Lent → Type 0
CameBlaming s due c before after had has kernel =
    (blamed : Option failing.Outside) × (s ≡ status.OutputFault → OutputRose (command_does uses_devices c) blamed had has)
    × Came s due c before after (blaming blamed kernel)

-- the same outside where the terminal has taken more
abbrev pub with_shown : Option (List ℕ) → Outside → Outside
with_shown shown o = record { files = o.files; blocks = o.blocks; input = o.input; shown = shown; printed = o.printed }

-- some bytes were shown in a call that ended so, and has left each object so
abbrev pub EndsAll : Status → Option Command → Outside → Outside → (had has : Counts) → Lent → Type 0
EndsAll answer c before after had has kernel =
    (all : List ℕ) × EndsWith answer c before after had has all kernel × Shows before after all × LeavesEach c before after

-- A command came to a status, and then the line of the status was shown, or a first part of it, since the terminal failed: this is the end of a
-- call.
abbrev pub LinesEnd : Type 0
LinesEnd =
    (meant answer : Status) (due : Bool) (c : Option Command) (before mid : Outside) (had has : Counts) (shown : Option (List ℕ)) (kernel : Lent)
    → HasCause meant had has → (meant ≡ status.OutputFault → OutputRose (command_does uses_devices c) kernel.failed had has)
    → Came meant due c before mid kernel → ClosesWith meant answer (closing_line due meant) mid.shown shown
    → (text_of meant ≡ None → (answer ≡ meant) × (shown ≡ mid.shown))
    → ((answer ≡ meant → ⊥) → CountRose had.terminal has.terminal) → EndsAll answer c before (with_shown shown mid) had has kernel

-- the statuses that they decide
abbrev pub IsDecisive : Status → Type 0
IsDecisive status.NoMemory = ⊥
IsDecisive status.FileFault = ⊥
IsDecisive status.DriveFault = ⊥
IsDecisive status.InputFault = ⊥
IsDecisive status.OutputFault = ⊥
IsDecisive _ = ⊤

-- all contents are told
pub record IsTold (o : Outside) : Type 0 where
  pub files : IsSome o.files
  pub blocks : IsSome o.blocks
  pub input : IsSome o.input
  pub shown : IsSome o.shown
  pub printed : IsSome o.printed

-- contents decide how the command ends: how a session or an exploration ends they do not, since there memory may run out at any point
abbrev pub is_decided : Command → Bool
is_decided c = (facts_of c).decided

-- Contents that are told decide the status and what is shown before its line, but for `boot` and `explore`. So each status comes exactly where its
-- cause is there, unless an object fails or memory runs out; and where no refusal has its cause, the command has its effect.
abbrev pub OneStatus : Type 0
OneStatus =
    (s t : Status) (c : Command) (before after behind : Outside) (shown bytes : List ℕ) (kernel other : Lent)
    → is_decided c ≡ true → IsTold before → IsTold after → IsTold behind → IsDecisive s → IsDecisive t
    → Comes c s before after shown kernel → Comes c t before behind bytes other → (s ≡ t) × (shown ≡ bytes)

-- a refusal: a step stops a command at this status, or its input is too long; no session ends with it, and no text is explored then
abbrev pub is_refusal : Status → Bool
is_refusal (status.BadImage broken) = true
is_refusal status.InputLimit = true
is_refusal s = is_before_drive s

-- Contents that are told decide a refusal of every command: where one of two calls on the same contents is refused, the other one is refused so.
abbrev pub OneRefusal : Type 0
OneRefusal =
    (s t : Status) (c : Command) (before after behind : Outside) (shown bytes : List ℕ) (kernel other : Lent)
    → is_refusal s ≡ true → IsTold before → IsTold after → IsTold behind
    → Comes c s before after shown kernel → Comes c t before behind bytes other → (s ≡ t) × (shown ≡ bytes)
