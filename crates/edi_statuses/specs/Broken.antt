-- Definition. What is left by a command that was broken off: memory ran out, or an object outside failed.
use Rattle.std.specs.Prelude.{◌≡◌, ◌≤◌, ◌⊎◌, ℕ, List, [], ◌∷◌, ◌++◌, length, Option, Some, None, IsSome, ⊤}
use Rattle.edi_told.specs.Told.{WhereTold}
use Rattle.edi_calls.specs.declared.ends.Outside.TheVariants as object
use Rattle.edi_calls.specs.Choice.{Choices}
use Rattle.edi_calls.specs.Outcome.{Ending}
use Rattle.edi_image.specs.Image.{Holds, slots_of}
use Rattle.edi_unit.specs.Tree.{ProgramUnit}
use Rattle.edi_debug.specs.stops.Stops.{Watched}
use Rattle.edi_disjoint.specs.Report.{IsReport}
use Rattle.edi_utils.specs.Demo.{demo_text}
use Rattle.edi_words.specs.Words.{Account, ChoicesFrom}
use Rattle.edi_statuses.specs.declared.status.Status.{Status}
use Rattle.edi_statuses.specs.declared.status.Status.TheVariants as status
use Rattle.edi_statuses.specs.Fronts.{IsFront}
use Rattle.edi_statuses.specs.Outside.{Outside, Keeps, SameBut, SameFiles, SameInput, SamePrinted, IsAsBefore, Lent, with_kept, without_names}
use Rattle.edi_statuses.specs.Steps.{AfterStep, goes, ◌>>=◌, Fetches, ReadsChoices, Accepts, Loads}
use Rattle.edi_statuses.specs.Executions.{Runnable, text, Ran, BrokeRun}
use Rattle.edi_statuses.specs.Accounts.{RunsWith}
use Rattle.edi_statuses.specs.Commands.{CommandEffect, Runs, OnItsOwn, IsLog, IsShownOf, PointSteps, released, put_in, size_line}

-- ---- memory ran out

-- The program was run to its ending; of the files nothing is said.
pub record RanWhole (program : Runnable) (bound : ℕ) (choices : Choices) (before after : Outside) (shown : List ℕ) (kernel : Lent) : Type 0 where
  pub ending : Ending
  pub drawn : ℕ
  pub within : drawn ≤ bound
  pub used : kernel.after.used ≤ bound
  pub ran : Ran program bound choices ending drawn before after shown kernel

-- and no file was kept
abbrev pub RanUnkept : Runnable → (bound : ℕ) → Choices → Outside → Outside → (shown : List ℕ) → Lent → Type 0
RanUnkept program bound choices before after shown kernel =
    RanWhole program bound choices before after shown kernel × SameFiles before after

-- a log was kept, and no other file; a record was to be kept
pub record KeepsLog (bytes : List ℕ) (points : List Watched) (bound : ℕ) (choices : Choices) (out : List ℕ) (record_file : Option (List ℕ))
    (before after : Outside) : Type 0 where
  pub asked : IsSome record_file
  pub log : List ℕ
  pub log_is : IsLog bytes points bound choices before after log
  pub keeps : Keeps before after ((out, log) ∷ [])

-- A program was watched to its ending, and its log was not kept, or the record was not.
abbrev pub WatchedUnkept : (bytes : List ℕ) → List Watched → (bound : ℕ) → Choices → (out : List ℕ) → (record_file : Option (List ℕ)) → Outside → Outside
    → (shown : List ℕ) → Lent → Type 0
WatchedUnkept bytes points bound choices out record_file before after shown kernel =
    RanWhole (text bytes) bound choices before after shown kernel
    × (SameFiles before after ⊎ KeepsLog bytes points bound choices out record_file before after)

-- where a record is asked for, and it is to be kept
abbrev pub AtRecord : {A : Type 0} → Option (List ℕ) → (AfterStep A → Type 0) → (A → Type 0) → Type 0
AtRecord None steps P = ⊥
AtRecord (Some name) steps P = (a : _) × steps (goes a) × P a

-- ---- an object failed

-- nothing was shown, printed or run, the input is as before, and the drive has changed as P says
pub record ChangesDrive (P : List (List ℕ) → List (List ℕ) → Type 0) (before after : Outside) (shown : List ℕ) (kernel : Lent) : Type 0 where
  pub shown_ : shown ≡ []
  pub blocks : WhereTold before.blocks after.blocks P
  pub input : SameInput before after
  pub printed : SamePrinted before after
  pub kernel_same : kernel.after ≡ kernel.before

-- and the drive is as before too
abbrev pub HasNotBegun : (before after : Outside) → (shown : List ℕ) → Lent → Type 0
HasNotBegun = ChangesDrive (λ old new. new ≡ old)

-- The drive behind a `put` that it broke off: as many blocks as before it, and the files from before it, these with the file
-- released, or those that it was to leave.
abbrev pub ArePutInPart : (title bytes : List ℕ) → List (List ℕ) → List (List ℕ) → Type 0
ArePutInPart title bytes old new =
    (length new ≡ length old)
    × (Holds new (slots_of old) ⊎ (Holds new (released title (slots_of old)) ⊎ Holds new (put_in title bytes (slots_of old))))

-- a first part of these bytes was shown, and nothing else has changed
pub record ShowsFront (bytes : List ℕ) (before after : Outside) (shown : List ℕ) (kernel : Lent) : Type 0 where
  pub front : IsFront shown bytes
  pub same : IsAsBefore before after
  pub kernel_same : kernel.after ≡ kernel.before

-- a first part of the report on the branches of a program was shown, and nothing else has changed
abbrev pub ShowsReportFront : ProgramUnit → Outside → Outside → (shown : List ℕ) → Lent → Type 0
ShowsReportFront unit before after shown kernel = (report : List ℕ) × IsReport unit report × ShowsFront report before after shown kernel

-- a first part of what `explain` shows of a text was shown, and nothing else has changed
abbrev pub ExplainsFront : (bytes : List ℕ) → Outside → Outside → (shown : List ℕ) → Lent → Type 0
ExplainsFront bytes before after shown kernel =
    (s : Status) × (told : List ℕ) × IsShownOf bytes s told × ShowsFront told before after shown kernel

-- behind a format or a migration that the drive broke off nothing is known of its blocks
abbrev pub IsOpen : List (List ℕ) → List (List ℕ) → Type 0
IsOpen old new = ⊤

-- the name of a file that may be kept
abbrev pub names_in : Option (List ℕ) → List (List ℕ)
names_in None = []
names_in (Some name) = name ∷ []

-- The files failed at the record, which was asked for. The log was kept before it, and of the record's file nothing is said.
pub record LosesRecord (bytes : List ℕ) (points : List Watched) (bound : ℕ) (choices : Choices) (out : List ℕ) (record_file : Option (List ℕ))
    (before after : Outside) : Type 0 where
  pub asked : IsSome record_file
  pub log : List ℕ
  pub log_is : IsLog bytes points bound choices before after log
  pub files : WhereTold before.files after.files
      (λ old new. without_names (names_in record_file) new ≡ without_names (names_in record_file) (with_kept ((out, log) ∷ []) old))

-- A program was watched to its ending, and the files failed: at the log, and then no record was kept; or at the record.
abbrev pub WatchedLost : (bytes : List ℕ) → List Watched → (bound : ℕ) → Choices → (out : List ℕ) → (record_file : Option (List ℕ)) → Outside → Outside
    → (shown : List ℕ) → Lent → Type 0
WatchedLost bytes points bound choices out record_file before after shown kernel =
    RanWhole (text bytes) bound choices before after shown kernel
    × (SameBut (out ∷ []) before after ⊎ LosesRecord bytes points bound choices out record_file before after)

-- A first part of the line of a demonstration was shown, perhaps all of it, and the terminal is blamed. All else is as after a whole one.
pub record CutsSize (n : ℕ) (effect : CommandEffect) (before after : Outside) (shown : List ℕ) (kernel : Lent) : Type 0 where
  pub by_program : List ℕ
  pub line : List ℕ
  pub front : IsFront line (size_line n kernel.after.used by_program)
  pub shown_ : shown ≡ by_program ++ line
  pub blamed : kernel.failed ≡ Some object.Terminal
  pub ran : OnItsOwn (λ b a. effect status.Ok b a by_program kernel) before after

abbrev pub CutsDemo : (n bound : ℕ) → Choices → (record_file : Option (List ℕ)) → Outside → Outside → (shown : List ℕ) → Lent → Type 0
CutsDemo n bound choices record_file = CutsSize n (Runs (text (demo_text n)) bound choices record_file)

-- the program of a demonstration was broken off, and no record was kept; or its line was not shown
abbrev pub BrokeDemo : (n bound : ℕ) → Choices → (record_file : Option (List ℕ)) → Outside → Outside → (shown : List ℕ) → Lent → Type 0
BrokeDemo n bound choices record_file before after shown kernel =
    OnItsOwn (λ b a. SameFiles b a × BrokeRun status.OutputFault kernel.failed (text (demo_text n)) bound choices b a shown) before after
    ⊎ CutsDemo n bound choices record_file before after shown kernel

-- so of one with an account, of which no file was kept; or its line was not shown
abbrev pub BrokeDemoWith : (n bound : ℕ) → Choices → Account → (record_file : Option (List ℕ)) → Outside → Outside → (shown : List ℕ) → Lent
    → Type 0
BrokeDemoWith n bound choices account record_file before after shown kernel =
    OnItsOwn (λ b a. SameFiles b a × BrokeRun status.OutputFault kernel.failed (text (demo_text n)) bound choices b a shown) before after
    ⊎ CutsSize n (RunsWith (text (demo_text n)) bound choices account record_file) before after shown kernel

-- the steps of a command went on, and it was broken off there
abbrev pub HasBegun : {A : Type 0} → (AfterStep A → Type 0) → (A → Type 0) → Type 0
HasBegun steps P = (a : _) × steps (goes a) × P a

-- the steps of a command went on
abbrev pub WentOn : {A : Type 0} → (AfterStep A → Type 0) → Type 0
WentOn steps = (a : _) × steps (goes a)

-- so those of `run` and `replay`, and those of `exec`, before the drive is asked
abbrev pub RunAsks : Outside → (file : List ℕ) → ChoicesFrom → Type 0
RunAsks o file from = WentOn (Fetches o file >>= λ bytes. ReadsChoices o from >>= λ choices. Accepts bytes)

abbrev pub ExecAsks : Outside → (file : List ℕ) → ChoicesFrom → Type 0
ExecAsks o file from = WentOn (Fetches o file >>= λ bytes. ReadsChoices o from >>= λ choices. Loads bytes)

-- and those of `watch`
abbrev pub WatchAsks : Outside → (file points_file : List ℕ) → ChoicesFrom → Type 0
WatchAsks o file points_file from = WentOn (PointSteps o file points_file from)
