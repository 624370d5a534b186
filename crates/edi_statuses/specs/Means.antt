-- Definition. WHAT A STATUS MEANS: what was shown before its line, and how all that is outside stands behind the call.
--
-- A status that the words and contents decide means what `Comes` says. `NoMemory` may come at the places of `Wants`. The four
-- faults come where the count of an object rose, and mean what `Breaks` says.
use Rattle.std.specs.Prelude.{◌≡◌, ◌⊎◌, ℕ, List, [], ◌++◌, Option, Some, None, if◌then◌else◌, IsSome}
use Rattle.edi_told.specs.Faults.{CountRose}
use Rattle.edi_words.specs.Words.{Command}
use Rattle.edi_statuses.specs.declared.status.Status.{Status}
use Rattle.edi_statuses.specs.declared.status.Status.TheVariants as status
use Rattle.edi_statuses.specs.Lines.{closing, text_of}
use Rattle.edi_statuses.specs.Fronts.{IsFront}
use Rattle.edi_statuses.specs.Counts.{Counts, HasCause, OutputRose}
use Rattle.edi_statuses.specs.Outside.{Outside, seen, SameFiles, SameBut, IsSomeFile, Lent}
use Rattle.edi_statuses.specs.EachObject.{Uses, command_does, uses_devices}
use Rattle.edi_statuses.specs.Steps.{ChoicesAreThere}
use Rattle.edi_statuses.specs.Commands.{IsNothing}
use Rattle.edi_statuses.specs.Broken.{HasNotBegun, names_in}
use Rattle.edi_statuses.specs.Facts.{Comes, FirstFile, no_file, file_named, file_of_choices, facts_of}

-- ---- commands that were broken off, by the table of commands

-- memory ran out
abbrev pub Wants : Command → Outside → Outside → (shown : List ℕ) → Lent → Type 0
Wants c before after shown kernel = (facts_of c).no_memory before after shown kernel

-- the names under which a command keeps something
abbrev pub names_kept : Command → List (List ℕ)
names_kept c = (facts_of c).keeps ++ names_in (facts_of c).record_file

-- A command that has not begun has come as far as to its drive; a format begins with it.
abbrev pub AsksDrive : Command → Outside → Type 0
AsksDrive c before = (facts_of c).asks_drive before

abbrev pub IsThere : FirstFile → Outside → Type 0
IsThere no_file before = ⊥
IsThere (file_named name) before = IsSomeFile before name
IsThere (file_of_choices from) before = ChoicesAreThere before from

-- The files have failed where one was to be fetched, and it is there. After the fetch of a text or a code file that of the choices may
-- fail, so the first file is there in either case.
abbrev pub FetchFails : Command → Outside → Type 0
FetchFails c before = IsThere (facts_of c).fetches before

-- An object failed after the steps of a command. The files fail when one is to be kept: a record, a code, or the bytes of a file of the drive.
abbrev pub ComesToBreak : Status → Command → Outside → Outside → (shown : List ℕ) → Lent → Type 0
ComesToBreak status.FileFault c before after shown kernel = (facts_of c).files_failed before after shown kernel
ComesToBreak status.DriveFault c before after shown kernel = (facts_of c).drive_failed before after shown kernel
ComesToBreak status.InputFault c before after shown kernel = (facts_of c).input_failed before after shown kernel
ComesToBreak status.OutputFault c before after shown kernel = (facts_of c).output_failed before after shown kernel
ComesToBreak s c before after shown kernel = ⊥

-- The files of these names may be others than before: where the files have failed, what was to be kept; and where the output has failed, what
-- is kept before the last bytes are shown.
abbrev pub names_open : Status → Command → List (List ℕ)
names_open status.FileFault c = names_kept c
names_open status.OutputFault c = if (facts_of c).keeps_first then names_kept c else []
names_open s c = []

-- How far the command was. The files may fail when one is fetched, and the drive when it is mounted; then nothing has happened. The
-- input and the output fail only where a command has begun.
abbrev pub Far : Status → Command → Outside → Outside → (shown : List ℕ) → Lent → Type 0
Far status.FileFault c before after shown kernel =
    (SameFiles before after × FetchFails c before × HasNotBegun before after shown kernel)
    ⊎ (SameBut (names_open status.FileFault c) before after × ComesToBreak status.FileFault c before after shown kernel)
Far status.DriveFault c before after shown kernel =
    SameFiles before after
    × ((AsksDrive c before × HasNotBegun before after shown kernel) ⊎ ComesToBreak status.DriveFault c before after shown kernel)
Far s c before after shown kernel = SameBut (names_open s c) before after × ComesToBreak s c before after shown kernel

-- where the fault of an object is answered
pub record Breaks (s : Status) (c : Command) (before after : Outside) (shown : List ℕ) (kernel : Lent) : Type 0 where
  pub uses : Uses s c
  pub far : Far s c before after shown kernel

-- ---- the meaning of a status

-- of the words of a command
abbrev pub MeansOf : Status → Command → Outside → Outside → (shown : List ℕ) → Lent → Type 0
MeansOf status.Words c before after shown kernel = ⊥
MeansOf status.NoMemory c before after shown kernel = Wants c before after shown kernel
MeansOf status.FileFault c before after shown kernel = Breaks status.FileFault c before after shown kernel
MeansOf status.DriveFault c before after shown kernel = Breaks status.DriveFault c before after shown kernel
MeansOf status.InputFault c before after shown kernel = Breaks status.InputFault c before after shown kernel
MeansOf status.OutputFault c before after shown kernel = Breaks status.OutputFault c before after shown kernel
MeansOf s c before after shown kernel = Comes c s before after shown kernel

-- of words that are refused
abbrev pub MeansRefused : Status → Outside → Outside → (shown : List ℕ) → Lent → Type 0
MeansRefused status.Words before after shown kernel = IsNothing before after shown kernel
MeansRefused status.NoMemory before after shown kernel = IsNothing before after shown kernel
MeansRefused _ before after shown kernel = ⊥

-- The steps look at what is told before the call and behind it.
abbrev pub Means : Status → Option Command → Outside → Outside → (shown : List ℕ) → Lent → Type 0
Means s None before after shown kernel = MeansRefused s before after shown kernel
Means s (Some c) before after shown kernel = MeansOf s c (seen before after) after shown kernel

-- ---- all that a call shows

-- A first part of the line of a status that has one was shown, perhaps all of it, and the terminal failed. If that status tells a fault, the
-- count of its object rose too.
pub record IsCutShort (c : Option Command) (before after : Outside) (had has : Counts) (all : List ℕ) (kernel : Lent) : Type 0 where
  pub meant : Status
  pub has_line : IsSome (text_of meant)
  pub terminal : CountRose had.terminal has.terminal
  pub cause : HasCause meant had has
  pub shown : List ℕ
  pub line : List ℕ
  pub means : Means meant c before after shown kernel
  pub front : IsFront line (closing meant shown)
  pub all_ : all ≡ shown ++ line

-- The output has failed in the midst of the command, and the count rose of the object that is blamed.
abbrev pub BreaksOutput : Option Command → Outside → Outside → (had has : Counts) → (shown : List ℕ) → Lent → Type 0
BreaksOutput c before after had has shown kernel =
    Means status.OutputFault c before after shown kernel × OutputRose (command_does uses_devices c) kernel.failed had has

-- THE END OF A CALL: the bytes before the line of the status, and that line. The counts are those of the objects' faults.
abbrev pub EndsWith : Status → Option Command → Outside → Outside → (had has : Counts) → (all : List ℕ) → Lent → Type 0
EndsWith status.OutputFault c before after had has all kernel =
    BreaksOutput c before after had has all kernel ⊎ IsCutShort c before after had has all kernel
EndsWith s c before after had has all kernel =
    (shown : List ℕ) × Means s c before after shown kernel × (all ≡ shown ++ closing s shown)
