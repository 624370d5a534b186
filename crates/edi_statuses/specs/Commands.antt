-- Definition. THE COMMANDS: the steps of each in their order, and its effect.
use Rattle.std.specs.Prelude.{IfSome, ◌≡◌, ◌≤◌, ◌⊎◌, ℕ, ◌-◌, ◌==◌, Bool, true, false, ◌&&◌, ◌||◌, nat_lt, if◌then◌else◌, is_none}
use Rattle.std.specs.Prelude.{List, [], ◌∷◌, ◌++◌, length, Option, Some, None, option_map, Result, Ok, Err}
use Rattle.edi_told.specs.Told.{WhereTold}
use Rattle.edi_calls.specs.declared.kinds.FileKind.{FileKind}
use Rattle.edi_calls.specs.declared.kinds.FileKind.TheVariants as file_kind
use Rattle.edi_calls.specs.Choice.{Choices}
use Rattle.edi_calls.specs.Outcome.{Ending}
use Rattle.edi_calls.specs.State as state
use Rattle.edi_calls.specs.State.{File, blocks_of, find_file, find_slot, first_free}
use Rattle.edi_lex.specs.declared.symbol.Mark.{Mark}
use Rattle.edi_lex.specs.declared.fault.LexFault.{LexFault}
use Rattle.edi_lex.specs.Symbols.{symbols_of}
use Rattle.edi_catalog.specs.SlotsChanged.{slots_changed, file_protected}
use Rattle.edi_catalog.specs.SlotsStored.{slots_stored}
use Rattle.edi_image.specs.NoFiles.{no_files}
use Rattle.edi_image.specs.Image.{Holds, slots_of}
use Rattle.edi_image.specs.migrate.OldImage.{old_slots_of}
use Rattle.edi_image.specs.migrate.MigratedSlots.{migrated_slots}
use Rattle.edi_scheme.specs.Laws.{parts_of}
use Rattle.edi_target.specs.Check.{CodeParts}
use Rattle.edi_target.specs.File.{code_bytes}
use Rattle.edi_unit.specs.Tree.{ProgramUnit}
use Rattle.edi_debug.specs.stops.Stops.{Watched}
use Rattle.edi_runs.specs.watch.Logs.{IsLogOf}
use Rattle.edi_disjoint.specs.Report.{IsReport}
use Rattle.edi_utils.specs.Demo.{demo_text, demo_line}
use Rattle.edi_texts.specs.Run.{IsCodeFor}
use Rattle.edi_texts.specs.Texts.{IsRefused, IsUnit}
use Rattle.edi_explain.specs.told.Explained.{IsExplained, accepted_text}
use Rattle.edi_words.specs.Words.{Account, ChoicesFrom}
use Rattle.edi_statuses.specs.declared.status.Status.{Status}
use Rattle.edi_statuses.specs.declared.status.Status.TheVariants as status
use Rattle.edi_statuses.specs.Lines.{line_end}
use Rattle.edi_statuses.specs.Outside.{Outside, Keeps, SameFiles, SameBlocks, SameInput, SamePrinted, IsAsBefore, Kept}
use Rattle.edi_statuses.specs.Outside.{system_on, Devices, devices_of, Lent}
use Rattle.edi_statuses.specs.Steps.{AfterStep, goes, stops, ◌>>=◌, Ready, Fetches, ReadsChoices, Accepts, Mounts, Loads, ChecksOld}
use Rattle.edi_statuses.specs.Steps.{FitsDisk, FindsPoints, HasRoom}
use Rattle.edi_statuses.specs.Executions.{Runnable, text, status_of, Ran, record_of}
use Rattle.edi_statuses.specs.Accounts.{RunsWith}

-- ---- the steps of each command

-- `run FILE`, `replay FILE CHOICES` and `walk FILE CHOICES`: fetches the text, reads the choices, compiles or resolves it, mounts
abbrev pub RunSteps : Outside → (file : List ℕ) → ChoicesFrom → AfterStep (List ℕ × Choices) → Type 0
RunSteps o file from =
    Fetches o file >>= λ bytes. ReadsChoices o from >>= λ choices. Accepts bytes >>= λ unit. Mounts o >>= λ done.
    Ready (bytes, choices)

-- `exec CODEFILE`: fetches the code file, reads the choices, loads, mounts
abbrev pub ExecSteps : Outside → (file : List ℕ) → ChoicesFrom → AfterStep (CodeParts × Choices) → Type 0
ExecSteps o file from =
    Fetches o file >>= λ bytes. ReadsChoices o from >>= λ choices. Loads bytes >>= λ parts. Mounts o >>= λ done.
    Ready (parts, choices)

-- `watch FILE STOPS OUT`: fetches the text, reads the choices, compiles, fetches the file of points, reads them
abbrev pub PointSteps : Outside → (file points_file : List ℕ) → ChoicesFrom → AfterStep (List ℕ × Choices × List Watched) → Type 0
PointSteps o file points_file from =
    Fetches o file >>= λ bytes. ReadsChoices o from >>= λ choices. Accepts bytes >>= λ unit. Fetches o points_file >>= λ lines.
    FindsPoints bytes lines >>= λ points. Ready (bytes, choices, points)

-- and then mounts
abbrev pub WatchSteps : Outside → (file points_file : List ℕ) → ChoicesFrom → AfterStep (List ℕ × Choices × List Watched) → Type 0
WatchSteps o file points_file from = PointSteps o file points_file from >>= λ a. Mounts o >>= λ done. Ready a

-- `compile FILE OUT`, `check FILE` and `explore FILE`: fetches the text, reads it. `explain FILE` only fetches it, since it has an effect on every text.
abbrev pub TextSteps : Outside → (file : List ℕ) → AfterStep (List ℕ × ProgramUnit) → Type 0
TextSteps o file = Fetches o file >>= λ bytes. Accepts bytes >>= λ unit. Ready (bytes, unit)

-- `newdisk BLOCKS --from FILE`: fetches the old image, checks it, then the room
abbrev pub OldSteps : Outside → (blocks : ℕ) → (file : List ℕ) → AfterStep (List (List ℕ)) → Type 0
OldSteps o blocks file =
    Fetches o file >>= λ bytes. ChecksOld bytes >>= λ old. HasRoom (state.blocks_taken (old_slots_of old)) (blocks - 33) >>= λ done.
    Ready old

-- a file of so many bytes is not put on these blocks: too few of them are free, or the title is new and no slot is
abbrev pub is_full : (blocks : List (List ℕ)) → (title : List ℕ) → (size : ℕ) → Bool
is_full blocks title size =
    let d : Devices = record { blocks = blocks; input = []; shown = []; printed = [] } in
    nat_lt (state.free (system_on d)) (blocks_of size)
    || (is_none (find_slot (slots_of blocks) title) && is_none (first_free (slots_of blocks)))

abbrev pub HasPlace : Outside → (title : List ℕ) → (size : ℕ) → AfterStep (Unit {0}) → Type 0
HasPlace o title size (goes done) = IfSome o.blocks (λ blocks. is_full blocks title size ≡ false)
HasPlace o title size (stops s) = (s ≡ status.DiskFull) × IfSome o.blocks (λ blocks. is_full blocks title size ≡ true)

-- `put FILE TITLE`: fetches, checks the length, mounts, stores
abbrev pub PutSteps : Outside → (file title : List ℕ) → AfterStep (List ℕ) → Type 0
PutSteps o file title =
    Fetches o file >>= λ bytes. FitsDisk bytes >>= λ fits. Mounts o >>= λ done. HasPlace o title (length bytes) >>= λ room. Ready bytes

-- the bytes of the file of a title on the drive
abbrev pub ReadsTitle : Outside → (title : List ℕ) → AfterStep (List ℕ) → Type 0
ReadsTitle o title (goes bytes) =
    IfSome o.blocks (λ blocks. option_map (λ (f : File). f.bytes) (find_file (slots_of blocks) title) ≡ Some bytes)
ReadsTitle o title (stops s) = (s ≡ status.Absent) × IfSome o.blocks (λ blocks. find_file (slots_of blocks) title ≡ None)

-- `get TITLE FILE`: mounts, reads
abbrev pub GetSteps : Outside → (title : List ℕ) → AfterStep (List ℕ) → Type 0
GetSteps o title = Mounts o >>= λ done. ReadsTitle o title

-- `list CODEFILE`: fetches, loads
abbrev pub ListSteps : Outside → (file : List ℕ) → AfterStep CodeParts → Type 0
ListSteps o file = Fetches o file >>= λ bytes. Loads bytes

-- `demo N`: reads the choices; the text of a demonstration is never refused
abbrev pub DemoSteps : Outside → ChoicesFrom → AfterStep Choices → Type 0
DemoSteps o from = ReadsChoices o from

-- ---- the effects

-- what a command leaves: its status, the outside before and behind it, what was shown before the line of its status, and the kernel
abbrev pub CommandEffect : Type 1
CommandEffect = Status → Outside → Outside → (shown : List ℕ) → Lent → Type 0

-- nothing was shown or run, and all is as before
pub record IsNothing (before after : Outside) (shown : List ℕ) (kernel : Lent) : Type 0 where
  pub shown_ : shown ≡ []
  pub same : IsAsBefore before after
  pub kernel_same : kernel.after ≡ kernel.before

-- a command that has stopped at one of its steps has done nothing; else it has its effect
abbrev pub Does : {A : Type 0} → (steps : AfterStep A → Type 0) → (effect : A → CommandEffect) → CommandEffect
Does steps effect s before after shown kernel =
    (steps (stops s) × IsNothing before after shown kernel) ⊎ ((a : _) × steps (goes a) × effect a s before after shown kernel)

-- it has done all that it does, and that is this
abbrev pub IsDone : (Outside → Outside → (shown : List ℕ) → Lent → Type 0) → CommandEffect
IsDone P s before after shown kernel = (s ≡ status.Ok) × P before after shown kernel

-- these files are kept, and nothing else is changed, shown or run
pub record OnlyKeeps (kept : List Kept) (before after : Outside) (shown : List ℕ) (kernel : Lent) : Type 0 where
  pub shown_ : shown ≡ []
  pub keeps : Keeps before after kept
  pub blocks : SameBlocks before after
  pub input : SameInput before after
  pub printed : SamePrinted before after
  pub kernel_same : kernel.after ≡ kernel.before

-- the drive's blocks are changed, and nothing else
pub record OnlyBlocks (P : List (List ℕ) → List (List ℕ) → Type 0) (before after : Outside) (shown : List ℕ) (kernel : Lent) : Type 0 where
  pub shown_ : shown ≡ []
  pub blocks : WhereTold before.blocks after.blocks P
  pub files : SameFiles before after
  pub input : SameInput before after
  pub printed : SamePrinted before after
  pub kernel_same : kernel.after ≡ kernel.before

-- these bytes are shown, and nothing else is changed
pub record OnlyShows (bytes : List ℕ) (before after : Outside) (shown : List ℕ) (kernel : Lent) : Type 0 where
  pub shown_ : shown ≡ bytes
  pub same : IsAsBefore before after
  pub kernel_same : kernel.after ≡ kernel.before

-- the report on the branches of a program is shown, and nothing else is changed
abbrev pub ShowsReport : ProgramUnit → Outside → Outside → (shown : List ℕ) → Lent → Type 0
ShowsReport unit before after shown kernel = (report : List ℕ) × IsReport unit report × OnlyShows report before after shown kernel

-- What `explain` shows of a text, by its status: that the text is accepted; or what is wrong with it, where the status tells its first fault.
abbrev pub IsShownOf : (bytes : List ℕ) → Status → (told : List ℕ) → Type 0
IsShownOf bytes status.Ok told = (unit : ProgramUnit) × IsUnit bytes unit × (told ≡ accepted_text)
IsShownOf bytes (status.Refused kind line) told = IsRefused bytes kind line × IsExplained bytes kind line told
IsShownOf bytes s told = ⊥

-- that is shown, and nothing else is changed
abbrev pub Explains : (bytes : List ℕ) → CommandEffect
Explains bytes s before after shown kernel = (told : List ℕ) × IsShownOf bytes s told × OnlyShows told before after shown kernel

-- A program is run to its ending, which the status tells, and the record of its choices is kept.
pub record Runs (program : Runnable) (bound : ℕ) (choices : Choices) (record_file : Option (List ℕ)) (s : Status)
    (before after : Outside) (shown : List ℕ) (kernel : Lent) : Type 0 where
  pub ending : Ending
  pub drawn : ℕ
  pub within : drawn ≤ bound
  pub used : kernel.after.used ≤ bound
  pub status_is : s ≡ status_of ending
  pub ran : Ran program bound choices ending drawn before after shown kernel
  pub keeps : Keeps before after (record_of record_file choices drawn)

-- Where the devices tell their contents, these bytes are the log of the execution that the choices select.
abbrev pub IsLog : (bytes : List ℕ) → List Watched → (bound : ℕ) → Choices → Outside → Outside → (log : List ℕ) → Type 0
IsLog bytes points bound choices before after log =
    WhereTold (devices_of before) (devices_of after) (λ d e. IsLogOf bytes (system_on d) bound choices points log)

-- The program of a text is run to its ending, which the status tells. Its log is kept, and then the record of its choices.
pub record Watches (bytes : List ℕ) (points : List Watched) (bound : ℕ) (choices : Choices) (out : List ℕ) (record_file : Option (List ℕ)) (s : Status)
    (before after : Outside) (shown : List ℕ) (kernel : Lent) : Type 0 where
  pub ending : Ending
  pub drawn : ℕ
  pub within : drawn ≤ bound
  pub used : kernel.after.used ≤ bound
  pub status_is : s ≡ status_of ending
  pub ran : Ran (text bytes) bound choices ending drawn before after shown kernel
  pub log : List ℕ
  pub log_is : IsLog bytes points bound choices before after log
  pub keeps : Keeps before after ((out, log) ∷ record_of record_file choices drawn)

-- the code of the text's unit is kept, which does what the text does
pub record KeepsCode (out bytes : List ℕ) (unit : ProgramUnit) (before after : Outside) (shown : List ℕ) (kernel : Lent) : Type 0 where
  pub code_is : IsCodeFor bytes (parts_of unit)
  pub keeps : OnlyKeeps ((out, code_bytes (parts_of unit)) ∷ []) before after shown kernel

-- ---- the demonstration

-- the number of the symbols, if there are any
abbrev pub count_in : Result (List Mark × ℕ) LexFault → ℕ
count_in (Ok known) = length known.0
count_in (Err fault) = 0

-- the line of a demonstration that took so many turns, on a line of its own behind what its program has shown
abbrev pub size_line : (n turns : ℕ) → (by_program : List ℕ) → List ℕ
size_line n turns by_program = line_end by_program ++ demo_line n (count_in (symbols_of (demo_text n))) turns

-- it is shown where the program has come to its end
abbrev pub size_shown : Status → (n turns : ℕ) → (by_program : List ℕ) → List ℕ
size_shown status.Ok n turns by_program = size_line n turns by_program
size_shown _ n turns by_program = []

-- the outside with these blocks and this input in place of those that were lent
abbrev pub with_own : (blocks : List (List ℕ)) → (input : List ℕ) → Outside → Outside
with_own blocks input o =
    record { files = o.files; blocks = Some blocks; input = Some input; shown = o.shown; printed = o.printed }

-- So it is where a program has no disk and an empty input of its own; the drive and the input that were lent are as before.
pub record OnItsOwn (P : Outside → Outside → Type 0) (before after : Outside) : Type 0 where
  pub disk : List (List ℕ)
  pub left : List ℕ
  pub is : P (with_own [] [] before) (with_own disk left after)
  pub blocks : SameBlocks before after
  pub input : SameInput before after

-- A program has this effect on its own; then the line of a demonstration is shown.
pub record ShowsSize (n : ℕ) (effect : CommandEffect) (s : Status) (before after : Outside) (shown : List ℕ) (kernel : Lent) : Type 0 where
  pub by_program : List ℕ
  pub shown_ : shown ≡ by_program ++ size_shown s n kernel.after.used by_program
  pub ran : OnItsOwn (λ b a. effect s b a by_program kernel) before after

-- The program of the demonstration is run on its own to its ending, and the record of its choices is kept; then its line is shown.
abbrev pub Demonstrates : (n bound : ℕ) → Choices → (record_file : Option (List ℕ)) → CommandEffect
Demonstrates n bound choices record_file = ShowsSize n (Runs (text (demo_text n)) bound choices record_file)

-- and an account of the run is kept too, before its line is shown
abbrev pub DemonstratesWith : (n bound : ℕ) → Choices → Account → (record_file : Option (List ℕ)) → CommandEffect
DemonstratesWith n bound choices account record_file = ShowsSize n (RunsWith (text (demo_text n)) bound choices account record_file)

-- ---- what the drive holds behind `newdisk` and `put`

abbrev pub AreNew : (count : ℕ) → List (List ℕ) → List (List ℕ) → Type 0
AreNew count old new = (length new ≡ count) × Holds new no_files

abbrev pub AreMigrated : (count : ℕ) → (image : List (List ℕ)) → List (List ℕ) → List (List ℕ) → Type 0
AreMigrated count image old new = (length new ≡ count) × Holds new (migrated_slots image)

-- a file that begins as a code file does is code
abbrev pub kind_of_bytes : List ℕ → FileKind
kind_of_bytes (a ∷ b ∷ bytes) = if a == 237 && b == 21 then file_kind.Code else file_kind.Text
kind_of_bytes _ = file_kind.Text

-- the file of the title is no longer protected
abbrev pub released : (title : List ℕ) → List (Option File) → List (Option File)
released title slots = slots_changed (file_protected false) title slots

-- stored unprotected in place of any file of that title, protected or not
abbrev pub put_in : (title bytes : List ℕ) → List (Option File) → List (Option File)
put_in title bytes slots = slots_stored title (kind_of_bytes bytes) bytes (released title slots)

abbrev pub ArePut : (title bytes : List ℕ) → List (List ℕ) → List (List ℕ) → Type 0
ArePut title bytes old new = (length new ≡ length old) × Holds new (put_in title bytes (slots_of old))
