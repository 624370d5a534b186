-- Definition. What a call leaves of each object by itself, whatever it or the others tell: which objects a command uses, which
-- it has not come to, how many blocks the drive has, and what each object holds that tells it. All of it is read off the table of commands.
use Rattle.std.specs.Prelude.{◌≡◌, ◌≤◌, ◌<◌, ◌⊎◌, ℕ, Bool, true, false, not, ◌&&◌, ◌||◌, List, [], ◌∷◌, Option, Some, None, is_none, ⊤}
use Rattle.edi_told.specs.Faults.{CountRose}
use Rattle.edi_told.specs.Told.{WhereTold}
use Rattle.edi_catalog.specs.Counted.{IsOfCount}
use Rattle.edi_image.specs.Image.{mount_fault_of}
use Rattle.edi_system.specs.Growing.{Grows, Shrinks}
use Rattle.edi_words.specs.Words as words
use Rattle.edi_words.specs.Words.{ChoicesFrom, Command, Options}
use Rattle.edi_statuses.specs.declared.status.Status.{Status}
use Rattle.edi_statuses.specs.declared.status.Status.TheVariants as status
use Rattle.edi_statuses.specs.Outside.{Outside}
use Rattle.edi_statuses.specs.Facts.{FirstFile, no_file, file_named, file_of_choices, facts_of}
use Rattle.edi_statuses.specs.Facts.{DriveUse, leaves_drive, mounts_last, mounts_first, formats_to}

-- ---- which objects a command uses

-- the terminal and the printer
abbrev pub uses_devices : Command → Bool
uses_devices c = (facts_of c).devices

abbrev pub uses_kernel : Command → Bool
uses_kernel c = (facts_of c).kernel

abbrev pub uses_input : Command → Bool
uses_input c = (facts_of c).input

abbrev pub asks_for_drive : DriveUse → Bool
asks_for_drive leaves_drive = false
asks_for_drive other = true

abbrev pub uses_drive : Command → Bool
uses_drive c = asks_for_drive (facts_of c).drive

-- of what these show there is only the line of their status
abbrev pub is_silent : Command → Bool
is_silent c = (facts_of c).silent

-- only such a one tells a watcher how far it is
abbrev pub is_exploration : Command → Bool
is_exploration c = (facts_of c).watched

-- the choices stand in a file
abbrev pub is_in_file : ChoicesFrom → Bool
is_in_file words.nowhere = false
is_in_file (words.file name) = true
is_in_file (words.seed n) = false

-- the options of a run name a file
abbrev pub names_file : Options → Bool
names_file o = is_in_file o.choices || not (is_none o.record_file)

abbrev pub is_fetched : FirstFile → Bool
is_fetched no_file = false
is_fetched (file_named name) = true
is_fetched (file_of_choices from) = is_in_file from

abbrev pub has_names : List (List ℕ) → Bool
has_names [] = false
has_names (name ∷ names) = true

-- a file is fetched or kept
abbrev pub uses_files : Command → Bool
uses_files c =
    let f = facts_of c in
    is_fetched f.fetches || (has_names f.keeps || not (is_none f.record_file))

-- so, where there is a command
abbrev pub command_does : (Command → Bool) → Option Command → Bool
command_does test None = false
command_does test (Some c) = test c

-- a fault of the files or of the drive is one of an object that the command uses
abbrev pub Uses : Status → Command → Type 0
Uses status.FileFault c = uses_files c ≡ true
Uses status.DriveFault c = uses_drive c ≡ true
Uses s c = ⊤

-- ---- which it has not come to

-- the statuses of steps before the drive is asked, where it is mounted
abbrev pub is_before_drive : Status → Bool
is_before_drive status.Absent = true
is_before_drive (status.BadChoices line) = true
is_before_drive (status.BadPoints line) = true
is_before_drive (status.Refused kind line) = true
is_before_drive (status.BadCode broken) = true
is_before_drive status.FileLarge = true
is_before_drive s = false

-- those of steps before it is formatted
abbrev pub is_before_format : Status → Bool
is_before_format status.Absent = true
is_before_format (status.BadImage broken) = true
is_before_format status.DiskFull = true
is_before_format s = false

-- A command with this status has come to no object but the files; only `explain` shows why a text is refused. One that asks the drive first has
-- always come to it.
abbrev pub stops_by : DriveUse → Status → Bool
stops_by leaves_drive s = is_before_drive s
stops_by mounts_last s = is_before_drive s
stops_by mounts_first s = false
stops_by (formats_to blocks) s = is_before_format s

abbrev pub stops_first : Command → Status → Bool
stops_first c s = stops_by (facts_of c).drive s

-- whether it may have come to an object that it uses
abbrev pub comes_to : (Command → Bool) → Option Command → Status → Bool
comes_to uses None s = false
comes_to uses (Some c) s = uses c && not (stops_first c s)

-- the objects that a call is handed, and the kernel
pub record Handed (F D S T P K : Type 0) : Type 0 where
  pub files : F
  pub drive : D
  pub input : S
  pub terminal : T
  pub printer : P
  pub kernel : K

abbrev pub handed : {F D S T P K : Type 0} → F → D → S → T → P → K → Handed F D S T P K
handed files drive input terminal printer kernel =
    record { files = files; drive = drive; input = input; terminal = terminal; printer = printer; kernel = kernel }

-- Those that a command has no use for, and those that it has not come to, are not touched; words that are refused touch none.
pub record UnusedStay {F D S T P K : Type 0} (c : Option Command) (s : Status) (before after : Handed F D S T P K) : Type 0 where
  pub files : command_does uses_files c ≡ false → after.files ≡ before.files
  pub drive : comes_to uses_drive c s ≡ false → after.drive ≡ before.drive
  pub input : comes_to uses_input c s ≡ false → after.input ≡ before.input
  pub printer : comes_to uses_devices c s ≡ false → after.printer ≡ before.printer
  pub kernel : comes_to uses_kernel c s ≡ false → after.kernel ≡ before.kernel

-- the drive was asked, and is no valid image: no step went further
abbrev pub is_at_drive : Status → Bool
is_at_drive (status.BadImage broken) = true
is_at_drive s = false

-- or it is one, and has no file of the title
abbrev pub is_unread : Status → Bool
is_unread status.Absent = true
is_unread s = is_at_drive s

-- whether the drive is mounted after the other steps, or before them
abbrev pub is_last : DriveUse → Bool
is_last mounts_last = true
is_last other = false

abbrev pub is_first : DriveUse → Bool
is_first mounts_first = true
is_first other = false

abbrev pub asks_last : Command → Bool
asks_last c = is_last (facts_of c).drive

abbrev pub asks_first : Command → Bool
asks_first c = is_first (facts_of c).drive

-- the input, the printer and the kernel are not touched
pub record RunStays {F D S T P K : Type 0} (before after : Handed F D S T P K) : Type 0 where
  pub input : after.input ≡ before.input
  pub printer : after.printer ≡ before.printer
  pub kernel : after.kernel ≡ before.kernel

-- A command that finds no valid image has come to nothing that it uses after that.
pub record UnmountedStay {F D S T P K : Type 0} (c : Option Command) (s : Status) (before after : Handed F D S T P K) : Type 0 where
  pub last : command_does asks_last c ≡ true → is_at_drive s ≡ true → RunStays before after
  pub first : command_does asks_first c ≡ true → is_unread s ≡ true → after.files ≡ before.files

-- the devices and the kernel are not touched
pub record DevicesStay {F D S T P K : Type 0} (before after : Handed F D S T P K) : Type 0 where
  pub drive : after.drive ≡ before.drive
  pub input : after.input ≡ before.input
  pub terminal : after.terminal ≡ before.terminal
  pub printer : after.printer ≡ before.printer
  pub kernel : after.kernel ≡ before.kernel

-- ---- the number of blocks

-- a drive of so many blocks is no disk, or may be an image, which has 64 to 4096
pub record MayBeImage (count : ℕ) : Type 0 where
  pub least : 0 < count → count < 64 → ⊥
  pub most : count ≤ 4096

-- The number of blocks of a drive that is mounted: a broken rule of the image fits it; where the drive has failed, and behind the mount, it
-- is one of an image. A fault of the files and want of memory may come before the mount, and a fault of the output stands for every status.
abbrev pub FitsCount : Status → (count : ℕ) → Type 0
FitsCount (status.BadImage broken) count = IsOfCount count broken
FitsCount status.Ok count = MayBeImage count
FitsCount (status.Stopped cause line) count = MayBeImage count
FitsCount status.Turns count = MayBeImage count
FitsCount status.Standstill count = MayBeImage count
FitsCount (status.BadState address) count = MayBeImage count
FitsCount status.SessionLimit count = MayBeImage count
FitsCount status.DiskFull count = MayBeImage count
FitsCount status.InputFault count = MayBeImage count
FitsCount status.DriveFault count = MayBeImage count
FitsCount s count = ⊤

-- so for `get`, which looks for the title and keeps the file on a mounted drive
abbrev pub FitsGet : Status → (count : ℕ) → Type 0
FitsGet status.Absent count = MayBeImage count
FitsGet status.FileFault count = MayBeImage count
FitsGet s count = FitsCount s count

-- The number of the drive's blocks behind `newdisk`: after a refusal it is as before, and of a format that the drive broke off nothing is
-- known. A fault of the output may stand for each of them, whose line was not shown. The counts are those of the drive's faults.
abbrev pub CountsNew : Status → (wanted old new had has : ℕ) → Type 0
CountsNew status.Ok wanted old new had has = new ≡ wanted
CountsNew status.DriveFault wanted old new had has = ⊤
CountsNew status.OutputFault wanted old new had has = (new ≡ old) ⊎ CountRose had has
CountsNew s wanted old new had has = new ≡ old

-- every other command leaves it, and the status of one that mounts the drive fits it
abbrev pub CountsUsed : DriveUse → Status → (old new had has : ℕ) → Type 0
CountsUsed leaves_drive s old new had has = new ≡ old
CountsUsed mounts_last s old new had has = (new ≡ old) × FitsCount s old
CountsUsed mounts_first s old new had has = (new ≡ old) × FitsGet s old
CountsUsed (formats_to blocks) s old new had has = CountsNew s blocks old new had has

abbrev pub CountsBlocks : Option Command → Status → (old new had has : ℕ) → Type 0
CountsBlocks None s old new had has = new ≡ old
CountsBlocks (Some c) s old new had has = CountsUsed (facts_of c).drive s old new had has

-- ---- what each object holds that tells it, whatever the others tell

-- a valid image stays one
abbrev pub KeepsImage : (old new : List (List ℕ)) → Type 0
KeepsImage old new = mount_fault_of old ≡ None → mount_fault_of new ≡ None

-- a format puts another image in its place
abbrev pub is_format : DriveUse → Bool
is_format (formats_to blocks) = true
is_format other = false

abbrev pub formats : Command → Bool
formats c = is_format (facts_of c).drive

-- A valid image stays one, the input only loses its first bytes, and what the printer has taken only grows.
pub record LeavesEach (c : Option Command) (before after : Outside) : Type 0 where
  pub drive : command_does formats c ≡ false → WhereTold before.blocks after.blocks KeepsImage
  pub input : WhereTold before.input after.input Shrinks
  pub printer : WhereTold before.printed after.printed Grows
