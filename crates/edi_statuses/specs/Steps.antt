-- Definition. The steps of a command before it has an effect, in their order: each goes on with something, or stops the
-- command at a status. A step is told by what it may come to.
use Rattle.std.specs.Prelude.{IfSome, ◌≡◌, ◌⊎◌, ℕ, Bool, true, false, nat_le, List, [], length, Some, None, ⊤}
use Rattle.edi_calls.specs.Choice.{Choices, listed, seeded}
use Rattle.edi_calls.specs.State.{most_bytes}
use Rattle.edi_host.specs.BytesAsBlocks.{blocks_of}
use Rattle.edi_image.specs.declared.faults.MountFault.{MountFault}
use Rattle.edi_image.specs.declared.faults.MountFault.TheVariants as mount
use Rattle.edi_image.specs.Image.{mount_fault_of}
use Rattle.edi_image.specs.migrate.OldImage.{old_fault_of}
use Rattle.edi_target.specs.declared.code_fault.CodeFault.{CodeFault}
use Rattle.edi_target.specs.Check.{CodeParts}
use Rattle.edi_target.specs.File.{code_fault_of, code_of}
use Rattle.edi_trace.specs.Lines.{Reading, values, bad_line, read_of}
use Rattle.edi_tree.specs.Tree as tree
use Rattle.edi_debug.specs.Points as points
use Rattle.edi_debug.specs.stops.Stops.{Watched}
use Rattle.edi_runs.specs.watch.Logs.{IsTreeOf}
use Rattle.edi_unit.specs.Tree.{ProgramUnit}
use Rattle.edi_statuses.specs.declared.status.Status.{Status}
use Rattle.edi_statuses.specs.declared.status.Status.TheVariants as status
use Rattle.edi_words.specs.Words.{ChoicesFrom, nowhere, file, seed}
use Rattle.edi_texts.specs.declared.kind.RefusalKind.{RefusalKind}
use Rattle.edi_texts.specs.Texts.{IsRefused, IsUnit}
use Rattle.edi_statuses.specs.Outside.{Outside, IsFile, IsNoFile, IsSomeFile}

pub data AfterStep (A : Type 0) : Type 0 where
  goes : A → AfterStep A
  stops : Status → AfterStep A

-- a step may come to this
abbrev pub StopsAt : {A B : Type 0} → (AfterStep A → Type 0) → AfterStep B → Type 0
StopsAt step (stops s) = step (stops s)
StopsAt step (goes b) = ⊥

-- one step, and then another with what the first gives
infixl 10 ◌>>=◌
abbrev pub ◌>>=◌ : {A B : Type 0} → (AfterStep A → Type 0) → (A → AfterStep B → Type 0) → AfterStep B → Type 0
(step >>= more) r = StopsAt step r ⊎ ((a : _) × step (goes a) × more a r)

-- nothing more is to be done before the effect
abbrev pub Ready : {A : Type 0} → A → AfterStep A → Type 0
Ready a (goes b) = b ≡ a
Ready a (stops s) = ⊥

-- ---- the steps

-- the bytes of the file of this name
abbrev pub Fetches : Outside → (name : List ℕ) → AfterStep (List ℕ) → Type 0
Fetches o name (goes bytes) = IsFile o name bytes
Fetches o name (stops s) = (s ≡ status.Absent) × IsNoFile o name

abbrev pub GivesChoices : Reading → AfterStep Choices → Type 0
GivesChoices (values list) (goes choices) = choices ≡ listed list
GivesChoices (values list) (stops s) = ⊥
GivesChoices (bad_line n) (goes choices) = ⊥
GivesChoices (bad_line n) (stops s) = s ≡ status.BadChoices n

-- the choices of a run
abbrev pub ReadsChoices : Outside → ChoicesFrom → AfterStep Choices → Type 0
ReadsChoices o nowhere = Ready (listed [])
ReadsChoices o (file name) = Fetches o name >>= λ bytes. GivesChoices (read_of bytes)
ReadsChoices o (seed n) = Ready (seeded n)

-- they are in a file that is there
abbrev pub ChoicesAreThere : Outside → ChoicesFrom → Type 0
ChoicesAreThere o (file name) = IsSomeFile o name
ChoicesAreThere o from = ⊥

-- the unit of a text, or its first fault
abbrev pub Accepts : (text : List ℕ) → AfterStep ProgramUnit → Type 0
Accepts text (goes unit) = IsUnit text unit
Accepts text (stops s) = (kind : RefusalKind) × (line : ℕ) × (s ≡ status.Refused kind line) × IsRefused text kind line

abbrev pub GivesPoints : points.Reading → AfterStep (List Watched) → Type 0
GivesPoints (points.read found) (goes list) = list ≡ found
GivesPoints (points.read found) (stops s) = ⊥
GivesPoints (points.bad_line n) (goes list) = ⊥
GivesPoints (points.bad_line n) (stops s) = s ≡ status.BadPoints n

-- the points that the bytes of a file are for the program of a text, or their first bad line
abbrev pub FindsPoints : (text bytes : List ℕ) → AfterStep (List Watched) → Type 0
FindsPoints text bytes r = (whose : tree.Program) × IsTreeOf text whose × GivesPoints (points.read_of whose bytes) r

-- The fault is a rule of an image that is broken. A fault of the drive and want of memory have statuses of their own.
abbrev pub IsBrokenRule : MountFault → Type 0
IsBrokenRule mount.Fault = ⊥
IsBrokenRule mount.NoMemory = ⊥
IsBrokenRule _ = ⊤

-- the drive is a valid image, or no disk
abbrev pub Mounts : Outside → AfterStep (Unit {0}) → Type 0
Mounts o (goes done) = IfSome o.blocks (λ blocks. mount_fault_of blocks ≡ None)
Mounts o (stops s) =
    (broken : MountFault) × (s ≡ status.BadImage broken) × IfSome o.blocks (λ blocks. mount_fault_of blocks ≡ Some broken) × IsBrokenRule broken

-- the code of a code file
abbrev pub Loads : (bytes : List ℕ) → AfterStep CodeParts → Type 0
Loads bytes (goes code) = (code_fault_of bytes ≡ None) × (code ≡ code_of bytes)
Loads bytes (stops s) = (broken : CodeFault) × (s ≡ status.BadCode broken) × (code_fault_of bytes ≡ Some broken)

-- the whole blocks of an old image; bytes behind them are not seen
abbrev pub ChecksOld : (bytes : List ℕ) → AfterStep (List (List ℕ)) → Type 0
ChecksOld bytes (goes blocks) = (blocks ≡ blocks_of bytes) × (old_fault_of blocks ≡ None)
ChecksOld bytes (stops s) =
    (broken : MountFault) × (s ≡ status.BadImage broken) × (old_fault_of (blocks_of bytes) ≡ Some broken) × IsBrokenRule broken

-- a test goes on, or stops at this status
abbrev pub Tests : (passes : Bool) → Status → AfterStep (Unit {0}) → Type 0
Tests passes refusal (goes done) = passes ≡ true
Tests passes refusal (stops s) = (passes ≡ false) × (s ≡ refusal)

-- a file that is no longer than a file of a disk may be
abbrev pub FitsDisk : (bytes : List ℕ) → AfterStep (Unit {0}) → Type 0
FitsDisk bytes = Tests (nat_le (length bytes) most_bytes) status.FileLarge

-- so many blocks have room in so many that are free
abbrev pub HasRoom : (wanted free : ℕ) → AfterStep (Unit {0}) → Type 0
HasRoom wanted free = Tests (nat_le wanted free) status.DiskFull
