-- Words of contracts. What a system over its devices stands for: a catalogue of files, an input, a terminal and a printer.
use Rattle.std.specs.Prelude.{◌≡◌, ℕ, ◌≤◌, Bool, List, length, slice_index, Option, Some, None, IfSome}
use Rattle.std.specs.Option.{option_map, option_and_then, ForSome}
use Rattle.edi_disk.specs.Shown.{drive_of}
use Rattle.edi_calls.specs.declared.kinds.FileKind.TheVariants as kind
use Rattle.edi_calls.specs.declared.ends.Outside.{Outside}
use Rattle.edi_calls.specs.declared.ends.Outside.TheVariants as outside
use Rattle.edi_calls.specs.State.{Found, State}
use Rattle.edi_catalog.specs.declared.catalog.Catalog.{Catalog}
use Rattle.edi_image.specs.Entries.{block_at}
use Rattle.edi_image.specs.Stored.{StoredFile}
use Rattle.edi_catalog.specs.Files.{file_titled}
use Rattle.edi_catalog.specs.Mounted.{IsMounted, disk_of, files_of}
use Rattle.edi_system.specs.declared.reading.Reading.{Reading}
use Rattle.edi_system.specs.declared.system.System.{System}
use Rattle.edi_system.specs.Begun.{state_begun}

-- ---- the parts of a system

abbrev pub catalog_in : {D S T P : Type 0} → System D S T P → Catalog D
catalog_in system = system.catalog

abbrev pub drive_in : {D S T P : Type 0} → System D S T P → D
drive_in system = drive_of (disk_of (catalog_in system))

abbrev pub input_in : {D S T P : Type 0} → System D S T P → S
input_in system = system.input.now

abbrev pub terminal_in : {D S T P : Type 0} → System D S T P → T
terminal_in system = system.terminal.now

abbrev pub printer_in : {D S T P : Type 0} → System D S T P → P
printer_in system = system.printer.now

-- the bytes of the file that is being written, if one is
abbrev pub buffer_in : {D S T P : Type 0} → System D S T P → Option (List ℕ)
buffer_in system = system.buffer.now

-- the references to them
abbrev pub input_reference : {D S T P : Type 0} → System D S T P → ℕ
input_reference system = system.input.ghost_name

abbrev pub terminal_reference : {D S T P : Type 0} → System D S T P → ℕ
terminal_reference system = system.terminal.ghost_name

abbrev pub printer_reference : {D S T P : Type 0} → System D S T P → ℕ
printer_reference system = system.printer.ghost_name

abbrev pub buffer_reference : {D S T P : Type 0} → System D S T P → ℕ
buffer_reference system = system.buffer.ghost_name

-- the object that has failed
abbrev pub failed_in : {D S T P : Type 0} → System D S T P → Option Outside
failed_in system = system.failed

-- a line was begun on the terminal and is not ended
abbrev pub due_in : {D S T P : Type 0} → System D S T P → Bool
due_in system = system.due

-- how often each object has failed
abbrev pub faults_of : {D S T P : Type 0} → (D → ℕ) → (S → ℕ) → (T → ℕ) → (P → ℕ) → System D S T P → Outside → ℕ
faults_of drive input terminal printer system outside.Drive = drive (drive_in system)
faults_of drive input terminal printer system outside.Input = input (input_in system)
faults_of drive input terminal printer system outside.Terminal = terminal (terminal_in system)
faults_of drive input terminal printer system outside.Printer = printer (printer_in system)

-- ---- the state

abbrev pub found_of : Reading → Found
found_of reading = record { title = reading.title; position = reading.position }

-- The state of a system whose drive has these blocks, whose input has these bytes left, and whose terminal and printer have
-- taken these.
abbrev pub state_with : {D S T P : Type 0} → System D S T P → (blocks : List (List ℕ)) → (input shown printed : List ℕ) → State
state_with system blocks input shown printed =
    record (state_begun blocks input shown printed) { found = option_map found_of system.found; buffer = buffer_in system }

-- what four options have, where all have it
abbrev pub all_told : {A B C E X : Type 0} → (A → B → C → E → X) → Option A → Option B → Option C → Option E → Option X
all_told make a b c e =
    option_and_then (λ x. option_and_then (λ y. option_and_then (λ z. option_map (make x y z) e) c) b) a

-- the state of a system, where all its objects tell what they hold
abbrev pub state_of : {D S T P : Type 0} → (D → Option (List (List ℕ))) → (S → Option (List ℕ)) → (T → Option (List ℕ)) → (P → Option (List ℕ))
    → System D S T P → Option State
state_of contents left shown printed system =
    all_told (state_with system) (contents (drive_in system)) (left (input_in system)) (shown (terminal_in system)) (printed (printer_in system))

-- ---- what is known of a system that has not failed

-- A text of the catalogue is being read: its position is not behind its end, and where a page is kept, it is that page of the
-- text.
pub record IsReading {D : Type 0} (contents : D → Option (List (List ℕ))) (catalog : Catalog D) (page : List ℕ) (reading : Reading) : Type 0 where
  pub file : StoredFile
  pub there : file_titled reading.title (files_of catalog) ≡ Some file
  pub text : file.record_.kind ≡ kind.Text
  pub length_ : file.record_.length ≡ reading.length
  pub within : reading.position ≤ reading.length
  pub kept : IfSome reading.kept (λ i. ForSome (contents (drive_of (disk_of catalog))) (λ blocks. block_at blocks (slice_index file.pages i) ≡ page))

-- A call may be made: nothing has failed, the catalogue is mounted, and the file that is being read is there.
pub record IsReady {D S T P : Type 0} (contents : D → Option (List (List ℕ))) (count : D → ℕ) (system : System D S T P) : Type 0 where
  pub nothing_failed : failed_in system ≡ None
  pub mounted : IsMounted contents count (catalog_in system)
  pub reading : IfSome system.found (IsReading contents (catalog_in system) system.page)
