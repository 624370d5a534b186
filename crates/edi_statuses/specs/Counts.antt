-- Definition. How often each object outside has failed, and which status tells which failure.
use Rattle.std.specs.Prelude.{◌≡◌, ◌⊎◌, ℕ, ◌≤◌, Bool, true, false, Option, Some, None, ⊤}
use Rattle.edi_told.specs.Faults.{CountRose}
use Rattle.edi_calls.specs.declared.ends.Outside as failing
use Rattle.edi_calls.specs.declared.ends.Outside.TheVariants as object
use Rattle.edi_statuses.specs.declared.status.Status.{Status}
use Rattle.edi_statuses.specs.declared.status.Status.TheVariants as status

pub record Counts : Type 0 where
  pub files : ℕ
  pub drive : ℕ
  pub input : ℕ
  pub terminal : ℕ
  pub printer : ℕ

abbrev pub counts_with : (files drive input terminal printer : ℕ) → Counts
counts_with files drive input terminal printer =
    record { files = files; drive = drive; input = input; terminal = terminal; printer = printer }

abbrev pub counts_of : {F D S T P : Type 0} → (F → ℕ) → (D → ℕ) → (S → ℕ) → (T → ℕ) → (P → ℕ) → F → D → S → T → P → Counts
counts_of of_files of_drive of_input of_terminal of_printer files drive input terminal printer =
    counts_with (of_files files) (of_drive drive) (of_input input) (of_terminal terminal) (of_printer printer)

-- A status that tells a fault comes only where the count of its object rose.
abbrev pub HasCause : Status → (before after : Counts) → Type 0
HasCause status.FileFault before after = CountRose before.files after.files
HasCause status.DriveFault before after = CountRose before.drive after.drive
HasCause status.InputFault before after = CountRose before.input after.input
HasCause status.OutputFault before after = CountRose before.terminal after.terminal ⊎ CountRose before.printer after.printer
HasCause _ before after = ⊤

-- the status of the fault of an object
abbrev pub object_status : failing.Outside → Status
object_status object.Drive = status.DriveFault
object_status object.Input = status.InputFault
object_status object.Terminal = status.OutputFault
object_status object.Printer = status.OutputFault

-- An object is blamed for the failure of a call of a program. Where the output has failed, the count of the one that is blamed rose.
abbrev pub IsBlamed : (blamed : Option failing.Outside) → Status → (had_shown has_shown had_printed has_printed : ℕ) → Type 0
IsBlamed (Some object.Terminal) s had_shown has_shown had_printed has_printed = s ≡ status.OutputFault → CountRose had_shown has_shown
IsBlamed (Some object.Printer) s had_shown has_shown had_printed has_printed = s ≡ status.OutputFault → CountRose had_printed has_printed
IsBlamed blamed s had_shown has_shown had_printed has_printed = ⊤

-- THE OUTPUT HAS FAILED: the count of the one that is blamed rose; of the terminal or of the printer, where neither of them is; of the terminal alone
-- in a command that does not see the printer.
abbrev pub OutputRose : (printer_seen : Bool) → (blamed : Option failing.Outside) → (had has : Counts) → Type 0
OutputRose false blamed had has = CountRose had.terminal has.terminal
OutputRose true (Some object.Terminal) had has = CountRose had.terminal has.terminal
OutputRose true (Some object.Printer) had has = CountRose had.printer has.printer
OutputRose true blamed had has = CountRose had.terminal has.terminal ⊎ CountRose had.printer has.printer

-- no count has fallen
pub record NoneFalls (before after : Counts) : Type 0 where
  pub files : before.files ≤ after.files
  pub drive : before.drive ≤ after.drive
  pub input : before.input ≤ after.input
  pub terminal : before.terminal ≤ after.terminal
  pub printer : before.printer ≤ after.printer
