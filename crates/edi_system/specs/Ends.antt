-- Words of contracts. How the calls of a system end, and what they leave.
use Rattle.std.specs.Prelude.{◌≡◌, ℕ, ◌≤◌, Bool, true, false, Option, Some, None, Result, Ok, Err, ⊤}
use Rattle.std.specs.Option.{option_to_list}
use Rattle.edi_told.specs.Faults.{CountRose}
use Rattle.edi_disk.specs.Shown.{reference_of}
use Rattle.edi_calls.specs.declared.ends.Outside.{Outside}
use Rattle.edi_calls.specs.State.{State}
use Rattle.edi_calls.specs.Calls.{CallResult, answered, no_file, file_limit}
use Rattle.edi_calls.specs.Ends.{IsTorn}
use Rattle.edi_catalog.specs.Mounted.{disk_of, room_reference}
use Rattle.edi_system.specs.State.{buffer_reference, catalog_in, failed_in, faults_of, input_reference, printer_reference, terminal_reference}
use Rattle.edi_system.specs.declared.ends.Stop.{Stop}
use Rattle.edi_system.specs.declared.ends.Stop.TheVariants as stop
use Rattle.edi_system.specs.declared.system.System.{System}

-- A call is answered or refused as its result says. A fault comes only to a call that was to be answered, and leaves each
-- part of the state as before it or as it was to leave it.
abbrev pub Reaches : CallResult → Result (Option ℕ) Stop → State → State → Type 0
Reaches (answered words next) (Ok word) before after = (option_to_list word ≡ words) × (after ≡ next)
Reaches (answered words next) (Err stop.Fault) before after = IsTorn before next after
Reaches no_file (Err stop.NoFile) before after = after ≡ before
Reaches file_limit (Err stop.FileLimit) before after = after ≡ before
Reaches _ _ before after = ⊥

abbrev pub is_fault : {X : Type 0} → Result X Stop → Bool
is_fault (Ok x) = false
is_fault (Err stop.NoFile) = false
is_fault (Err stop.FileLimit) = false
is_fault (Err stop.Fault) = true

-- where a call is a fault, an object has failed whose count of faults rose in it; else nothing has failed
abbrev pub Blames : (fault : Bool) → Option Outside → (before now : Outside → ℕ) → Type 0
Blames true (Some outside) before now = CountRose (before outside) (now outside)
Blames true None before now = ⊥
Blames false (Some outside) before now = ⊥
Blames false None before now = ⊤

-- Whatever a call answers, the system has the same objects, and no count of faults falls.
pub record Keeps {D S T P : Type 0} (drive : D → ℕ) (input : S → ℕ) (terminal : T → ℕ) (printer : P → ℕ) (fault : Bool) (before after : System D S T P) : Type
    0 where
  pub same_drive : reference_of (disk_of (catalog_in after)) ≡ reference_of (disk_of (catalog_in before))
  pub same_room : room_reference (catalog_in after) ≡ room_reference (catalog_in before)
  pub same_input : input_reference after ≡ input_reference before
  pub same_terminal : terminal_reference after ≡ terminal_reference before
  pub same_printer : printer_reference after ≡ printer_reference before
  pub same_buffer : buffer_reference after ≡ buffer_reference before
  pub later : (outside : Outside) → faults_of drive input terminal printer before outside ≤ faults_of drive input terminal printer after outside
  pub blame : Blames fault (failed_in after) (faults_of drive input terminal printer before) (faults_of drive input terminal printer after)
