-- Words of contracts. What a system is to the calls of a program.
use Rattle.std.specs.Prelude.{◌≡◌, ℕ, ◌<◌, ◌≤◌, Bool, true, false, List, [], ◌∷◌, drop, length, Option, None, IfSome, ⊤}
use Rattle.edi_told.specs.Told.{WhereTold}
use Rattle.edi_disk.specs.Shown.{reference_of}
use Rattle.edi_calls.specs.declared.ends.Outside.{Outside}
use Rattle.edi_calls.specs.declared.ends.Outside.TheVariants as outside
use Rattle.edi_calls.specs.Asked.{uses}
use Rattle.edi_catalog.specs.Mounted.{disk_of, room_reference}
use Rattle.edi_system.specs.State.{buffer_reference, catalog_in, drive_in, due_in, failed_in, input_in, input_reference, printer_in, printer_reference}
use Rattle.edi_system.specs.State.{terminal_in, terminal_reference, IsReady}
use Rattle.edi_system.specs.Ends.{Keeps}
use Rattle.edi_system.specs.Parts.{due_after, IsValid}
use Rattle.edi_system.specs.Growing.{Grows, Shrinks}
use Rattle.edi_system.specs.declared.system.System.{System}

-- an input that fails has a byte left: at its end it always answers that it has ended
abbrev pub LeavesByte : Outside → (input : List ℕ) → Type 0
LeavesByte outside.Input input = 0 < length input
LeavesByte other input = ⊤

-- This is the object that has failed, and an input not at its end, where that is told. Where none has, a call may be made.
pub record HasFailed {D S T P : Type 0} (contents : D → Option (List (List ℕ))) (count : D → ℕ) (left : S → Option (List ℕ)) (system : System D S T P)
    (outside : Option Outside) : Type 0 where
  pub is : failed_in system ≡ outside
  pub before_end : IfSome outside (λ o. IfSome (left (input_in system)) (LeavesByte o))
  pub ready : outside ≡ None → IsReady contents count system

-- so of whatever has failed in the system
abbrev pub FailsBeforeEnd : {D S T P : Type 0} → (left : S → Option (List ℕ)) → System D S T P → Type 0
FailsBeforeEnd left system = IfSome (failed_in system) (λ outside. IfSome (left (input_in system)) (LeavesByte outside))

-- what has failed, if anything has, is an object that the call of this number uses, and an input not at its end
abbrev pub FailsUsed : {D S T P : Type 0} → (left : S → Option (List ℕ)) → (number : ℕ) → System D S T P → Type 0
FailsUsed left number system =
    IfSome (failed_in system) (λ outside. (uses number outside ≡ true) × IfSome (left (input_in system)) (LeavesByte outside))

-- the references to its objects: the drive, the room of the catalogue, the input, the terminal, the printer and the buffer
abbrev pub references_in : {D S T P : Type 0} → System D S T P → List ℕ
references_in system =
    reference_of (disk_of (catalog_in system)) ∷ room_reference (catalog_in system) ∷ input_reference system ∷ terminal_reference system
    ∷ printer_reference system ∷ buffer_reference system ∷ []

-- a line is due after the bytes from a place on, before which none was
pub record IsDueFrom (start : ℕ) (bytes : List ℕ) (due : Bool) : Type 0 where
  pub within : start ≤ length bytes
  pub is : due ≡ due_after false (drop start bytes)

-- whether a line is due is told by the bytes that the terminal has taken since it had taken so many
abbrev pub IsDueSince : {D S T P : Type 0} → (shown : T → Option (List ℕ)) → System D S T P → (start : ℕ) → Type 0
IsDueSince shown system start = IfSome (shown (terminal_in system)) (λ bytes. IsDueFrom start bytes (due_in system))

-- it stays so, from wherever it was so
abbrev pub KeepsDue : {D S T P : Type 0} → (shown : T → Option (List ℕ)) → (before after : System D S T P) → Type 0
KeepsDue shown before after = (start : ℕ) → IsDueSince shown before start → IsDueSince shown after start

-- What every call of a program keeps, whatever it answers: whether a line is due stays told, the drive has as many blocks as before, and
-- the system has the same objects, of which none has failed but by a fault.
pub record KeepsSystem {D S T P : Type 0} (count : D → ℕ) (shown : T → Option (List ℕ)) (drive : D → ℕ) (input : S → ℕ) (terminal : T → ℕ) (printer : P → ℕ)
    (fault : Bool) (before after : System D S T P) : Type 0 where
  pub due : KeepsDue shown before after
  pub size : count (drive_in after) ≡ count (drive_in before)
  pub keeps : Keeps drive input terminal printer fault before after

-- What calls in a row leave of a system, whatever they answer: what an object did not tell before the first it does not tell; where the
-- drive was a valid image, it is one; it has as many blocks as before; the input only loses its first bytes; what the terminal
-- and the printer had taken is the first part of what they have taken; and whether a line is due stays told by the bytes shown.
pub record IsBehind {D S T P : Type 0} (contents : D → Option (List (List ℕ))) (count : D → ℕ) (left : S → Option (List ℕ)) (shown : T → Option (List ℕ))
    (printed : P → Option (List ℕ)) (start now : System D S T P) : Type 0 where
  pub drive : contents (drive_in start) ≡ None → contents (drive_in now) ≡ None
  pub source : left (input_in start) ≡ None → left (input_in now) ≡ None
  pub terminal : shown (terminal_in start) ≡ None → shown (terminal_in now) ≡ None
  pub printer : printed (printer_in start) ≡ None → printed (printer_in now) ≡ None
  pub valid : IsValid (contents (drive_in start)) → IsValid (contents (drive_in now))
  pub count_ : count (drive_in now) ≡ count (drive_in start)
  pub shrinks : WhereTold (left (input_in start)) (left (input_in now)) Shrinks
  pub grows : WhereTold (shown (terminal_in start)) (shown (terminal_in now)) Grows
  pub prints : WhereTold (printed (printer_in start)) (printed (printer_in now)) Grows
  pub due : KeepsDue shown start now
