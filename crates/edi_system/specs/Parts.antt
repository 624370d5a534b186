-- Words of contracts. What the calls on one object leave of a system.
use Rattle.std.specs.Prelude.{◌≡◌, ℕ, ◌-◌, ◌≤◌, Bool, true, false, not, ◌==◌, List, [], ◌∷◌, ◌++◌, take, length, slice_get, Option, None, IfSome}
use Rattle.std.specs.Option.{option_map_or}
use Rattle.edi_told.specs.Told.{WhereTold}
use Rattle.edi_host.specs.declared.source.Next.{Next}
use Rattle.edi_host.specs.Streams.{Takes}
use Rattle.edi_calls.specs.State.{State}
use Rattle.edi_image.specs.Image.{mount_fault_of}
use Rattle.edi_system.specs.State.{buffer_in, drive_in, input_in, terminal_in, printer_in, due_in}
use Rattle.edi_system.specs.declared.system.System.{System}
use Rattle.edi_system.specs.Growing.{Grows, Shrinks}

-- the blocks of a drive are a valid image, where they are told
abbrev pub IsValid : Option (List (List ℕ)) → Type 0
IsValid disk = IfSome disk (λ blocks. mount_fault_of blocks ≡ None)

-- What is told of a drive, an input, a terminal and a printer before and after: what is told in the end was told at the start,
-- the blocks are a valid image, the input only loses its first bytes, and what the terminal and the printer have taken only grows.
pub record ToldStays (disk disk' : Option (List (List ℕ))) (input input' shown shown' printed printed' : Option (List ℕ)) : Type 0 where
  pub drive : disk ≡ None → disk' ≡ None
  pub source : input ≡ None → input' ≡ None
  pub terminal : shown ≡ None → shown' ≡ None
  pub printer : printed ≡ None → printed' ≡ None
  pub valid : IsValid disk'
  pub shrinks : WhereTold input input' Shrinks
  pub grows : WhereTold shown shown' Grows
  pub prints : WhereTold printed printed' Grows

-- the same of the objects of a system, whatever a call answers
abbrev pub KeepsTold : {D S T P : Type 0} → (contents : D → Option (List (List ℕ))) → (left : S → Option (List ℕ)) → (shown : T → Option (List ℕ))
    → (printed : P → Option (List ℕ)) → (before after : System D S T P) → Type 0
KeepsTold contents left shown printed before after =
    ToldStays (contents (drive_in before)) (contents (drive_in after)) (left (input_in before)) (left (input_in after)) (shown (terminal_in before))
    (shown (terminal_in after)) (printed (printer_in before)) (printed (printer_in after))

-- no file is open, and no line was begun on the terminal
pub record SystemBegins {D S T P : Type 0} (system : System D S T P) : Type 0 where
  pub found : system.found ≡ None
  pub buffer : buffer_in system ≡ None
  pub due : due_in system ≡ false

-- only the input was used
abbrev pub OnlyInput : {D S T P : Type 0} → System D S T P → System D S T P → Type 0
OnlyInput before after = after ≡ record before { input = after.input; failed = after.failed }

-- only the terminal was used
abbrev pub OnlyTerminal : {D S T P : Type 0} → System D S T P → System D S T P → Type 0
OnlyTerminal before after = after ≡ record before { terminal = after.terminal; due = after.due; failed = after.failed }

-- only the printer was used
abbrev pub OnlyPrinter : {D S T P : Type 0} → System D S T P → System D S T P → Type 0
OnlyPrinter before after = after ≡ record before { printer = after.printer; failed = after.failed }

-- no object was used, and the page that is kept stays
abbrev pub OnlyOpenFiles : {D S T P : Type 0} → System D S T P → System D S T P → Type 0
OnlyOpenFiles before after = after ≡ record before { found = after.found; buffer = after.buffer }

-- whether a line that was begun is not ended, after more bytes were shown: the last byte was no line feed
abbrev pub due_after : Bool → List ℕ → Bool
due_after due cs = option_map_or (λ c. not (c == 10)) (slice_get cs (length cs - 1)) due

-- the line feed that ends a line that was begun
abbrev pub line_end : (due : Bool) → List ℕ
line_end true = 10 ∷ []
line_end false = []

-- of a piece so many bytes were taken, and all where the call was no fault
pub record IsPart (whole : Bool) (piece : List ℕ) (taken : ℕ) : Type 0 where
  pub within : taken ≤ length piece
  pub all : whole ≡ true → taken ≡ length piece

-- a byte of the input was taken, or there is none left, or the input has failed; nothing else has changed
abbrev pub TakesByte : Next → State → State → Type 0
TakesByte answer before after = Takes answer before.input after.input × (after ≡ record before { input = after.input })

-- a first part of a piece was shown, and nothing else
pub record Shows {D S T P : Type 0} (shown : T → Option (List ℕ)) (whole : Bool) (piece : List ℕ) (before after : System D S T P) : Type 0 where
  pub taken : ℕ
  pub part : IsPart whole piece taken
  pub told : WhereTold (shown (terminal_in before)) (shown (terminal_in after)) (λ old new. new ≡ old ++ take taken piece)
  pub due : due_in after ≡ due_after (due_in before) (take taken piece)

-- a first part of a piece was printed, and nothing else
pub record Prints {D S T P : Type 0} (printed : P → Option (List ℕ)) (whole : Bool) (piece : List ℕ) (before after : System D S T P) : Type 0 where
  pub taken : ℕ
  pub part : IsPart whole piece taken
  pub told : WhereTold (printed (printer_in before)) (printed (printer_in after)) (λ old new. new ≡ old ++ take taken piece)

-- the same of the states
pub record ShowsMore (whole : Bool) (piece : List ℕ) (before after : State) : Type 0 where
  pub taken : ℕ
  pub part : IsPart whole piece taken
  pub now : after ≡ record before { shown = before.shown ++ take taken piece }

pub record PrintsMore (whole : Bool) (piece : List ℕ) (before after : State) : Type 0 where
  pub taken : ℕ
  pub part : IsPart whole piece taken
  pub now : after ≡ record before { printed = before.printed ++ take taken piece }
