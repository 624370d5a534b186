-- Words of contracts. What a command answers that touches the files and the terminal alone: it makes bytes of a file and shows them.
use Rattle.std.specs.Prelude.{◌≡◌, ◌⊎◌, ℕ, Bool, false, List, ◌++◌, Option, Some, Result, Ok, Err}
use Rattle.edi_told.specs.Faults.{CountRose}
use Rattle.edi_told.specs.Told.{WhereTold}
use Rattle.edi_host.specs.Contents.{Contents}
use Rattle.edi_words.specs.Words.{Command}
use Rattle.edi_statuses.specs.declared.ended.Ended.{Ended}
use Rattle.edi_statuses.specs.declared.status.Status.{Status}
use Rattle.edi_statuses.specs.declared.status.Status.TheVariants as status
use Rattle.edi_statuses.specs.Counts.{HasCause, counts_with}
use Rattle.edi_statuses.specs.Fronts.{IsFront}
use Rattle.edi_statuses.specs.Outside.{Outside, IsSomeFile, KernelLeft, idle, outside_with}
use Rattle.edi_statuses.specs.Showing.{due_behind}
use Rattle.edi_statuses.specs.Steps.{AfterStep, goes, stops}
use Rattle.edi_statuses.specs.Decided.{Came}

-- ---- for callers

-- The command came to this status, whatever the other objects and the kernel are, which stay as they are.
abbrev pub CameShowing : Command → Status → (due : Bool) → (old new : Option Contents) → (taken takes : Option (List ℕ)) → Type 0
CameShowing c s due old new taken takes =
    (blocks : Option (List (List ℕ))) (input printed : Option (List ℕ)) (kernel : KernelLeft)
    → Came s due (Some c) (outside_with old blocks input taken printed) (outside_with new blocks input takes printed) (idle kernel)

-- a status that tells a fault has its cause, whatever the counts of the other objects are
abbrev pub HasCauseShown : Status → (had has had_shown has_shown : ℕ) → Type 0
HasCauseShown s had has had_shown has_shown =
    (drive input printer : ℕ)
    → HasCause s (counts_with had drive input had_shown printer) (counts_with has drive input has_shown printer)

-- ---- for the functions below

-- All the bytes were shown, and this is the status; or a first part of them, where the output has failed.
abbrev pub ShowsTo : (ends s : Status) → (front all : List ℕ) → Type 0
ShowsTo ends s front all = ((s ≡ ends) × (front ≡ all)) ⊎ ((s ≡ status.OutputFault) × IsFront front all)

-- the terminal has taken them, and a line feed is due behind them, or not
abbrev pub EndsShowing : (ends : Status) → (all : List ℕ) → Ended → (taken takes : Option (List ℕ)) → Type 0
EndsShowing ends all ended taken takes =
    (front : List ℕ) × ShowsTo ends ended.status front all × WhereTold taken takes (λ old new. new ≡ old ++ front)
    × (ended.due ≡ due_behind false front)

-- The bytes that were made were shown so; or the command stopped before that.
abbrev pub ShowsMade : {V : Type 0} → (V → List ℕ) → Result V Status → Ended → (taken takes : Option (List ℕ)) → (had has : ℕ) → Type 0
ShowsMade items (Ok v) ended taken takes had has =
    EndsShowing status.Ok (items v) ended taken takes × ((ended.status ≡ status.Ok) ⊎ ((ended.status ≡ status.OutputFault) × CountRose had has))
ShowsMade items (Err s) ended taken takes had has = (ended.status ≡ s) × (ended.due ≡ false) × (takes ≡ taken) × (has ≡ had)

-- The steps on the file of this name lead to something of which the bytes are made, with a status or without one; or they stop the command.
-- Memory may run out at any file, and one that is there may fail.
abbrev pub GivesBytes : {A B V : Type 0} → (V → B) → (steps : Outside → AfterStep A → Type 0) → (Is : A → B → Type 0) → Outside
    → (name : List ℕ) → Result V Status → Type 0
GivesBytes items steps Is o name (Ok v) = (a : _) × steps o (goes a) × Is a (items v)
GivesBytes items steps Is o name (Err s) = (s ≡ status.NoMemory) ⊎ (((s ≡ status.FileFault) × IsSomeFile o name) ⊎ steps o (stops s))
