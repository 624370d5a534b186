-- Words of contracts. What the first two steps of a command answer that runs or walks through a program: it fetches the file of the program, and reads
-- the choices.
use Rattle.std.specs.Prelude.{◌≡◌, ◌⊎◌, ℕ, List, take, Result, Ok, Err, ⊤}
use Rattle.edi_words.specs.Words.{ChoicesFrom}
use Rattle.edi_statuses.specs.declared.status.Status.{Status}
use Rattle.edi_statuses.specs.declared.status.Status.TheVariants as status
use Rattle.edi_statuses.specs.Outside.{Outside, IsSomeFile}
use Rattle.edi_statuses.specs.Steps.{goes, stops, Fetches, ReadsChoices}
use Rattle.edi_main.specs.declared.steps.opening.Opened.{Opened}

-- the file is not there, or the choices are not read
abbrev pub StopsOpening : Outside → (name : List ℕ) → ChoicesFrom → Status → Type 0
StopsOpening o name from s = Fetches o name (stops s) ⊎ ((all : List ℕ) × Fetches o name (goes all) × ReadsChoices o from (stops s))

-- The first bytes of the file and the choices, none of them drawn; or the steps stop. Want of memory may come at any file, and a fault only where that
-- of the program is there.
abbrev pub OpenStep : Outside → (name : List ℕ) → (limit : ℕ) → ChoicesFrom → Result Opened Status → Type 0
OpenStep o name limit from (Ok v) =
    ((all : List ℕ) × Fetches o name (goes all) × (v.bytes.items ≡ take limit all)) × (v.choices.drawn ≡ 0) × ReadsChoices o from (goes v.choices.source)
OpenStep o name limit from (Err status.NoMemory) = ⊤
OpenStep o name limit from (Err status.FileFault) = IsSomeFile o name
OpenStep o name limit from (Err s) = StopsOpening o name from s
