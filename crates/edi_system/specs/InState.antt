-- Words of contracts. The calls of the catalogue on a system, told by the states before and after them.
use Rattle.std.specs.Prelude.{◌≡◌, ◌⊎◌, ℕ, List, Option, Some, None, Result, Ok, Err, ⊤}
use Rattle.edi_calls.specs.State.{File, State}
use Rattle.edi_catalog.specs.declared.ends.CatEnd.{CatEnd}
use Rattle.edi_catalog.specs.declared.ends.CatEnd.TheVariants as cat
use Rattle.edi_catalog.specs.Files.{Starts}
use Rattle.edi_catalog.specs.InSlots.{IsPageOf}

-- A call that changes files is refused exactly for the first reason against it, and then the state is as before. On Ok the files
-- are the wanted ones, and after a fault of the drive these or those from before; `opens` is what the call makes of the open files.
abbrev pub StateAnswer : {X : Type 0} → Result X CatEnd → (refusal : Option CatEnd) → (wanted : List (Option File)) → (opens : State → State) → State → State
    → Type 0
StateAnswer (Ok x) refusal wanted opens before after = (refusal ≡ None) × (after ≡ record (opens before) { slots = wanted })
StateAnswer (Err cat.Fault) refusal wanted opens before after =
    (refusal ≡ None) × ((after ≡ record (opens before) { slots = before.slots }) ⊎ (after ≡ record (opens before) { slots = wanted }))
StateAnswer (Err why) refusal wanted opens before after = (refusal ≡ Some why) × (after ≡ before)

-- the open files stay
abbrev pub left_open : State → State
left_open state = state

-- a page is read of the file with a title, or there is none, or the drive has failed
abbrev pub ReadsPage : {X : Type 0} → Result X CatEnd → Option File → (i : ℕ) → (page : List ℕ) → Type 0
ReadsPage (Ok x) (Some file) i page = IsPageOf file i page
ReadsPage (Err cat.NoSuch) None i page = ⊤
ReadsPage (Err cat.Fault) (Some file) i page = ⊤
ReadsPage _ file i page = ⊥

-- the same of a whole file: so many bytes of these are its
abbrev pub ReadsWhole : Result ℕ CatEnd → Option File → (bytes : List ℕ) → Type 0
ReadsWhole (Ok n) (Some file) bytes = Starts n file.bytes bytes
ReadsWhole (Err cat.NoSuch) None bytes = ⊤
ReadsWhole (Err cat.Fault) (Some file) bytes = ⊤
ReadsWhole _ file bytes = ⊥
