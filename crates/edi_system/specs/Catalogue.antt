-- Words of contracts. The calls of the catalogue, on a system.
use Rattle.std.specs.Prelude.{◌≡◌, ℕ, Bool, true, false, Option, Some, None, Result, Ok, Err}
use Rattle.std.specs.Option.{option_map}
use Rattle.edi_calls.specs.declared.ends.Outside.{Outside}
use Rattle.edi_calls.specs.declared.ends.Outside.TheVariants as outside
use Rattle.edi_catalog.specs.declared.ends.CatEnd.{CatEnd}
use Rattle.edi_catalog.specs.declared.ends.CatEnd.TheVariants as cat
use Rattle.edi_system.specs.State.{buffer_in, found_of}
use Rattle.edi_system.specs.declared.ends.Stop.{Stop}
use Rattle.edi_system.specs.declared.ends.Stop.TheVariants as stop
use Rattle.edi_system.specs.declared.system.System.{System}

-- the drive has failed
abbrev pub is_drive_fault : {X : Type 0} → Result X CatEnd → Bool
is_drive_fault (Err cat.Fault) = true
is_drive_fault other = false

-- the call is refused for a named reason
abbrev pub is_refused : {X : Type 0} → Result X CatEnd → Bool
is_refused (Ok done) = false
is_refused (Err cat.Fault) = false
is_refused (Err why) = true

-- the object that has failed
abbrev pub failed_at : {X : Type 0} → Result X CatEnd → Option Outside
failed_at (Err cat.Fault) = Some outside.Drive
failed_at other = None

-- what is answered to a program, where the call was not refused: it was done, or the drive has failed
abbrev pub done : {X : Type 0} → Result X CatEnd → Result (Option ℕ) Stop
done (Ok x) = Ok (Some 1)
done (Err why) = Err stop.Fault

-- only the catalogue was used
abbrev pub OnlyCatalog : {D S T P : Type 0} → System D S T P → System D S T P → Type 0
OnlyCatalog before after = after ≡ record before { catalog = after.catalog; failed = after.failed }

-- only the catalogue was used, and the found file and the buffer
abbrev pub OnlyFiles : {D S T P : Type 0} → System D S T P → System D S T P → Type 0
OnlyFiles before after =
    after ≡ record before { catalog = after.catalog; failed = after.failed; found = after.found; buffer = after.buffer }

-- only the catalogue was used, and the found file
abbrev pub OnlyReading : {D S T P : Type 0} → System D S T P → System D S T P → Type 0
OnlyReading before after =
    after ≡ record before { catalog = after.catalog; failed = after.failed; found = after.found; page = after.page }

-- the found file and the buffer stay, or both are dropped
abbrev pub OpenStays : {D S T P : Type 0} → System D S T P → System D S T P → Type 0
OpenStays before after = (after.found ≡ before.found) × (buffer_in after ≡ buffer_in before)

abbrev pub IsClosed : {D S T P : Type 0} → System D S T P → Type 0
IsClosed system = (system.found ≡ None) × (buffer_in system ≡ None)

-- the found file stays with its position, and the buffer stays
abbrev pub PositionStays : {D S T P : Type 0} → System D S T P → System D S T P → Type 0
PositionStays before after = (option_map found_of after.found ≡ option_map found_of before.found) × (buffer_in after ≡ buffer_in before)
