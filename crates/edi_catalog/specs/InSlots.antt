-- Words of contracts. The calls of a catalogue, told by the slots of its image, as the state of a system has them.
use Rattle.std.specs.Prelude.{◌≡◌, ◌⊎◌, ℕ, ◌+◌, ◌-◌, ◌*◌, ◌<◌, List, length, slice_get, Option, Some, None, Result}
use Rattle.std.specs.Prelude.{Ok, Err, ⊤}
use Rattle.edi_calls.specs.State.{File}
use Rattle.edi_calls.specs.State as calls
use Rattle.edi_image.specs.Image.{slots_of}
use Rattle.edi_catalog.specs.declared.ends.CatEnd.{CatEnd}
use Rattle.edi_catalog.specs.declared.ends.CatEnd.TheVariants as cat
use Rattle.edi_catalog.specs.declared.entry.Entry.{Entry}

-- what is told of a file
abbrev pub entry_told : File → Entry
entry_told file = record { title = file.title; kind = file.kind; protected = file.protected; length = length file.bytes }

-- the free blocks of an image: those that it has, less the 33 of the catalogue and those that its files take
abbrev pub free_in : List (List ℕ) → ℕ
free_in blocks = length blocks - (33 + calls.blocks_taken (slots_of blocks))

-- byte k of page i of a file is its byte 512 i + k
abbrev pub IsPageOf : (file : File) → (i : ℕ) → (page : List ℕ) → Type 0
IsPageOf file i page =
    (k : ℕ) → k < 512 → 512 * i + k < length file.bytes → slice_get page k ≡ slice_get file.bytes (512 * i + k)

-- on Ok there is a file, and this is its page
abbrev pub PageIn : {X E : Type 0} → Result X E → Option File → (i : ℕ) → (page : List ℕ) → Type 0
PageIn (Ok x) (Some file) i page = IsPageOf file i page
PageIn (Ok x) None i page = ⊥
PageIn (Err e) file i page = ⊤

-- ---- what a call leaves

-- It is refused exactly for the first reason against it, and then the slots are as before; on Ok they are the wanted ones, and
-- after a fault of the drive the ones or the others.
abbrev pub SlotsAnswer : {X : Type 0} → Result X CatEnd → (refusal : Option CatEnd) → (before wanted after : List (Option File)) → Type 0
SlotsAnswer (Ok x) refusal before wanted after = (refusal ≡ None) × (after ≡ wanted)
SlotsAnswer (Err cat.Fault) refusal before wanted after = (refusal ≡ None) × ((after ≡ before) ⊎ (after ≡ wanted))
SlotsAnswer (Err why) refusal before wanted after = (refusal ≡ Some why) × (after ≡ before)
