-- Words of contracts. The page of the found file that is kept, and the byte that is read from it, whatever the drive tells.
use Rattle.std.specs.Prelude.{◌≡◌, ℕ, ◌/◌, ◌%◌, Bool, true, false, nat_lt, List, slice_index, Option, Some, IfSome}
use Rattle.edi_catalog.specs.declared.catalog.Catalog.{Catalog}
use Rattle.edi_catalog.specs.Files.{file_titled}
use Rattle.edi_catalog.specs.Mounted.{disk_of, files_of}
use Rattle.edi_catalog.specs.Reads.{GivesBlock}
use Rattle.edi_system.specs.Reading.{is_kept}
use Rattle.edi_system.specs.declared.reading.Reading.{Reading}

-- The page with the position of a text is kept afterwards, as `kept` says. Where it was kept before, nothing was read; else it was read,
-- from the block that the catalogue keeps for it.
pub record Loads {D : Type 0} (reading : Reading) (kept : Option ℕ) (was page : List ℕ) (before after : Catalog D) : Type 0 where
  pub keeps : kept ≡ Some (reading.position / 512)
  pub rests : is_kept (reading.position / 512) reading.kept ≡ true → (page ≡ was) × (after ≡ before)
  pub gives : is_kept (reading.position / 512) reading.kept ≡ false
      → IfSome (file_titled reading.title (files_of before))
      (λ file. GivesBlock (slice_index file.pages (reading.position / 512)) page (disk_of before) (disk_of after))

-- where there is a next byte; at the end nothing was read
abbrev pub LoadsAt : {D : Type 0} → (there : Bool) → Reading → (kept : Option ℕ) → (was page : List ℕ) → (before after : Catalog D) → Type 0
LoadsAt true reading kept was page before after = Loads reading kept was page before after
LoadsAt false reading kept was page before after = (kept ≡ reading.kept) × (page ≡ was) × (after ≡ before)

-- the same of the found file
abbrev pub LoadsNext : {D : Type 0} → (found found' : Option Reading) → (was page : List ℕ) → (before after : Catalog D) → Type 0
LoadsNext (Some reading) (Some next) was page before after =
    LoadsAt (nat_lt reading.position reading.length) reading next.kept was page before after
LoadsNext _ _ was page before after = ⊥

-- if there is a byte, it is that of the page at the position of the found file
abbrev pub IsOn : (page : List ℕ) → (found : Option Reading) → (byte : Option ℕ) → Type 0
IsOn page found byte = IfSome byte (λ c. IfSome found (λ reading. c ≡ slice_index page (reading.position % 512)))
