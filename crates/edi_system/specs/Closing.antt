-- Words of contracts. What `close` and `remove` leave: of what is kept of the files, also where no object tells its contents, and of the
-- blocks, where the drive tells them.
use Rattle.std.specs.Prelude.{◌≡◌, ◌⊎◌, ℕ, Bool, true, false, List, length, Option, Some, None, Result, Ok, Err}
use Rattle.edi_calls.specs.declared.kinds.FileKind.TheVariants as kind
use Rattle.edi_catalog.specs.declared.ends.CatEnd.{CatEnd}
use Rattle.edi_catalog.specs.declared.ends.CatEnd.TheVariants as cat
use Rattle.edi_told.specs.Told.{WhereTold}
use Rattle.edi_image.specs.Image.{slots_of}
use Rattle.edi_catalog.specs.Changes.{CatalogAnswers, ChangedAreCached, Leaves, kept_changed, not_deleted}
use Rattle.edi_catalog.specs.SlotsChanged.{deleted, slots_changed}
use Rattle.edi_catalog.specs.Files.{file_titled}
use Rattle.edi_catalog.specs.Mounted.{files_of}
use Rattle.edi_catalog.specs.Storing.{IsCachedAt, StoreAnswers, WereFree, blocks_free, not_stored, index_for, stored_entry}
use Rattle.edi_catalog.specs.SlotsStored.{slots_stored}
use Rattle.edi_system.specs.Catalogue.{done, is_refused, OpenStays}
use Rattle.edi_system.specs.Reading.{not_titled}
use Rattle.edi_system.specs.State.{buffer_in, catalog_in, drive_in}
use Rattle.edi_system.specs.declared.ends.Stop.{Stop}
use Rattle.edi_system.specs.declared.system.System.{System}

-- what is answered to a program after a call of the catalogue: a refusal is a false answer
abbrev pub answer_by : {X : Type 0} → (refused : Bool) → Result X CatEnd → Result (Option ℕ) Stop
answer_by true answer = Ok (Some 0)
answer_by false answer = done answer

-- the open files: they stay after a refusal, and else the found file is dropped where it has this title, and the buffer is this
abbrev pub OpenAfter : {D S T P : Type 0} → (refused : Bool) → (title : List ℕ) → (buffer : Option (List ℕ)) → System D S T P → System D S T P → Type 0
OpenAfter true title buffer before after = OpenStays before after
OpenAfter false title buffer before after = (after.found ≡ not_titled title before.found) × (buffer_in after ≡ buffer)

-- the bytes were to be stored as the text of a title, and what became of that
pub record StoresText {D S T P : Type 0} (contents : D → Option (List (List ℕ))) (count : D → ℕ) (result : Result (Option ℕ) Stop) (title bytes : List ℕ)
    (before after : System D S T P) : Type 0 where
  pub answer : Result (Unit {0}) CatEnd
  pub answers : StoreAnswers answer
      (not_stored title (length bytes) (blocks_free (count (drive_in before)) (files_of (catalog_in before))) (files_of (catalog_in before)))
      (index_for title (files_of (catalog_in before))) (stored_entry title kind.Text (length bytes)) (files_of (catalog_in before))
      (files_of (catalog_in after))
  pub free : WereFree answer (count (drive_in before)) (index_for title (files_of (catalog_in before))) (files_of (catalog_in before))
      (files_of (catalog_in after))
  pub entries_cached : (answer ≡ Err cat.Fault) ⊎ ChangedAreCached (catalog_in before) (catalog_in after)
  pub file_cached : IsCachedAt answer (index_for title (files_of (catalog_in before))) bytes (catalog_in after)
  pub leaves : WhereTold (contents (drive_in before)) (contents (drive_in after))
      (λ old new. Leaves answer (slots_of old) (slots_stored title kind.Text bytes (slots_of old)) old new)
  pub count_ : count (drive_in after) ≡ count (drive_in before)
  pub result_ : result ≡ answer_by (is_refused answer) answer
  pub open_ : OpenAfter (is_refused answer) title None before after

-- the file of a title was to be deleted, and what became of that
pub record DeletesFile {D S T P : Type 0} (contents : D → Option (List (List ℕ))) (count : D → ℕ) (result : Result (Option ℕ) Stop) (title : List ℕ)
    (before after : System D S T P) : Type 0 where
  pub answer : Result (Unit {0}) CatEnd
  pub answers : CatalogAnswers answer (not_deleted (file_titled title (files_of (catalog_in before))))
      (files_of (catalog_in before)) (kept_changed deleted title (files_of (catalog_in before))) (files_of (catalog_in after))
  pub entries_cached : (answer ≡ Err cat.Fault) ⊎ ChangedAreCached (catalog_in before) (catalog_in after)
  pub leaves : WhereTold (contents (drive_in before)) (contents (drive_in after))
      (λ old new. Leaves answer (slots_of old) (slots_changed deleted title (slots_of old)) old new)
  pub count_ : count (drive_in after) ≡ count (drive_in before)
  pub result_ : result ≡ answer_by (is_refused answer) answer
  pub open_ : OpenAfter (is_refused answer) title (buffer_in before) before after

-- words that spell no title are a false answer, and change nothing
abbrev pub Closes : {D S T P : Type 0} → (contents : D → Option (List (List ℕ))) → (count : D → ℕ) → Result (Option ℕ) Stop → (title : Option (List ℕ))
    → (bytes : List ℕ) → System D S T P → System D S T P → Type 0
Closes contents count result None bytes before after = (result ≡ Ok (Some 0)) × (after ≡ before)
Closes contents count result (Some title) bytes before after = StoresText contents count result title bytes before after

abbrev pub Removes : {D S T P : Type 0} → (contents : D → Option (List (List ℕ))) → (count : D → ℕ) → Result (Option ℕ) Stop
    → (title : Option (List ℕ)) → System D S T P → System D S T P → Type 0
Removes contents count result None before after = (result ≡ Ok (Some 0)) × (after ≡ before)
Removes contents count result (Some title) before after = DeletesFile contents count result title before after
