-- Words of contracts. The files of an image of version 1 as they are kept while an image of version 2 is made of it.
use Rattle.std.specs.Prelude.{◌≡◌, ℕ, Bool, true, ◌&&◌, ◌==◌, nat_le, List, ◌++◌, map, length, replicate, Option, Some, None}
use Rattle.std.specs.List.{list_all}
use Rattle.edi_calls.specs.State.{File, is_title, pages_of}
use Rattle.edi_image.specs.Records.{FileRecord}
use Rattle.edi_image.specs.Rules.{Rule, used_by}
use Rattle.edi_image.specs.Entries.{is_data}
use Rattle.edi_image.specs.migrate.OldEntries.{old_most_bytes, old_entry_says}
use Rattle.edi_image.specs.migrate.OldImage.{old_entry_at, old_entries_of}
use Rattle.edi_image.specs.Stored.{StoredFile, stored_of}
use Rattle.edi_image.specs.declared.entries.Said.{Said}
use Rattle.edi_image.specs.declared.entries.Said.TheVariants as said

-- what the entry of a slot says
abbrev pub old_said_at : List (List ℕ) → ℕ → Said
old_said_at blocks slot = old_entry_says (length blocks) (old_entry_at blocks slot)

-- What is known of a record: it has one map.
abbrev pub is_old_record : (count : ℕ) → FileRecord → Bool
is_old_record count r =
    is_title r.title && nat_le r.length old_most_bytes && list_all (is_data 5 count) r.maps && length r.maps == 1

abbrev pub is_old_fit : (count : ℕ) → Said → Bool
is_old_fit count said.Free = true
is_old_fit count said.Wrong = true
is_old_fit count (said.File r) = is_old_record count r

-- of a file that is kept
abbrev pub is_old_stored : (count : ℕ) → Option StoredFile → Bool
is_old_stored count None = true
is_old_stored count (Some file) =
    is_old_record count file.record_ && list_all (is_data 5 count) file.pages && length file.pages == pages_of file.record_.length

-- what is kept of the 64 slots, and 192 free ones behind them
abbrev pub old_files_of : List (List ℕ) → List (Option StoredFile)
old_files_of blocks = map (stored_of blocks) (old_entries_of blocks) ++ replicate 192 None

-- what is read of a map block: its rules use their blocks, and these are its page numbers
pub record TakesMap (used_before used_after : List ℕ) (rules : List Rule) (pages numbers : List ℕ) : Type 0 where
  pub used : used_after ≡ used_before ++ used_by rules
  pub pages_ : pages ≡ numbers
