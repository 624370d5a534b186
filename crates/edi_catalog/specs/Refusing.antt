-- Definition. Where a change of the files of a disk is refused.
use Rattle.std.specs.Prelude.{ℕ, is_none, is_some, nat_lt, if◌then◌else◌, List, Option, Some, None}
use Rattle.edi_calls.specs.State.{File, blocks_of, find_file, most_bytes}
use Rattle.edi_calls.specs.Calls.{is_protected, slot_for}
use Rattle.edi_catalog.specs.declared.ends.CatEnd.{CatEnd}
use Rattle.edi_catalog.specs.declared.ends.CatEnd.TheVariants as cat

abbrev pub no_such : Option File → Option CatEnd
no_such None = Some cat.NoSuch
no_such (Some file) = None

abbrev pub no_deletion : Option File → Option CatEnd
no_deletion None = Some cat.NoSuch
no_deletion (Some file) = if file.protected then Some cat.Protected else None

abbrev pub no_renaming : (file there : Option File) → Option CatEnd
no_renaming None there = Some cat.NoSuch
no_renaming (Some file) there =
    if file.protected then Some cat.Protected else (if is_some there then Some cat.Taken else None)

-- so many bytes are not stored under a title, where so many blocks are free
abbrev pub no_room : (title : List ℕ) → (size free : ℕ) → List (Option File) → Option CatEnd
no_room title size free slots =
    if is_protected (find_file slots title) then Some cat.Protected
    else (if nat_lt most_bytes size then Some (cat.TooLarge size)
    else (if is_none (slot_for slots title) then Some cat.CatalogFull
    else (if nat_lt free (blocks_of size) then Some (cat.Full (blocks_of size) free)
    else None)))
