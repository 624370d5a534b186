-- Definition. What the commands of the shell do to the files, and why they are refused.
use Rattle.std.specs.Prelude.{ℕ, Bool, if◌then◌else◌, List, [], length, Option, Some, None, codes}
use Rattle.edi_calls.specs.declared.kinds.FileKind.{FileKind}
use Rattle.edi_calls.specs.State.{File, free, find_file}
use Rattle.edi_calls.specs.Calls.{is_text}
use Rattle.edi_catalog.specs.declared.ends.CatEnd.{CatEnd}
use Rattle.edi_catalog.specs.declared.ends.CatEnd.TheVariants as cat
use Rattle.edi_catalog.specs.Refusing.{no_such, no_deletion, no_renaming, no_room}
use Rattle.edi_catalog.specs.SlotsStored.{slots_stored}
use Rattle.edi_catalog.specs.SlotsChanged.{slots_changed, file_protected, file_renamed, deleted}
use Rattle.edi_session.specs.Course.{has_slots}
use Rattle.edi_session.specs.Texts.{about, with_number, disk_full}
use Rattle.edi_session.specs.Shell.{Shell, state_in, says}

-- ---- a file by its title

abbrev pub file_in : Shell → List ℕ → Option File
file_in s title = find_file (state_in s).slots title

-- what is done with a file, which has to be there
abbrev pub with_file : Option File → (title : List ℕ) → (File → Shell → Shell) → Shell → Shell
with_file None title act s = says (about (codes "no file") title) s
with_file (Some file) title act s = act file s

-- what is done with the bytes of a file, where it is a text
abbrev pub with_text : (title : List ℕ) → (List ℕ → Shell → Shell) → File → Shell → Shell
with_text title act file s = if is_text file.kind then act file.bytes s else says (about (codes "not text") title) s

-- ---- changes of the files

-- the line of a refusal to change the file f; g is the new title where it is renamed
abbrev pub why_line : (f g : List ℕ) → CatEnd → List ℕ
why_line f g cat.NoSuch = about (codes "no file") f
why_line f g cat.Protected = about (codes "protected") f
why_line f g cat.Taken = about (codes "title taken") g
why_line f g (cat.TooLarge bytes) = with_number (codes "file too large") bytes
why_line f g cat.CatalogFull = codes "catalogue full"
why_line f g (cat.Full wanted free) = disk_full wanted free
why_line f g cat.Fault = []

-- the line is shown, or these are the files
abbrev pub answered : Option CatEnd → (f g : List ℕ) → List (Option File) → Shell → Shell
answered (Some why) f g slots s = says (why_line f g why) s
answered None f g slots s = record s { system = has_slots slots s.system }

abbrev pub stores : (title : List ℕ) → FileKind → (bytes : List ℕ) → Shell → Shell
stores title kind bytes s =
    answered (no_room title (length bytes) (free (state_in s)) (state_in s).slots) title title (slots_stored title kind bytes (state_in s).slots) s

abbrev pub deletes : List ℕ → Shell → Shell
deletes f s = answered (no_deletion (file_in s f)) f f (slots_changed deleted f (state_in s).slots) s

abbrev pub renames : (f g : List ℕ) → Shell → Shell
renames f g s = answered (no_renaming (file_in s f) (file_in s g)) f g (slots_changed (file_renamed g) f (state_in s).slots) s

abbrev pub protects : Bool → List ℕ → Shell → Shell
protects now f s = answered (no_such (file_in s f)) f f (slots_changed (file_protected now) f (state_in s).slots) s

-- the bytes and the kind of a file, stored under another title
abbrev pub copies_to : (g : List ℕ) → File → Shell → Shell
copies_to g file s = stores g file.kind file.bytes s
