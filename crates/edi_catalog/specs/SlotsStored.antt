-- Definition. A file stored in the slots of a disk.
use Rattle.std.specs.Prelude.{ℕ, false, List, Option, Some, None}
use Rattle.edi_calls.specs.State.{File, put_slot}
use Rattle.edi_calls.specs.Calls.{slot_for}
use Rattle.edi_calls.specs.declared.kinds.FileKind.{FileKind}

abbrev pub stored_file : (title : List ℕ) → FileKind → (bytes : List ℕ) → File
stored_file title kind bytes = record { title = title; kind = kind; protected = false; bytes = bytes }

-- the slots of an image with a file in one of them
abbrev pub put_at : Option ℕ → File → List (Option File) → List (Option File)
put_at None file slots = slots
put_at (Some index) file slots = put_slot slots index (Some file)

-- the slots of an image with a file stored
abbrev pub slots_stored : (title : List ℕ) → FileKind → (bytes : List ℕ) → List (Option File) → List (Option File)
slots_stored title kind bytes slots = put_at (slot_for slots title) (stored_file title kind bytes) slots
