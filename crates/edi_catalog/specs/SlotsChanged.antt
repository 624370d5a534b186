-- Definition. A file of a disk deleted, renamed, protected or released, in the slots of its image.
use Rattle.std.specs.Prelude.{ℕ, Bool, List, slice_set, slice_index_or, Option, Some, None}
use Rattle.std.specs.Option.{option_and_then}
use Rattle.edi_calls.specs.State.{File, find_slot}

-- slots with what a change makes of the file in one; a change to None frees the slot
abbrev pub changed_at : {A : Type 0} → (A → Option A) → Option ℕ → List (Option A) → List (Option A)
changed_at change None slots = slots
changed_at change (Some index) slots =
    slice_set slots index (option_and_then change (slice_index_or slots index None))

-- the file is deleted
abbrev pub deleted : {A : Type 0} → A → Option A
deleted file = None

-- the same changes of a file in an image
abbrev pub file_protected : Bool → File → Option File
file_protected now file = Some (record file { protected = now })

abbrev pub file_renamed : List ℕ → File → Option File
file_renamed title file = Some (record file { title = title })

-- the slots of an image, with the file of a title changed
abbrev pub slots_changed : (File → Option File) → List ℕ → List (Option File) → List (Option File)
slots_changed change title slots = changed_at change (find_slot slots title) slots
