-- Definition. The editing of a text: what a change makes of it, and what taking a change back.
use Rattle.std.specs.Prelude.{ℕ, ◌-◌, ◌&&◌, nat_le, Bool, if◌then◌else◌, Option, Some, None, List}
use Rattle.std.specs.Prelude.{[], ◌∷◌, ◌++◌, length, drop, take, slice_index_or}
use Rattle.edi_edit.specs.declared.EditEnd.{EditEnd}
use Rattle.edi_edit.specs.declared.EditEnd.TheVariants.{NoLine, Full}
use Rattle.edi_edit.specs.declared.TheConstants.{ROOM, UNDOS}
use Rattle.edi_edit.specs.Lines.{size_of_lines}

-- the text, and the texts before its last changes, the oldest first
pub record Editing : Type 0 where
  pub lines : List (List ℕ)
  pub earlier : List (List (List ℕ))

-- the last texts, as many as are kept
abbrev pub kept : List (List (List ℕ)) → List (List (List ℕ))
kept texts = drop (length texts - UNDOS) texts

-- after a change: the text goes to the end of the earlier ones
abbrev pub changed : Editing → List (List ℕ) → Editing
changed editing lines = record { lines = lines; earlier = kept (editing.earlier ++ editing.lines ∷ []) }

-- after an undo: the last of the earlier texts is the text again
abbrev pub undone : Editing → Editing
undone editing =
    let left = length editing.earlier - 1 in
    record { lines = slice_index_or editing.earlier left editing.lines; earlier = take left editing.earlier }

-- whether this number, counted from 1, is at most so large
abbrev pub is_index : ℕ → ℕ → Bool
is_index at most = nat_le 1 at && nat_le at most

-- why a change is refused, if it is: no such line, or a text that is too large
abbrev pub refusal : Bool → List (List ℕ) → Option EditEnd
refusal there lines = if there then (if nat_le (size_of_lines lines) ROOM then None else Some (Full (size_of_lines lines))) else Some NoLine

-- why a line is not there, if it is not
abbrev pub missing : Bool → Option EditEnd
missing there = if there then None else Some NoLine
