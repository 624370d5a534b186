-- Definition. Texts that the shell shows: the line of an ending, and the other lines of the shell.
use Rattle.std.specs.Prelude.{ℕ, ◌-◌, Bool, true, false, List, [], ◌∷◌, ◌++◌, length, replicate, Option, Some, None, codes}
use Rattle.std.specs.Fmt.{decimal}
use Rattle.edi_calls.specs.declared.kinds.Cause.TheVariants as cause
use Rattle.edi_calls.specs.declared.kinds.FileKind.{FileKind}
use Rattle.edi_calls.specs.declared.kinds.FileKind.TheVariants as file_kind
use Rattle.edi_calls.specs.Outcome as outcome
use Rattle.edi_calls.specs.Outcome.{Ending}
use Rattle.edi_calls.specs.State.{File, State, free}
pub use Rattle.edi_texts.specs.Lines.{cause_text, on_line, with_number, last_of, is_due_behind, feed, line_end}

-- ---- lines, without their line feeds

-- `TEXT TITLE`, as `no file f`
abbrev pub about : List ℕ → (title : List ℕ) → List ℕ
about text title = text ++ (codes " " ++ title)

-- `disk full W F`
abbrev pub disk_full : (wanted free : ℕ) → List ℕ
disk_full wanted free = with_number (with_number (codes "disk full") wanted) free

-- the line of an execution's ending, if it has one
abbrev pub ending_line : (title : List ℕ) → Ending → Option (List ℕ)
ending_line title outcome.done = None
ending_line title (outcome.halted line) = Some (on_line line (cause_text cause.Halt))
ending_line title (outcome.failed why line) = Some (on_line line (cause_text why))
ending_line title outcome.turns = Some (codes "turn limit")
ending_line title outcome.standstill = Some (codes "standstill")
ending_line title (outcome.bad address) = Some (about (codes "bad code") title)

-- ---- the list of the files

abbrev pub left_in : (places : ℕ) → List ℕ → List ℕ
left_in places text = text ++ replicate (places - length text) 32

abbrev pub right_in : (places : ℕ) → List ℕ → List ℕ
right_in places text = replicate (places - length text) 32 ++ text

abbrev pub file_kind_text : FileKind → List ℕ
file_kind_text file_kind.Text = codes "text"
file_kind_text file_kind.Code = codes "code"

abbrev pub protected_text : Bool → List ℕ
protected_text true = codes " protected"
protected_text false = []

-- the line of a file with this title and kind, of this length
abbrev pub entry_line : (title : List ℕ) → FileKind → (size : ℕ) → (protected : Bool) → List ℕ
entry_line title kind size protected =
    left_in 24 title ++ (codes " " ++ (file_kind_text kind ++ (codes " " ++ (right_in 6 (decimal size) ++ protected_text protected))))

abbrev pub file_line : File → List ℕ
file_line file = entry_line file.title file.kind (length file.bytes) file.protected

-- with their line feeds
abbrev pub file_lines : List (Option File) → List ℕ
file_lines [] = []
file_lines (None ∷ slots) = file_lines slots
file_lines (Some file ∷ slots) = (file_line file ++ codes "\n") ++ file_lines slots

abbrev pub catalogue_text : State → List ℕ
catalogue_text state = file_lines state.slots ++ (decimal (free state) ++ codes " blocks free\n")
