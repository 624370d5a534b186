-- Helper. Where an object stands behind a line of an editing, told by the rows of the definition.
use Rattle.std.specs.Prelude.{◌≡◌, ℕ, Bool, true, false, List, take, Option, Some, None, Result, Ok, Err}
use Rattle.edi_calls.specs.declared.ends.Outside.{Outside}
use Rattle.edi_calls.specs.State.{File, State}
use Rattle.edi_edit.specs.Editing.{Editing}
use Rattle.edi_edit.specs.Lines.{lines_of}
use Rattle.edi_session.specs.declared.end.SessionEnd.{SessionEnd}
use Rattle.edi_session.specs.declared.end.SessionEnd.TheVariants as end
use Rattle.edi_session.specs.declared.line.EditLine.{EditLine}
use Rattle.edi_session.specs.declared.line.EditLine.TheVariants as edit
use Rattle.edi_session.specs.Session.{AfterLine, BeginsEditing, EditsFile, closes, edits_on, goes, leaves, shell_in}
use Rattle.edi_session.specs.Shell.{Shell, shown_by}
use Rattle.edi_shell_io.specs.calls.Standing.{At, StandsIn}
use Rattle.edi_shell.specs.commands.Rows.{IsLike}

-- the line with a further line that replaces line n, or is inserted
abbrev pub puts : (replacing : Bool) → (n : ℕ) → EditLine
puts true n = edit.Replace n
puts false n = edit.Insert n

-- the shell behind a line: so many bytes have been taken, and no choice was drawn
pub record IsBehindLine (s : Shell) (taken : ℕ) (after : Shell) : Type 0 where
  pub taken_is : after.taken ≡ taken
  pub drawn_is : after.drawn ≡ s.drawn
  pub before_is : after.shown_before ≡ s.shown_before

module _ {C : Type 0} (at : C → State → ℕ → Type 0) (stands : C → Outside → State → Type 0) where
  -- an object failed on the way to what the row has
  pub record EditingBreaks (Row : AfterLine → Type 0) (c : C) : Type 0 where
    pub next : AfterLine
    pub row : Row next
    pub in_ : StandsIn stands (shell_in next) c

  -- the session ends so, as the row has it
  pub record EditingEnds (Row : AfterLine → Type 0) (e : SessionEnd) (s : Shell) (c : C) : Type 0 where
    pub last : Shell
    pub row : Row (closes e last)
    pub drawn_is : last.drawn ≡ s.drawn
    pub at_ : At at c last

  abbrev pub EditingStops : SessionEnd → (Row : AfterLine → Type 0) → Shell → C → Type 0
  EditingStops end.Halted Row s c = ⊥
  EditingStops end.InputEnd Row s c = EditingEnds Row end.InputEnd s c
  EditingStops end.Limit Row s c = EditingEnds Row end.Limit s c
  EditingStops end.DriveFault Row s c = EditingBreaks Row c
  EditingStops end.InputFault Row s c = EditingBreaks Row c
  EditingStops end.TerminalFault Row s c = EditingBreaks Row c
  EditingStops end.PrinterFault Row s c = EditingBreaks Row c

  -- As the row has it, the editing is left, or goes on with this text, and the object stands there; or the session stops.
  abbrev pub Edits : Result Bool SessionEnd → (Row : AfterLine → Type 0) → Shell → (taken : ℕ) → (title : List ℕ) → Editing → C → Type 0
  Edits (Ok true) Row s taken title e c = (after : Shell) × Row (leaves after) × IsBehindLine s taken after × At at c after
  Edits (Ok false) Row s taken title e c = (after : Shell) × Row (edits_on title e after) × IsBehindLine s taken after × At at c after
  Edits (Err why) Row s taken title e c = EditingStops why Row s c

  -- these bytes are shown, and the editing goes on
  abbrev pub SaysOn : Result Bool SessionEnd → (bytes : List ℕ) → Shell → C → Type 0
  SaysOn (Ok true) bytes s c = ⊥
  SaysOn (Ok false) bytes s c = At at c (shown_by bytes s)
  SaysOn (Err fault) bytes s c = StandsIn stands (shown_by bytes s) c

  -- The text of the file stands in front in `into`, and the editing of it may begin; or why it does not begin was shown.
  abbrev pub OpensText : Result (Option ℕ) SessionEnd → (f : List ℕ) → Option File → (into : List ℕ) → Shell → C → Type 0
  OpensText (Ok (Some n)) f file into s c =
      ((next : AfterLine) → BeginsEditing f (lines_of (take n into)) s next → EditsFile f file s next) × At at c s
  OpensText (Ok None) f file into s c = (after : Shell) × EditsFile f file s (goes after) × IsLike s after × (after.drawn ≡ s.drawn) × At at c after
  OpensText (Err fault) f file into s c = EditingBreaks (EditsFile f file s) c
