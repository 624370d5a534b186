-- Definition. A SESSION: lines one after another, each by the table of commands, or in an editing by the table of its lines.
--
-- A line has one effect, but for one point: the line `no memory` may stand in place of the effect of `compile` behind `no file` and
-- `not text`, of an execution behind `no file` and `not code`, of `edit` behind `not text`, and of a change that is not refused, an
-- undo with something to undo, and `w`.
use Rattle.std.specs.Prelude.{◌≡◌, ◌⊎◌, ℕ, zero, suc, ◌+◌, ◌-◌, true, false, nat_lt, if◌then◌else◌, List, [], ◌∷◌, length, insert, remove, slice_set, Option}
use Rattle.std.specs.Prelude.{Some, None, codes}
use Rattle.edi_calls.specs.declared.ends.Outside.{Outside}
use Rattle.edi_calls.specs.declared.kinds.FileKind.{FileKind}
use Rattle.edi_calls.specs.declared.kinds.FileKind.TheVariants as file_kind
use Rattle.edi_calls.specs.Choice.{Choices}
use Rattle.edi_calls.specs.Outcome.{Ending}
use Rattle.edi_calls.specs.State.{File, State, free, fresh, most_bytes}
use Rattle.edi_catalog.specs.declared.ends.CatEnd.{CatEnd}
use Rattle.edi_catalog.specs.Refusing.{no_room}
use Rattle.edi_edit.specs.declared.EditEnd.{EditEnd}
use Rattle.edi_edit.specs.declared.EditEnd.TheVariants as edit_end
use Rattle.edi_edit.specs.Editing.{Editing, changed, undone, is_index, refusal, missing}
use Rattle.edi_edit.specs.Lines as lines
use Rattle.edi_scheme.specs.Laws.{parts_of}
use Rattle.edi_target.specs.Check.{CodeParts}
use Rattle.edi_target.specs.Fetch.{fetch}
use Rattle.edi_target.specs.File.{code_bytes, code_fault_of, code_of}
use Rattle.edi_target.specs.Mach.{Machine}
use Rattle.edi_target.specs.Moments.{EndsThrough}
use Rattle.edi_target.specs.declared.code_fault.CodeFault.{CodeFault}
use Rattle.edi_texts.specs.Kinds.{kind_text}
use Rattle.edi_texts.specs.Run.{IsCodeFor}
use Rattle.edi_texts.specs.Texts.{IsRefused, IsUnit}
use Rattle.edi_texts.specs.declared.kind.RefusalKind.{RefusalKind}
use Rattle.edi_unit.specs.Tree.{ProgramUnit}
use Rattle.edi_session.specs.declared.end.SessionEnd.{SessionEnd}
use Rattle.edi_session.specs.declared.end.SessionEnd.TheVariants.{Halted, InputEnd, Limit}
use Rattle.edi_session.specs.declared.line.Line.{Line}
use Rattle.edi_session.specs.declared.line.Line.TheVariants as line
use Rattle.edi_session.specs.declared.line.EditLine.{EditLine}
use Rattle.edi_session.specs.declared.line.EditLine.TheVariants as edit
use Rattle.edi_session.specs.Course.{MayFail, executed, states_of}
use Rattle.edi_session.specs.Files.{file_in, with_file, with_text, why_line, stores, deletes, renames, protects, copies_to}
use Rattle.edi_session.specs.Shell.{Shell, Mode, commanding, editing, state_in, shown_by, printed_by, on_fresh_line, says, Taken, took, ended, limited}
use Rattle.edi_session.specs.Shell.{next_line, next_text}
use Rattle.edi_session.specs.Texts.{on_line, about, with_number, catalogue_text, ending_line}
use Rattle.edi_session.specs.Words.{command_line, edit_line, kept_line}

-- what a line comes to: the session goes on, or stops at one of the first three ends
pub data AfterLine : Type 0 where
  goes : Shell → AfterLine
  stops : SessionEnd → Shell → AfterLine

-- at the session's end the fresh-line rule is applied
abbrev pub closes : SessionEnd → Shell → AfterLine
closes end s = stops end (on_fresh_line s)

abbrev pub shell_in : AfterLine → Shell
shell_in (goes s) = s
shell_in (stops end s) = s

-- what comes behind lines that were asked for
abbrev pub BehindTaken : Taken → (List ℕ → Shell → AfterLine → Type 0) → AfterLine → Type 0
BehindTaken (took bytes s) P next = P bytes s next
BehindTaken (ended s) P next = next ≡ closes InputEnd s
BehindTaken (limited s) P next = next ≡ closes Limit s

abbrev pub says_no_memory : Shell → Shell
says_no_memory s = says (codes "no memory") s

-- ---- `compile f g`

-- the code is too large for a file, or is stored
abbrev pub stores_code : (g bytes : List ℕ) → Shell → Shell
stores_code g bytes s =
    if nat_lt most_bytes (length bytes) then says (with_number (codes "code too large") (length bytes)) s
    else stores g file_kind.Code bytes s

-- what is stored is the code of the text's unit, by the scheme, which does what the text does
abbrev pub CompilesText : (text g : List ℕ) → Shell → AfterLine → Type 0
CompilesText text g s next =
    ((kind : RefusalKind) × (n : ℕ) × IsRefused text kind n × (next ≡ goes (says (on_line n (kind_text kind)) s)))
    ⊎ (((unit : ProgramUnit) × IsUnit text unit × IsCodeFor text (parts_of unit) × (next ≡ goes (stores_code g (code_bytes (parts_of unit)) s)))
    ⊎ (next ≡ goes (says_no_memory s)))

abbrev pub CompilesKind : FileKind → (f g bytes : List ℕ) → Shell → AfterLine → Type 0
CompilesKind file_kind.Text f g bytes s next = CompilesText bytes g s next
CompilesKind file_kind.Code f g bytes s next = next ≡ goes (says (about (codes "not text") f) s)

abbrev pub CompilesFile : (f g : List ℕ) → Option File → Shell → AfterLine → Type 0
CompilesFile f g None s next = next ≡ goes (says (about (codes "no file") f) s)
CompilesFile f g (Some file) s next = CompilesKind file.kind f g file.bytes s next

-- ---- the execution of a file

-- before the line of an ending the fresh-line rule is applied; a program that came to its end has no line
abbrev pub ends_with : Option (List ℕ) → Shell → Shell
ends_with None s = s
ends_with (Some text) s = says text (on_fresh_line s)

-- the shell behind an execution that left this state by this past, with so many choices drawn
abbrev pub behind : (after : State) → (past : List State) → (drawn : ℕ) → Shell → Shell
behind after past drawn s = record s { system = executed after past s.system; drawn = drawn }

module _ (bound : ℕ) (choices : Choices) where
  -- The machine runs the code from the state with no file open, with the bound anew. The choices go on behind those drawn so far.
  pub record ExecutesCode (f : List ℕ) (code : CodeParts) (s : Shell) (next : AfterLine) : Type 0 where
    pub ending : Ending
    pub machine : Machine
    pub drawn : ℕ
    pub past : List State
    pub ends : EndsThrough (fetch code.words) code.entry code.calls (fresh (state_in s)) bound choices s.drawn ending machine drawn past
    pub next_is : next ≡ goes (ends_with (ending_line f ending) (behind machine.system past drawn s))

  -- what stands in a code file: a fault, or a code
  abbrev pub ExecutesBytes : (f bytes : List ℕ) → Option CodeFault → Shell → AfterLine → Type 0
  ExecutesBytes f bytes (Some fault) s next = next ≡ goes (says (about (codes "bad code") f) s)
  ExecutesBytes f bytes None s next = ExecutesCode f (code_of bytes) s next

  abbrev pub ExecutesKind : FileKind → (f bytes : List ℕ) → Shell → AfterLine → Type 0
  ExecutesKind file_kind.Text f bytes s next = next ≡ goes (says (about (codes "not code") f) s)
  ExecutesKind file_kind.Code f bytes s next = ExecutesBytes f bytes (code_fault_of bytes) s next ⊎ (next ≡ goes (says_no_memory s))

  abbrev pub ExecutesFile : (f : List ℕ) → Option File → Shell → AfterLine → Type 0
  ExecutesFile f None s next = next ≡ goes (says (about (codes "no file") f) s)
  ExecutesFile f (Some file) s next = ExecutesKind file.kind f file.bytes s next

-- ---- `edit f`

-- the editing goes on, or is left
abbrev pub edits_on : (title : List ℕ) → Editing → Shell → AfterLine
edits_on title e s = goes (record s { mode = editing title e })

abbrev pub leaves : Shell → AfterLine
leaves s = goes (record s { mode = commanding })

-- it begins with these lines, and nothing to undo
abbrev pub BeginsEditing : (f : List ℕ) → List (List ℕ) → Shell → AfterLine → Type 0
BeginsEditing f text s next = (next ≡ edits_on f (record { lines = text; earlier = [] }) s) ⊎ (next ≡ goes (says_no_memory s))

abbrev pub EditsKind : FileKind → (f bytes : List ℕ) → Shell → AfterLine → Type 0
EditsKind file_kind.Text f bytes s next = BeginsEditing f (lines.lines_of bytes) s next
EditsKind file_kind.Code f bytes s next = next ≡ goes (says (about (codes "not text") f) s)

abbrev pub EditsFile : (f : List ℕ) → Option File → Shell → AfterLine → Type 0
EditsFile f None s next = BeginsEditing f [] s next
EditsFile f (Some file) s next = EditsKind file.kind f file.bytes s next

-- why line n is not changed; the size is that of the text that the change would make
abbrev pub edit_refusal : (n : ℕ) → EditEnd → List ℕ
edit_refusal n edit_end.NoLine = with_number (codes "no line") n
edit_refusal n (edit_end.Full size) = with_number (codes "text full") size
edit_refusal n edit_end.NoMemory = codes "no memory"

-- a change of line n, which is refused, or made, or wants memory
abbrev pub ChangesLine : Option EditEnd → (n : ℕ) → (title : List ℕ) → (before after : Editing) → Shell → AfterLine → Type 0
ChangesLine (Some why) n title before after s next = next ≡ edits_on title before (says (edit_refusal n why) s)
ChangesLine None n title before after s next = (next ≡ edits_on title after s) ⊎ (next ≡ edits_on title before (says_no_memory s))

abbrev pub Inserts : (n : ℕ) → (title : List ℕ) → Editing → List ℕ → Shell → AfterLine → Type 0
Inserts n title e text s next =
    let after = insert e.lines (n - 1) (kept_line text) in
    ChangesLine (refusal (is_index n (length e.lines + 1)) after) n title e (changed e after) s next

abbrev pub Replaces : (n : ℕ) → (title : List ℕ) → Editing → List ℕ → Shell → AfterLine → Type 0
Replaces n title e text s next =
    let after = slice_set e.lines (n - 1) (kept_line text) in
    ChangesLine (refusal (is_index n (length e.lines)) after) n title e (changed e after) s next

abbrev pub Deletes : (n : ℕ) → (title : List ℕ) → Editing → Shell → AfterLine → Type 0
Deletes n title e s next = ChangesLine (missing (is_index n (length e.lines))) n title e (changed e (remove e.lines (n - 1))) s next

abbrev pub TakesBack : (title : List ℕ) → (earlier : List (List (List ℕ))) → Editing → Shell → AfterLine → Type 0
TakesBack title [] e s next = next ≡ edits_on title e (says (codes "no undo") s)
TakesBack title (text ∷ texts) e s next = (next ≡ edits_on title (undone e) s) ⊎ (next ≡ edits_on title e (says_no_memory s))

abbrev pub looked_at : (n : ℕ) → Option (List ℕ) → Shell → Shell
looked_at n None s = says (edit_refusal n edit_end.NoLine) s
looked_at n (Some text) s = says text s

-- the text is stored and the editing left, unless the store is refused
abbrev pub written_back : Option CatEnd → (title : List ℕ) → Editing → Shell → AfterLine
written_back (Some why) title e s = edits_on title e (says (why_line title title why) s)
written_back None title e s = leaves (stores title file_kind.Text (lines.bytes_of_lines e.lines) s)

abbrev pub Writes : (title : List ℕ) → Editing → Shell → AfterLine → Type 0
Writes title e s next =
    (next ≡ written_back (no_room title (lines.size_of_lines e.lines) (free (state_in s)) (state_in s).slots) title e s)
    ⊎ (next ≡ edits_on title e (says_no_memory s))

-- THE LINES OF AN EDITING
abbrev pub EditsBy : EditLine → (title : List ℕ) → Editing → Shell → AfterLine → Type 0
EditsBy (edit.Insert n) title e s next = BehindTaken (next_line false s) (Inserts n title e) next
EditsBy (edit.Replace n) title e s next = BehindTaken (next_line false s) (Replaces n title e) next
EditsBy (edit.Delete n) title e s next = Deletes n title e s next
EditsBy (edit.Look n) title e s next = next ≡ edits_on title e (looked_at n (lines.line_numbered e.lines n) s)
EditsBy edit.Undo title e s next = TakesBack title e.earlier e s next
EditsBy edit.Write title e s next = Writes title e s next
EditsBy edit.Quit title e s next = next ≡ leaves s
EditsBy edit.Bad title e s next = next ≡ edits_on title e (says (codes "bad edit") s)

abbrev pub EditsLine : (title : List ℕ) → Editing → List ℕ → Shell → AfterLine → Type 0
EditsLine title e text s next = EditsBy (edit_line (kept_line text)) title e s next

-- ---- the commands

abbrev pub StoresText : (f text : List ℕ) → Shell → AfterLine → Type 0
StoresText f text s next = next ≡ goes (stores f file_kind.Text text s)

module _ (bound : ℕ) (choices : Choices) where
  -- THE TABLE OF COMMANDS
  abbrev pub ActsBy : Line → Shell → AfterLine → Type 0
  ActsBy line.Blank s next = next ≡ goes s
  ActsBy line.Bad s next = next ≡ goes (says (codes "bad command") s)
  ActsBy line.Catalogue s next = next ≡ goes (shown_by (catalogue_text (state_in s)) s)
  ActsBy (line.Show f) s next = next ≡ goes (with_file (file_in s f) f (with_text f (λ bytes s. on_fresh_line (shown_by bytes s))) s)
  ActsBy (line.Print f) s next = next ≡ goes (with_file (file_in s f) f (with_text f printed_by) s)
  ActsBy (line.Enter f) s next = BehindTaken (next_text s) (StoresText f) next
  ActsBy (line.Copy f g) s next = next ≡ goes (with_file (file_in s f) f (copies_to g) s)
  ActsBy (line.Rename f g) s next = next ≡ goes (renames f g s)
  ActsBy (line.Delete f) s next = next ≡ goes (deletes f s)
  ActsBy (line.Protect f) s next = next ≡ goes (protects true f s)
  ActsBy (line.Release f) s next = next ≡ goes (protects false f s)
  ActsBy (line.Compile f g) s next = CompilesFile f g (file_in s f) s next
  ActsBy (line.Edit f) s next = EditsFile f (file_in s f) s next
  ActsBy line.Halt s next = next ≡ closes Halted s
  ActsBy (line.Execute f) s next = ExecutesFile bound choices f (file_in s f) s next

  abbrev pub ActsOn : List ℕ → Shell → AfterLine → Type 0
  ActsOn bytes s next = ActsBy (command_line bytes) s next

  -- before a command line the fresh-line rule is applied and `> ` is shown
  abbrev pub prompted : Shell → Shell
  prompted s = shown_by (codes "> ") (on_fresh_line s)

  -- what is done with the next line
  abbrev pub GoesIn : Mode → Shell → AfterLine → Type 0
  GoesIn commanding s next = BehindTaken (next_line true (prompted s)) ActsOn next
  GoesIn (editing title e) s next = BehindTaken (next_line false s) (EditsLine title e) next

  abbrev pub Goes : Shell → AfterLine → Type 0
  Goes s next = GoesIn s.mode s next

  -- so many lines on
  abbrev pub ComesTo : ℕ → Shell → Shell → Type 0
  ComesTo zero s after = after ≡ s
  ComesTo (suc n) s after = (between : Shell) × Goes s (goes between) × ComesTo n between after

  -- SESSION: it ends so, and leaves this
  pub record Session (s : Shell) (end : SessionEnd) (after : Shell) : Type 0 where
    pub lines_ : ℕ
    pub last : Shell
    pub comes : ComesTo lines_ s last
    pub stops_ : Goes last (stops end after)

  -- the session comes through this state of the system, at which that object may fail
  pub record IsFaultOfSession (s : Shell) (failed : Outside) (moment : State) : Type 0 where
    pub lines_ : ℕ
    pub last : Shell
    pub comes : ComesTo lines_ s last
    pub next : AfterLine
    pub goes_ : Goes last next
    pub there : MayFail failed (states_of (shell_in next).system) moment
