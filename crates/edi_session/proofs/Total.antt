-- Every line comes to something, behind all that the session has come through.
use Rattle.std.proofs.Common.{inr, ℕ, true, false, List, [], ◌∷◌, ◌+◌, ◌-◌, length, Option, Some, None, refl}
use Rattle.std.specs.Prelude.{codes, insert, slice_set, remove}
use Rattle.edi_calls.specs.declared.kinds.FileKind.{FileKind}
use Rattle.edi_calls.specs.declared.kinds.FileKind.TheVariants as file_kind
use Rattle.edi_calls.specs.Calls.{is_text}
use Rattle.edi_calls.specs.Choice.{Choices}
use Rattle.edi_calls.specs.State.{File, free}
use Rattle.edi_catalog.specs.Refusing.{no_room, no_such, no_deletion, no_renaming}
use Rattle.edi_catalog.specs.SlotsStored.{slots_stored}
use Rattle.edi_catalog.specs.SlotsChanged.{slots_changed, file_protected, file_renamed, deleted}
use Rattle.edi_edit.specs.declared.EditEnd.{EditEnd}
use Rattle.edi_edit.specs.declared.EditEnd.TheVariants as edit_end
use Rattle.edi_edit.specs.Editing.{Editing, changed, is_index, refusal, missing}
use Rattle.edi_edit.specs.Lines as lines
use Rattle.edi_session.specs.declared.line.Line.{Line}
use Rattle.edi_session.specs.declared.line.Line.TheVariants as line
use Rattle.edi_session.specs.declared.line.EditLine.{EditLine}
use Rattle.edi_session.specs.declared.line.EditLine.TheVariants as edit
use Rattle.edi_session.specs.declared.end.SessionEnd.TheVariants.{Halted, InputEnd, Limit}
use Rattle.edi_session.specs.Files.{file_in, with_text, copies_to}
use Rattle.edi_session.specs.Session.{AfterLine, goes, closes, leaves, says_no_memory, edit_refusal, shell_in, BehindTaken, ActsBy, ActsOn, CompilesFile, ExecutesFile}
use Rattle.edi_session.specs.Session.{EditsFile, EditsBy, EditsLine, ChangesLine, Inserts, Replaces, TakesBack, StoresText, Goes, GoesIn, prompted, looked_at}
use Rattle.edi_session.specs.Session.{edits_on}
use Rattle.edi_session.specs.Shell.{Shell, Mode, commanding, editing, state_in, Taken, took, ended, limited, shell_of, shown_by, printed_by, on_fresh_line}
use Rattle.edi_session.specs.Shell.{says, next_line, next_text}
use Rattle.edi_session.specs.Words.{command_line, edit_line, kept_line}
use Rattle.edi_session.specs.Texts.{about, catalogue_text}
use Rattle.edi_session.proofs.Later.{Later, shown_on, says_on, fresh_on, printed_on, answered_on, with_file_on, if_on, take_line_on, take_text_on}

-- a line comes to something behind this shell
abbrev pub Comes : (Shell → AfterLine → Type 0) → Shell → Type 0
Comes Row s = (next : AfterLine) × Row s next × Later s (shell_in next)

no_memory_on : (s : Shell) → Later s (says (codes "no memory") s)
no_memory_on s = says_on (codes "no memory") s

compiles_kind : (kind : FileKind) (f g bytes : List ℕ) (s : Shell)
    → Comes (CompilesFile f g (Some (record { title = f; kind = kind; protected = false; bytes = bytes }))) s
compiles_kind file_kind.Text f g bytes s = (goes (says_no_memory s), inr (inr refl), no_memory_on s)
compiles_kind file_kind.Code f g bytes s = (_, refl, says_on (about (codes "not text") f) s)

compiles : (f g : List ℕ) (file : Option File) (s : Shell) → Comes (CompilesFile f g file) s
compiles f g None s = (_, refl, says_on (about (codes "no file") f) s)
compiles f g (Some file) s = compiles_kind file.kind f g file.bytes s

module _ (bound : ℕ) (choices : Choices) where
  executes_kind : (kind : FileKind) (f bytes : List ℕ) (s : Shell)
      → Comes (ExecutesFile bound choices f (Some (record { title = f; kind = kind; protected = false; bytes = bytes }))) s
  executes_kind file_kind.Text f bytes s = (_, refl, says_on (about (codes "not code") f) s)
  executes_kind file_kind.Code f bytes s = (goes (says_no_memory s), inr refl, no_memory_on s)

  executes : (f : List ℕ) (file : Option File) (s : Shell) → Comes (ExecutesFile bound choices f file) s
  executes f None s = (_, refl, says_on (about (codes "no file") f) s)
  executes f (Some file) s = executes_kind file.kind f file.bytes s

edits_kind : (kind : FileKind) (f bytes : List ℕ) (s : Shell)
    → Comes (EditsFile f (Some (record { title = f; kind = kind; protected = false; bytes = bytes }))) s
edits_kind file_kind.Text f bytes s = (goes (says_no_memory s), inr refl, no_memory_on s)
edits_kind file_kind.Code f bytes s = (_, refl, says_on (about (codes "not text") f) s)

edits : (f : List ℕ) (file : Option File) (s : Shell) → Comes (EditsFile f file) s
edits f None s = (goes (says_no_memory s), inr refl, no_memory_on s)
edits f (Some file) s = edits_kind file.kind f file.bytes s

-- what comes behind lines that were asked for
taking : (taken : Taken) (P : List ℕ → Shell → AfterLine → Type 0) (s : Shell) → Later s (shell_of taken) → ((bytes : List ℕ) (t : Shell) → Comes (P bytes) t)
    → (next : AfterLine) × BehindTaken taken P next × Later s (shell_in next)
taking (took bytes t) P s later on = let n = on bytes t in (n.0, n.1, λ o m h. n.2 o m (later o m h))
taking (ended t) P s later on = (closes InputEnd t, refl, λ o m h. fresh_on t o m (later o m h))
taking (limited t) P s later on = (closes Limit t, refl, λ o m h. fresh_on t o m (later o m h))

with_text_on : (f : List ℕ) (act : List ℕ → Shell → Shell) (s : Shell) → ((bytes : List ℕ) → Later s (act bytes s)) → (file : File)
    → Later s (with_text f act file s)
with_text_on f act s on file = if_on (is_text file.kind) s (act file.bytes s) (says (about (codes "not text") f) s) (on file.bytes)
    (says_on (about (codes "not text") f) s)

-- ---- the lines of an editing

changes_line : (why : Option EditEnd) (n : ℕ) (title : List ℕ) (before after : Editing) (s : Shell) → Comes (ChangesLine why n title before after) s
changes_line (Some why) n title before after s = (_, refl, says_on (edit_refusal n why) s)
changes_line None n title before after s = (edits_on title before (says_no_memory s), inr refl, no_memory_on s)

looked_on : (n : ℕ) (text : Option (List ℕ)) (s : Shell) → Later s (looked_at n text s)
looked_on n None s = says_on (edit_refusal n edit_end.NoLine) s
looked_on n (Some text) s = says_on text s

undoes : (title : List ℕ) (earlier : List (List (List ℕ))) (e : Editing) (s : Shell) → Comes (TakesBack title earlier e) s
undoes title [] e s = (_, refl, says_on (codes "no undo") s)
undoes title (text ∷ texts) e s = (edits_on title e (says_no_memory s), inr refl, no_memory_on s)

pub edits_by : (l : EditLine) (title : List ℕ) (e : Editing) (s : Shell) → Comes (EditsBy l title e) s
edits_by (edit.Insert n) title e s =
    taking (next_line false s) (Inserts n title e) s (take_line_on false (state_in s).input [] s)
    (λ text t. let after = insert e.lines (n - 1) (kept_line text) in
    changes_line (refusal (is_index n (length e.lines + 1)) after) n title e (changed e after) t)
edits_by (edit.Replace n) title e s =
    taking (next_line false s) (Replaces n title e) s (take_line_on false (state_in s).input [] s)
    (λ text t. let after = slice_set e.lines (n - 1) (kept_line text) in
    changes_line (refusal (is_index n (length e.lines)) after) n title e (changed e after) t)
edits_by (edit.Delete n) title e s = changes_line (missing (is_index n (length e.lines))) n title e (changed e (remove e.lines (n - 1))) s
edits_by (edit.Look n) title e s = (edits_on title e (looked_at n (lines.line_numbered e.lines n) s), refl, looked_on n (lines.line_numbered e.lines n) s)
edits_by edit.Undo title e s = undoes title e.earlier e s
edits_by edit.Write title e s = (edits_on title e (says_no_memory s), inr refl, no_memory_on s)
edits_by edit.Quit title e s = (leaves s, refl, λ o m h. h)
edits_by edit.Bad title e s = (_, refl, says_on (codes "bad edit") s)

pub edits_line : (title : List ℕ) (e : Editing) (text : List ℕ) (s : Shell) → Comes (EditsLine title e text) s
edits_line title e text s = edits_by (edit_line (kept_line text)) title e s

-- ---- the commands

module _ (bound : ℕ) (choices : Choices) where
  pub acts : (l : Line) (s : Shell) → Comes (ActsBy bound choices l) s
  acts line.Blank s = (goes s, refl, λ o m h. h)
  acts line.Bad s = (_, refl, says_on (codes "bad command") s)
  acts line.Catalogue s = (_, refl, shown_on (catalogue_text (state_in s)) s)
  acts (line.Show f) s = (
    _,
    refl,
    with_file_on (file_in s f) f (with_text f (λ bytes s. on_fresh_line (shown_by bytes s))) s
        (with_text_on f (λ bytes s. on_fresh_line (shown_by bytes s)) s (λ bytes o m h. fresh_on (shown_by bytes s) o m (shown_on bytes s o m h))),
  )
  acts (line.Print f) s = (_, refl, with_file_on (file_in s f) f (with_text f printed_by) s (with_text_on f printed_by s (λ bytes. printed_on bytes s)))
  acts (line.Enter f) s =
      taking (next_text s) (StoresText f) s (take_text_on (state_in s).input [] [] s)
      (λ text t. (
        _,
        refl,
        answered_on (no_room f (length text) (free (state_in t)) (state_in t).slots) f f
            (slots_stored f file_kind.Text text (state_in t).slots) t,
      ))
  acts (line.Copy f g) s = (
    _,
    refl,
    with_file_on (file_in s f) f (copies_to g) s
        (λ file. answered_on (no_room g (length file.bytes) (free (state_in s)) (state_in s).slots) g g
        (slots_stored g file.kind file.bytes (state_in s).slots) s),
  )
  acts (line.Rename f g) s = (_, refl, answered_on (no_renaming (file_in s f) (file_in s g)) f g (slots_changed (file_renamed g) f (state_in s).slots) s)
  acts (line.Delete f) s = (_, refl, answered_on (no_deletion (file_in s f)) f f (slots_changed deleted f (state_in s).slots) s)
  acts (line.Protect f) s = (_, refl, answered_on (no_such (file_in s f)) f f (slots_changed (file_protected true) f (state_in s).slots) s)
  acts (line.Release f) s = (_, refl, answered_on (no_such (file_in s f)) f f (slots_changed (file_protected false) f (state_in s).slots) s)
  acts (line.Compile f g) s = compiles f g (file_in s f) s
  acts (line.Edit f) s = edits f (file_in s f) s
  acts line.Halt s = (closes Halted s, refl, fresh_on s)
  acts (line.Execute f) s = executes bound choices f (file_in s f) s

  goes_in : (mode : Mode) (s : Shell) → Comes (GoesIn bound choices mode) s
  goes_in commanding s =
      taking (next_line true (prompted bound choices s)) (ActsOn bound choices) s
      (λ o m h. take_line_on true (state_in (prompted bound choices s)).input [] (prompted bound choices s) o m
      (shown_on (codes "> ") (on_fresh_line s) o m (fresh_on s o m h)))
      (λ bytes t. acts (command_line bytes) t)
  goes_in (editing title e) s = taking (next_line false s) (EditsLine title e) s (take_line_on false (state_in s).input [] s) (edits_line title e)

  -- EVERY SHELL HAS A NEXT LINE, or an end
  pub goes_on : (s : Shell) → Comes (Goes bound choices) s
  goes_on s = goes_in s.mode s
