-- What each part of a line keeps, a session keeps throughout.
use Rattle.std.proofs.Common.{◌≡◌, inl, inr, ℕ, zero, suc, ◌+◌, ◌-◌, Bool, true, false, List, [], ◌∷◌, ◌++◌, length, Option, Some, None}
use Rattle.std.proofs.Common.{sym, subst}
use Rattle.std.specs.Prelude.{if◌then◌else◌, nat_le, nat_lt, ◌==◌, ◌&&◌, codes, insert, remove, slice_set}
use Rattle.edi_calls.specs.declared.kinds.FileKind.{FileKind}
use Rattle.edi_calls.specs.declared.kinds.FileKind.TheVariants as file_kind
use Rattle.edi_calls.specs.Calls.{is_text}
use Rattle.edi_calls.specs.Choice.{Choices}
use Rattle.edi_calls.specs.Outcome.{Ending}
use Rattle.edi_calls.specs.State.{File, State, free, fresh, most_bytes}
use Rattle.edi_catalog.specs.declared.ends.CatEnd.{CatEnd}
use Rattle.edi_catalog.specs.Refusing.{no_room, no_such, no_deletion, no_renaming}
use Rattle.edi_catalog.specs.SlotsStored.{slots_stored}
use Rattle.edi_catalog.specs.SlotsChanged.{slots_changed, file_protected, file_renamed, deleted}
use Rattle.edi_edit.specs.declared.EditEnd.{EditEnd}
use Rattle.edi_edit.specs.declared.EditEnd.TheVariants as edit_end
use Rattle.edi_edit.specs.Editing.{Editing, changed, is_index, refusal, missing, undone}
use Rattle.edi_edit.specs.Lines as lines
use Rattle.edi_scheme.specs.Laws.{parts_of}
use Rattle.edi_target.specs.Check.{CodeParts}
use Rattle.edi_target.specs.Fetch.{fetch}
use Rattle.edi_target.specs.File.{code_bytes, code_fault_of, code_of}
use Rattle.edi_target.specs.Mach.{Machine}
use Rattle.edi_target.specs.Moments.{EndsThrough}
use Rattle.edi_target.specs.declared.code_fault.CodeFault.{CodeFault}
use Rattle.edi_texts.specs.Kinds.{kind_text}
use Rattle.edi_session.specs.declared.end.SessionEnd.TheVariants.{Halted, InputEnd, Limit}
use Rattle.edi_session.specs.declared.line.Line.{Line}
use Rattle.edi_session.specs.declared.line.Line.TheVariants as line
use Rattle.edi_session.specs.declared.line.EditLine.{EditLine}
use Rattle.edi_session.specs.declared.line.EditLine.TheVariants as edit
use Rattle.edi_session.specs.Course.{has_slots}
use Rattle.edi_session.specs.Files.{answered, copies_to, file_in, stores, why_line, with_file, with_text}
use Rattle.edi_session.specs.Session.{ActsBy, ActsOn, BeginsEditing, ChangesLine, closes, ComesTo, CompilesFile, CompilesText, EditsBy, EditsFile, EditsLine}
use Rattle.edi_session.specs.Session.{ExecutesBytes, ExecutesCode, ExecutesFile, Goes, GoesIn, Inserts, AfterLine, Replaces, StoresText, BehindTaken, TakesBack, behind}
use Rattle.edi_session.specs.Session.{edit_refusal, ends_with, goes, looked_at, prompted, says_no_memory, shell_in, written_back}
use Rattle.edi_session.specs.Shell.{Mode, Shell, Taken, commanding, echoed, editing, ended, ends_text, last_line, limit, limited, line_with, next_line, next_text}
use Rattle.edi_session.specs.Shell.{on_fresh_line, printed_by, says, shell_of, shown_by, shown_in, state_in, take_line, take_text, text_with, took}
use Rattle.edi_session.specs.Shell.{took_byte}
use Rattle.edi_session.specs.Texts.{about, catalogue_text, ending_line, line_end, on_line, with_number}
use Rattle.edi_session.specs.Words.{command_line, edit_line, kept_line}

-- bytes that are shown and a byte that is taken keep this of a shell
pub record TakingKeeps (H : Shell → Type 0) : Type 0 where
  pub shows_ : (bytes : List ℕ) (s : Shell) → H s → H (shown_by bytes s)
  pub takes : (left : List ℕ) (s : Shell) → H s → H (took_byte left s)

-- so do bytes that are printed, other files, another mode and an execution
pub record EachPartKeeps (bound : ℕ) (choices : Choices) (H : Shell → Type 0) : Type 0 where
  pub taking_ : TakingKeeps H
  pub prints_ : (bytes : List ℕ) (s : Shell) → H s → H (printed_by bytes s)
  pub changes : (slots : List (Option File)) (s : Shell) → H s → H (record s { system = has_slots slots s.system })
  pub turns_to : (mode : Mode) (s : Shell) → H s → H (record s { mode = mode })
  pub runs_ : (code : CodeParts) (ending : Ending) (machine : Machine) (drawn : ℕ) (past : List State) (s : Shell)
      → EndsThrough (fetch code.words) code.entry code.calls (fresh (state_in s)) bound choices s.drawn ending machine drawn past → H s
      → H (behind machine.system past drawn s)

-- ---- taking

module _ (H : Shell → Type 0) (keeps : TakingKeeps H) where
  taken_keeps : (b : Bool) (x y : Taken) → H (shell_of x) → H (shell_of y) → H (shell_of (if b then x else y))
  taken_keeps true x y p q = p
  taken_keeps false x y p q = q

  echoed_keeps : (echo : Bool) (bytes : List ℕ) (s : Shell) → H s → H (echoed echo bytes s)
  echoed_keeps true bytes s h = keeps.shows_ bytes s h
  echoed_keeps false bytes s h = h

  last_keeps : (echo : Bool) (line : List ℕ) (s : Shell) → H s → H (shell_of (last_line echo line s))
  last_keeps echo [] s h = h
  last_keeps echo (b ∷ bytes) s h = echoed_keeps echo (10 ∷ []) s h

  pub line_keeps : (echo : Bool) (input line : List ℕ) (s : Shell) → H s → H (shell_of (take_line echo input line s))
  line_keeps echo [] line s h = taken_keeps (nat_le limit s.taken) (limited s) (last_line echo line s) h (last_keeps echo line s h)
  line_keeps echo (b ∷ input) line s h =
      taken_keeps (nat_le limit s.taken) (limited s) _ h
      (taken_keeps (b == 10) (took line (echoed echo (10 ∷ []) (took_byte input s)))
      (take_line echo input (line ++ b ∷ []) (echoed echo (b ∷ []) (took_byte input s))) (echoed_keeps echo (10 ∷ []) (took_byte input s) (keeps.takes input s h))
      (line_keeps echo input (line ++ b ∷ []) (echoed echo (b ∷ []) (took_byte input s)) (echoed_keeps echo (b ∷ []) (took_byte input s) (keeps.takes input s h))))

  pub text_keeps : (input text line : List ℕ) (s : Shell) → H s → H (shell_of (take_text input text line s))
  text_keeps [] text line s h = taken_keeps (nat_le limit s.taken) (limited s) _ h (taken_keeps (ends_text line) (took text s) (ended s) h h)
  text_keeps (b ∷ input) text line s h =
      taken_keeps (nat_le limit s.taken) (limited s) _ h
      (taken_keeps (b == 10 && ends_text line) (took text (took_byte input s))
      (take_text input (text_with b text line) (line_with b line) (took_byte input s)) (keeps.takes input s h)
      (text_keeps input (text_with b text line) (line_with b line) (took_byte input s) (keeps.takes input s h)))

-- ---- rows

module _ (bound : ℕ) (choices : Choices) (H : Shell → Type 0) (keeps : EachPartKeeps bound choices H) where
  says_keeps : (text : List ℕ) (s : Shell) → H s → H (says text s)
  says_keeps text s h = keeps.taking_.shows_ (text ++ 10 ∷ []) s h

  fresh_keeps : (s : Shell) → H s → H (on_fresh_line s)
  fresh_keeps s h = keeps.taking_.shows_ (line_end (shown_in s)) s h

  answered_keeps : (refusal : Option CatEnd) (f g : List ℕ) (slots : List (Option File)) (s : Shell) → H s → H (answered refusal f g slots s)
  answered_keeps None f g slots s h = keeps.changes slots s h
  answered_keeps (Some why) f g slots s h = says_keeps (why_line f g why) s h

  stores_keeps : (f : List ℕ) (kind : FileKind) (bytes : List ℕ) (s : Shell) → H s → H (stores f kind bytes s)
  stores_keeps f kind bytes s h =
      answered_keeps (no_room f (length bytes) (free (state_in s)) (state_in s).slots) f f (slots_stored f kind bytes (state_in s).slots) s h

  if_keeps : (b : Bool) (s t : Shell) → H s → H t → H (if b then s else t)
  if_keeps true s t p q = p
  if_keeps false s t p q = q

  with_file_keeps : (file : Option File) (f : List ℕ) (act : File → Shell → Shell) (s : Shell) → ((file : File) → H (act file s)) → H s
      → H (with_file file f act s)
  with_file_keeps None f act s on h = says_keeps (about (codes "no file") f) s h
  with_file_keeps (Some file) f act s on h = on file

  with_text_keeps : (f : List ℕ) (act : List ℕ → Shell → Shell) (file : File) (s : Shell) → H (act file.bytes s) → H s → H (with_text f act file s)
  with_text_keeps f act file s on h = if_keeps (is_text file.kind) (act file.bytes s) (says (about (codes "not text") f) s) on
      (says_keeps (about (codes "not text") f) s h)

  -- so is what comes next
  abbrev KeptIn : AfterLine → Type 0
  KeptIn next = H (shell_in next)

  same : (next there : AfterLine) → next ≡ there → KeptIn there → KeptIn next
  same next there e h = subst KeptIn (sym e) h

  taking_keeps : (taken : Taken) (P : List ℕ → Shell → AfterLine → Type 0) (next : AfterLine) → ((bytes : List ℕ) (t : Shell) → H t → P bytes t next → KeptIn next)
      → H (shell_of taken) → BehindTaken taken P next → KeptIn next
  taking_keeps (took bytes t) P next on h row = on bytes t h row
  taking_keeps (ended t) P next on h row = same next (closes InputEnd t) row (fresh_keeps t h)
  taking_keeps (limited t) P next on h row = same next (closes Limit t) row (fresh_keeps t h)

  no_memory_keeps : (s : Shell) → H s → H (says_no_memory s)
  no_memory_keeps s h = says_keeps (codes "no memory") s h

  compiles_keeps : (text g : List ℕ) (s : Shell) (next : AfterLine) → H s → CompilesText text g s next → KeptIn next
  compiles_keeps text g s next h (inl row) = same next _ row.3 (says_keeps (on_line row.1 (kind_text row.0)) s h)
  compiles_keeps text g s next h (inr (inl row)) =
      let bytes : List ℕ = code_bytes (parts_of row.0) in
      same next _ row.3
      (if_keeps (nat_lt most_bytes (length bytes)) (says (with_number (codes "code too large") (length bytes)) s)
      (stores g file_kind.Code bytes s) (says_keeps (with_number (codes "code too large") (length bytes)) s h)
      (stores_keeps g file_kind.Code bytes s h))
  compiles_keeps text g s next h (inr (inr row)) = same next (goes (says_no_memory s)) row (no_memory_keeps s h)

  compiles_file_keeps : (f g : List ℕ) (file : Option File) (s : Shell) (next : AfterLine) → H s → CompilesFile f g file s next → KeptIn next
  compiles_file_keeps f g None s next h row = same next _ row (says_keeps (about (codes "no file") f) s h)
  compiles_file_keeps f g (Some file) s next h row = go file.kind row where
    go : (kind : FileKind) → CompilesFile f g (Some (record file { kind = kind })) s next → KeptIn next
    go file_kind.Text row = compiles_keeps file.bytes g s next h row
    go file_kind.Code row = same next _ row (says_keeps (about (codes "not text") f) s h)

  ends_keeps : (text : Option (List ℕ)) (s : Shell) → H s → H (ends_with text s)
  ends_keeps None s h = h
  ends_keeps (Some text) s h = says_keeps text (on_fresh_line s) (fresh_keeps s h)

  code_keeps : (f bytes : List ℕ) (s : Shell) (next : AfterLine) → H s → ExecutesCode bound choices f (code_of bytes) s next → KeptIn next
  code_keeps f bytes s next h row = same next _ row.next_is
      (ends_keeps (ending_line f row.ending) (behind row.machine.system row.past row.drawn s)
      (keeps.runs_ (code_of bytes) row.ending row.machine row.drawn row.past s row.ends h))

  bytes_keeps : (f bytes : List ℕ) (fault : Option CodeFault) (s : Shell) (next : AfterLine) → H s → ExecutesBytes bound choices f bytes fault s next → KeptIn next
  bytes_keeps f bytes (Some fault) s next h row = same next _ row (says_keeps (about (codes "bad code") f) s h)
  bytes_keeps f bytes None s next h row = code_keeps f bytes s next h row

  executes_keeps : (f : List ℕ) (file : Option File) (s : Shell) (next : AfterLine) → H s → ExecutesFile bound choices f file s next → KeptIn next
  executes_keeps f None s next h row = same next _ row (says_keeps (about (codes "no file") f) s h)
  executes_keeps f (Some file) s next h row = go file.kind row where
    go : (kind : FileKind) → ExecutesFile bound choices f (Some (record file { kind = kind })) s next → KeptIn next
    go file_kind.Text row = same next _ row (says_keeps (about (codes "not code") f) s h)
    go file_kind.Code (inl row) = bytes_keeps f file.bytes (code_fault_of file.bytes) s next h row
    go file_kind.Code (inr row) = same next (goes (says_no_memory s)) row (no_memory_keeps s h)

  -- ---- the lines of an editing

  begins_keeps : (f : List ℕ) (text : List (List ℕ)) (s : Shell) (next : AfterLine) → H s → BeginsEditing f text s next → KeptIn next
  begins_keeps f text s next h (inl row) = same next _ row (keeps.turns_to (editing f (record { lines = text; earlier = [] })) s h)
  begins_keeps f text s next h (inr row) = same next (goes (says_no_memory s)) row (no_memory_keeps s h)

  edits_file_keeps : (f : List ℕ) (file : Option File) (s : Shell) (next : AfterLine) → H s → EditsFile f file s next → KeptIn next
  edits_file_keeps f None s next h row = begins_keeps f [] s next h row
  edits_file_keeps f (Some file) s next h row = go file.kind row where
    go : (kind : FileKind) → EditsFile f (Some (record file { kind = kind })) s next → KeptIn next
    go file_kind.Text row = begins_keeps f (lines.lines_of file.bytes) s next h row
    go file_kind.Code row = same next _ row (says_keeps (about (codes "not text") f) s h)

  changes_keeps : (why : Option EditEnd) (n : ℕ) (title : List ℕ) (before after : Editing) (s : Shell) (next : AfterLine) → H s
      → ChangesLine why n title before after s next → KeptIn next
  changes_keeps (Some why) n title before after s next h row = same next _ row (keeps.turns_to (editing title before) _ (says_keeps (edit_refusal n why) s h))
  changes_keeps None n title before after s next h (inl row) = same next _ row (keeps.turns_to (editing title after) s h)
  changes_keeps None n title before after s next h (inr row) = same next _ row (keeps.turns_to (editing title before) _ (no_memory_keeps s h))

  undoes_keeps : (title : List ℕ) (earlier : List (List (List ℕ))) (e : Editing) (s : Shell) (next : AfterLine) → H s → TakesBack title earlier e s next
      → KeptIn next
  undoes_keeps title [] e s next h row = same next _ row (keeps.turns_to (editing title e) _ (says_keeps (codes "no undo") s h))
  undoes_keeps title (text ∷ texts) e s next h (inl row) = same next _ row (keeps.turns_to (editing title (undone e)) s h)
  undoes_keeps title (text ∷ texts) e s next h (inr row) = same next _ row (keeps.turns_to (editing title e) _ (no_memory_keeps s h))

  looked_keeps : (n : ℕ) (text : Option (List ℕ)) (s : Shell) → H s → H (looked_at n text s)
  looked_keeps n None s h = says_keeps (edit_refusal n edit_end.NoLine) s h
  looked_keeps n (Some text) s h = says_keeps text s h

  written_keeps : (why : Option CatEnd) (title : List ℕ) (e : Editing) (s : Shell) → H s → KeptIn (written_back why title e s)
  written_keeps (Some why) title e s h = keeps.turns_to (editing title e) _ (says_keeps (why_line title title why) s h)
  written_keeps None title e s h = keeps.turns_to commanding _ (stores_keeps title file_kind.Text (lines.bytes_of_lines e.lines) s h)

  pub edits_keeps : (l : EditLine) (title : List ℕ) (e : Editing) (s : Shell) (next : AfterLine) → H s → EditsBy l title e s next → KeptIn next
  edits_keeps (edit.Insert n) title e s next h row =
      taking_keeps (next_line false s) (Inserts n title e) next
      (λ text t k r. let after = insert e.lines (n - 1) (kept_line text) in
      changes_keeps (refusal (is_index n (length e.lines + 1)) after) n title e (changed e after) t next k r) (line_keeps H keeps.taking_ false (state_in s).input [] s h) row
  edits_keeps (edit.Replace n) title e s next h row =
      taking_keeps (next_line false s) (Replaces n title e) next
      (λ text t k r. let after = slice_set e.lines (n - 1) (kept_line text) in
      changes_keeps (refusal (is_index n (length e.lines)) after) n title e (changed e after) t next k r) (line_keeps H keeps.taking_ false (state_in s).input [] s h) row
  edits_keeps (edit.Delete n) title e s next h row =
      changes_keeps (missing (is_index n (length e.lines))) n title e (changed e (remove e.lines (n - 1))) s next h row
  edits_keeps (edit.Look n) title e s next h row = same next _ row (keeps.turns_to (editing title e) _ (looked_keeps n (lines.line_numbered e.lines n) s h))
  edits_keeps edit.Undo title e s next h row = undoes_keeps title e.earlier e s next h row
  edits_keeps edit.Write title e s next h (inl row) =
      same next _ row (written_keeps (no_room title (lines.size_of_lines e.lines) (free (state_in s)) (state_in s).slots) title e s h)
  edits_keeps edit.Write title e s next h (inr row) = same next _ row (keeps.turns_to (editing title e) _ (no_memory_keeps s h))
  edits_keeps edit.Quit title e s next h row = same next _ row (keeps.turns_to commanding s h)
  edits_keeps edit.Bad title e s next h row = same next _ row (keeps.turns_to (editing title e) _ (says_keeps (codes "bad edit") s h))

  -- ---- the commands

  pub acts_keeps : (l : Line) (s : Shell) (next : AfterLine) → H s → ActsBy bound choices l s next → KeptIn next
  acts_keeps line.Blank s next h row = same next (goes s) row h
  acts_keeps line.Bad s next h row = same next _ row (says_keeps (codes "bad command") s h)
  acts_keeps line.Catalogue s next h row = same next _ row (keeps.taking_.shows_ (catalogue_text (state_in s)) s h)
  acts_keeps (line.Show f) s next h row =
      same next _ row
      (with_file_keeps (file_in s f) f (with_text f (λ bytes s. on_fresh_line (shown_by bytes s))) s
      (λ file. with_text_keeps f (λ bytes s. on_fresh_line (shown_by bytes s)) file s
      (fresh_keeps (shown_by file.bytes s) (keeps.taking_.shows_ file.bytes s h)) h) h)
  acts_keeps (line.Print f) s next h row =
      same next _ row
      (with_file_keeps (file_in s f) f (with_text f printed_by) s
      (λ file. with_text_keeps f printed_by file s (keeps.prints_ file.bytes s h) h) h)
  acts_keeps (line.Enter f) s next h row =
      taking_keeps (next_text s) (StoresText f) next (λ text t k r. same next _ r (stores_keeps f file_kind.Text text t k))
      (text_keeps H keeps.taking_ (state_in s).input [] [] s h) row
  acts_keeps (line.Copy f g) s next h row =
      same next _ row (with_file_keeps (file_in s f) f (copies_to g) s (λ file. stores_keeps g file.kind file.bytes s h) h)
  acts_keeps (line.Rename f g) s next h row =
      same next _ row (answered_keeps (no_renaming (file_in s f) (file_in s g)) f g (slots_changed (file_renamed g) f (state_in s).slots) s h)
  acts_keeps (line.Delete f) s next h row = same next _ row (answered_keeps (no_deletion (file_in s f)) f f (slots_changed deleted f (state_in s).slots) s h)
  acts_keeps (line.Protect f) s next h row =
      same next _ row (answered_keeps (no_such (file_in s f)) f f (slots_changed (file_protected true) f (state_in s).slots) s h)
  acts_keeps (line.Release f) s next h row =
      same next _ row (answered_keeps (no_such (file_in s f)) f f (slots_changed (file_protected false) f (state_in s).slots) s h)
  acts_keeps (line.Compile f g) s next h row = compiles_file_keeps f g (file_in s f) s next h row
  acts_keeps (line.Edit f) s next h row = edits_file_keeps f (file_in s f) s next h row
  acts_keeps line.Halt s next h row = same next (closes Halted s) row (fresh_keeps s h)
  acts_keeps (line.Execute f) s next h row = executes_keeps f (file_in s f) s next h row

  goes_in_keeps : (mode : Mode) (s : Shell) (next : AfterLine) → H s → GoesIn bound choices mode s next → KeptIn next
  goes_in_keeps commanding s next h row =
      taking_keeps (next_line true (prompted bound choices s)) (ActsOn bound choices) next (λ bytes t k r. acts_keeps (command_line bytes) t next k r)
      (line_keeps H keeps.taking_ true (state_in (prompted bound choices s)).input [] (prompted bound choices s) (keeps.taking_.shows_ (codes "> ") (on_fresh_line s) (fresh_keeps s h)))
      row
  goes_in_keeps (editing title e) s next h row =
      taking_keeps (next_line false s) (EditsLine title e) next (λ text t k r. edits_keeps (edit_line (kept_line text)) title e t next k r)
      (line_keeps H keeps.taking_ false (state_in s).input [] s h) row

  pub goes_keeps : (s : Shell) (next : AfterLine) → H s → Goes bound choices s next → KeptIn next
  goes_keeps s next h row = goes_in_keeps s.mode s next h row

  pub comes_keeps : (n : ℕ) (s after : Shell) → H s → ComesTo bound choices n s after → H after
  comes_keeps zero s after h is = subst H (sym is) h
  comes_keeps (suc n) s after h is = comes_keeps n is.0 after (goes_keeps s (goes is.0) h is.1) is.2
