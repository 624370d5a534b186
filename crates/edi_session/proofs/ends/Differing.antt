-- What may differ between two ways on from one shell.
use Rattle.std.proofs.Common.{◌≡◌, ◌∙◌, ◌⊎◌, inl, inr, ℕ, ◌+◌, ◌-◌, true, false, List, [], ◌∷◌, length, Option, Some, None, refl, sym, ap}
use Rattle.std.specs.Prelude.{codes, insert, remove, slice_set}
use Rattle.edi_calls.specs.declared.kinds.FileKind.{FileKind}
use Rattle.edi_calls.specs.declared.kinds.FileKind.TheVariants as file_kind
use Rattle.edi_calls.specs.Choice.{Choices}
use Rattle.edi_calls.specs.State.{File, State, fresh}
use Rattle.edi_edit.specs.declared.EditEnd.{EditEnd}
use Rattle.edi_edit.specs.Editing.{Editing, changed, is_index, missing, refusal}
use Rattle.edi_edit.specs.Lines as lines
use Rattle.edi_scheme.specs.Laws.{parts_of}
use Rattle.edi_target.specs.Check.{CodeParts}
use Rattle.edi_target.specs.Fetch.{fetch}
use Rattle.edi_target.specs.File.{code_bytes, code_fault_of, code_of}
use Rattle.edi_target.specs.declared.code_fault.CodeFault.{CodeFault}
use Rattle.edi_target.proofs.Histories.{end_is_determined}
use Rattle.edi_texts.specs.Kinds.{kind_text}
use Rattle.edi_texts.proofs.Thing.{one_thing}
use Rattle.edi_unit.specs.Tree.{ProgramUnit}
use Rattle.edi_session.specs.declared.line.Line.{Line}
use Rattle.edi_session.specs.declared.line.Line.TheVariants as line
use Rattle.edi_session.specs.declared.line.EditLine.{EditLine}
use Rattle.edi_session.specs.declared.line.EditLine.TheVariants as edit
use Rattle.edi_session.specs.Course.{Course, becomes, shows}
use Rattle.edi_session.specs.Files.{file_in}
use Rattle.edi_session.specs.Session.{ActsBy, ActsOn, BeginsEditing, ChangesLine, CompilesFile, CompilesText, EditsBy, EditsFile, EditsLine, ExecutesBytes}
use Rattle.edi_session.specs.Session.{ExecutesCode, ExecutesFile, Goes, GoesIn, Inserts, AfterLine, Replaces, StoresText, BehindTaken, TakesBack, behind, ends_with, goes}
use Rattle.edi_session.specs.Session.{prompted, says_no_memory, stores_code}
use Rattle.edi_session.specs.Shell.{Mode, Shell, Taken, commanding, editing, ended, limited, next_line, next_text, on_fresh_line, says, shell_of, shown_in}
use Rattle.edi_session.specs.Shell.{state_in, took}
use Rattle.edi_session.specs.Texts.{ending_line, line_end, on_line}
use Rattle.edi_session.specs.Words.{command_line, edit_line, kept_line}
use Rattle.edi_session.specs.ends.Laws.{WantsMemory, may_want}
use Rattle.edi_session.proofs.ends.Throughout.{TakingKeeps, line_keeps}

-- ---- one effect

taking_alike : (taken : Taken) (P : List ℕ → Shell → AfterLine → Type 0) (next other : AfterLine)
    → ((bytes : List ℕ) (t : Shell) → P bytes t next → P bytes t other → next ≡ other) → BehindTaken taken P next → BehindTaken taken P other → next ≡ other
taking_alike (took bytes t) P next other on p q = on bytes t p q
taking_alike (ended t) P next other on p q = p ∙ sym q
taking_alike (limited t) P next other on p q = p ∙ sym q

pub one_effect : (bound : ℕ) (choices : Choices) (l : Line) (s : Shell) (next other : AfterLine) → may_want l ≡ false → ActsBy bound choices l s next
    → ActsBy bound choices l s other → next ≡ other
one_effect bound choices line.Blank s next other e p q = p ∙ sym q
one_effect bound choices line.Bad s next other e p q = p ∙ sym q
one_effect bound choices line.Catalogue s next other e p q = p ∙ sym q
one_effect bound choices (line.Show f) s next other e p q = p ∙ sym q
one_effect bound choices (line.Print f) s next other e p q = p ∙ sym q
one_effect bound choices (line.Enter f) s next other e p q =
    taking_alike (next_text s) (StoresText f) next other (λ bytes t here there. here ∙ sym there) p q
one_effect bound choices (line.Copy f g) s next other e p q = p ∙ sym q
one_effect bound choices (line.Rename f g) s next other e p q = p ∙ sym q
one_effect bound choices (line.Delete f) s next other e p q = p ∙ sym q
one_effect bound choices (line.Protect f) s next other e p q = p ∙ sym q
one_effect bound choices (line.Release f) s next other e p q = p ∙ sym q
one_effect bound choices (line.Compile f g) s next other e p q = absurd (cc)
one_effect bound choices (line.Edit f) s next other e p q = absurd (cc)
one_effect bound choices line.Halt s next other e p q = p ∙ sym q
one_effect bound choices (line.Execute f) s next other e p q = absurd (cc)

-- ---- files that stay

shows_files : (bytes : List ℕ) (c : Course) → (shows bytes c).now.slots ≡ c.now.slots
shows_files [] c = refl
shows_files (b ∷ bytes) c = shows_files bytes (becomes _ c)

-- the files are those of this shell
abbrev HasFiles : Shell → Shell → Type 0
HasFiles s t = (state_in t).slots ≡ (state_in s).slots

files_kept : (s : Shell) → TakingKeeps (HasFiles s)
files_kept s = record { shows_ = λ bytes t h. shows_files bytes t.system ∙ h; takes = λ left t h. h }

-- ---- two ways on

module _ (bound : ℕ) (choices : Choices) (s : Shell) (next other : AfterLine) where
  abbrev Differ : Type 0
  Differ = (next ≡ other) ⊎ (WantsMemory s next ⊎ WantsMemory s other)

  first : (t : Shell) → HasFiles s t → next ≡ goes (says_no_memory t) → Differ
  first t files w = inr (inl (record { at = t; shows = w; files = files }))

  second : (t : Shell) → HasFiles s t → other ≡ goes (says_no_memory t) → Differ
  second t files w = inr (inr (record { at = t; shows = w; files = files }))

  taking_differ : (taken : Taken) (P : List ℕ → Shell → AfterLine → Type 0)
      → ((bytes : List ℕ) (t : Shell) → HasFiles s t → P bytes t next → P bytes t other → Differ) → HasFiles s (shell_of taken) → BehindTaken taken P next
      → BehindTaken taken P other → Differ
  taking_differ (took bytes t) P on files p q = on bytes t files p q
  taking_differ (ended t) P on files p q = inl (p ∙ sym q)
  taking_differ (limited t) P on files p q = inl (p ∙ sym q)

  -- either may say `no memory` in place of an effect
  one_of_two : (t : Shell) (there : AfterLine) → HasFiles s t → (next ≡ there) ⊎ (next ≡ goes (says_no_memory t)) → (other ≡ there) ⊎ (other ≡ goes (says_no_memory t))
      → Differ
  one_of_two t there files (inl p) (inl q) = inl (p ∙ sym q)
  one_of_two t there files (inr w) q = first t files w
  one_of_two t there files (inl p) (inr w) = second t files w

  -- ---- the commands

  compiles : (text g : List ℕ) (t : Shell) → HasFiles s t → CompilesText text g t next → CompilesText text g t other → Differ
  compiles text g t files (inr (inr w)) q = first t files w
  compiles text g t files (inl p) (inr (inr w)) = second t files w
  compiles text g t files (inr (inl p)) (inr (inr w)) = second t files w
  compiles text g t files (inl p) (inl q) =
      let same = one_thing.one_fault text p.2.0 q.2.0 p.0 q.0 p.1 q.1 p.2.1 q.2.1 in
      inl (p.3 ∙ (λ i. goes (says (on_line (same.2 i) (kind_text (same.1 i))) t)) ∙ sym q.3)
  compiles text g t files (inl p) (inr (inl q)) = absurd (one_thing.not_both text p.2.0 p.0 p.1 q.0 p.2.1 q.1)
  compiles text g t files (inr (inl p)) (inl q) = absurd (one_thing.not_both text q.2.0 q.0 q.1 p.0 q.2.1 p.1)
  compiles text g t files (inr (inl p)) (inr (inl q)) =
      inl (p.3 ∙ ap (λ (u : ProgramUnit). goes (stores_code g (code_bytes (parts_of u)) t)) (one_thing.one_unit text p.0 q.0 p.1 q.1) ∙ sym q.3)

  compiles_file : (f g : List ℕ) (file : Option File) (t : Shell) → HasFiles s t → CompilesFile f g file t next → CompilesFile f g file t other → Differ
  compiles_file f g None t files p q = inl (p ∙ sym q)
  compiles_file f g (Some file) t files p q = go file.kind p q where
    go : (kind : FileKind) → CompilesFile f g (Some (record file { kind = kind })) t next → CompilesFile f g (Some (record file { kind = kind })) t other → Differ
    go file_kind.Text p q = compiles file.bytes g t files p q
    go file_kind.Code p q = inl (p ∙ sym q)

  runs_alike : (f : List ℕ) (code : CodeParts) (t : Shell) → ExecutesCode bound choices f code t next → ExecutesCode bound choices f code t other
      → next ≡ other
  runs_alike f code t p q =
      let same = end_is_determined (fetch code.words) code.entry code.calls (fresh (state_in t)) bound choices t.drawn p.ending q.ending p.machine q.machine
      p.drawn q.drawn p.past q.past p.ends q.ends in
      p.next_is ∙ (λ i. goes (ends_with (ending_line f (same.0 i)) (behind (same.1 i).system (same.3 i) (same.2 i) t))) ∙ sym q.next_is

  bytes_alike : (f bytes : List ℕ) (fault : Option CodeFault) (t : Shell) → ExecutesBytes bound choices f bytes fault t next
      → ExecutesBytes bound choices f bytes fault t other → next ≡ other
  bytes_alike f bytes (Some fault) t p q = p ∙ sym q
  bytes_alike f bytes None t p q = runs_alike f (code_of bytes) t p q

  executes_file : (f : List ℕ) (file : Option File) (t : Shell) → HasFiles s t → ExecutesFile bound choices f file t next
      → ExecutesFile bound choices f file t other → Differ
  executes_file f None t files p q = inl (p ∙ sym q)
  executes_file f (Some file) t files p q = go file.kind p q where
    go : (kind : FileKind) → ExecutesFile bound choices f (Some (record file { kind = kind })) t next
        → ExecutesFile bound choices f (Some (record file { kind = kind })) t other → Differ
    go file_kind.Text p q = inl (p ∙ sym q)
    go file_kind.Code (inr w) q = first t files w
    go file_kind.Code (inl p) (inr w) = second t files w
    go file_kind.Code (inl p) (inl q) = inl (bytes_alike f file.bytes (code_fault_of file.bytes) t p q)

  begins : (f : List ℕ) (text : List (List ℕ)) (t : Shell) → HasFiles s t → BeginsEditing f text t next → BeginsEditing f text t other → Differ
  begins f text t files p q = one_of_two t _ files p q

  edits_file : (f : List ℕ) (file : Option File) (t : Shell) → HasFiles s t → EditsFile f file t next → EditsFile f file t other → Differ
  edits_file f None t files p q = begins f [] t files p q
  edits_file f (Some file) t files p q = go file.kind p q where
    go : (kind : FileKind) → EditsFile f (Some (record file { kind = kind })) t next → EditsFile f (Some (record file { kind = kind })) t other → Differ
    go file_kind.Text p q = begins f (lines.lines_of file.bytes) t files p q
    go file_kind.Code p q = inl (p ∙ sym q)

  acts_differ : (l : Line) (t : Shell) → HasFiles s t → ActsBy bound choices l t next → ActsBy bound choices l t other → Differ
  acts_differ line.Blank t files p q = inl (p ∙ sym q)
  acts_differ line.Bad t files p q = inl (p ∙ sym q)
  acts_differ line.Catalogue t files p q = inl (p ∙ sym q)
  acts_differ (line.Show f) t files p q = inl (p ∙ sym q)
  acts_differ (line.Print f) t files p q = inl (p ∙ sym q)
  acts_differ (line.Enter f) t files p q = inl (one_effect bound choices (line.Enter f) t next other refl p q)
  acts_differ (line.Copy f g) t files p q = inl (p ∙ sym q)
  acts_differ (line.Rename f g) t files p q = inl (p ∙ sym q)
  acts_differ (line.Delete f) t files p q = inl (p ∙ sym q)
  acts_differ (line.Protect f) t files p q = inl (p ∙ sym q)
  acts_differ (line.Release f) t files p q = inl (p ∙ sym q)
  acts_differ (line.Compile f g) t files p q = compiles_file f g (file_in t f) t files p q
  acts_differ (line.Edit f) t files p q = edits_file f (file_in t f) t files p q
  acts_differ line.Halt t files p q = inl (p ∙ sym q)
  acts_differ (line.Execute f) t files p q = executes_file f (file_in t f) t files p q

  -- ---- the lines of an editing

  changes : (why : Option EditEnd) (n : ℕ) (title : List ℕ) (before after : Editing) (t : Shell) → HasFiles s t
      → ChangesLine why n title before after t next → ChangesLine why n title before after t other → Differ
  changes (Some why) n title before after t files p q = inl (p ∙ sym q)
  changes None n title before after t files p q = one_of_two (record t { mode = editing title before }) _ files p q

  undoes : (title : List ℕ) (earlier : List (List (List ℕ))) (e : Editing) (t : Shell) → HasFiles s t → TakesBack title earlier e t next
      → TakesBack title earlier e t other → Differ
  undoes title [] e t files p q = inl (p ∙ sym q)
  undoes title (text ∷ texts) e t files p q = one_of_two (record t { mode = editing title e }) _ files p q

  edits_differ : (l : EditLine) (title : List ℕ) (e : Editing) (t : Shell) → HasFiles s t → EditsBy l title e t next → EditsBy l title e t other → Differ
  edits_differ (edit.Insert n) title e t files p q =
      taking_differ (next_line false t) (Inserts n title e)
      (λ text u kept. let after = insert e.lines (n - 1) (kept_line text) in
      changes (refusal (is_index n (length e.lines + 1)) after) n title e (changed e after) u kept)
      (line_keeps (HasFiles s) (files_kept s) false (state_in t).input [] t files) p q
  edits_differ (edit.Replace n) title e t files p q =
      taking_differ (next_line false t) (Replaces n title e)
      (λ text u kept. let after = slice_set e.lines (n - 1) (kept_line text) in
      changes (refusal (is_index n (length e.lines)) after) n title e (changed e after) u kept)
      (line_keeps (HasFiles s) (files_kept s) false (state_in t).input [] t files) p q
  edits_differ (edit.Delete n) title e t files p q =
      changes (missing (is_index n (length e.lines))) n title e (changed e (remove e.lines (n - 1))) t files p q
  edits_differ (edit.Look n) title e t files p q = inl (p ∙ sym q)
  edits_differ edit.Undo title e t files p q = undoes title e.earlier e t files p q
  edits_differ edit.Write title e t files p q = one_of_two (record t { mode = editing title e }) _ files p q
  edits_differ edit.Quit title e t files p q = inl (p ∙ sym q)
  edits_differ edit.Bad title e t files p q = inl (p ∙ sym q)

  goes_in_differ : (mode : Mode) → GoesIn bound choices mode s next → GoesIn bound choices mode s other → Differ
  goes_in_differ commanding p q =
      taking_differ (next_line true (prompted bound choices s)) (ActsOn bound choices) (λ bytes t. acts_differ (command_line bytes) t)
      (line_keeps (HasFiles s) (files_kept s) true (state_in (prompted bound choices s)).input [] (prompted bound choices s)
      (shows_files (codes "> ") (on_fresh_line s).system ∙ shows_files (line_end (shown_in s)) s.system)) p q
  goes_in_differ (editing title e) p q =
      taking_differ (next_line false s) (EditsLine title e) (λ bytes t. edits_differ (edit_line (kept_line bytes)) title e t)
      (line_keeps (HasFiles s) (files_kept s) false (state_in s).input [] s refl) p q

  pub goes_differ : Goes bound choices s next → Goes bound choices s other → Differ
  goes_differ p q = goes_in_differ s.mode p q
