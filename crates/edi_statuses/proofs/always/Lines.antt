-- What each line of a session may come to on a drive that is a valid image.
use Rattle.std.proofs.Common.{◌≡◌, ℕ, ◌+◌, Bool, true, false, List, [], ◌∷◌, ◌++◌, length, append-nil, Option, Some, None, refl, sym, ap, subst, inl, inr}
use Rattle.std.specs.Prelude.{◌==◌, ◌&&◌, nat_le, if◌then◌else◌, codes, ⊤}
use Rattle.std.specs.Str.{bytes_eq}
use Rattle.edi_calls.specs.declared.kinds.FileKind.{FileKind}
use Rattle.edi_calls.specs.declared.kinds.FileKind.TheVariants as file_kind
use Rattle.edi_calls.specs.Calls.{is_text}
use Rattle.edi_calls.specs.Choice.{Choices}
use Rattle.edi_calls.specs.Laws.{GoesOn}
use Rattle.edi_calls.specs.State.{File, State, find_file, free, is_title}
use Rattle.edi_catalog.specs.declared.ends.CatEnd.{CatEnd}
use Rattle.edi_catalog.specs.Refusing.{no_deletion, no_renaming, no_room, no_such}
use Rattle.edi_catalog.specs.SlotsChanged.{deleted, file_protected, file_renamed, slots_changed}
use Rattle.edi_catalog.specs.SlotsStored.{slots_stored}
use Rattle.edi_session.specs.declared.end.SessionEnd.TheVariants.{Halted, InputEnd, Limit}
use Rattle.edi_session.specs.declared.line.Line.{Line}
use Rattle.edi_session.specs.declared.line.Line.TheVariants as line
use Rattle.edi_session.specs.Course.{Course, becomes, has_slots, prints, shows}
use Rattle.edi_session.specs.Files.{answered, copies_to, file_in, stores, why_line, with_file, with_text}
use Rattle.edi_session.specs.Session.{ActsBy, ActsOn, AfterLine, BehindTaken, CompilesFile, CompilesKind, EditsFile, EditsKind, ExecutesFile, ExecutesKind}
use Rattle.edi_session.specs.Session.{Goes, GoesIn, StoresText, closes, goes, prompted, says_no_memory, shell_in, stops}
use Rattle.edi_session.specs.Shell.{Shell, Taken, commanding, echoed, ended, ends_text, last_line, limit, limited, line_with, next_line, next_text, on_fresh_line}
use Rattle.edi_session.specs.Shell.{printed_by, says, shell_of, shown_by, shown_in, state_in, take_line, take_text, text_with, took, took_byte}
use Rattle.edi_session.specs.Texts.{about, catalogue_text, line_end}
use Rattle.edi_session.specs.Words.{command_line, is_line_byte, line_of_more, line_of_word, line_of_words, none_of, one_of, two_of, words_in}
use Rattle.edi_session.proofs.ends.Throughout.{TakingKeeps, line_keeps, text_keeps}
use Rattle.edi_statuses.specs.Decided.{IsDecisive}
use Rattle.edi_statuses.specs.Sessions.{session_status}
use Rattle.edi_statuses.proofs.always.Images.{IsImage}
use Rattle.edi_statuses.proofs.always.Calls.{HasImage, same_image}
use Rattle.edi_statuses.proofs.always.Changes.{changed_many, deleted_image, protected_image, renamed_image, stored_image, stored_many}
use Rattle.edi_statuses.proofs.always.Executions.{HasGone, goes_then}

-- ---- the titles of a line are those of files

abbrev pub HasTitles : Line → Type 0
HasTitles (line.Enter f) = is_title f ≡ true
HasTitles (line.Copy f g) = is_title g ≡ true
HasTitles (line.Rename f g) = is_title g ≡ true
HasTitles l = ⊤

one_line : (b : Bool) (l m : Line) → HasTitles l → HasTitles m → HasTitles (if b then l else m)
one_line true l m p q = p
one_line false l m p q = q

-- so where the test says it
tested_line : (b : Bool) (l : Line) → (b ≡ true → HasTitles l) → HasTitles (if b then l else line.Bad)
tested_line true l p = p refl
tested_line false l p = tt

none_titled : (operands : List (List ℕ)) (l : Line) → HasTitles l → HasTitles (none_of operands l)
none_titled [] l h = h
none_titled (f ∷ fs) l h = tt

one_titled : (operands : List (List ℕ)) (command : List ℕ → Line) → ((f : List ℕ) → is_title f ≡ true → HasTitles (command f))
    → HasTitles (one_of operands command)
one_titled [] command h = tt
one_titled (f ∷ []) command h = tested_line (is_title f) (command f) (h f)
one_titled (f ∷ g ∷ fs) command h = tt

two_titled : (operands : List (List ℕ)) (command : List ℕ → List ℕ → Line)
    → ((f g : List ℕ) → (is_title f && is_title g) ≡ true → HasTitles (command f g)) → HasTitles (two_of operands command)
two_titled [] command h = tt
two_titled (f ∷ []) command h = tt
two_titled (f ∷ g ∷ []) command h = tested_line (is_title f && is_title g) (command f g) (h f g)
two_titled (f ∷ g ∷ k ∷ fs) command h = tt

second : (b c : Bool) → (b && c) ≡ true → c ≡ true
second true c h = h
second false c h = absurd (let no : false ≡ true = h in cc)

more_titled : (word : List ℕ) (operands : List (List ℕ)) → HasTitles (line_of_more word operands)
more_titled word operands =
    one_line (bytes_eq word (codes "delete")) _ _ (one_titled operands line.Delete (λ f h. tt))
    (one_line (bytes_eq word (codes "protect")) _ _ (one_titled operands line.Protect (λ f h. tt))
    (one_line (bytes_eq word (codes "release")) _ _ (one_titled operands line.Release (λ f h. tt))
    (one_line (bytes_eq word (codes "compile")) _ _ (two_titled operands line.Compile (λ f g h. tt))
    (one_line (bytes_eq word (codes "edit")) _ _ (one_titled operands line.Edit (λ f h. tt))
    (one_line (bytes_eq word (codes "halt")) _ _ (none_titled operands line.Halt tt)
    (tested_line (is_title word) _ (λ e. none_titled operands (line.Execute word) tt)))))))

word_titled : (word : List ℕ) (operands : List (List ℕ)) → HasTitles (line_of_word word operands)
word_titled word operands =
    one_line (bytes_eq word (codes "list")) _ _ (none_titled operands line.Catalogue tt)
    (one_line (bytes_eq word (codes "type")) _ _ (one_titled operands line.Show (λ f h. tt))
    (one_line (bytes_eq word (codes "print")) _ _ (one_titled operands line.Print (λ f h. tt))
    (one_line (bytes_eq word (codes "enter")) _ _ (one_titled operands line.Enter (λ f h. h))
    (one_line (bytes_eq word (codes "copy")) _ _ (two_titled operands line.Copy (λ f g h. second (is_title f) (is_title g) h))
    (one_line (bytes_eq word (codes "rename")) _ _ (two_titled operands line.Rename (λ f g h. second (is_title f) (is_title g) h))
    (more_titled word operands))))))

words_titled : (words : List (List ℕ)) → HasTitles (line_of_words words)
words_titled [] = tt
words_titled (word ∷ operands) = word_titled word operands

line_titled : (bytes : List ℕ) → HasTitles (command_line bytes)
line_titled bytes = tested_line _ (line_of_words (words_in bytes)) (λ e. words_titled (words_in bytes))

-- ---- a shell that stands on an image

-- no editing is begun, and no choice is drawn
abbrev IsIdle : Shell → Type 0
IsIdle s = (s.mode ≡ commanding) × (s.drawn ≡ 0)

idle_stays : TakingKeeps IsIdle
idle_stays = record { shows_ = λ bytes s h. h; takes = λ left s h. h }

module _ (first : State) where
  -- the state has an image and has gone on from the first one
  pub record Stands (s : Shell) : Type 0 where
    pub gone : HasGone first (state_in s)
    pub idle : IsIdle s

  -- the disk is as before
  same_gone : (s t : State) → t.blocks ≡ s.blocks → t.slots ≡ s.slots → t.buffer ≡ s.buffer → GoesOn s t → HasGone first s → HasGone first t
  same_gone s t blocks slots buffer on h =
      record { image = same_image s t blocks slots buffer h.image; goes = goes_then first s t h.goes on }

  shows_gone : (bytes : List ℕ) (c : Course) → HasGone first c.now → HasGone first (shows bytes c).now
  shows_gone [] c h = h
  shows_gone (b ∷ bytes) c h =
      shows_gone bytes (becomes (record c.now { shown = c.now.shown ++ b ∷ [] }) c)
      (same_gone c.now (record c.now { shown = c.now.shown ++ b ∷ [] }) refl refl refl
      (record { input = ([], refl); shown = (b ∷ [], refl); printed = ([], sym (append-nil c.now.printed)); slots = refl; blocks = refl }) h)

  prints_gone : (bytes : List ℕ) (c : Course) → HasGone first c.now → HasGone first (prints bytes c).now
  prints_gone [] c h = h
  prints_gone (b ∷ bytes) c h =
      prints_gone bytes (becomes (record c.now { printed = c.now.printed ++ b ∷ [] }) c)
      (same_gone c.now (record c.now { printed = c.now.printed ++ b ∷ [] }) refl refl refl
      (record { input = ([], refl); shown = ([], sym (append-nil c.now.shown)); printed = (b ∷ [], refl); slots = refl; blocks = refl }) h)

  took_gone : (b : ℕ) (left : List ℕ) (s : Shell) → (state_in s).input ≡ b ∷ left → HasGone first (state_in s)
      → HasGone first (state_in (took_byte left s))
  took_gone b left s e h =
      same_gone (state_in s) (record (state_in s) { input = left }) refl refl refl
      (record {
        input = (b ∷ [], e);
        shown = ([], sym (append-nil (state_in s).shown));
        printed = ([], sym (append-nil (state_in s).printed));
        slots = refl;
        blocks = refl;
      }) h

  slots_gone : (slots : List (Option File)) (c : Course) → IsImage c.now.blocks slots → length slots ≡ length c.now.slots → HasGone first c.now
      → HasGone first (has_slots slots c).now
  slots_gone slots c image many h = record {
    image = record { image = image; short = tt };
    goes = goes_then first c.now (has_slots slots c).now h.goes (record {
      input = ([], refl);
      shown = ([], sym (append-nil c.now.shown));
      printed = ([], sym (append-nil c.now.printed));
      slots = many;
      blocks = refl;
    });
  }

  -- ---- taking

  abbrev Gone : Shell → Type 0
  Gone s = HasGone first (state_in s)

  taken_gone : (b : Bool) (x y : Taken) → Gone (shell_of x) → Gone (shell_of y) → Gone (shell_of (if b then x else y))
  taken_gone true x y p q = p
  taken_gone false x y p q = q

  echoed_gone : (echo : Bool) (bytes : List ℕ) (s : Shell) → Gone s → Gone (echoed echo bytes s)
  echoed_gone true bytes s h = shows_gone bytes s.system h
  echoed_gone false bytes s h = h

  echoed_input : (echo : Bool) (b : ℕ) (input : List ℕ) (s : Shell) → (state_in (echoed echo (b ∷ []) (took_byte input s))).input ≡ input
  echoed_input true b input s = refl
  echoed_input false b input s = refl

  last_gone : (echo : Bool) (line : List ℕ) (s : Shell) → Gone s → Gone (shell_of (last_line echo line s))
  last_gone echo [] s h = h
  last_gone echo (b ∷ bytes) s h = echoed_gone echo (10 ∷ []) s h

  line_gone : (echo : Bool) (input line : List ℕ) (s : Shell) → (state_in s).input ≡ input → Gone s → Gone (shell_of (take_line echo input line s))
  line_gone echo [] line s e h = taken_gone (nat_le limit s.taken) (limited s) (last_line echo line s) h (last_gone echo line s h)
  line_gone echo (b ∷ input) line s e h =
      let t : Gone (took_byte input s) = took_gone b input s e h in
      taken_gone (nat_le limit s.taken) (limited s) _ h
      (taken_gone (b == 10) (took line (echoed echo (10 ∷ []) (took_byte input s)))
      (take_line echo input (line ++ b ∷ []) (echoed echo (b ∷ []) (took_byte input s))) (echoed_gone echo (10 ∷ []) (took_byte input s) t)
      (line_gone echo input (line ++ b ∷ []) (echoed echo (b ∷ []) (took_byte input s)) (echoed_input echo b input s)
      (echoed_gone echo (b ∷ []) (took_byte input s) t)))

  text_gone : (input text line : List ℕ) (s : Shell) → (state_in s).input ≡ input → Gone s → Gone (shell_of (take_text input text line s))
  text_gone [] text line s e h =
      taken_gone (nat_le limit s.taken) (limited s) _ h (taken_gone (ends_text line) (took text s) (ended s) h h)
  text_gone (b ∷ input) text line s e h =
      let t : Gone (took_byte input s) = took_gone b input s e h in
      taken_gone (nat_le limit s.taken) (limited s) _ h
      (taken_gone (b == 10 && ends_text line) (took text (took_byte input s))
      (take_text input (text_with b text line) (line_with b line) (took_byte input s)) t
      (text_gone input (text_with b text line) (line_with b line) (took_byte input s) refl t))

  next_line_stands : (echo : Bool) (s : Shell) → Stands s → Stands (shell_of (next_line echo s))
  next_line_stands echo s h = record {
    gone = line_gone echo (state_in s).input [] s refl h.gone;
    idle = line_keeps IsIdle idle_stays echo (state_in s).input [] s h.idle;
  }

  next_text_stands : (s : Shell) → Stands s → Stands (shell_of (next_text s))
  next_text_stands s h = record {
    gone = text_gone (state_in s).input [] [] s refl h.gone;
    idle = text_keeps IsIdle idle_stays (state_in s).input [] [] s h.idle;
  }

  -- ---- rows

  shown_stands : (bytes : List ℕ) (s : Shell) → Stands s → Stands (shown_by bytes s)
  shown_stands bytes s h = record { gone = shows_gone bytes s.system h.gone; idle = h.idle }

  printed_stands : (bytes : List ℕ) (s : Shell) → Stands s → Stands (printed_by bytes s)
  printed_stands bytes s h = record { gone = prints_gone bytes s.system h.gone; idle = h.idle }

  says_stands : (text : List ℕ) (s : Shell) → Stands s → Stands (says text s)
  says_stands text s h = shown_stands (text ++ 10 ∷ []) s h

  fresh_stands : (s : Shell) → Stands s → Stands (on_fresh_line s)
  fresh_stands s h = shown_stands (line_end (shown_in s)) s h

  -- these files have an image, where the change is not refused
  answered_stands : (refusal : Option CatEnd) (f g : List ℕ) (slots : List (Option File)) (s : Shell)
      → (refusal ≡ None → IsImage (state_in s).blocks slots) → length slots ≡ length (state_in s).slots → Stands s
      → Stands (answered refusal f g slots s)
  answered_stands None f g slots s image many h =
      record { gone = slots_gone slots s.system (image refl) many h.gone; idle = h.idle }
  answered_stands (Some why) f g slots s image many h = says_stands (why_line f g why) s h

  stores_stands : (f : List ℕ) (kind : FileKind) (bytes : List ℕ) (s : Shell) → is_title f ≡ true → Stands s → Stands (stores f kind bytes s)
  stores_stands f kind bytes s titled h =
      answered_stands (no_room f (length bytes) (free (state_in s)) (state_in s).slots) f f (slots_stored f kind bytes (state_in s).slots) s
      (stored_image (state_in s) h.gone.image f kind bytes titled) (stored_many f kind bytes (state_in s).slots) h

  with_file_stands : (file : Option File) (f : List ℕ) (act : File → Shell → Shell) (s : Shell) → ((file : File) → Stands (act file s)) → Stands s
      → Stands (with_file file f act s)
  with_file_stands None f act s on h = says_stands (about (codes "no file") f) s h
  with_file_stands (Some file) f act s on h = on file

  if_stands : (b : Bool) (s t : Shell) → Stands s → Stands t → Stands (if b then s else t)
  if_stands true s t p q = p
  if_stands false s t p q = q

  with_text_stands : (f : List ℕ) (act : List ℕ → Shell → Shell) (file : File) (s : Shell) → Stands (act file.bytes s) → Stands s
      → Stands (with_text f act file s)
  with_text_stands f act file s on h =
      if_stands (is_text file.kind) (act file.bytes s) (says (about (codes "not text") f) s) on (says_stands (about (codes "not text") f) s h)

  -- the session goes on so, or stops at an end that contents decide
  abbrev pub IsFine : AfterLine → Type 0
  IsFine (goes t) = Stands t
  IsFine (stops end t) = Stands t × IsDecisive (session_status end)

  -- a line comes to something
  abbrev pub ComesOn : (AfterLine → Type 0) → Type 0
  ComesOn Row = (next : AfterLine) × Row next × IsFine next

  goes_so : (t : Shell) → Stands t → ComesOn (λ next. next ≡ goes t)
  goes_so t h = (goes t, refl, h)

  no_memory : (s : Shell) → Stands s → Stands (says_no_memory s)
  no_memory s h = says_stands (codes "no memory") s h

  taking : (taken : Taken) (P : List ℕ → Shell → AfterLine → Type 0) → Stands (shell_of taken)
      → ((bytes : List ℕ) (t : Shell) → Stands t → ComesOn (P bytes t)) → ComesOn (BehindTaken taken P)
  taking (took bytes t) P h on = on bytes t h
  taking (ended t) P h on = (closes InputEnd t, refl, (fresh_stands t h, tt))
  taking (limited t) P h on = (closes Limit t, refl, (fresh_stands t h, tt))

  -- `compile`, `edit` and an execution: memory is wanting where they would do more than show a line
  compiles_kind : (kind : FileKind) (f g bytes : List ℕ) (s : Shell) → Stands s → ComesOn (CompilesKind kind f g bytes s)
  compiles_kind file_kind.Text f g bytes s h = (goes (says_no_memory s), inr (inr refl), no_memory s h)
  compiles_kind file_kind.Code f g bytes s h = goes_so _ (says_stands (about (codes "not text") f) s h)

  compiles : (f g : List ℕ) (file : Option File) (s : Shell) → Stands s → ComesOn (CompilesFile f g file s)
  compiles f g None s h = goes_so _ (says_stands (about (codes "no file") f) s h)
  compiles f g (Some file) s h = compiles_kind file.kind f g file.bytes s h

  edits_kind : (kind : FileKind) (f bytes : List ℕ) (s : Shell) → Stands s → ComesOn (EditsKind kind f bytes s)
  edits_kind file_kind.Text f bytes s h = (goes (says_no_memory s), inr refl, no_memory s h)
  edits_kind file_kind.Code f bytes s h = goes_so _ (says_stands (about (codes "not text") f) s h)

  edits : (f : List ℕ) (file : Option File) (s : Shell) → Stands s → ComesOn (EditsFile f file s)
  edits f None s h = (goes (says_no_memory s), inr refl, no_memory s h)
  edits f (Some file) s h = edits_kind file.kind f file.bytes s h

  module _ (bound : ℕ) (choices : Choices) where
    executes_kind : (kind : FileKind) (f bytes : List ℕ) (s : Shell) → Stands s → ComesOn (ExecutesKind bound choices kind f bytes s)
    executes_kind file_kind.Text f bytes s h = goes_so _ (says_stands (about (codes "not code") f) s h)
    executes_kind file_kind.Code f bytes s h = (goes (says_no_memory s), inr refl, no_memory s h)

    executes : (f : List ℕ) (file : Option File) (s : Shell) → Stands s → ComesOn (ExecutesFile bound choices f file s)
    executes f None s h = goes_so _ (says_stands (about (codes "no file") f) s h)
    executes f (Some file) s h = executes_kind file.kind f file.bytes s h

    acts : (l : Line) (s : Shell) → HasTitles l → Stands s → ComesOn (ActsBy bound choices l s)
    acts line.Blank s titled h = goes_so s h
    acts line.Bad s titled h = goes_so _ (says_stands (codes "bad command") s h)
    acts line.Catalogue s titled h = goes_so _ (shown_stands (catalogue_text (state_in s)) s h)
    acts (line.Show f) s titled h =
        goes_so _
        (with_file_stands (file_in s f) f (with_text f (λ bytes s. on_fresh_line (shown_by bytes s))) s
        (λ file. with_text_stands f (λ bytes s. on_fresh_line (shown_by bytes s)) file s
        (fresh_stands (shown_by file.bytes s) (shown_stands file.bytes s h)) h) h)
    acts (line.Print f) s titled h =
        goes_so _
        (with_file_stands (file_in s f) f (with_text f printed_by) s (λ file. with_text_stands f printed_by file s (printed_stands file.bytes s h) h) h)
    acts (line.Enter f) s titled h =
        taking (next_text s) (StoresText f) (next_text_stands s h) (λ text t k. goes_so _ (stores_stands f file_kind.Text text t titled k))
    acts (line.Copy f g) s titled h =
        goes_so _ (with_file_stands (file_in s f) f (copies_to g) s (λ file. stores_stands g file.kind file.bytes s titled h) h)
    acts (line.Rename f g) s titled h =
        goes_so _
        (answered_stands (no_renaming (file_in s f) (file_in s g)) f g (slots_changed (file_renamed g) f (state_in s).slots) s
        (renamed_image (state_in s) h.gone.image f g titled) (changed_many (file_renamed g) f (state_in s).slots) h)
    acts (line.Delete f) s titled h =
        goes_so _
        (answered_stands (no_deletion (file_in s f)) f f (slots_changed deleted f (state_in s).slots) s
        (λ allowed. deleted_image (state_in s) h.gone.image f) (changed_many deleted f (state_in s).slots) h)
    acts (line.Protect f) s titled h =
        goes_so _
        (answered_stands (no_such (file_in s f)) f f (slots_changed (file_protected true) f (state_in s).slots) s
        (λ allowed. protected_image (state_in s) h.gone.image true f) (changed_many (file_protected true) f (state_in s).slots) h)
    acts (line.Release f) s titled h =
        goes_so _
        (answered_stands (no_such (file_in s f)) f f (slots_changed (file_protected false) f (state_in s).slots) s
        (λ allowed. protected_image (state_in s) h.gone.image false f) (changed_many (file_protected false) f (state_in s).slots) h)
    acts (line.Compile f g) s titled h = compiles f g (file_in s f) s h
    acts (line.Edit f) s titled h = edits f (file_in s f) s h
    acts line.Halt s titled h = (closes Halted s, refl, (fresh_stands s h, tt))
    acts (line.Execute f) s titled h = executes f (file_in s f) s h

    -- the next line
    pub next_of : (s : Shell) → Stands s → ComesOn (Goes bound choices s)
    next_of s h =
        let row = taking (next_line true (prompted bound choices s)) (ActsOn bound choices)
        (next_line_stands true (prompted bound choices s) (shown_stands (codes "> ") (on_fresh_line s) (fresh_stands s h)))
        (λ bytes t k. acts (command_line bytes) t (line_titled bytes) k) in
        (row.0, subst (λ mode. GoesIn bound choices mode s row.0) (sym h.idle.0) row.1, row.2)
