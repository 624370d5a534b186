-- The calls of the catalogue on a system, from what they leave of the slots to what they leave of the state.
use borrow.Rule.Reborrow.{re_v}
use Rattle.std.proofs.Common.{◌≡◌, ◌⊎◌, inl, inr, ℕ, true, false, List, length, Option, Some, None, refl, sym, ap, subst, ◌∙◌}
use Rattle.std.specs.Prelude.{◌↔◌, Result, Ok, Err, IfErr, IfSome}
use Rattle.std.specs.List.{list_all}
use Rattle.std.specs.Option.{option_map}
use Rattle.edi_told.specs.Told.{WhereTold}
use Rattle.edi_host.specs.Blocks.{is_block}
use Rattle.edi_disk.specs.Shown.{drive_of}
use Rattle.edi_calls.specs.declared.ends.Outside.{Outside}
use Rattle.edi_calls.specs.State.{File, State, find_file, free, fresh}
use Rattle.edi_image.specs.Image.{slots_of}
use Rattle.edi_image.specs.Stored.{StoredFile, IsKeptOf}
use Rattle.edi_image.proofs.KeptFiles.{file_of}
use Rattle.edi_catalog.specs.declared.catalog.Catalog.{Catalog}
use Rattle.edi_catalog.specs.declared.ends.CatEnd.{CatEnd}
use Rattle.edi_catalog.specs.declared.ends.CatEnd.TheVariants as cat
use Rattle.edi_catalog.specs.Files.{file_titled, FileIs, FoundIs}
use Rattle.edi_catalog.specs.InSlots.{free_in, PageIn, SlotsAnswer}
use Rattle.edi_catalog.specs.Mounted.{IsMounted, disk_of, files_of}
use Rattle.edi_catalog.proofs.PageBytes.{file_in}
use Rattle.edi_system.specs.Catalogue.{is_drive_fault, is_refused, IsClosed, OpenStays, PositionStays}
use Rattle.edi_system.specs.InState.{left_open, ReadsPage, ReadsWhole, StateAnswer}
use Rattle.edi_system.specs.State.{catalog_in, drive_in, found_of, input_in, printer_in, state_of, state_with, terminal_in}
use Rattle.edi_system.specs.declared.reading.Reading.{Reading}
use Rattle.edi_system.specs.declared.system.System.{System}
use Rattle.edi_system.proofs.CloseCalls.{as_many, over_blocks}

-- ---- the open files

-- a system after a call of the catalogue that was not refused: its catalogue, the object that has failed, the found file and the buffer are these
abbrev pub changed_to : {D S T P : Type 0} → System D S T P → Catalog D → Option Outside → Option Reading → (buffer : Option (List ℕ)) → System D S T P
changed_to before catalog failed found buffer =
    record before { catalog = catalog; failed = failed; found = found; buffer = re_v buffer before.buffer }

-- they are dropped
shut : {D S T P : Type 0} (before after : System D S T P) (b : List (List ℕ)) (i s p : List ℕ) → IsClosed after
    → state_with after b i s p ≡ fresh (state_with before b i s p)
shut before after b i s p closed =
    ap (λ f. record (state_with after b i s p) { found = option_map found_of f }) closed.0
    ∙ ap (λ x. record (fresh (state_with before b i s p)) { buffer = x }) closed.1

-- they stay
same_open : {D S T P : Type 0} (before after : System D S T P) (b : List (List ℕ)) (i s p : List ℕ) → PositionStays before after
    → state_with after b i s p ≡ state_with before b i s p
same_open before after b i s p stays =
    ap (λ f. record (state_with after b i s p) { found = f }) stays.0
    ∙ ap (λ x. record (state_with before b i s p) { buffer = x }) stays.1

-- ---- a call that only reads

pub only_same : {A : Type 0} (o n : Option A) (Q : A → A → Type 0) → WhereTold o n (λ x y. (y ≡ x) × Q x y) → WhereTold o n (λ x y. y ≡ x)
only_same o None Q told = tt
only_same None (Some y) Q told = absurd told
only_same (Some x) (Some y) Q told = told.0

both_told : {A : Type 0} (o n : Option A) (P Q : A → A → Type 0) → WhereTold o n P → WhereTold o n Q → WhereTold o n (λ x y. P x y × Q x y)
both_told o None P Q p q = tt
both_told None (Some y) P Q p q = absurd p
both_told (Some x) (Some y) P Q p q = (p, q)

neither : (why : CatEnd) → (why ≡ cat.NoSuch → ⊥) → (why ≡ cat.Fault → ⊥) → (why ≡ cat.NoSuch) ⊎ (why ≡ cat.Fault) → ⊥
neither why other nor (inl is) = other is
neither why other nor (inr is) = nor is

other_fault : {X : Type 0} → ◌≡◌ {A = Result X CatEnd} (Err cat.Fault) (Err cat.NoSuch) → ⊥
other_fault e = (let wrong : true ≡ false = ap is_drive_fault e in cc)

-- a page was read, or there is no file
reads_page : {X : Type 0} (result : Result X CatEnd) (file : Option File) (i : ℕ) (page : List ℕ) → ((result ≡ Err cat.NoSuch) ↔ (file ≡ None))
    → IfErr result (λ why. (why ≡ cat.NoSuch) ⊎ (why ≡ cat.Fault)) → PageIn result file i page → ReadsPage result file i page
reads_page (Ok x) None i page only refusals is = absurd is
reads_page (Ok x) (Some file) i page only refusals is = is
reads_page (Err cat.NoSuch) None i page only refusals is = tt
reads_page (Err cat.NoSuch) (Some file) i page only refusals is = absurd (let wrong : Some file ≡ None = only.0 refl in cc)
reads_page {X} (Err cat.Fault) None i page only refusals is = absurd (other_fault (only.1 refl))
reads_page (Err cat.Fault) (Some file) i page only refusals is = tt
reads_page (Err cat.Taken) file i page only refusals is = absurd (neither cat.Taken (λ e. cc) (λ e. cc) refusals)
reads_page (Err cat.Protected) file i page only refusals is = absurd (neither cat.Protected (λ e. cc) (λ e. cc) refusals)
reads_page (Err (cat.TooLarge n)) file i page only refusals is = absurd (neither (cat.TooLarge n) (λ e. cc) (λ e. cc) refusals)
reads_page (Err cat.CatalogFull) file i page only refusals is = absurd (neither cat.CatalogFull (λ e. cc) (λ e. cc) refusals)
reads_page (Err (cat.Full n m)) file i page only refusals is = absurd (neither (cat.Full n m) (λ e. cc) (λ e. cc) refusals)

-- a whole file
reads_whole : (result : Result ℕ CatEnd) (file : Option File) (bytes : List ℕ) → ((result ≡ Err cat.NoSuch) ↔ (file ≡ None))
    → IfErr result (λ why. (why ≡ cat.NoSuch) ⊎ (why ≡ cat.Fault)) → ((n : ℕ) → result ≡ Ok n → FoundIs n file bytes) → ReadsWhole result file bytes
reads_whole (Ok n) None bytes only refusals is = absurd (is n refl)
reads_whole (Ok n) (Some file) bytes only refusals is = is n refl
reads_whole (Err cat.NoSuch) None bytes only refusals is = tt
reads_whole (Err cat.NoSuch) (Some file) bytes only refusals is = absurd (let wrong : Some file ≡ None = only.0 refl in cc)
reads_whole (Err cat.Fault) None bytes only refusals is = absurd (other_fault (only.1 refl))
reads_whole (Err cat.Fault) (Some file) bytes only refusals is = tt
reads_whole (Err cat.Taken) file bytes only refusals is = absurd (neither cat.Taken (λ e. cc) (λ e. cc) refusals)
reads_whole (Err cat.Protected) file bytes only refusals is = absurd (neither cat.Protected (λ e. cc) (λ e. cc) refusals)
reads_whole (Err (cat.TooLarge n)) file bytes only refusals is = absurd (neither (cat.TooLarge n) (λ e. cc) (λ e. cc) refusals)
reads_whole (Err cat.CatalogFull) file bytes only refusals is = absurd (neither cat.CatalogFull (λ e. cc) (λ e. cc) refusals)
reads_whole (Err (cat.Full n m)) file bytes only refusals is = absurd (neither (cat.Full n m) (λ e. cc) (λ e. cc) refusals)

-- no file is found where none is kept
none_found : (blocks : List (List ℕ)) (title : List ℕ) (files : List (Option StoredFile)) → IsKeptOf blocks files
    → (file_titled title files ≡ None) ↔ (find_file (slots_of blocks) title ≡ None)
none_found blocks title files kept = go (file_titled title files) (find_file (slots_of blocks) title) (file_in blocks title files kept) where
  go : (file : Option StoredFile) (found : Option File) → found ≡ option_map (file_of blocks) file → (file ≡ None) ↔ (found ≡ None)
  go None found is = (λ e. is, λ e. refl)
  go (Some file) found is = (λ e. absurd (let no : Some file ≡ None = e in cc), λ e. absurd (let no : Some (file_of blocks file) ≡ None = sym is ∙ e in cc))

-- ---- a call that changes files

module _ {D S T P : Type 0} (before after : System D S T P) (b b' : List (List ℕ)) (i s p : List ℕ) (many : length b' ≡ length b) where
  -- the state with other blocks
  moved : (w : List (Option File)) (next : State) → slots_of b' ≡ w → state_with after b i s p ≡ next → next.blocks ≡ length b
      → state_with after b' i s p ≡ record next { slots = w }
  moved w next slots same size =
      ap (λ (x : State). record x { slots = slots_of b'; blocks = length b' }) same
      ∙ ap (λ x. record next { slots = x; blocks = length b' }) slots
      ∙ ap (λ n. record next { slots = w; blocks = n }) (many ∙ sym size)

  answered_by : {X : Type 0} (result : Result X CatEnd) (refusal : Option CatEnd) (w : List (Option File)) (opens : State → State)
      → (opens (state_with before b i s p)).blocks ≡ length b
      → (is_refused result ≡ true → state_with after b i s p ≡ state_with before b i s p)
      → (is_refused result ≡ false → state_with after b i s p ≡ opens (state_with before b i s p))
      → SlotsAnswer result refusal (slots_of b) w (slots_of b') → StateAnswer result refusal w opens (state_with before b i s p) (state_with after b' i s p)
  answered_by (Ok x) refusal w opens size stays closes r = (r.0, moved w (opens (state_with before b i s p)) r.1 (closes refl) size)
  answered_by (Err cat.Fault) refusal w opens size stays closes r = (r.0, go r.1) where
    go : (slots_of b' ≡ slots_of b) ⊎ (slots_of b' ≡ w)
        → (state_with after b' i s p ≡ record (opens (state_with before b i s p)) { slots = slots_of b })
        ⊎ (state_with after b' i s p ≡ record (opens (state_with before b i s p)) { slots = w })
    go (inl same) = inl (moved (slots_of b) (opens (state_with before b i s p)) same (closes refl) size)
    go (inr now) = inr (moved w (opens (state_with before b i s p)) now (closes refl) size)
  answered_by (Err cat.NoSuch) refusal w opens size stays closes r = (r.0, moved (slots_of b) (state_with before b i s p) r.1 (stays refl) refl)
  answered_by (Err cat.Taken) refusal w opens size stays closes r = (r.0, moved (slots_of b) (state_with before b i s p) r.1 (stays refl) refl)
  answered_by (Err cat.Protected) refusal w opens size stays closes r = (r.0, moved (slots_of b) (state_with before b i s p) r.1 (stays refl) refl)
  answered_by (Err (cat.TooLarge n)) refusal w opens size stays closes r = (r.0, moved (slots_of b) (state_with before b i s p) r.1 (stays refl) refl)
  answered_by (Err cat.CatalogFull) refusal w opens size stays closes r = (r.0, moved (slots_of b) (state_with before b i s p) r.1 (stays refl) refl)
  answered_by (Err (cat.Full n m)) refusal w opens size stays closes r = (r.0, moved (slots_of b) (state_with before b i s p) r.1 (stays refl) refl)

module _ {D S T P : Type 0} (contents : D → Option (List (List ℕ))) (left : S → Option (List ℕ)) (shown : T → Option (List ℕ)) (printed : P → Option (List ℕ))
    (count faults : D → ℕ)
    (counted : (drive : D) → IfSome (contents drive) (λ blocks. length blocks ≡ count drive))
    (sized : (drive : D) → IfSome (contents drive) (λ blocks. list_all is_block blocks ≡ true)) where
  -- with the open files dropped unless it was refused
  pub closes_files : {X : Type 0} (before after : System D S T P) (result : Result X CatEnd) (other : ℕ → List (Option File) → Option CatEnd)
      (wanted : List (Option File) → List (Option File))
      → input_in after ≡ input_in before → terminal_in after ≡ terminal_in before → printer_in after ≡ printer_in before → count (drive_in after) ≡ count
      (drive_in before)
      → ((is_refused result ≡ true) × OpenStays before after) ⊎ ((is_refused result ≡ false) × IsClosed after)
      → WhereTold (contents (drive_in before)) (contents (drive_in after))
      (λ old new. SlotsAnswer result (other (free_in old) (slots_of old)) (slots_of old) (wanted (slots_of old)) (slots_of new))
      → WhereTold (state_of contents left shown printed before) (state_of contents left shown printed after)
      (λ b a. StateAnswer result (other (free b) b.slots) (wanted b.slots) fresh b a)
  closes_files {X} before after result other wanted ei es ep same open_ told =
      over_blocks contents left shown printed before after
      (λ old new. SlotsAnswer result (other (free_in old) (slots_of old)) (slots_of old) (wanted (slots_of old)) (slots_of new))
      (λ b a. StateAnswer result (other (free b) b.slots) (wanted b.slots) fresh b a) told ei es ep
      (λ b b' i s p told told' r. answered_by before after b b' i s p
      (as_many contents left shown printed count faults counted sized (drive_in before) (drive_in after) b b' told told' same)
      result (other (free_in b) (slots_of b)) (wanted (slots_of b)) fresh refl (stays b i s p open_) (closes b i s p open_) r)
    where
      stays : (b : List (List ℕ)) (i s p : List ℕ) → ((is_refused result ≡ true) × OpenStays before after) ⊎ ((is_refused result ≡ false) × IsClosed after)
          → is_refused result ≡ true → state_with after b i s p ≡ state_with before b i s p
      stays b i s p (inl was) e = same_open before after b i s p (ap (option_map found_of) was.1.0, was.1.1)
      stays b i s p (inr was) e = absurd (let wrong : true ≡ false = sym e ∙ was.0 in cc)

      closes : (b : List (List ℕ)) (i s p : List ℕ) → ((is_refused result ≡ true) × OpenStays before after) ⊎ ((is_refused result ≡ false) × IsClosed after)
          → is_refused result ≡ false → state_with after b i s p ≡ fresh (state_with before b i s p)
      closes b i s p (inl was) e = absurd (let wrong : true ≡ false = sym was.0 ∙ e in cc)
      closes b i s p (inr was) e = shut before after b i s p was.1

  -- so after a refusal
  pub refused_files : {X : Type 0} (before : System D S T P) (catalog : Catalog D) (failed : Option Outside) (result : Result X CatEnd)
      (other : ℕ → List (Option File) → Option CatEnd) (wanted : List (Option File) → List (Option File))
      → count (drive_of (disk_of catalog)) ≡ count (drive_in before) → is_refused result ≡ true
      → WhereTold (contents (drive_in before)) (contents (drive_of (disk_of catalog)))
      (λ old new. SlotsAnswer result (other (free_in old) (slots_of old)) (slots_of old) (wanted (slots_of old)) (slots_of new))
      → WhereTold (state_of contents left shown printed before) (state_of contents left shown printed (record before { catalog = catalog; failed = failed }))
      (λ b a. StateAnswer result (other (free b) b.slots) (wanted b.slots) fresh b a)
  refused_files before catalog failed result other wanted same refused told =
      closes_files before (record before { catalog = catalog; failed = failed }) result other wanted refl refl refl same (inl (refused, (refl, refl))) told

  -- and where it was not refused
  pub closed_files : {X : Type 0} (before : System D S T P) (catalog : Catalog D) (failed : Option Outside) (buffer : Option (List ℕ)) (result : Result X CatEnd)
      (other : ℕ → List (Option File) → Option CatEnd) (wanted : List (Option File) → List (Option File))
      → count (drive_of (disk_of catalog)) ≡ count (drive_in before) → is_refused result ≡ false → buffer ≡ None
      → WhereTold (contents (drive_in before)) (contents (drive_of (disk_of catalog)))
      (λ old new. SlotsAnswer result (other (free_in old) (slots_of old)) (slots_of old) (wanted (slots_of old)) (slots_of new))
      → WhereTold (state_of contents left shown printed before) (state_of contents left shown printed (changed_to before catalog failed None buffer))
      (λ b a. StateAnswer result (other (free b) b.slots) (wanted b.slots) fresh b a)
  closed_files before catalog failed buffer result other wanted same open_ gone told =
      closes_files before (changed_to before catalog failed None buffer) result other wanted refl refl refl same (inr (open_, (refl, gone))) told

  -- with the open files as they were
  pub keeps_files : {X : Type 0} (before after : System D S T P) (result : Result X CatEnd) (other : ℕ → List (Option File) → Option CatEnd)
      (wanted : List (Option File) → List (Option File))
      → input_in after ≡ input_in before → terminal_in after ≡ terminal_in before → printer_in after ≡ printer_in before → count (drive_in after) ≡ count
      (drive_in before)
      → PositionStays before after
      → WhereTold (contents (drive_in before)) (contents (drive_in after))
      (λ old new. SlotsAnswer result (other (free_in old) (slots_of old)) (slots_of old) (wanted (slots_of old)) (slots_of new))
      → WhereTold (state_of contents left shown printed before) (state_of contents left shown printed after)
      (λ b a. StateAnswer result (other (free b) b.slots) (wanted b.slots) left_open b a)
  keeps_files before after result other wanted ei es ep same open_ told =
      over_blocks contents left shown printed before after
      (λ old new. SlotsAnswer result (other (free_in old) (slots_of old)) (slots_of old) (wanted (slots_of old)) (slots_of new))
      (λ b a. StateAnswer result (other (free b) b.slots) (wanted b.slots) left_open b a) told ei es ep
      (λ b b' i s p told told' r. answered_by before after b b' i s p
      (as_many contents left shown printed count faults counted sized (drive_in before) (drive_in after) b b' told told' same)
      result (other (free_in b) (slots_of b)) (wanted (slots_of b)) left_open refl (λ e. same_open before after b i s p open_)
      (λ e. same_open before after b i s p open_) r)

  -- ---- calls that only read

  -- a page
  pub reads_page_told : {X : Type 0} (before after : System D S T P) (result : Result X CatEnd) (title : List ℕ) (i : ℕ) (page : List ℕ)
      → IsMounted contents count (catalog_in before)
      → input_in after ≡ input_in before → terminal_in after ≡ terminal_in before → printer_in after ≡ printer_in before → PositionStays before after
      → ((result ≡ Err cat.NoSuch) ↔ (file_titled title (files_of (catalog_in before)) ≡ None)) → IfErr result (λ why. (why ≡ cat.NoSuch) ⊎ (why ≡ cat.Fault))
      → WhereTold (contents (drive_in before)) (contents (drive_in after)) (λ old new. new ≡ old)
      → WhereTold (contents (drive_in before)) (contents (drive_in after)) (λ old new. PageIn result (find_file (slots_of old) title) i page)
      → WhereTold (state_of contents left shown printed before) (state_of contents left shown printed after)
      (λ b a. (a ≡ b) × ReadsPage result (find_file b.slots title) i page)
  reads_page_told before after result title i page mounted ei es ep open_ only refusals same is =
      over_blocks contents left shown printed before after (λ old new. (new ≡ old) × PageIn result (find_file (slots_of old) title) i page)
      (λ b a. (a ≡ b) × ReadsPage result (find_file b.slots title) i page) (both_told (contents (drive_in before)) (contents (drive_in after)) _ _ same is) ei
      es ep
      (λ b b' i' s p told told' r. (
        ap (λ x. state_with after x i' s p) r.0 ∙ same_open before after b i' s p open_,
        reads_page result (find_file (slots_of b) title) i page (
          λ e. (none_found b title (files_of (catalog_in before)) (mounted.image b told)).0 (only.0 e),
          λ e. only.1 ((none_found b title (files_of (catalog_in before)) (mounted.image b told)).1 e),
        ) refusals r.1,
      ))

  -- a whole file
  pub reads_whole_told : (before after : System D S T P) (result : Result ℕ CatEnd) (title bytes : List ℕ) → IsMounted contents count (catalog_in before)
      → input_in after ≡ input_in before → terminal_in after ≡ terminal_in before → printer_in after ≡ printer_in before → PositionStays before after
      → ((result ≡ Err cat.NoSuch) ↔ (file_titled title (files_of (catalog_in before)) ≡ None)) → IfErr result (λ why. (why ≡ cat.NoSuch) ⊎ (why ≡ cat.Fault))
      → WhereTold (contents (drive_in before)) (contents (drive_in after)) (λ old new. (new ≡ old) × FileIs result title bytes old)
      → WhereTold (state_of contents left shown printed before) (state_of contents left shown printed after)
      (λ b a. (a ≡ b) × ReadsWhole result (find_file b.slots title) bytes)
  reads_whole_told before after result title bytes mounted ei es ep open_ only refusals is =
      over_blocks contents left shown printed before after (λ old new. (new ≡ old) × FileIs result title bytes old)
      (λ b a. (a ≡ b) × ReadsWhole result (find_file b.slots title) bytes) is ei es ep
      (λ b b' i' s p told told' r. (
        ap (λ x. state_with after x i' s p) r.0 ∙ same_open before after b i' s p open_,
        reads_whole result (find_file (slots_of b) title) bytes (
          λ e. (none_found b title (files_of (catalog_in before)) (mounted.image b told)).0 (only.0 e),
          λ e. only.1 ((none_found b title (files_of (catalog_in before)) (mounted.image b told)).1 e),
        ) refusals
            (λ n e. subst (λ x. FileIs x title bytes b) e r.1),
      ))
