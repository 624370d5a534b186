-- The commands that run no program: how each may end.
use Rattle.std.proofs.Common.{◌≡◌, ◌≤◌, ◌<◌, ℕ, ◌+◌, Bool, true, false, List, [], ◌∷◌, ◌++◌, length, drop, Option, Some, None, is_some, refl, sym, ap, subst, inl, inr}
use Rattle.std.proofs.Common.{true≢false, arith, ◌∙◌, length-append, length-drop, take, take-append-drop}
use Rattle.std.specs.Prelude.{replicate, slice_get, suc}
use Rattle.std.specs.List.{list_all}
use Rattle.std.proofs.Math.Seq.{drop-length, take-length}
use Rattle.std.proofs.lemmas.Bool.{and_from, and_parts, cases_lt, eq-eqb}
use Rattle.std.proofs.lemmas.List.{append-nil, length-replicate}
use Rattle.std.proofs.lemmas.List.Folds.{list_all-append}
use Rattle.edi_host.specs.Blocks.{is_block, resized, zero_block}
use Rattle.edi_host.specs.declared.drive.ResizeEnd.TheVariants as resize
use Rattle.edi_host.proofs.DriveBlocks.{blocks_resized}
use Rattle.edi_host.specs.Contents.{Contents}
use Rattle.edi_image.specs.Formatted.{new_catalogue}
use Rattle.edi_image.specs.Image.{header_block}
use Rattle.edi_image.proofs.Empty.{formatted_from, length-new_catalogue, length-resized}
use Rattle.edi_compile.proofs.Meant.{texts_do_as_meant}
use Rattle.edi_explore.specs.declared.ends.Verdict.TheVariants as verdict
use Rattle.edi_runs.specs.explore.Explorations.{Findings, IsExplorationOf}
use Rattle.edi_runs.specs.explore.Orders.{unsaid}
use Rattle.edi_runs.specs.explore.Input.{most_input, names_accept}
use Rattle.edi_runs.specs.explore.Lines.{report_text}
use Rattle.edi_runs.specs.explore.Records.{records_of}
use Rattle.edi_system.specs.Growing.{Grows, Shrinks}
use Rattle.edi_scheme.specs.Laws.{parts_of}
use Rattle.edi_target.specs.File.{code_bytes}
use Rattle.edi_texts.specs.Texts.{IsUnit}
use Rattle.edi_unit.specs.Tree.{ProgramUnit}
use Rattle.edi_utils.specs.Listing.{listing_of}
use Rattle.edi_words.specs.Words as words
use Rattle.edi_words.specs.Words.{Command, ExploreOptions}
use Rattle.edi_statuses.specs.declared.status.Status.TheVariants as status
use Rattle.edi_statuses.specs.Outside.{Outside, Devices, Kept, KernelLeft, with_kept}
use Rattle.edi_statuses.specs.Steps.{goes, ◌>>=◌, Accepts, Ready}
use Rattle.edi_statuses.specs.Commands.{IsDone, OnlyBlocks, OnlyKeeps, OnlyShows, KeepsCode, AreNew, TextSteps, GetSteps, ListSteps}
use Rattle.edi_statuses.specs.Explored.{ExploresText, TakesAll}
use Rattle.edi_statuses.specs.EachObject.{KeepsImage}
use Rattle.edi_statuses.specs.Always.{MayCome, MayEnd, told_outside}
use Rattle.edi_statuses.proofs.EachLeft.{each_same}
use Rattle.edi_statuses.proofs.always.Steps.{get_some, list_some, ready_some, text_some}
use Rattle.edi_statuses.proofs.always.Ends.{blocks_some, does_some, keeps_some, of_table, shows_some}

-- ---- a text that was accepted

accepted_unit : (bytes : List ℕ) (a : List ℕ × ProgramUnit) → (Accepts bytes >>= λ unit. Ready (bytes, unit)) (goes a) → IsUnit a.0 a.1
accepted_unit bytes a (inl never) = absurd never
accepted_unit bytes a (inr h) = subst (λ (x : List ℕ × ProgramUnit). IsUnit x.0 x.1) (sym h.2) h.1

-- what its steps go on with is a text with its unit
pub unit_of : (before : Outside) (file : List ℕ) (a : List ℕ × ProgramUnit) → TextSteps before file (goes a) → IsUnit a.0 a.1
unit_of before file a (inl never) = absurd never
unit_of before file a (inr h) = accepted_unit h.0 a h.2

-- ---- an image without files

abbrev new_image : (n : ℕ) → List (List ℕ)
new_image n = new_catalogue n ++ drop 33 (resized [] n)

new_image_is : (n : ℕ) (old : List (List ℕ)) → 64 ≤ n → n ≤ 4096 → AreNew n old (new_image n)
new_image_is n old least most =
    let size : length (resized [] n) ≡ n = length-resized [] n in (
      length-append (new_catalogue n) (drop 33 (resized [] n)) ∙ ap (λ k. k + length (drop 33 (resized [] n))) (length-new_catalogue n)
          ∙ omega (arith, size, least, length-drop 33 (resized [] n)),
      (formatted_from [] (resized [] n) (new_image n) n least most refl (λ big. refl)).1,
    )

pub all_drop : {A : Type 0} (test : A → Bool) (n : ℕ) (xs : List A) → list_all test xs ≡ true → list_all test (drop n xs) ≡ true
all_drop test n xs h =
    (and_parts (list_all test (take n xs)) (list_all test (drop n xs))
    (sym (list_all-append test (take n xs) (drop n xs)) ∙ ap (list_all test) (take-append-drop n xs) ∙ h)).1

-- blocks that are all zero
pub zeros_sized : (n : ℕ) → list_all is_block (resized [] n) ≡ true
zeros_sized n = blocks_resized resize.Ok n [] (resized [] n) refl refl

catalogue_sized : (n : ℕ) → list_all is_block (new_catalogue n) ≡ true
unfolding new_catalogue header_block
catalogue_sized n =
    and_from (is_block (header_block 2 n)) (list_all is_block (replicate 32 zero_block))
    (eq-eqb (length (header_block 2 n)) 512 (let rest : length {A = ℕ} (replicate 504 0) ≡ 504 = length-replicate {A = ℕ} 504 0 in omega (arith, rest)))
    (zeros_sized 32)

new_image_sized : (n : ℕ) → list_all is_block (new_image n) ≡ true
new_image_sized n =
    list_all-append is_block (new_catalogue n) (drop 33 (resized [] n))
    ∙ and_from (list_all is_block (new_catalogue n)) (list_all is_block (drop 33 (resized [] n))) (catalogue_sized n)
    (all_drop is_block 33 (resized [] n) (zeros_sized n))

-- ---- an exploration that has found nothing

abbrev nothing_found : Findings
nothing_found = record { endings = []; verdict = verdict.NoMemory 0; states = 0; cut = []; longest = None; orders = unsaid }

finds_nothing : (bytes input : List ℕ) (unit : ProgramUnit) (states turns : ℕ) (shown : Option ℕ) → IsUnit bytes unit
    → IsExplorationOf bytes input states turns shown nothing_found
finds_nothing bytes input unit states turns shown is = record {
  reached = λ one h. absurd (omega (arith, h.1));
  distinct = λ i j a b h k e same. absurd (none_there i a h);
  says = record {
    unit = unit;
    unit_is = is;
    below = λ bound choices ending end turns drawn order e few. absurd (omega (arith, few));
  };
  says_shown = λ asks. record {
    unit = unit;
    unit_is = is;
    below = λ bound choices ending end turns drawn order e few. absurd (omega (arith, few));
  };
  shortest = λ one h. absurd (omega (arith, h.1));
  full = tt;
  bounded = omega arith;
  many = tt;
  few = λ most e. omega arith;
  cut = tt;
  longest = tt;
  orders = refl;
} where
  none_there : {A : Type 0} (i : ℕ) (a : A) → slice_get [] i ≡ Some a → ⊥
  none_there i a h = absurd (let no : None ≡ Some a = h in cc)

module _ (files : Contents) (d : Devices) (kernel : KernelLeft) where
  compile_some : (file out bytes : List ℕ) (unit : ProgramUnit) → IsUnit bytes unit
      → MayCome (words.compile file out) (IsDone (KeepsCode out bytes unit)) files d kernel
  compile_some file out bytes unit is =
      let kept : List Kept = (out, code_bytes (parts_of unit)) ∷ [] in record {
        answer = status.Ok;
        decisive = tt;
        files_after = with_kept kept files;
        devices_after = d;
        sized = λ h. h;
        shown = [];
        left = kernel;
        comes = (
          refl,
          record {
            code_is = texts_do_as_meant bytes unit is;
            keeps = record { shown_ = refl; keeps = refl; blocks = refl; input = refl; printed = refl; kernel_same = refl };
          },
        );
        shows = sym (append-nil d.shown);
        each = each_same (Some (words.compile file out)) (told_outside files d) (told_outside (with_kept kept files) d) refl refl refl;
      }

  pub compile_may : (file out : List ℕ) → MayEnd (words.compile file out) files d kernel
  compile_may file out =
      of_table (words.compile file out) files d kernel _
      (does_some (words.compile file out) files d kernel (TextSteps (told_outside files d) file) (λ a. IsDone (KeepsCode out a.0 a.1)) (text_some files d file)
      (λ a went. compile_some file out a.0 a.1 (unit_of (told_outside files d) file a went))) (λ s after shown k h. h)

  pub new_disk_may : (blocks : ℕ) → 64 ≤ blocks → blocks ≤ 4096 → MayEnd (words.newdisk blocks None) files d kernel
  new_disk_may blocks least most =
      of_table (words.newdisk blocks None) files d kernel _
      (does_some (words.newdisk blocks None) files d kernel (Ready blocks) (λ n. IsDone (OnlyBlocks (AreNew n))) (ready_some blocks)
      (λ n went. subst (λ m. MayCome (words.newdisk blocks None) (IsDone (OnlyBlocks (AreNew m))) files d kernel) (sym went)
      (blocks_some (words.newdisk blocks None) files d kernel (AreNew blocks) (new_image blocks) (new_image_is blocks d.blocks least most)
      (λ h. new_image_sized blocks) (λ never. absurd (true≢false never))))) (λ s after shown k h. h)

  pub get_may : (title file : List ℕ) → MayEnd (words.get title file) files d kernel
  get_may title file =
      of_table (words.get title file) files d kernel _
      (does_some (words.get title file) files d kernel (GetSteps (told_outside files d) title) (λ bytes. IsDone (OnlyKeeps ((file, bytes) ∷ [])))
      (get_some files d title) (λ bytes went. keeps_some (words.get title file) files d kernel ((file, bytes) ∷ []))) (λ s after shown k h. h)

  pub list_may : (file : List ℕ) → MayEnd (words.list file) files d kernel
  list_may file =
      of_table (words.list file) files d kernel _
      (does_some (words.list file) files d kernel (ListSteps (told_outside files d) file) (λ parts. IsDone (OnlyShows (listing_of parts.words)))
      (list_some files d file) (λ parts went. shows_some (words.list file) files d kernel (listing_of parts.words))) (λ s after shown k h. h)

  -- ---- an exploration

  -- the input that is taken of a program which names `accept`, or not
  abbrev left_of : Bool → Devices
  left_of true = record d { input = [] }
  left_of false = d

  abbrev taken_of : Bool → List ℕ
  taken_of true = d.input
  taken_of false = []

  abbrev explored_files : ExploreOptions → Contents
  explored_files o = with_kept (records_of o.record_file []) files

  abbrev explored_shown : ExploreOptions → Bool → Devices
  explored_shown o accepts = record (left_of accepts) { shown = d.shown ++ report_text (is_some o.shown) o.record_file nothing_found }

  takes_some : (accepts : Bool) (o : ExploreOptions) → (accepts ≡ true → length d.input ≤ most_input)
      → TakesAll accepts (taken_of accepts) (told_outside files d) (told_outside (explored_files o) (explored_shown o accepts))
  takes_some true o few = (few refl, (refl, refl))
  takes_some false o few = (refl, refl)

  explored : (file bytes : List ℕ) (unit : ProgramUnit) (o : ExploreOptions) (accepts : Bool) → names_accept unit ≡ accepts
      → (accepts ≡ true → length d.input ≤ most_input) → IsUnit bytes unit → MayCome (words.explore file o) (ExploresText bytes unit o) files d kernel
  explored file bytes unit o accepts named few is = record {
    answer = status.NotAll;
    decisive = tt;
    files_after = explored_files o;
    devices_after = explored_shown o accepts;
    sized = λ h. subst (λ blocks. list_all is_block blocks ≡ true) (sym (same_blocks accepts)) h;
    shown = report_text (is_some o.shown) o.record_file nothing_found;
    left = kernel;
    comes = inl (record {
      findings = nothing_found;
      explored = record {
        input = taken_of accepts;
        takes = subst (λ b. TakesAll b (taken_of accepts) (told_outside files d) (told_outside (explored_files o) (explored_shown o accepts))) (sym named)
            (takes_some accepts o few);
        is = finds_nothing bytes (taken_of accepts) unit o.states o.turns o.shown is;
        blocks = same_blocks accepts;
        printed = same_printed accepts;
      };
      status_is = refl;
      shown_ = refl;
      keeps = refl;
    });
    shows = refl;
    each = record { drive = λ e. keeps_blocks accepts; input = shrinks accepts; printer = grows accepts };
  } where
    same_blocks : (b : Bool) → (left_of b).blocks ≡ d.blocks
    same_blocks true = refl
    same_blocks false = refl

    same_printed : (b : Bool) → (left_of b).printed ≡ d.printed
    same_printed true = refl
    same_printed false = refl

    keeps_blocks : (b : Bool) → KeepsImage d.blocks (left_of b).blocks
    keeps_blocks b = subst (KeepsImage d.blocks) (sym (same_blocks b)) (λ valid. valid)

    shrinks : (b : Bool) → Shrinks d.input (left_of b).input
    shrinks true = (length d.input, sym (drop-length d.input))
    shrinks false = (0, refl)

    grows : (b : Bool) → Grows d.printed (left_of b).printed
    grows b = subst (Grows d.printed) (sym (same_printed b)) (take-length d.printed)

  abbrev rest_taken : Devices
  rest_taken = record d { input = drop (suc most_input) d.input }

  too_long : (file bytes : List ℕ) (unit : ProgramUnit) (o : ExploreOptions) → names_accept unit ≡ true → most_input < length d.input
      → MayCome (words.explore file o) (ExploresText bytes unit o) files d kernel
  too_long file bytes unit o named long = record {
    answer = status.InputLimit;
    decisive = tt;
    files_after = files;
    devices_after = rest_taken;
    sized = λ h. h;
    shown = [];
    left = kernel;
    comes = inr (
      refl,
      (
        named,
        record {
          shown_ = refl;
          input = (long, refl);
          files = refl;
          blocks = refl;
          printed = refl;
          kernel_same = refl;
        },
      ),
    );
    shows = sym (append-nil d.shown);
    each = record { drive = λ e valid. valid; input = (suc most_input, refl); printer = take-length d.printed };
  }

  explores : (file bytes : List ℕ) (unit : ProgramUnit) (o : ExploreOptions) (accepts : Bool) → names_accept unit ≡ accepts → IsUnit bytes unit
      → MayCome (words.explore file o) (ExploresText bytes unit o) files d kernel
  explores file bytes unit o false named is = explored file bytes unit o false named (λ e. absurd (true≢false (sym e))) is
  explores file bytes unit o true named is = elim (cases_lt most_input (length d.input)) [
    | inl long ↦ too_long file bytes unit o named long
    | inr few ↦ explored file bytes unit o true named (λ e. few) is
  ]

  pub explore_may : (file : List ℕ) (o : ExploreOptions) → MayEnd (words.explore file o) files d kernel
  explore_may file o =
      of_table (words.explore file o) files d kernel _
      (does_some (words.explore file o) files d kernel (TextSteps (told_outside files d) file) (λ a. ExploresText a.0 a.1 o) (text_some files d file)
      (λ a went. explores file a.0 a.1 o (names_accept a.1) refl (unit_of (told_outside files d) file a went))) (λ s after shown k h. h)
