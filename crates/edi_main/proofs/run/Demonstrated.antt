-- From the steps of `demo` and what its code has left to the meaning of its status.
use Rattle.std.proofs.Common.{◌≡◌, ◌∙◌, ◌||◌, ℕ, Bool, true, false, true≢false, cond, List, [], ◌++◌, append-nil, Option, Some, None, Err, IsSome}
use Rattle.std.proofs.Common.{refl, sym, ap, inl, inr}
use Rattle.std.specs.Prelude.{⊤, not, is_none}
use Rattle.std.specs.Ordering.{nat_cmp, eq_by_cmp}
use Rattle.std.specs.Cmp.Lexicographic.{slice_cmp}
use Rattle.std.specs.FinMap as map
use Rattle.std.specs.FinMap.{slice_cmp-IsAntisymmetric, nat_cmp-IsAntisymmetric}
use Rattle.std.proofs.lemmas.Cmp.{nat_list_cmp_total}
use Rattle.edi_host.specs.Contents.{Contents}
use Rattle.edi_calls.specs.declared.ends.Outside.TheVariants as object
use Rattle.edi_calls.specs.Choice.{Choices}
use Rattle.edi_image.specs.declared.faults.MountFault.{MountFault}
use Rattle.edi_utils.specs.Demo.{demo_text}
use Rattle.edi_words.specs.Words as words
use Rattle.edi_words.specs.Words.{Options}
use Rattle.edi_statuses.specs.declared.status.Status.{Status}
use Rattle.edi_statuses.specs.declared.status.Status.TheVariants as status
use Rattle.edi_statuses.specs.Outside.{Outside, Lent, SameBlocks, SameFiles, SameInput, with_kept, without_names}
use Rattle.edi_statuses.specs.Showing.{ShowsFar}
use Rattle.edi_statuses.specs.Steps.{goes, stops, Mounts}
use Rattle.edi_statuses.specs.Executions.{BrokeRun, record_of, text}
use Rattle.edi_statuses.specs.Commands.{DemoSteps, IsNothing, OnItsOwn, Runs, size_line, with_own}
use Rattle.edi_statuses.specs.EachObject.{is_in_file}
use Rattle.edi_statuses.specs.Broken.{HasNotBegun, RanUnkept, RanWhole, names_in}
use Rattle.edi_statuses.specs.Means.{MeansOf}
use Rattle.edi_statuses.proofs.Told.{same_but, told_so}
use Rattle.edi_main.specs.steps.OnFiles.{ChoicesStep, files_only}
use Rattle.edi_main.specs.run.CodeRan.{CodeRan}
use Rattle.edi_main.specs.run.Demonstrated.{is_ok}
use Rattle.edi_main.proofs.run.Exits.{IsRefusal, choices_refusal}
use Rattle.edi_main.proofs.run.Meaning.{at_record, never_words}
use Rattle.edi_main.proofs.run.Told.{in_file, on_files, there_on_files}

-- ---- the file of the record

twice : (same : Bool) (a b : Option (List ℕ)) → cond same None (cond same a b) ≡ cond same None b
twice true a b = refl
twice false a b = refl

-- a file that is kept and taken away
pub kept_and_gone : (files : Contents) (name bytes : List ℕ) → map.remove (map.insert files name bytes) name ≡ map.remove files name
kept_and_gone files name bytes =
    map.same_map nat_list_cmp_total (slice_cmp-IsAntisymmetric nat_cmp-IsAntisymmetric) _ _ (λ q.
    map.get-remove nat_list_cmp_total (map.insert files name bytes) name q
    ∙ ap (λ o. cond (eq_by_cmp (slice_cmp nat_cmp) q name) None o) (map.get-insert nat_list_cmp_total files name bytes q)
    ∙ twice (eq_by_cmp (slice_cmp nat_cmp) q name) (Some bytes) (map.get files q)
    ∙ sym (map.get-remove nat_list_cmp_total files name q))

-- but for the record all files are as before
kept_but : (name : Option (List ℕ)) (choices : Choices) (drawn : ℕ) (old new : Contents) → new ≡ with_kept (record_of name choices drawn) old
    → without_names (names_in name) new ≡ without_names (names_in name) old
kept_but None choices drawn old new h = h
kept_but (Some name) choices drawn old new h = ap (λ files. map.remove files name) h ∙ kept_and_gone old name _

record_there : (name : Option (List ℕ)) → IsSome name → not (is_none name) ≡ true
record_there None there = absurd (cc)
record_there (Some name) there = refl

pub or_second : (a b : Bool) → b ≡ true → (a || b) ≡ true
or_second true b h = refl
or_second false b h = h

pub or_first : (a b : Bool) → a ≡ true → (a || b) ≡ true
or_first true b h = refl
or_first false b h = absurd (true≢false (sym h))

-- ---- statuses that its own drive and input never give

abbrev pub IsOfDemo : Status → Type 0
IsOfDemo status.DriveFault = ⊥
IsOfDemo status.InputFault = ⊥
IsOfDemo _ = ⊤

pub no_image : (o : Outside) (input : List ℕ) (broken : MountFault) → Mounts (with_own [] input o) (stops (status.BadImage broken)) → ⊥
no_image o input broken h = let never = h.2 in absurd (cc)

-- ---- the meaning of a status

module _ (n : ℕ) (o : Options) (before after : Outside) (blocks : SameBlocks before after) (input : SameInput before after) (kernel : Lent) where
  abbrev MeansHere : Status → (shown : List ℕ) → Type 0
  MeansHere s shown = MeansOf s (words.demo n o) before after shown kernel

  pub on_its_own : (P : Outside → Outside → Type 0) (disk : List (List ℕ)) (left : List ℕ) → P (with_own [] [] before) (with_own disk left after)
      → OnItsOwn P before after
  on_its_own P disk left h = record { disk = disk; left = left; is = h; blocks = blocks; input = input }

  pub own_nothing : (disk : List (List ℕ)) (left shown : List ℕ) → IsNothing (with_own [] [] before) (with_own disk left after) shown kernel
      → IsNothing before after shown kernel
  own_nothing disk left shown h = record {
    shown_ = h.shown_;
    same = record { files = h.same.files; blocks = blocks; input = input; printed = h.same.printed };
    kernel_same = h.kernel_same;
  }

  -- the program was run, and its line is not to be shown
  module _ (choices : Choices) (steps : DemoSteps before o.choices (goes choices)) (disk : List (List ℕ)) (left shown : List ℕ) where
    abbrev RanHere : Status → Type 0
    RanHere s = CodeRan (text (demo_text n)) o.turns choices o.record_file s (with_own [] [] before) (with_own disk left after) shown kernel

    pub ran_means : (s : Status) → IsOfDemo s → is_ok s ≡ false → RanHere s → MeansHere s shown
    ran_means status.Ok of_ not_ok h = absurd (true≢false not_ok)
    ran_means status.Words of_ not_ok h = never_words h.1.ending h.1.status_is
    ran_means status.NoMemory of_ not_ok (inl h) = inl (own_nothing disk left shown h)
    ran_means status.NoMemory of_ not_ok (inr h) =
        inr (at_record o.record_file (DemoSteps before o.choices)
        (λ v. OnItsOwn (λ b a. RanUnkept (text (demo_text n)) o.turns v b a shown kernel) before after) choices h.0 steps
        (on_its_own (λ b a. RanUnkept (text (demo_text n)) o.turns choices b a shown kernel) disk left h.2))
    ran_means status.FileFault of_ not_ok h = record {
      uses = or_second (is_in_file o.choices) _ (record_there o.record_file h.0);
      far =
          inr (
            h.1,
            at_record o.record_file (DemoSteps before o.choices)
                (λ v. OnItsOwn (λ b a. RanWhole (text (demo_text n)) o.turns v b a shown kernel) before after) choices h.0 steps
                (on_its_own (λ b a. RanWhole (text (demo_text n)) o.turns choices b a shown kernel) disk left h.3),
          );
    }
    ran_means status.OutputFault of_ not_ok h = record {
      uses = tt;
      far = (
        same_but (names_in o.record_file) before.files after.files h.0,
        (choices, steps, inl (on_its_own (λ b a. SameFiles b a × BrokeRun status.OutputFault kernel.failed (text (demo_text n)) o.turns choices b a shown) disk left (h.0, h.2))),
      );
    }
    ran_means status.DriveFault of_ not_ok h = absurd of_
    ran_means status.InputFault of_ not_ok h = absurd of_
    ran_means (status.BadImage broken) of_ not_ok h = absurd (no_image before [] broken h.0)
    ran_means s of_ not_ok h =
        inr (
          choices,
          steps,
          record {
            by_program = shown;
            shown_ = sym (append-nil shown);
            ran = on_its_own (λ b a. Runs (text (demo_text n)) o.turns choices o.record_file s b a shown kernel) disk left h.1;
          },
        )

  -- its line was shown, or a first part of it, for which the terminal is blamed
  pub line_means : kernel.failed ≡ Some object.Terminal → (choices : Choices) → DemoSteps before o.choices (goes choices) → (disk : List (List ℕ)) (left by_program : List ℕ)
      → Runs (text (demo_text n)) o.turns choices o.record_file status.Ok (with_own [] [] before) (with_own disk left after) by_program kernel
      → (s : Status) (front : List ℕ) → ShowsFar s front (size_line n kernel.after.used by_program) → MeansHere s (by_program ++ front)
  line_means named choices steps disk left by_program ran status.Ok front far =
      inr (
        choices,
        steps,
        record {
          by_program = by_program;
          shown_ = ap (λ line. by_program ++ line) far;
          ran = on_its_own (λ b a. Runs (text (demo_text n)) o.turns choices o.record_file status.Ok b a by_program kernel) disk left ran;
        },
      )
  line_means named choices steps disk left by_program ran status.OutputFault front far = record {
    uses = tt;
    far = (
      told_so _ _ before.files after.files (kept_but o.record_file choices ran.drawn) ran.keeps,
      (
        choices,
        steps,
        inr (record {
          by_program = by_program;
          line = front;
          front = far;
          shown_ = refl;
          blamed = named;
          ran = on_its_own (λ b a. Runs (text (demo_text n)) o.turns choices o.record_file status.Ok b a by_program kernel) disk left ran;
        }),
      ),
    );
  }
  line_means named choices steps disk left by_program ran s front far = absurd far

  -- the command stopped before it ran anything
  module _ (nothing : IsNothing before after [] kernel) where
    refused : (s : Status) → IsRefusal s → DemoSteps before o.choices (stops s) → MeansHere s []
    refused status.Absent refusal h = inl (h, nothing)
    refused (status.BadChoices line) refusal h = inl (h, nothing)
    refused (status.Refused kind line) refusal h = inl (h, nothing)
    refused (status.BadCode broken) refusal h = inl (h, nothing)
    refused s refusal h = absurd refusal

    pub not_begun : HasNotBegun before after [] kernel
    not_begun = record { shown_ = refl; blocks = blocks; input = input; printed = nothing.same.printed; kernel_same = nothing.kernel_same }

    -- the choices were not read
    pub unread_means : (s : Status) → ChoicesStep (files_only before.files) o.choices (Err s) → MeansHere s []
    unread_means status.NoMemory h = inl nothing
    unread_means status.FileFault h = record {
      uses = or_first (is_in_file o.choices) _ (in_file (files_only before.files) o.choices h);
      far = inl (nothing.same.files, there_on_files before o.choices h, not_begun);
    }
    unread_means s h =
        refused s (choices_refusal (files_only before.files) o.choices s h) (on_files before o.choices (stops s) h)

    -- memory was wanting for its text
    pub uncoded_means : MeansHere status.NoMemory []
    uncoded_means = inl nothing
