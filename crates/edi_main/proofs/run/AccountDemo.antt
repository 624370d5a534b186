-- From the steps of `demo` and what its code has left to the meaning of its status: with an account, and with one or without.
use Rattle.std.proofs.Common.{◌≡◌, ◌∙◌, ◌||◌, ℕ, Bool, true, false, true≢false, List, [], ◌++◌, append-nil, Option, Some, None, option_map, Err, refl, sym, ap, inl, inr}
use Rattle.std.specs.Prelude.{not, is_none}
use Rattle.std.specs.Borrow.{Bor}
use Rattle.edi_calls.specs.declared.ends.Outside.TheVariants as object
use Rattle.edi_calls.specs.Choice.{Choices}
use Rattle.edi_utils.specs.Demo.{demo_text}
use Rattle.edi_words.specs.Words as words
use Rattle.edi_words.specs.Words.{Account, Options, timeline, dump}
use Rattle.edi_words.specs.View.{account_of, choices_from, options_of}
use Rattle.edi_words.specs.declared.commands.Account as accounts
use Rattle.edi_words.specs.declared.commands.Options as options
use Rattle.edi_statuses.specs.declared.status.Status.{Status}
use Rattle.edi_statuses.specs.declared.status.Status.TheVariants as status
use Rattle.edi_statuses.specs.Outside.{Blamed, Outside, Lent, SameBlocks, SameFiles, SameInput, blaming, seen}
use Rattle.edi_statuses.specs.Showing.{ShowsFar}
use Rattle.edi_statuses.specs.Steps.{goes, stops}
use Rattle.edi_statuses.specs.Executions.{Runnable, BrokeRun, text}
use Rattle.edi_statuses.specs.Commands.{DemoSteps, IsNothing, OnItsOwn, Runs, size_line, with_own}
use Rattle.edi_statuses.specs.Accounts.{AccountInPart, AccountLost, RunsWith, account_names}
use Rattle.edi_statuses.specs.EachObject.{has_names, is_in_file, uses_files}
use Rattle.edi_statuses.specs.Broken.{names_in}
use Rattle.edi_statuses.specs.Decided.{with_shown}
use Rattle.edi_statuses.specs.Means.{MeansOf}
use Rattle.edi_statuses.proofs.Terminal.{StillTold, runs_later}
use Rattle.edi_statuses.proofs.Accounts.{runs_with_later}
use Rattle.edi_statuses.proofs.Told.{same_but}
use Rattle.edi_main.specs.steps.OnFiles.{ChoicesStep, files_only}
use Rattle.edi_main.specs.run.Demonstrated.{demo_with, is_ok}
use Rattle.edi_main.specs.run.OnAccounts.{ProgramRan, ProgramWith}
use Rattle.edi_main.proofs.run.Demonstrated.{IsOfDemo, line_means, no_image, not_begun, on_its_own, or_first, or_second, own_nothing, ran_means, uncoded_means}
use Rattle.edi_main.proofs.run.Demonstrated.{unread_means}
use Rattle.edi_main.proofs.run.Exits.{IsRefusal, choices_refusal}
use Rattle.edi_main.proofs.run.Meaning.{never_words}
use Rattle.edi_main.proofs.run.AccountKept.{kept_account}
use Rattle.edi_main.proofs.run.Told.{on_files, there_on_files}

has_some : (account : Account) → has_names (account_names account) ≡ true
has_some (timeline out) = refl
has_some (dump out) = refl

uses_account : (n : ℕ) (account : Account) (o : Options) → uses_files (words.demo_with n account o) ≡ true
uses_account n account o =
    or_second (is_in_file o.choices) _ (or_first (has_names (account_names account)) (not (is_none o.record_file)) (has_some account))

-- ---- with an account

module _ (n : ℕ) (account : Account) (o : Options) (before after : Outside) (blocks : SameBlocks before after) (input : SameInput before after)
    (kernel : Lent) where
  abbrev MeansHere : Status → (shown : List ℕ) → Type 0
  MeansHere s shown = MeansOf s (words.demo_with n account o) before after shown kernel

  abbrev program : Runnable
  program = text (demo_text n)

  -- it uses the files, whatever its choices are
  uses_some : uses_files (words.demo_with n account o) ≡ true
  uses_some = uses_account n account o

  alone : (P : Outside → Outside → Type 0) (disk : List (List ℕ)) (left : List ℕ) → P (with_own [] [] before) (with_own disk left after)
      → OnItsOwn P before after
  alone = on_its_own n o before after blocks input kernel

  -- the program was run, and its line is not to be shown
  module _ (choices : Choices) (steps : DemoSteps before o.choices (goes choices)) (disk : List (List ℕ)) (left shown : List ℕ) where
    with_ran : (s : Status) → IsOfDemo s → is_ok s ≡ false
        → ProgramWith program o.turns choices account o.record_file s (with_own [] [] before) (with_own disk left after) shown kernel → MeansHere s shown
    with_ran status.Ok of_ not_ok h = absurd (true≢false not_ok)
    with_ran status.Words of_ not_ok h = never_words h.1.0 h.1.1
    with_ran status.NoMemory of_ not_ok (inl h) = inl (own_nothing n o before after blocks input kernel disk left shown h)
    with_ran status.NoMemory of_ not_ok (inr h) =
        inr (choices, steps, alone (λ b a. AccountInPart program o.turns choices account o.record_file b a shown kernel) disk left h.1)
    with_ran status.FileFault of_ not_ok h = record {
      uses = uses_some;
      far = inr (h.0, (choices, steps, alone (λ b a. AccountLost program o.turns choices account o.record_file b a shown kernel) disk left h.2));
    }
    with_ran status.OutputFault of_ not_ok h = record {
      uses = tt;
      far = (
        same_but (account_names account ++ names_in o.record_file) before.files after.files h.0,
        (choices, steps, inl (alone (λ b a. SameFiles b a × BrokeRun status.OutputFault kernel.failed program o.turns choices b a shown) disk left (h.0, h.2))),
      );
    }
    with_ran status.DriveFault of_ not_ok h = absurd of_
    with_ran status.InputFault of_ not_ok h = absurd of_
    with_ran (status.BadImage broken) of_ not_ok h = absurd (no_image before [] broken h.0)
    with_ran s of_ not_ok h =
        inr (
          choices,
          steps,
          record {
            by_program = shown;
            shown_ = sym (append-nil shown);
            ran = alone (λ b a. RunsWith program o.turns choices account o.record_file s b a shown kernel) disk left h.1;
          },
        )

  -- its line was shown, or a first part of it, for which the terminal is blamed
  with_line : kernel.failed ≡ Some object.Terminal → (choices : Choices) → DemoSteps before o.choices (goes choices) → (disk : List (List ℕ)) (left by_program : List ℕ)
      → RunsWith program o.turns choices account o.record_file status.Ok (with_own [] [] before) (with_own disk left after) by_program kernel
      → (s : Status) (front : List ℕ) → ShowsFar s front (size_line n kernel.after.used by_program) → MeansHere s (by_program ++ front)
  with_line named choices steps disk left by_program times status.Ok front far =
      inr (
        choices,
        steps,
        record {
          by_program = by_program;
          shown_ = ap (λ line. by_program ++ line) far;
          ran = alone (λ b a. RunsWith program o.turns choices account o.record_file status.Ok b a by_program kernel) disk left times;
        },
      )
  with_line named choices steps disk left by_program times status.OutputFault front far = record {
    uses = tt;
    far = (
      kept_account account program o.turns choices (with_own [] [] before) (with_own disk left after) times.2.made times.2.are times.2.drawn
          o.record_file before.files after.files times.2.files,
      (
        choices,
        steps,
        inr (record {
          by_program = by_program;
          line = front;
          front = far;
          shown_ = refl;
          blamed = named;
          ran = alone (λ b a. RunsWith program o.turns choices account o.record_file status.Ok b a by_program kernel) disk left times;
        }),
      ),
    );
  }
  with_line named choices steps disk left by_program times s front far = absurd far

  -- the command stopped before it ran anything
  module _ (nothing : IsNothing before after [] kernel) where
    refused : (s : Status) → IsRefusal s → DemoSteps before o.choices (stops s) → MeansHere s []
    refused status.Absent refusal h = inl (h, nothing)
    refused (status.BadChoices line) refusal h = inl (h, nothing)
    refused (status.Refused kind line) refusal h = inl (h, nothing)
    refused (status.BadCode broken) refusal h = inl (h, nothing)
    refused s refusal h = absurd refusal

    with_unread : (s : Status) → ChoicesStep (files_only before.files) o.choices (Err s) → MeansHere s []
    with_unread status.NoMemory h = inl nothing
    with_unread status.FileFault h = record {
      uses = uses_some;
      far = inl (nothing.same.files, there_on_files before o.choices h, not_begun n o before after blocks input kernel nothing);
    }
    with_unread s h =
        refused s (choices_refusal (files_only before.files) o.choices s h) (on_files before o.choices (stops s) h)

-- ---- with one or without

-- the program has come to its end, and its files are kept
abbrev pub EndsWell : (account : Option Account) → Runnable → (bound : ℕ) → Choices → (record_file : Option (List ℕ)) → Outside → Outside
    → (shown : List ℕ) → Lent → Type 0
EndsWell None program bound choices name = Runs program bound choices name status.Ok
EndsWell (Some account) program bound choices name = RunsWith program bound choices account name status.Ok

-- whatever the terminal takes after it, and whichever object is blamed then
pub well_later : (b m : Outside) (y : Option (List ℕ)) → StillTold m.shown y → (account : Option Account) (program : Runnable) (bound : ℕ)
    (choices : Choices) (name : Option (List ℕ)) (shown : List ℕ) (blamed : Blamed) (kernel : Lent)
    → ProgramRan account program bound choices name status.Ok (seen b m) m shown kernel
    → EndsWell account program bound choices name (seen b (with_shown y m)) (with_shown y m) shown (blaming blamed kernel)
well_later b m y still None program bound choices name shown blamed kernel h =
    let later = runs_later b m y still program bound choices name status.Ok shown kernel h.1 in
    record {
      ending = later.ending;
      drawn = later.drawn;
      within = later.within;
      used = later.used;
      status_is = later.status_is;
      ran = later.ran;
      keeps = later.keeps;
    }
well_later b m y still (Some account) program bound choices name shown blamed kernel h =
    let later = runs_with_later b m y still program bound choices account name status.Ok shown kernel h.1 in (
      later.0,
      later.1,
      record {
        drawn = later.2.drawn;
        within = later.2.within;
        used = later.2.used;
        ran = later.2.ran;
        made = later.2.made;
        are = later.2.are;
        files = later.2.files;
      },
    )

never_or : (a : Bool) → (a || true) ≡ false → ⊥
never_or true h = true≢false h
never_or false h = true≢false h

or_none : (a : Bool) → (a || false) ≡ false → a ≡ false
or_none true h = absurd (true≢false h)
or_none false h = refl

unnamed : (in_file : Bool) (name : Option (Bor (List ℕ))) → (in_file || not (is_none (option_map (λ text. text.now) name))) ≡ false
    → (name ≡ None) × (in_file ≡ false)
unnamed in_file None h = (refl, or_none in_file h)
unnamed in_file (Some name) h = absurd (never_or in_file h)

-- where no file is used, none is named
pub no_file_named : (n : ℕ) (account : Option accounts.Account) (o : options.Options)
    → uses_files (demo_with n (option_map account_of account) (options_of o)) ≡ false
    → (account ≡ None) × ((o.record_file ≡ None) × (is_in_file (choices_from o.choices) ≡ false))
no_file_named n (Some account) o h = absurd (true≢false (sym (uses_account n (account_of account) (options_of o)) ∙ h))
no_file_named n None o h = (refl, unnamed (is_in_file (choices_from o.choices)) o.record_file h)

module _ (n : ℕ) (account : Option Account) (o : Options) (before after : Outside) (blocks : SameBlocks before after) (input : SameInput before after)
    (kernel : Lent) where
  abbrev MeansSo : (account : Option Account) → Status → (shown : List ℕ) → Type 0
  MeansSo account s shown = MeansOf s (demo_with n account o) before after shown kernel

  pub ran_by : (choices : Choices) → DemoSteps before o.choices (goes choices) → (disk : List (List ℕ)) (left shown : List ℕ) (s : Status)
      → IsOfDemo s → is_ok s ≡ false
      → ProgramRan account (text (demo_text n)) o.turns choices o.record_file s (with_own [] [] before) (with_own disk left after) shown kernel
      → MeansSo account s shown
  ran_by choices steps disk left shown s of_ not_ok = go account
    where
      go : (t : Option Account)
          → ProgramRan t (text (demo_text n)) o.turns choices o.record_file s (with_own [] [] before) (with_own disk left after) shown kernel
          → MeansSo t s shown
      go None = ran_means n o before after blocks input kernel choices steps disk left shown s of_ not_ok
      go (Some account) = with_ran n account o before after blocks input kernel choices steps disk left shown s of_ not_ok

  pub line_by : kernel.failed ≡ Some object.Terminal → (choices : Choices) → DemoSteps before o.choices (goes choices) → (disk : List (List ℕ)) (left by_program : List ℕ)
      → EndsWell account (text (demo_text n)) o.turns choices o.record_file (with_own [] [] before) (with_own disk left after) by_program kernel
      → (s : Status) (front : List ℕ) → ShowsFar s front (size_line n kernel.after.used by_program) → MeansSo account s (by_program ++ front)
  line_by named choices steps disk left by_program ends s front far = go account ends
    where
      go : (t : Option Account)
          → EndsWell t (text (demo_text n)) o.turns choices o.record_file (with_own [] [] before) (with_own disk left after) by_program kernel
          → MeansSo t s (by_program ++ front)
      go None h = line_means n o before after blocks input kernel named choices steps disk left by_program h s front far
      go (Some account) h = with_line n account o before after blocks input kernel named choices steps disk left by_program h s front far

  -- the choices were not read
  pub unread_by : IsNothing before after [] kernel → (s : Status) → ChoicesStep (files_only before.files) o.choices (Err s) → MeansSo account s []
  unread_by nothing s h = go account
    where
      go : (t : Option Account) → MeansSo t s []
      go None = unread_means n o before after blocks input kernel nothing s h
      go (Some account) = with_unread n account o before after blocks input kernel nothing s h

  -- memory was wanting for its text
  pub uncoded_by : IsNothing before after [] kernel → MeansSo account status.NoMemory []
  uncoded_by nothing = go account
    where
      go : (t : Option Account) → MeansSo t status.NoMemory []
      go None = uncoded_means n o before after blocks input kernel nothing
      go (Some account) = inl nothing
