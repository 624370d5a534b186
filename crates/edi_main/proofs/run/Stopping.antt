-- A command that runs or walks through a program, and stops before the drive is looked at: nothing was done, and the status says why.
use Rattle.std.proofs.Common.{◌≡◌, ◌⊎◌, ℕ, Bool, false, List, [], take, Option, Some, None, Err, refl, sym, subst, inl, inr, ◌∙◌}
use Rattle.std.specs.Prelude.{⊤}
use Rattle.std.specs.FinMap as map
use Rattle.edi_told.specs.Faults.{CountRose}
use Rattle.edi_told.specs.Told.{WhereTold}
use Rattle.edi_host.specs.Contents.{Contents}
use Rattle.edi_calls.specs.Choice.{Choices}
use Rattle.edi_lex.specs.Limit as texts
use Rattle.edi_texts.specs.Texts.{IsRefused}
use Rattle.edi_texts.proofs.Same.{fetched_bytes_decide}
use Rattle.edi_words.specs.Words.{ChoicesFrom, Command}
use Rattle.edi_statuses.specs.declared.status.Status.{Status}
use Rattle.edi_statuses.specs.declared.status.Status.TheVariants as status
use Rattle.edi_statuses.specs.Counts.{Counts, HasCause}
use Rattle.edi_statuses.specs.Decided.{Came}
use Rattle.edi_statuses.specs.EachObject.{FitsCount}
use Rattle.edi_statuses.specs.Outside.{Outside, IsSomeFile, SameFiles, seen, still_told, Lent}
use Rattle.edi_statuses.specs.Steps.{AfterStep, goes, stops, ◌>>=◌, Ready, Accepts, Fetches, Mounts, ReadsChoices}
use Rattle.edi_statuses.specs.Facts.{Comes}
use Rattle.edi_statuses.specs.Commands.{IsNothing}
use Rattle.edi_statuses.specs.Broken.{HasNotBegun, WentOn}
use Rattle.edi_statuses.specs.Means.{MeansOf, Wants}
use Rattle.edi_statuses.proofs.EachLeft.{each_same}
use Rattle.edi_statuses.proofs.Told.{still, shows_nothing, till_the_last}
use Rattle.edi_main.specs.run.FileSteps.{TextStops}
use Rattle.edi_main.specs.steps.OnFiles.{files_only}
use Rattle.edi_main.specs.steps.Opening.{OpenStep, StopsOpening}
use Rattle.edi_main.proofs.run.Exits.{IsRefusal, choices_refusal, not_begun, nothing, with_files}
use Rattle.edi_main.proofs.run.Meaning.{came_of}
use Rattle.edi_main.proofs.run.Told.{on_files, reads_till_the_last}

-- ---- the statuses

abbrev pub IsEarly : Status → Type 0
IsEarly status.Absent = ⊤
IsEarly (status.BadChoices n) = ⊤
IsEarly (status.Refused kind line) = ⊤
IsEarly (status.BadCode broken) = ⊤
IsEarly (status.BadPoints n) = ⊤
IsEarly _ = ⊥

early_of : (s : Status) → IsRefusal s → IsEarly s
early_of status.Absent h = tt
early_of (status.BadChoices n) h = tt
early_of (status.Refused kind line) h = tt
early_of (status.BadCode broken) h = tt
early_of _ h = absurd h

early_fits : (count : ℕ) (s : Status) → IsEarly s → FitsCount s count
early_fits count status.Absent h = tt
early_fits count (status.BadChoices n) h = tt
early_fits count (status.Refused kind line) h = tt
early_fits count (status.BadCode broken) h = tt
early_fits count (status.BadPoints n) h = tt
early_fits count _ h = absurd h

early_cause : (had has : Counts) (s : Status) → IsEarly s → HasCause s had has
early_cause had has status.Absent h = tt
early_cause had has (status.BadChoices n) h = tt
early_cause had has (status.Refused kind line) h = tt
early_cause had has (status.BadCode broken) h = tt
early_cause had has (status.BadPoints n) h = tt
early_cause had has _ h = absurd h

-- why a command stopped: memory ran out, the files failed, or a step stopped it
abbrev pub Stopped : {A : Type 0} → (steps : Outside → AfterStep A → Type 0) → (file : List ℕ) → Outside → Status → Type 0
Stopped steps file x s = (s ≡ status.NoMemory) ⊎ (((s ≡ status.FileFault) × IsSomeFile x file) ⊎ (IsEarly s × steps x (stops s)))

-- ---- the program of a file is not had: memory ran out, or it has a fault

abbrev pub Unread : {U : Type 0} → (third : List ℕ → AfterStep U → Type 0) → (bytes : List ℕ) → Status → Type 0
Unread third bytes s = (s ≡ status.NoMemory) ⊎ (IsEarly s × third bytes (stops s))

pub unread_fits : {U : Type 0} (third : List ℕ → AfterStep U → Type 0) (bytes : List ℕ) (count : ℕ) (s t : Status) → t ≡ s → Unread third bytes s
    → FitsCount t count
unread_fits third bytes count s t is (inl none) = subst (λ y. FitsCount y count) (sym (is ∙ none)) tt
unread_fits third bytes count s t is (inr h) = subst (λ y. FitsCount y count) (sym is) (early_fits count s h.0)

pub unread_cause : {U : Type 0} (third : List ℕ → AfterStep U → Type 0) (bytes : List ℕ) (had has : Counts) (s t : Status) → t ≡ s
    → Unread third bytes s → HasCause t had has
unread_cause third bytes had has s t is (inl none) = subst (λ y. HasCause y had has) (sym (is ∙ none)) tt
unread_cause third bytes had has s t is (inr h) = subst (λ y. HasCause y had has) (sym is) (early_cause had has s h.0)

-- so of a text, whose first bytes decide
pub text_unread : (bytes : List ℕ) (s : Status) → TextStops bytes s → Unread Accepts bytes s
text_unread bytes s (inl none) = inl none
text_unread bytes s (inr r) = inr (subst IsEarly (sym r.2) tt, r)

pub text_unread_all : (all bytes : List ℕ) → bytes ≡ take texts.most_fetched all → (s : Status) → Unread Accepts bytes s → Unread Accepts all s
text_unread_all all bytes first s (inl none) = inl none
text_unread_all all bytes first s (inr (early, (kind, line, is, refused))) =
    let r : IsRefused (take texts.most_fetched all) kind line = subst (λ b. IsRefused b kind line) first refused in
    inr (early, (kind, line, is, (r.0, (fetched_bytes_decide.there all).fault r.0 kind line r.1)))

-- ---- what every such command means

-- at each of its first three steps it may stop, and then its statuses mean this
pub record StopsAs {A U : Type 0} (c : Command) (file : List ℕ) (from : ChoicesFrom) (third : List ℕ → AfterStep U → Type 0)
    (steps : Outside → AfterStep A → Type 0) : Type 0 where
  pub opening : (x : Outside) (s : Status) → StopsOpening x file from s → steps x (stops s)
  pub unread : (x : Outside) (all : List ℕ) (choices : Choices) (s : Status) → Fetches x file (goes all) → ReadsChoices x from (goes choices)
      → third all (stops s) → steps x (stops s)
  pub wants : (before after : Outside) (kernel : Lent) → IsNothing before after [] kernel → Wants c before after [] kernel
  pub fails : (before after : Outside) (kernel : Lent) → IsSomeFile before file → SameFiles before after → HasNotBegun before after [] kernel
      → MeansOf status.FileFault c before after [] kernel
  pub does : (s : Status) (before after : Outside) (kernel : Lent) → steps before (stops s) → IsNothing before after [] kernel
      → Comes c s before after [] kernel

-- it stops at its first two steps, whatever comes behind them
pub at_opening : {A : Type 0} (more : List ℕ → Choices → AfterStep A → Type 0) (file : List ℕ) (from : ChoicesFrom) (x : Outside) (s : Status)
    → StopsOpening x file from s → (Fetches x file >>= λ all. ReadsChoices x from >>= λ choices. more all choices) (stops s)
at_opening more file from x s (inl f) = inl f
at_opening more file from x s (inr r) = inr (r.0, r.1, inl r.2)

-- fetches a file, reads the choices, takes the third step, mounts
abbrev pub StepsBy : {U X : Type 0} → (third : List ℕ → AfterStep U → Type 0) → (List ℕ → U → X) → (file : List ℕ) → ChoicesFrom → Outside
    → AfterStep (X × Choices) → Type 0
StepsBy third make name from o =
    Fetches o name >>= λ bytes. ReadsChoices o from >>= λ choices. third bytes >>= λ u. Mounts o >>= λ done. Ready (make bytes u, choices)

-- and has come to the drive
abbrev pub AsksBy : {U : Type 0} → (third : List ℕ → AfterStep U → Type 0) → (file : List ℕ) → ChoicesFrom → Outside → Type 0
AsksBy third name from o = WentOn (Fetches o name >>= λ bytes. ReadsChoices o from >>= λ choices. third bytes)

pub stops_by : {U X : Type 0} (third : List ℕ → AfterStep U → Type 0) (make : List ℕ → U → X) (c : Command) (file : List ℕ) (from : ChoicesFrom)
    → ((before after : Outside) (kernel : Lent) → IsNothing before after [] kernel → Wants c before after [] kernel)
    → ((before after : Outside) (kernel : Lent) → IsSomeFile before file → SameFiles before after → HasNotBegun before after [] kernel
    → MeansOf status.FileFault c before after [] kernel)
    → ((s : Status) (before after : Outside) (kernel : Lent) → StepsBy third make file from before (stops s) → IsNothing before after [] kernel
    → Comes c s before after [] kernel)
    → StopsAs c file from third (StepsBy third make file from)
stops_by {U} {X} third make c file from wants fails does = record {
  opening = λ x s h. at_opening {A = X × Choices} (λ all choices. third all >>= λ u. Mounts x >>= λ done. Ready (make all u, choices)) file from x s h;
  unread = λ x all choices s f r t. inr (all, f, inr (choices, r, inl t));
  wants = wants;
  fails = fails;
  does = does;
}

-- ---- it came to its status

opening_early : (o : Outside) (file : List ℕ) (from : ChoicesFrom) (s : Status) → StopsOpening o file from s → IsEarly s
opening_early o file from s (inl f) = subst IsEarly (sym f.0) tt
opening_early o file from s (inr r) = early_of s (choices_refusal o from s r.2)

pub opening_fits : (o : Outside) (file : List ℕ) (limit : ℕ) (from : ChoicesFrom) (count : ℕ) (s t : Status) → t ≡ s
    → OpenStep o file limit from (Err s) → FitsCount t count
opening_fits o file limit from count s t is h = subst (λ y. FitsCount y count) (sym is) (go s h)
  where
    go : (s : Status) → OpenStep o file limit from (Err s) → FitsCount s count
    go status.NoMemory h = tt
    go status.FileFault h = tt
    go s h = early_fits count s (opening_early o file from s h)

pub opening_cause : (o : Outside) (file : List ℕ) (limit : ℕ) (from : ChoicesFrom) (had has : Counts) (s t : Status) → t ≡ s
    → OpenStep o file limit from (Err s) → (s ≡ status.FileFault → CountRose had.files has.files) → HasCause t had has
opening_cause o file limit from had has s t is h rose = subst (λ y. HasCause y had has) (sym is) (go s h rose)
  where
    go : (s : Status) → OpenStep o file limit from (Err s) → (s ≡ status.FileFault → CountRose had.files has.files) → HasCause s had has
    go status.NoMemory h rose = tt
    go status.FileFault h rose = rose refl
    go s h rose = early_cause had has s (opening_early o file from s h)

on_all : (o : Outside) (file : List ℕ) (from : ChoicesFrom) (s : Status) → StopsOpening (files_only o.files) file from s → StopsOpening o file from s
on_all o file from s (inl f) = inl f
on_all o file from s (inr r) = inr (r.0, r.1, on_files o from (stops s) r.2)

module _ {A U : Type 0} (third : List ℕ → AfterStep U → Type 0) (steps : Outside → AfterStep A → Type 0) (c : Command) (file : List ℕ) (from : ChoicesFrom)
    (as_ : StopsAs c file from third steps) (before : Outside) (kernel : Lent) (new : Option Contents) where
  abbrev now : Outside
  now = with_files before new

  abbrev MeansNow : Status → Type 0
  MeansNow s = MeansOf s c (seen before now) now [] kernel

  -- the file was not fetched, or the choices were not read
  opening_stops : (limit : ℕ) (s : Status) → OpenStep (files_only (still_told before.files new)) file limit from (Err s)
      → Stopped steps file (seen before now) s
  opening_stops limit status.NoMemory h = inl refl
  opening_stops limit status.FileFault h = inr (inl (refl, h))
  opening_stops limit s h =
      inr (inr (
        opening_early (files_only (still_told before.files new)) file from s h,
        as_.opening (seen before now) s (on_all (seen before now) file from s h),
      ))

  -- the program was not had
  unread_stops : (all : List ℕ) (choices : Choices) → Fetches (files_only (still_told before.files new)) file (goes all)
      → ReadsChoices (files_only (still_told before.files new)) from (goes choices) → (s : Status) → Unread third all s
      → Stopped steps file (seen before now) s
  unread_stops all choices f r s (inl none) = inl none
  unread_stops all choices f r s (inr h) =
      inr (inr (h.0, as_.unread (seen before now) all choices s f (on_files (seen before now) from (goes choices) r) h.1))

  module _ (kept : kernel.after ≡ kernel.before) (same : WhereTold before.files new (λ a b. b ≡ a)) where
    early_means : (s : Status) → IsEarly s → steps (seen before now) (stops s) → MeansNow s
    early_means status.Absent early h = as_.does status.Absent (seen before now) now kernel h (nothing before new kernel kept same)
    early_means (status.BadChoices n) early h = as_.does (status.BadChoices n) (seen before now) now kernel h (nothing before new kernel kept same)
    early_means (status.Refused kind line) early h =
        as_.does (status.Refused kind line) (seen before now) now kernel h (nothing before new kernel kept same)
    early_means (status.BadCode broken) early h = as_.does (status.BadCode broken) (seen before now) now kernel h (nothing before new kernel kept same)
    early_means (status.BadPoints n) early h = as_.does (status.BadPoints n) (seen before now) now kernel h (nothing before new kernel kept same)
    early_means _ early h = absurd early

    stopped_means : (s : Status) → Stopped steps file (seen before now) s → MeansNow s
    stopped_means s (inl none) = subst MeansNow (sym none) (as_.wants (seen before now) now kernel (nothing before new kernel kept same))
    stopped_means s (inr (inl failed)) =
        subst MeansNow (sym failed.0)
        (as_.fails (seen before now) now kernel failed.1 (still (λ a b. b ≡ a) before.files new same) (not_begun before new kernel kept))
    stopped_means s (inr (inr stopped)) = early_means s stopped.0 stopped.1

    pub came_early : (s t : Status) (due : Bool) → t ≡ s → due ≡ false → Stopped steps file (seen before now) s → Came t due (Some c) before now kernel
    came_early s t due is silent h =
        subst (λ d. Came t d (Some c) before now kernel) (sym silent)
        (subst (λ y. Came y false (Some c) before now kernel) (sym is)
        (came_of c s false before now kernel [] (stopped_means s h) (shows_nothing before.shown before.shown refl) refl
        (each_same None before now refl refl refl)))

    pub opening_came : (limit : ℕ) (s t : Status) (due : Bool) → t ≡ s → due ≡ false
        → OpenStep (files_only (still_told before.files new)) file limit from (Err s) → Came t due (Some c) before now kernel
    opening_came limit s t due is silent h = came_early s t due is silent (opening_stops limit s h)

    pub unread_came : (all : List ℕ) (choices : Choices) → Fetches (files_only (still_told before.files new)) file (goes all)
        → ReadsChoices (files_only (still_told before.files new)) from (goes choices) → (s t : Status) (due : Bool) → t ≡ s → due ≡ false
        → Unread third all s → Came t due (Some c) before now kernel
    unread_came all choices f r s t due is silent h = came_early s t due is silent (unread_stops all choices f r s h)

-- ---- what was read is told behind the run

module _ (before after : Outside) (new : Option Contents) (last : WhereTold new after.files (λ a b. ⊤)) (file : List ℕ) (from : ChoicesFrom) where
  pub still_fetched : (all : List ℕ) → Fetches (files_only (still_told before.files new)) file (goes all) → Fetches (seen before after) file (goes all)
  still_fetched all f = till_the_last (λ files. map.get files file ≡ Some all) before.files new after.files last f

  pub still_read : (choices : Choices) → ReadsChoices (files_only (still_told before.files new)) from (goes choices)
      → ReadsChoices (seen before after) from (goes choices)
  still_read choices r =
      on_files (seen before after) from (goes choices) (reads_till_the_last from choices before.files new after.files last r)
