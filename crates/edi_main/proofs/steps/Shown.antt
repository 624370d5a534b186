-- From the bytes that a command makes of a file to how it came to its status, where it touches the files and the terminal alone.
use Rattle.std.proofs.Common.{◌≡◌, ◌∙◌, ◌⊎◌, inl, inr, ℕ, false, List, [], Option, Some, Result, Ok, Err, IfErr, refl, sym, subst}
use Rattle.edi_told.specs.Faults.{CountRose}
use Rattle.edi_told.specs.Told.{WhereTold}
use Rattle.edi_host.specs.Contents.{Contents}
use Rattle.edi_words.specs.Words.{Command}
use Rattle.edi_statuses.specs.declared.ended.Ended.{Ended}
use Rattle.edi_statuses.specs.declared.status.Status.{Status}
use Rattle.edi_statuses.specs.declared.status.Status.TheVariants as status
use Rattle.edi_statuses.specs.Counts.{Counts, HasCause, counts_with}
use Rattle.edi_statuses.specs.Outside.{IsAsBefore, IsSomeFile, KernelLeft, Lent, Outside, SameFiles, idle, outside_with, seen, still_told}
use Rattle.edi_statuses.specs.Commands.{IsNothing, OnlyShows}
use Rattle.edi_statuses.specs.Showing.{ShowsBytes, ShowsFar}
use Rattle.edi_statuses.specs.Broken.{HasNotBegun, ShowsFront}
use Rattle.edi_statuses.specs.Means.{Means, MeansOf}
use Rattle.edi_statuses.specs.Steps.{AfterStep, goes, stops}
use Rattle.edi_statuses.proofs.Due.{due_then}
use Rattle.edi_statuses.proofs.EachLeft.{each_same}
use Rattle.edi_statuses.proofs.Told.{same_told, shows_nothing, still}
use Rattle.edi_main.specs.steps.OnFiles.{files_only}
use Rattle.edi_main.specs.steps.OnTerminal.{CameShowing, EndsShowing, GivesBytes, HasCauseShown, ShowsMade, ShowsTo}

-- What is known of such a command, which ends with this status where it has shown its bytes: what its statuses mean, by its steps, which look
-- at the files alone, and by what its bytes are.
pub record ShowsOf {A : Type 0} (c : Command) (name : List ℕ) (steps : Outside → AfterStep A → Type 0) (Is : A → List ℕ → Type 0) (ends : Status)
    : Type 0 where
  pub stopped : (s : Status) (before after : Outside) (kernel : Lent) → steps (files_only before.files) (stops s) → IsNothing before after [] kernel
      → MeansOf s c before after [] kernel
  pub no_memory : (before after : Outside) (kernel : Lent) → IsNothing before after [] kernel → MeansOf status.NoMemory c before after [] kernel
  pub not_fetched : (before after : Outside) (kernel : Lent) → IsSomeFile (files_only before.files) name → SameFiles before after
      → HasNotBegun before after [] kernel → MeansOf status.FileFault c before after [] kernel
  pub has_shown : (before after : Outside) (kernel : Lent) (a : A) (bytes : List ℕ) → steps (files_only before.files) (goes a) → Is a bytes
      → OnlyShows bytes before after bytes kernel → MeansOf ends c before after bytes kernel
  pub cut_short : (before after : Outside) (kernel : Lent) (a : A) (bytes front : List ℕ) → steps (files_only before.files) (goes a) → Is a bytes
      → ShowsFront bytes before after front kernel → SameFiles before after → MeansOf status.OutputFault c before after front kernel
  -- a status of a step tells no fault
  pub no_fault : (s : Status) (o : Outside) (had has : Counts) → steps o (stops s) → HasCause s had has

-- ---- bytes that were shown

ends_done : (s : Status) (front all : List ℕ) → ShowsFar s front all → ShowsTo status.Ok s front all
ends_done status.Ok front all far = inl (refl, far)
ends_done status.OutputFault front all far = inr (refl, far)
ends_done s front all far = absurd far

pub shows_done : (all : List ℕ) (ended : Ended) (taken takes : Option (List ℕ)) → ShowsBytes all false ended taken takes
    → EndsShowing status.Ok all ended taken takes
shows_done all ended taken takes h = (h.0, ends_done ended.status h.0 all h.1, h.2, h.3)

-- ---- how the command came to its status

module _ {A : Type 0} (c : Command) (name : List ℕ) (steps : Outside → AfterStep A → Type 0) (Is : A → List ℕ → Type 0) (ends : Status)
    (shows : ShowsOf c name steps Is ends) where
  -- whatever the other objects and the kernel are
  module _ (old new : Option Contents) (same : WhereTold old new (λ x y. y ≡ x)) (taken takes : Option (List ℕ))
      (blocks : Option (List (List ℕ))) (input printed : Option (List ℕ)) (kernel : KernelLeft) where
    abbrev before : Outside
    before = outside_with old blocks input taken printed

    abbrev after : Outside
    after = outside_with new blocks input takes printed

    abbrev MeansHere : Status → (shown : List ℕ) → Type 0
    MeansHere s shown = Means s (Some c) before after shown (idle kernel)

    as_before : IsAsBefore (seen before after) after
    as_before = record {
      files = still (λ x y. y ≡ x) old new same;
      blocks = same_told blocks blocks refl;
      input = same_told input input refl;
      printed = same_told printed printed refl;
    }

    nothing : IsNothing (seen before after) after [] (idle kernel)
    nothing = record { shown_ = refl; same = as_before; kernel_same = refl }

    not_begun : HasNotBegun (seen before after) after [] (idle kernel)
    not_begun = record { shown_ = refl; blocks = as_before.blocks; input = as_before.input; printed = as_before.printed; kernel_same = refl }

    -- the command stopped
    stops_means : (s : Status)
        → (s ≡ status.NoMemory) ⊎ (((s ≡ status.FileFault) × IsSomeFile (files_only (still_told old new)) name)
        ⊎ steps (files_only (still_told old new)) (stops s)) → MeansHere s []
    stops_means s (inl none) =
        subst (λ t. MeansHere t []) (sym none) (shows.no_memory (seen before after) after (idle kernel) nothing)
    stops_means s (inr (inl failed)) =
        subst (λ t. MeansHere t []) (sym failed.0)
        (shows.not_fetched (seen before after) after (idle kernel) failed.1 as_before.files not_begun)
    stops_means s (inr (inr stopped)) = shows.stopped s (seen before after) after (idle kernel) stopped nothing

    -- it has shown bytes
    shown_means : (a : A) (bytes : List ℕ) → steps (files_only (still_told old new)) (goes a) → Is a bytes → (s : Status) (front : List ℕ)
        → ShowsTo ends s front bytes → MeansHere s front
    shown_means a bytes went is s front (inl whole) =
        subst (λ t. MeansHere t front) (sym whole.0)
        (subst (λ b. MeansHere ends b) (sym whole.1)
        (shows.has_shown (seen before after) after (idle kernel) a bytes went is
        (record { shown_ = refl; same = as_before; kernel_same = refl })))
    shown_means a bytes went is s front (inr cut) =
        subst (λ t. MeansHere t front) (sym cut.0)
        (shows.cut_short (seen before after) after (idle kernel) a bytes front went is
        (record { front = cut.1; same = as_before; kernel_same = refl }) as_before.files)

  module _ {V : Type 0} (items : V → List ℕ) where
    pub stopped : (old new : Option Contents) (taken : Option (List ℕ)) (s : Status) → WhereTold old new (λ x y. y ≡ x)
        → GivesBytes items steps Is (files_only (still_told old new)) name (Err s) → CameShowing c s false old new taken taken
    stopped old new taken s same h = λ blocks input printed kernel. record {
      shown = [];
      means = stops_means old new same taken taken blocks input printed kernel s h;
      shows = shows_nothing taken taken refl;
      due_is = refl;
      each = each_same (Some c) _ _ refl refl refl;
    }

    pub shown : (old new : Option Contents) (taken takes : Option (List ℕ)) (v : V) (ended : Ended) → WhereTold old new (λ x y. y ≡ x)
        → GivesBytes items steps Is (files_only (still_told old new)) name (Ok v) → EndsShowing ends (items v) ended taken takes
        → CameShowing c ended.status ended.due old new taken takes
    shown old new taken takes v ended same l h = λ blocks input printed kernel. record {
      shown = h.0;
      means = shown_means old new same taken takes blocks input printed kernel l.0 (items v) l.1 l.2 ended.status h.0 h.1;
      shows = h.2;
      due_is = h.3 ∙ sym (due_then [] h.0);
      each = each_same (Some c) _ _ refl refl refl;
    }

    pub stopped_cause : (o : Outside) (s : Status) (had has shown : ℕ) → GivesBytes items steps Is o name (Err s)
        → (s ≡ status.FileFault → CountRose had has) → HasCauseShown s had has shown shown
    stopped_cause o s had has shown (inl none) rose = λ drive input printer. subst
        (λ t. HasCause t (counts_with had drive input shown printer) (counts_with has drive input shown printer)) (sym none) tt
    stopped_cause o s had has shown (inr (inl failed)) rose = λ drive input printer. subst
        (λ t. HasCause t (counts_with had drive input shown printer) (counts_with has drive input shown printer)) (sym failed.0) (rose failed.0)
    stopped_cause o s had has shown (inr (inr stopped)) rose = λ drive input printer. shows.no_fault s o _ _ stopped

pub shown_cause : (s : Status) (front all : List ℕ) (had has had_shown has_shown : ℕ) → ShowsFar s front all
    → (s ≡ status.OutputFault → CountRose had_shown has_shown) → HasCauseShown s had has had_shown has_shown
shown_cause status.Ok front all had has had_shown has_shown far rose = λ drive input printer. tt
shown_cause status.OutputFault front all had has had_shown has_shown far rose = λ drive input printer. inl (rose refl)
shown_cause s front all had has had_shown has_shown far rose = absurd far

-- so where the command ends with a status that tells no fault
pub ends_cause : (ends s : Status) (had has had_shown has_shown : ℕ) → ((before after : Counts) → HasCause ends before after)
    → (s ≡ ends) ⊎ ((s ≡ status.OutputFault) × CountRose had_shown has_shown) → HasCauseShown s had has had_shown has_shown
ends_cause ends s had has had_shown has_shown none (inl same) = λ drive input printer. subst
    (λ t. HasCause t (counts_with had drive input had_shown printer) (counts_with has drive input has_shown printer)) (sym same) (none _ _)
ends_cause ends s had has had_shown has_shown none (inr failed) = λ drive input printer. subst
    (λ t. HasCause t (counts_with had drive input had_shown printer) (counts_with has drive input has_shown printer)) (sym failed.0) (inl failed.1)

-- ---- what was made was shown, or the command stopped

done_or_cut : (s : Status) (front all : List ℕ) (had has : ℕ) → ShowsFar s front all → (s ≡ status.OutputFault → CountRose had has)
    → (s ≡ status.Ok) ⊎ ((s ≡ status.OutputFault) × CountRose had has)
done_or_cut status.Ok front all had has far rose = inl refl
done_or_cut status.OutputFault front all had has far rose = inr (refl, rose refl)
done_or_cut s front all had has far rose = absurd far

pub shows_made : (all : List ℕ) (ended : Ended) (taken takes : Option (List ℕ)) (had has : ℕ) → ShowsBytes all false ended taken takes
    → (ended.status ≡ status.OutputFault → CountRose had has) → ShowsMade {V = List ℕ} (λ bytes. bytes) (Ok all) ended taken takes had has
shows_made all ended taken takes had has h rose =
    (shows_done all ended taken takes h, done_or_cut ended.status h.0 all had has h.1 rose)

module _ {A : Type 0} (c : Command) (name : List ℕ) (steps : Outside → AfterStep A → Type 0) (Is : A → List ℕ → Type 0)
    (shows : ShowsOf c name steps Is status.Ok) {V : Type 0} (items : V → List ℕ) (taken takes : Option (List ℕ))
    (had_shown has_shown : ℕ) (ended : Ended) where
  pub made_came : (old new : Option Contents) (made : Result V Status) → WhereTold old new (λ x y. y ≡ x)
      → GivesBytes items steps Is (files_only (still_told old new)) name made → ShowsMade items made ended taken takes had_shown has_shown
      → CameShowing c ended.status ended.due old new taken takes
  made_came old new (Ok v) same gives h = shown c name steps Is status.Ok shows items old new taken takes v ended same gives h.0
  made_came old new (Err s) same gives h =
      subst (λ t. CameShowing c t ended.due old new taken takes) (sym h.0)
      (subst (λ due. CameShowing c s due old new taken takes) (sym h.1)
      (subst (CameShowing c s false old new taken) (sym h.2) (stopped c name steps Is status.Ok shows items old new taken s same gives)))

  pub made_cause : (o : Outside) (had has : ℕ) (made : Result V Status) → GivesBytes items steps Is o name made
      → IfErr made (λ s. s ≡ status.FileFault → CountRose had has) → ShowsMade items made ended taken takes had_shown has_shown
      → HasCauseShown ended.status had has had_shown has_shown
  made_cause o had has (Ok v) gives rose h = ends_cause status.Ok ended.status had has had_shown has_shown (λ before after. tt) h.1
  made_cause o had has (Err s) gives rose h =
      subst (λ t. HasCauseShown t had has had_shown has_shown) (sym h.0)
      (subst (HasCauseShown s had has had_shown) (sym h.3)
      (stopped_cause c name steps Is status.Ok shows items o s had has had_shown gives rose))
