-- What the statuses of `explore` mean, by what its steps answer.
use Rattle.std.specs.Prelude.{⊤}
use Rattle.std.proofs.Common.{◌≡◌, ◌∙◌, inl, inr, ◌<◌, ℕ, Bool, true, false, List, [], append-nil, length, drop, Option, Some, is_some, Result, Ok, Err}
use Rattle.std.proofs.Common.{refl, sym, ap, subst}
use Rattle.std.proofs.Math.Seq.{drop-append_seam}
use Rattle.std.specs.FinMap as map
use Rattle.std.specs.Global.{Vec}
use Rattle.edi_told.specs.Told.{WhereTold}
use Rattle.edi_host.specs.Contents.{Contents}
use Rattle.edi_host.specs.declared.files.KeepEnd.{KeepEnd}
use Rattle.edi_host.specs.declared.files.KeepEnd.TheVariants as keep
use Rattle.edi_unit.specs.Tree.{ProgramUnit}
use Rattle.edi_system.specs.Growing.{Shrinks}
use Rattle.edi_runs.specs.declared.explore.summary.Summary.{Summary}
use Rattle.edi_runs.specs.declared.explore.summary.Summary.TheVariants as summary
use Rattle.edi_runs.specs.explore.Explorations.{Findings, IsExplorationOf}
use Rattle.edi_runs.specs.explore.Input.{names_accept}
use Rattle.edi_runs.specs.explore.Keeping.{KeepsInTurn, is_kept}
use Rattle.edi_runs.specs.explore.Lines.{report_text, summary_of}
use Rattle.edi_runs.specs.explore.Records.{records_of}
use Rattle.edi_texts.specs.Texts.{IsUnit}
use Rattle.edi_words.specs.Words.{ExploreOptions, explore}
use Rattle.edi_statuses.specs.declared.ended.Ended.{Ended}
use Rattle.edi_statuses.specs.declared.status.Status.{Status}
use Rattle.edi_statuses.specs.declared.status.Status.TheVariants as status
use Rattle.edi_statuses.specs.Broken.{HasNotBegun}
use Rattle.edi_statuses.specs.Commands.{IsNothing, TextSteps}
use Rattle.edi_statuses.specs.Explored.{Explored, ExploredThen, Explores, FailsIn, IsTooLong, KeepsFirst, LosesNext, LosesSome, OnlyTakes, TakesAll, names_of_records, status_of_summary}
use Rattle.edi_statuses.specs.Fronts.{IsFront}
use Rattle.edi_statuses.specs.Means.{Means}
use Rattle.edi_statuses.specs.Outside.{IsAsBefore, Kept, Lent, Outside, SameBlocks, SamePrinted, outside_with, seen, still_told, with_kept, without_names}
use Rattle.edi_statuses.specs.Showing.{ShowsBytes, ShowsFar}
use Rattle.edi_statuses.specs.Steps.{Fetches, goes}
use Rattle.edi_statuses.proofs.Told.{in_turn, same_told, still, till_the_last, told_so}
use Rattle.edi_main.specs.steps.OnFiles.{files_only}
use Rattle.edi_main.specs.text.ExploreCommand.{EndsAs, EndsExploring, GivesProgram, TakesInput, input_only, kept_status}
use Rattle.edi_main.proofs.text.ManyNames.{all_kept, keeps_first, loses_next, lost_but}
use Rattle.edi_main.proofs.text.Meaning.{since}

module _ (file : List ℕ) (o : ExploreOptions) (old new : Option Contents) (left rest taken takes : Option (List ℕ))
    (blocks : Option (List (List ℕ))) (printed : Option (List ℕ)) (kernel : Lent) where
  abbrev before : Outside
  before = outside_with old blocks left taken printed

  abbrev after : Outside
  after = outside_with new blocks rest takes printed

  abbrev MeansHere : Status → (shown : List ℕ) → Type 0
  MeansHere s shown = Means s (Some (explore file o)) before after shown kernel

  abbrev then_ : Outside
  then_ = seen before after

  same_blocks : SameBlocks then_ after
  same_blocks = same_told blocks blocks refl

  same_printed : SamePrinted then_ after
  same_printed = same_told printed printed refl

  -- ---- the text was not read

  module _ (same : WhereTold old new (λ a b. b ≡ a)) (input_same : rest ≡ left) (kernel_same : kernel.after ≡ kernel.before) where
    as_before : IsAsBefore then_ after
    as_before = record {
      files = still (λ a b. b ≡ a) old new same;
      blocks = same_blocks;
      input = same_told left rest input_same;
      printed = same_printed;
    }

    nothing : IsNothing then_ after [] kernel
    nothing = record { shown_ = refl; same = as_before; kernel_same = kernel_same }

    not_begun : HasNotBegun then_ after [] kernel
    not_begun = record { shown_ = refl; blocks = same_blocks; input = as_before.input; printed = same_printed; kernel_same = kernel_same }

    pub unread_means : (s : Status) → GivesProgram (files_only (still_told old new)) file (Err s) → MeansHere s []
    unread_means s (inl none) = subst (λ t. MeansHere t []) (sym none) (inl nothing)
    unread_means s (inr (inl failed)) =
        subst (λ t. MeansHere t []) (sym failed.0) (record { uses = refl; far = inl (as_before.files, failed.1, not_begun) })
    unread_means s (inr (inr (inl absent))) =
        subst (λ t. MeansHere t []) (sym absent.0) (inl (inl (refl, absent.1), nothing))
    unread_means s (inr (inr (inr fetched))) = elim fetched.2 [
      | inl r ↦ subst (λ t. MeansHere t []) (sym r.2) (inl (inr (fetched.0, fetched.1, inl (r.0, r.1, refl, r.3)), nothing))
      | inr r ↦ absurd r.2
    ]

  -- ---- the text was read; it is what it was, where the files tell it still

  module _ (mid : Option Contents) (ever : WhereTold mid new (λ a b. ⊤)) (text : List ℕ) (unit : ProgramUnit)
      (fetched : Fetches (files_only (still_told old mid)) file (goes text)) (is : IsUnit text unit) where
    begun : TextSteps then_ file (goes (text, unit))
    begun = inr (text, till_the_last (λ files. map.get files file ≡ Some text) old mid new ever fetched, inr (unit, is, refl))

    -- ---- the input was not read

    module _ (same : WhereTold old new (λ a b. b ≡ a)) (kernel_same : kernel.after ≡ kernel.before) (asks : Bool) (asks_is : asks ≡ names_accept unit) where
      only_takes : (Q : List ℕ → List ℕ → Type 0) → WhereTold left rest Q → OnlyTakes Q then_ after [] kernel
      only_takes Q h = record {
        shown_ = refl;
        input = still Q left rest h;
        files = still (λ a b. b ≡ a) old new same;
        blocks = same_blocks;
        printed = same_printed;
        kernel_same = kernel_same;
      }

      pub unfed_means : (s : Status) → TakesInput asks (Err s) left rest → MeansHere s []
      unfed_means status.InputLimit h = inr ((text, unit), begun, inr (refl, (sym asks_is ∙ h.0, only_takes IsTooLong h.1)))
      unfed_means status.InputFault h = record {
        uses = tt;
        far = (still (λ a b. b ≡ a) old new same, ((text, unit), begun, (sym asks_is ∙ h.0, only_takes FailsIn h.1)));
      }
      unfed_means status.NoMemory h = inr ((text, unit), begun, inl (sym asks_is ∙ h.0, only_takes LosesSome h.1))
      unfed_means s h = absurd h

    -- ---- the input was read

    module _ (bytes : List ℕ) (asks : Bool) (asks_is : asks ≡ names_accept unit) (fed : TakesAll asks bytes (input_only left) (input_only rest)) where
      takes_by : (a : Bool) → TakesAll a bytes (input_only left) (input_only rest) → TakesAll a bytes then_ after
      takes_by false h = (h.0, still (λ a b. b ≡ a) left rest h.1)
      takes_by true h = (h.0, still (λ a b. (a ≡ bytes) × (b ≡ [])) left rest h.1)

      takes_all : TakesAll (names_accept unit) bytes then_ after
      takes_all = subst (λ a. TakesAll a bytes then_ after) asks_is (takes_by asks fed)

      -- memory ran out before the lines were shown
      pub unshown_means : WhereTold old new (λ a b. b ≡ a) → MeansHere status.NoMemory []
      unshown_means same = inr (
        (text, unit),
        begun,
        inr (inl (record {
          input = bytes;
          takes = takes_all;
          shown_ = refl;
          files = still (λ a b. b ≡ a) old new same;
          blocks = same_blocks;
          printed = same_printed;
        })),
      )

      -- ---- the lines were shown

      module _ (f : Findings) (explored_is : IsExplorationOf text bytes o.states o.turns o.shown f) where
        explored : Explored text unit o f then_ after
        explored = record { input = bytes; takes = takes_all; is = explored_is; blocks = same_blocks; printed = same_printed }

        cut_means : (front : List ℕ) → IsFront front (report_text (is_some o.shown) o.record_file f) → WhereTold old new (λ a b. b ≡ a) → MeansHere status.OutputFault front
        cut_means front h same = record {
          uses = tt;
          far = (still (λ a b. b ≡ a) old new same, ((text, unit), begun, record { findings = f; explored = explored; front = h }));
        }

        explores : (s : Status) → s ≡ status_of_summary (summary_of f)
            → WhereTold then_.files new (λ a b. b ≡ with_kept (records_of o.record_file f.endings) a)
            → Explores text unit o s then_ after (report_text (is_some o.shown) o.record_file f)
        explores s is keeps = record { findings = f; explored = explored; status_is = is; shown_ = refl; keeps = keeps }

        done_means : (m : Summary) → summary_of f ≡ m
            → WhereTold then_.files new (λ a b. b ≡ with_kept (records_of o.record_file f.endings) a)
            → MeansHere (status_of_summary m) (report_text (is_some o.shown) o.record_file f)
        done_means summary.Fine e keeps =
            inr ((text, unit), begun, inl (explores status.Ok (ap status_of_summary (sym e)) keeps))
        done_means summary.Endless e keeps =
            inr ((text, unit), begun, inl (explores status.NoEnding (ap status_of_summary (sym e)) keeps))
        done_means summary.NotAll e keeps =
            inr ((text, unit), begun, inl (explores status.NotAll (ap status_of_summary (sym e)) keeps))
        done_means (summary.Found n) e keeps =
            inr ((text, unit), begun, inl (explores (status.Found n) (ap status_of_summary (sym e)) keeps))

        then_kept : (Leaves : List Kept → Outside → Outside → Type 0) → Leaves (records_of o.record_file f.endings) then_ after
            → ExploredThen Leaves text unit o then_ after (report_text (is_some o.shown) o.record_file f)
        then_kept Leaves h = record { findings = f; explored = explored; shown_ = refl; files = h }

        kept_means : (end : KeepEnd) → WhereTold then_.files new (KeepsInTurn end (records_of o.record_file f.endings))
            → (is_kept end ≡ false → 0 < length (records_of o.record_file f.endings)) → MeansHere (kept_status f end) (report_text (is_some o.shown) o.record_file f)
        kept_means keep.Ok h some =
            done_means (summary_of f) refl (told_so _ _ then_.files new (λ a b k. all_kept (records_of o.record_file f.endings) a b k) h)
        kept_means keep.Failed h some = record {
          uses = refl;
          far = inr (
            subst (λ names. WhereTold then_.files new (λ a b. without_names names b ≡ without_names names a))
                (sym (append-nil (names_of_records o.record_file))) (lost_but o.record_file f.endings then_.files new h),
            ((text, unit), begun, then_kept LosesNext (loses_next (records_of o.record_file f.endings) (some refl) then_ after h)),
          );
        }
        kept_means keep.NoMemory h some = inr (
          (text, unit),
          begun,
          inr (inr (then_kept KeepsFirst (keeps_first (records_of o.record_file f.endings) (some refl) then_ after h))),
        )

        pub ended_means : WhereTold old mid (λ a b. b ≡ a) → (s : Status) (front : List ℕ) → EndsAs o.record_file f s front (report_text (is_some o.shown) o.record_file f) mid new
            → MeansHere s front
        ended_means unchanged s front (inl h) =
            subst (λ t. MeansHere t front) (sym h.0) (cut_means front h.1 (in_turn old mid new unchanged h.2))
        ended_means unchanged s front (inr h) =
            subst (λ t. MeansHere t front) (sym h.1.status_is)
            (subst (λ b. MeansHere (kept_status f h.1.end) b) (sym h.0)
            (kept_means h.1.end (since (KeepsInTurn h.1.end (records_of o.record_file f.endings)) old mid new unchanged h.1.keeps) h.1.some))

-- ---- what is left of each object

-- an input that only lost its first bytes
drops_all : (xs : List ℕ) → [] ≡ drop (length xs) xs
drops_all xs = sym (drop-append_seam xs []) ∙ ap (drop (length xs)) (append-nil xs)

fed_shrinks : (asks : Bool) (bytes : List ℕ) (left rest : Option (List ℕ)) → TakesAll asks bytes (input_only left) (input_only rest)
    → WhereTold left rest Shrinks
fed_shrinks false bytes left rest h = told_so _ _ left rest (λ a b e. (0, e)) h.1
fed_shrinks true bytes left rest h = told_so _ _ left rest (λ a b e. (length a, e.1 ∙ drops_all a)) h.1

pub input_shrinks : (asks : Bool) (r : Result (Vec ℕ) Status) (left rest : Option (List ℕ)) → TakesInput asks r left rest → WhereTold left rest Shrinks
input_shrinks asks (Ok bytes) left rest h = fed_shrinks asks bytes.items left rest h
input_shrinks asks (Err status.InputLimit) left rest h = told_so _ _ left rest (λ a b e. (65537, e.1)) h.1
input_shrinks asks (Err status.InputFault) left rest h = told_so _ _ left rest (λ a b e. (e.0, e.3)) h.1
input_shrinks asks (Err status.NoMemory) left rest h = told_so _ _ left rest (λ a b e. (e.0, e.2)) h.1
input_shrinks asks (Err s) left rest h = absurd h

-- ---- the end

shown_whole : (s : Status) (front all : List ℕ) → ShowsFar s front all → (s ≡ status.OutputFault → ⊥) → front ≡ all
shown_whole status.Ok front all far other = far
shown_whole status.OutputFault front all far other = absurd (other refl)
shown_whole s front all far other = absurd far

-- the lines were shown, and the records were kept till this end
pub ends_whole : (name : Option (List ℕ)) (f : Findings) (all lines : List ℕ) (shown : Ended) (taken takes : Option (List ℕ)) (old new : Option Contents)
    (end : KeepEnd) (s : Status) → ShowsBytes all false shown taken takes → (shown.status ≡ status.OutputFault → ⊥) → all ≡ lines → s ≡ kept_status f end
    → WhereTold old new (KeepsInTurn end (records_of name f.endings)) → (is_kept end ≡ false → 0 < length (records_of name f.endings))
    → EndsExploring name f lines (record { status = s; due = shown.due }) taken takes old new
ends_whole name f all lines shown taken takes old new end s h other are is keeps some = record {
  front = h.0;
  ends =
      inr (shown_whole shown.status h.0 all h.1 other ∙ are, record { end = end; status_is = is; keeps = keeps; some = some });
  shows = h.2;
  due_is = h.3;
}

-- the status tells no fault but that of the files
no_fault_in : (m : Summary) → (status_of_summary m ≡ status.FileFault → ⊥) × (status_of_summary m ≡ status.OutputFault → ⊥)
no_fault_in summary.Fine = (λ e. absurd (cc), λ e. absurd (cc))
no_fault_in summary.Endless = (λ e. absurd (cc), λ e. absurd (cc))
no_fault_in summary.NotAll = (λ e. absurd (cc), λ e. absurd (cc))
no_fault_in (summary.Found n) = (λ e. absurd (cc), λ e. absurd (cc))

pub kept_failed : (f : Findings) (end : KeepEnd) (s : Status) → s ≡ kept_status f end → s ≡ status.FileFault → end ≡ keep.Failed
kept_failed f keep.Ok s is e = absurd ((no_fault_in (summary_of f)).0 (sym is ∙ e))
kept_failed f keep.Failed s is e = refl
kept_failed f keep.NoMemory s is e = absurd (cc)

pub kept_silent : (f : Findings) (end : KeepEnd) (s : Status) → s ≡ kept_status f end → s ≡ status.OutputFault → ⊥
kept_silent f keep.Ok s is e = (no_fault_in (summary_of f)).1 (sym is ∙ e)
kept_silent f keep.Failed s is e = absurd (cc)
kept_silent f keep.NoMemory s is e = absurd (cc)
