-- From the steps of `watch` and what its run has left to how it came to its status.
use Rattle.std.proofs.Common.{◌≡◌, ◌∙◌, ℕ, Bool, List, take, Option, Some, None, Result, Ok, Err, refl, sym, ap, subst, inl, inr}
use Rattle.std.specs.Prelude.{⊤}
use Rattle.std.specs.FinMap as map
use Rattle.edi_told.specs.Told.{WhereTold}
use Rattle.edi_host.specs.Contents.{Contents}
use Rattle.edi_calls.specs.Choice.{Choices}
use Rattle.edi_lex.specs.declared.symbol.Mark.{Mark}
use Rattle.edi_lex.specs.declared.fault.LexFault.{LexFault}
use Rattle.edi_lex.specs.Limit as texts
use Rattle.edi_lex.specs.Symbols.{symbols_of}
use Rattle.edi_lex.proofs.Limited.{first_bytes_decide}
use Rattle.edi_tree.specs.Tree.{Program}
use Rattle.edi_debug.specs.declared.answer.Points.{Points}
use Rattle.edi_debug.specs.Points as points
use Rattle.edi_debug.specs.Points.{watched_in}
use Rattle.edi_debug.specs.stops.Stops.{Watched}
use Rattle.edi_runs.specs.declared.watch.source.Watchable.{Watchable}
use Rattle.edi_runs.specs.watch.Logs.{AreOfTree}
use Rattle.edi_runs.specs.watch.Watchable.{IsWatchable, program_in}
use Rattle.edi_runs.proofs.watch.Meant.{unit_is}
use Rattle.edi_texts.specs.declared.refusal.Refusal.TheVariants.{NoMemory}
use Rattle.edi_words.specs.Words as words
use Rattle.edi_words.specs.Words.{Options}
use Rattle.edi_statuses.specs.declared.status.Status.{Status}
use Rattle.edi_statuses.specs.declared.status.Status.TheVariants as status
use Rattle.edi_statuses.specs.Outside.{Outside, seen, still_told, Lent}
use Rattle.edi_statuses.specs.EachObject.{FitsCount}
use Rattle.edi_statuses.specs.Steps.{AfterStep, goes, stops, ◌>>=◌, Ready, Accepts, Fetches, ReadsChoices, FindsPoints, GivesPoints, Mounts}
use Rattle.edi_statuses.specs.Commands.{PointSteps, WatchSteps}
use Rattle.edi_statuses.specs.Means.{MeansOf}
use Rattle.edi_statuses.specs.Decided.{Came}
use Rattle.edi_statuses.proofs.Told.{just_told, still_same, till_the_last, in_turn}
use Rattle.edi_main.specs.steps.OnFiles.{files_only}
use Rattle.edi_main.specs.run.OnWatched.{RanWatched, TextWatched}
use Rattle.edi_main.specs.run.WatchedFiles.{PointsStep, WatchableStep}
use Rattle.edi_main.proofs.run.Exits.{with_files}
use Rattle.edi_main.proofs.run.Meaning.{came_of, never_words}
use Rattle.edi_main.proofs.run.Stopping.{IsEarly, Stopped, StopsAs, at_opening}
use Rattle.edi_main.proofs.run.Told.{on_files, reads_till_the_last}
use Rattle.edi_main.proofs.steps.OnFilesLemmas.{fetched_there}

-- ---- the program of the first bytes of a text is that of the text

watchable_all : (all bytes : List ℕ) (w : Watchable) → bytes ≡ take texts.most_fetched all → IsWatchable bytes w → IsWatchable all w
watchable_all all bytes w first h =
    let P : Result (List Mark × ℕ) LexFault → Type 0 = λ k. AreOfTree k (program_in w) in
    record { tree_is = subst P (ap symbols_of first ∙ (first_bytes_decide all).0) h.tree_is; whole = h.whole }

-- ---- the status of a file of points

pub points_fit : (o : Outside) (tree : Program) (name : List ℕ) (s : Status) (count : ℕ) → PointsStep o tree name (Err s) → FitsCount s count
points_fit o tree name status.NoMemory count h = tt
points_fit o tree name status.FileFault count h = tt
points_fit o tree name (status.BadPoints n) count h = tt
points_fit o tree name s count h = subst (λ x. FitsCount x count) (sym h.0) tt

module _ (file lines_file out : List ℕ) (o : Options) where
  abbrev pub command : words.Command
  command = words.watch file lines_file out o

  abbrev pub Pointed : Outside → AfterStep (List ℕ × Choices × List Watched) → Type 0
  Pointed x = PointSteps x file lines_file o.choices

  -- it may stop before the file of points is looked at
  pub stops_as : StopsAs command file o.choices Accepts Pointed
  stops_as = record {
    opening = λ x s h.
        at_opening {A = List ℕ × Choices × List Watched} (λ bytes choices. Accepts bytes >>= λ unit. Fetches x lines_file >>= λ lines. FindsPoints bytes lines >>= λ list. Ready (bytes, choices, list))
        file o.choices x s h;
    unread = λ x all choices s f r t. inr (all, f, inr (choices, r, inl t));
    wants = λ b a k n. inl n;
    fails = λ b a k there same begun. record { uses = refl; far = inl (same, there, begun) };
    does = λ s b a k h n. inl (inl h, n);
  }

  -- ---- the file of points

  module _ (before : Outside) (kernel : Lent) where
    module _ (all : List ℕ) (opened : Option Contents) (f : Fetches (files_only (still_told before.files opened)) file (goes all)) (choices : Choices)
        (c : ReadsChoices (files_only (still_told before.files opened)) o.choices (goes choices)) (same : WhereTold before.files opened (λ a b. b ≡ a)) where
      module _ (new : Option Contents) (last : WhereTold opened new (λ a b. ⊤)) where
        fetched_at : Fetches (files_only (still_told before.files new)) file (goes all)
        fetched_at = till_the_last (λ files. map.get files file ≡ Some all) before.files opened new last f

        read_at : ReadsChoices (files_only (still_told before.files new)) o.choices (goes choices)
        read_at = reads_till_the_last o.choices choices before.files opened new last c

      module _ (bytes : List ℕ) (w : Watchable) (first_bytes : bytes ≡ take texts.most_fetched all) (read : WatchableStep bytes (Ok w)) where
        pub is_watchable : IsWatchable all w
        is_watchable = watchable_all all bytes w first_bytes read

        -- the steps on the file of points
        abbrev PointsLeft : Outside → AfterStep (List ℕ × Choices × List Watched) → Type 0
        PointsLeft x = Fetches x lines_file >>= λ lines. FindsPoints all lines >>= λ list. Ready (all, choices, list)

        -- those before them went on
        behind : (new : Option Contents) → WhereTold opened new (λ a b. ⊤) → (x : Outside) → x.files ≡ still_told before.files new
            → (r : AfterStep (List ℕ × Choices × List Watched)) → PointsLeft x r → Pointed x r
        behind new last x files r h =
            let at : Option Contents → Type 0 = λ found. Fetches (files_only found) file (goes all) in
            inr (
              all,
              subst at (sym files) (fetched_at new last),
              inr (
                choices,
                on_files x o.choices (goes choices) (subst (λ found. ReadsChoices (files_only found) o.choices (goes choices)) (sym files) (read_at new last)),
                inr (is_watchable.whole.unit, unit_is all (program_in w) is_watchable.whole.unit is_watchable.whole.resolved is_watchable.tree_is, h),
              ),
            )

        finds : (lines : List ℕ) (r : AfterStep (List Watched)) → GivesPoints (points.read_of (program_in w) lines) r → FindsPoints all lines r
        finds lines r h = (program_in w, is_watchable.tree_is, h)

        found : (lines : List ℕ) (list : List Watched) → points.read_of (program_in w) lines ≡ points.read list → FindsPoints all lines (goes list)
        found lines list is = finds lines (goes list) (subst (λ x. GivesPoints x (goes list)) (sym is) refl)

        bad : (lines : List ℕ) (n : ℕ) → points.read_of (program_in w) lines ≡ points.bad_line n → FindsPoints all lines (stops (status.BadPoints n))
        bad lines n is = finds lines (stops (status.BadPoints n)) (subst (λ x. GivesPoints x (stops (status.BadPoints n))) (sym is) refl)

        -- ---- the points

        module _ (new : Option Contents) (third : WhereTold opened new (λ a b. b ≡ a)) where
          abbrev last_ : Outside
          last_ = seen before (with_files before new)

          since : WhereTold opened new (λ a b. ⊤)
          since = just_told (λ a b. b ≡ a) opened new third

          -- a fetch of the file of points
          points_at : (r : AfterStep (List ℕ)) → Fetches (files_only (still_told opened new)) lines_file r
              → Fetches (files_only (still_told before.files new)) lines_file r
          points_at r h =
              subst (λ files. Fetches (files_only files) lines_file r) (still_same before.files opened new same since) h

          -- they were not read
          pub points_stop : (s : Status) → PointsStep (files_only (still_told opened new)) (program_in w) lines_file (Err s) → Stopped Pointed file last_ s
          points_stop status.NoMemory h = inl refl
          points_stop status.FileFault h = inr (inl (refl, fetched_there last_ file all (fetched_at new since)))
          points_stop (status.BadPoints n) h =
              inr (inr (tt, behind new since last_ refl (stops (status.BadPoints n)) (inr (h.0, points_at (goes h.0) h.1, inl (bad h.0 n h.2)))))
          points_stop s h =
              inr (inr (subst IsEarly (sym h.0) tt, behind new since last_ refl (stops s) (inl (absent s (points_at (stops s) h)))))
            where
              absent : (s : Status) → Fetches (files_only (still_told before.files new)) lines_file (stops s) → Fetches last_ lines_file (stops s)
              absent s k = k

          -- ---- the run

          module _ (list : Points) (p : PointsStep (files_only (still_told opened new)) (program_in w) lines_file (Ok list)) where
            abbrev led_to : List ℕ × Choices × List Watched
            led_to = (all, choices, watched_in list)

            went_at : (after : Outside) → WhereTold new after.files (λ a b. ⊤) → Pointed (seen before after) (goes led_to)
            went_at after last =
                let lines : Fetches (files_only (still_told before.files after.files)) lines_file (goes p.0) =
                till_the_last (λ files. map.get files lines_file ≡ Some p.0) before.files new after.files last (points_at (goes p.0) p.1) in
                behind after.files (on_and_on opened new after.files since last) (seen before after) refl (goes led_to)
                (inr (p.0, lines, inr (watched_in list, found p.0 (watched_in list) p.2, refl)))
              where
                on_and_on : (a b c : Option Contents) → WhereTold a b (λ x y. ⊤) → WhereTold b c (λ x y. ⊤) → WhereTold a c (λ x y. ⊤)
                on_and_on a b None h k = tt
                on_and_on a None (Some z) h k = absurd k
                on_and_on None (Some y) (Some z) h k = absurd h
                on_and_on (Some x) (Some y) (Some z) h k = tt

            module _ (after : Outside) (last : WhereTold new after.files (λ a b. ⊤)) where
              abbrev x : Outside
              x = seen before after

              asked : Pointed x (goes led_to)
              asked = went_at after last

              went : Mounts x (goes tt) → WatchSteps x file lines_file o.choices (goes led_to)
              went m = inr (led_to, asked, inr (tt, m, refl))

              unmounted : (s : Status) → Mounts x (stops s) → WatchSteps x file lines_file o.choices (stops s)
              unmounted s m = inr (led_to, asked, inl m)

              watch_means : (s : Status) (shown : List ℕ) → TextWatched all (watched_in list) o.turns choices out o.record_file s x after shown kernel
                  → MeansOf s command x after shown kernel
              watch_means status.Words shown h = never_words h.1.ending h.1.status_is
              watch_means status.NoMemory shown (inl h) = inl h
              watch_means status.NoMemory shown (inr h) = inr (led_to, went h.0, h.1)
              watch_means status.FileFault shown h = record { uses = refl; far = inr (h.0, (led_to, went h.1, h.2)) }
              watch_means status.DriveFault shown h = record {
                uses = refl;
                far = (
                  h.0,
                  elim h.1 [
                    | inl none ↦ inl ((led_to, asked), none)
                    | inr far ↦ inr (led_to, went far.0, far.1)
                  ],
                );
              }
              watch_means status.InputFault shown h = record { uses = tt; far = (h.0, (led_to, went h.1, h.2)) }
              watch_means status.OutputFault shown h = record { uses = tt; far = (h.0, (led_to, went h.1, h.2)) }
              watch_means (status.BadImage broken) shown h = inl (unmounted (status.BadImage broken) h.0, h.1)
              watch_means s shown h = inr (led_to, went h.0, h.1)

              pub watched_came : (s : Status) (due : Bool)
                  → RanWatched w (watched_in list) o.turns choices out o.record_file s due (with_files before new) after kernel
                  → Came s due (Some command) before after kernel
              watched_came s due r =
                  let ran = subst (λ files. TextWatched all (watched_in list) o.turns choices out o.record_file s (record x { files = files }) after r.shown
                  kernel) (still_same before.files new after.files (in_turn before.files opened new same third) last)
                  (r.ran all is_watchable) in
                  came_of command s due before after kernel r.shown (watch_means s r.shown ran) r.shows r.due_is
                  (record { drive = λ stays. r.each.drive refl; input = r.each.input; printer = r.each.printer })
