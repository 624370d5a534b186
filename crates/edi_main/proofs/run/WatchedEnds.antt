-- The exits of a watched run: the drive is not mounted, an object has failed, the log and the record are kept, or they are not.
use Rattle.std.proofs.Common.{◌≡◌, ◌⊎◌, ◌≤◌, ℕ, Bool, false, List, [], ◌∷◌, Option, Some, None, refl, sym, subst, inl, inr, ◌∙◌}
use Rattle.edi_told.specs.Told.{WhereTold}
use Rattle.edi_calls.specs.declared.ends.Outside as failing
use Rattle.edi_calls.specs.Choice.{Choices}
use Rattle.edi_calls.specs.Outcome as outcome
use Rattle.edi_execute.specs.Objects as execute
use Rattle.edi_execute.specs.Objects.{HasRun, StandsAtCall}
use Rattle.edi_image.specs.declared.faults.MountFault.{MountFault}
use Rattle.edi_kernel.specs.declared.ends.Ending.{Ending}
use Rattle.edi_trace.specs.Drawn.{Drawn}
use Rattle.edi_scheme.specs.Laws.{parts_of}
use Rattle.edi_compile.proofs.Meant.{texts_do_as_meant}
use Rattle.edi_debug.specs.stops.Stops.{Watched}
use Rattle.edi_runs.specs.declared.watch.source.Watchable.{Watchable}
use Rattle.edi_runs.specs.watch.Logs.{IsLogOf}
use Rattle.edi_runs.specs.watch.Watchable.{IsWatchable, IsWhole, program_in}
use Rattle.edi_runs.proofs.watch.Meant.{unit_is}
use Rattle.edi_statuses.specs.declared.status.Status.{Status}
use Rattle.edi_statuses.specs.declared.status.Status.TheVariants as status
use Rattle.edi_statuses.specs.Outside.{Outside, seen, system_on, with_kept, SameBut, SameFiles, Lent}
use Rattle.edi_statuses.specs.Executions.{text, HasCode, BrokeRun, object_status, record_of, status_of}
use Rattle.edi_statuses.specs.Commands.{Watches, IsLog, IsNothing}
use Rattle.edi_statuses.specs.Broken.{KeepsLog, LosesRecord, RanWhole, names_in}
use Rattle.edi_statuses.proofs.EachLeft.{each_same}
use Rattle.edi_statuses.proofs.Told.{same_told, still, shows_nothing}
use Rattle.edi_main.specs.steps.NotMounted.{mount_status}
use Rattle.edi_main.specs.run.CodeRan.{ending_status}
use Rattle.edi_main.specs.run.OnWatched.{LogEnd, LogUnkept, RanWatched, TextWatched}
use Rattle.edi_main.proofs.run.Endings.{broke_run, has_ran, status_is, whole}
use Rattle.edi_main.proofs.run.LogKept.{lost_but}
use Rattle.edi_main.proofs.run.Kept.{broke_kept, ended_kept, unmounted_kept}
use Rattle.edi_main.proofs.run.Left.{devices_told, ending_of, told_by, IsNoFault}
use Rattle.edi_main.proofs.run.Mounting.{IsLeft, IsUnmounted, left_due, left_each, left_shows, mounts, shown_in, unmounted_by, unmounted_each}

-- the code of the program may be made of each text of it
pub has_code : (bytes : List ℕ) (w : Watchable) (is : IsWatchable bytes w) → HasCode (text bytes) (parts_of is.whole.unit)
has_code bytes w is =
    texts_do_as_meant bytes is.whole.unit (unit_is bytes (program_in w) is.whole.unit is.whole.resolved is.tree_is)

-- ---- nothing was kept

module _ (w : Watchable) (points : List Watched) (bound : ℕ) (out : List ℕ) (name : Option (List ℕ)) (before after : Outside) where
  -- memory ran out before the drive was asked
  pub no_log : (choices : Choices) (s : Status) (due : Bool) (kernel : Lent) → s ≡ status.NoMemory → due ≡ false
      → IsNothing (seen before before) before [] kernel → RanWatched w points bound choices out name s due before before kernel
  no_log choices s due kernel is silent nothing = record {
    shown = [];
    ran = λ bytes whose. subst (λ x. TextWatched bytes points bound choices out name x (seen before before) before [] kernel) (sym is) (inl nothing);
    shows = shows_nothing before.shown before.shown refl;
    due_is = silent;
    each = each_same None before before refl refl refl;
  }

  pub not_mounted : (choices : Choices) (s : Status) (due : Bool) (kernel : Lent) (why : MountFault) → s ≡ mount_status why → due ≡ false
      → IsUnmounted before after kernel why → RanWatched w points bound choices out name s due before after kernel
  not_mounted choices s due kernel why is silent h = record {
    shown = [];
    ran = λ bytes whose.
        let x : Outside = seen before after in
        let broken : Type 0 = BrokeRun (mount_status why) kernel.failed (text bytes) bound choices x after [] in
        let whole_ : Type 0 = RanWhole (text bytes) bound choices x after [] kernel in
        let comes : Status → Type 0 = λ end. Watches bytes points bound choices out name end x after [] kernel in
        subst (λ t. TextWatched bytes points bound choices out name t x after [] kernel) (sym is)
        (unmounted_kept (out ∷ names_in name) broken (whole_ × (SameFiles x after ⊎ KeepsLog bytes points bound choices out name x after))
        (whole_ × (SameBut (out ∷ []) x after ⊎ LosesRecord bytes points bound choices out name x after)) comes x after [] kernel whole_ comes why
        (unmounted_by before after kernel why h None broken whole_ comes));
    shows = shows_nothing before.shown after.shown h.shown;
    due_is = silent;
    each = unmounted_each before after kernel why h;
  }

  module _ (old : Drawn) (none : old.drawn ≡ 0) (due : Bool) (left : IsLeft due before after) where
    abbrev shown_now : List ℕ
    shown_now = shown_in due before after

    module _ (bytes : List ℕ) (kernel : Lent) where
      abbrev Wants : Type 0
      Wants =
          RanWhole (text bytes) bound old.source (seen before after) after shown_now kernel
          × (SameFiles (seen before after) after ⊎ KeepsLog bytes points bound old.source out name (seen before after) after)

      abbrev Lost : Type 0
      Lost =
          RanWhole (text bytes) bound old.source (seen before after) after shown_now kernel
          × (SameBut (out ∷ []) (seen before after) after ⊎ LosesRecord bytes points bound old.source out name (seen before after) after)

      abbrev Comes : Status → Type 0
      Comes end = Watches bytes points bound old.source out name end (seen before after) after shown_now kernel

    pub failed_so : (s : Status) (failed : failing.Outside) (kernel : Lent) → kernel.failed ≡ Some failed → s ≡ object_status failed
        → after.files ≡ before.files → ((v : IsWhole w) → WhereTold (told_by before) (told_by after) (StandsAtCall (parts_of v.unit) bound old failed))
        → RanWatched w points bound old.source out name s due before after kernel
    failed_so s failed kernel named is files at = record {
      shown = shown_now;
      ran = λ bytes whose. subst (λ t. TextWatched bytes points bound old.source out name t (seen before after) after shown_now kernel) (sym is)
          (broke_kept (out ∷ names_in name) (BrokeRun (object_status failed) kernel.failed (text bytes) bound old.source (seen before after) after shown_now)
          (Wants bytes kernel) (Lost bytes kernel) (Comes bytes kernel) (seen before after) after shown_now kernel failed (mounts due before after left)
          (same_told before.files after.files files)
          (broke_run (parts_of whose.whole.unit) bound old none due before after left failed kernel.failed named (at whose.whole) (text bytes) (has_code bytes w whose)));
      shows = left_shows due before after left;
      due_is = left_due due before after left;
      each = left_each due before after left;
    }

    -- ---- the run has come to its ending

    module _ (e : Ending) (unfailed : IsNoFault e) (new : Drawn) (within : new.drawn ≤ bound) (kernel : Lent) (used : kernel.after.used ≤ bound)
        (run : (v : IsWhole w) → WhereTold (told_by before) (told_by after)
        (HasRun (parts_of v.unit) bound old e kernel.after.words kernel.after.used new)) (log : List ℕ)
        (logs : (bytes : List ℕ) → IsWatchable bytes w → WhereTold (told_by before) (told_by after)
        (λ x y. IsLogOf bytes (execute.system_on x) bound old.source points log)) where
      module _ (bytes : List ℕ) (is : IsWatchable bytes w) where
        whole_ran : RanWhole (text bytes) bound old.source (seen before after) after shown_now kernel
        whole_ran =
            whole (parts_of is.whole.unit) bound old none due before after left e unfailed new within kernel used (run is.whole) (text bytes)
            (has_code bytes w is)

        log_is : IsLog bytes points bound old.source (seen before after) after log
        log_is =
            devices_told before after shown_now (λ x y. IsLogOf bytes (execute.system_on x) bound old.source points log)
            (λ d f. IsLogOf bytes (system_on d) bound old.source points log) left.told.valid (left_shows due before after left)
            (λ x y valid shows h. h) (logs bytes is)

        ended_by : (end : outcome.Ending)
            → Watches bytes points bound old.source out name (status_of end) (seen before after) after shown_now kernel
            → TextWatched bytes points bound old.source out name (status_of end) (seen before after) after shown_now kernel
        ended_by end h =
            ended_kept (out ∷ names_in name) (BrokeRun (status_of end) kernel.failed (text bytes) bound old.source (seen before after) after shown_now)
            (Wants bytes kernel) (Lost bytes kernel) (Comes bytes kernel) (seen before after) after shown_now kernel end (mounts due before after left) h

        watched_kept : new.source ≡ old.source
            → WhereTold before.files after.files (λ a b. b ≡ with_kept ((out, log) ∷ record_of name new.source new.drawn) a)
            → TextWatched bytes points bound old.source out name (status_of (ending_of e)) (seen before after) after shown_now kernel
        watched_kept source kept =
            ended_by (ending_of e)
            (record {
              ending = ending_of e;
              drawn = new.drawn;
              within = within;
              used = used;
              status_is = refl;
              ran = has_ran (parts_of is.whole.unit) bound old none due before after left e unfailed new within kernel used (run is.whole) (text bytes)
                  (has_code bytes w is);
              log = log;
              log_is = log_is;
              keeps = still _ before.files after.files
                  (subst (λ from. WhereTold before.files after.files (λ a b. b ≡ with_kept ((out, log) ∷ record_of name from new.drawn) a)) source kept);
            })

        watched_unkept : (s : Status) → LogUnkept out log name s before.files after.files
            → TextWatched bytes points bound old.source out name s (seen before after) after shown_now kernel
        watched_unkept status.NoMemory (inl same) =
            inr (mounts due before after left, (whole_ran, inl (still _ before.files after.files same)))
        watched_unkept status.NoMemory (inr kept) =
            inr (
              mounts due before after left,
              (
                whole_ran,
                inr (record {
                  asked = kept.0;
                  log = log;
                  log_is = log_is;
                  keeps = still _ before.files after.files kept.1;
                }),
              ),
            )
        watched_unkept status.FileFault h = (
          still _ before.files after.files (lost_but out log name before.files after.files h),
          mounts due before after left,
          (
            whole_ran,
            elim h [
              | inl same ↦ inl (still _ before.files after.files same)
              | inr kept ↦ inr (record {
                asked = kept.0;
                log = log;
                log_is = log_is;
                files = still _ before.files after.files kept.1;
              })
            ],
          ),
        )
        watched_unkept s h = absurd h

        watched_end : (s t : Status) → Some s ≡ ending_status e → new.source ≡ old.source → LogEnd out log name new s t before.files after.files
            → TextWatched bytes points bound old.source out name t (seen before after) after shown_now kernel
        watched_end s t is_status source (inl kept) =
            subst (λ x. TextWatched bytes points bound old.source out name x (seen before after) after shown_now kernel)
            (sym (status_is e s is_status) ∙ sym kept.0) (watched_kept source kept.1)
        watched_end s t is_status source (inr why) = watched_unkept t why

      pub watched_so : (s t : Status) → Some s ≡ ending_status e → new.source ≡ old.source → LogEnd out log name new s t before.files after.files
          → RanWatched w points bound old.source out name t due before after kernel
      watched_so s t is_status source end = record {
        shown = shown_now;
        ran = λ bytes is. watched_end bytes is s t is_status source end;
        shows = left_shows due before after left;
        due_is = left_due due before after left;
        each = left_each due before after left;
      }

-- another number that is the same
pub with_bound : (n m : ℕ) → n ≡ m → (w : Watchable) (points : List Watched) (choices : Choices) (out : List ℕ) (name : Option (List ℕ)) (s : Status)
    (due : Bool) (before after : Outside) (kernel : Lent) → RanWatched w points n choices out name s due before after kernel
    → RanWatched w points m choices out name s due before after kernel
with_bound n m same w points choices out name s due before after kernel =
    subst (λ k. RanWatched w points k choices out name s due before after kernel) same
