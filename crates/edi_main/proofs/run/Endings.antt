-- The exits of a run of a code: the drive is not mounted, an object has failed, the record is kept, or it is not.
use Rattle.std.proofs.Common.{◌≡◌, ◌≤◌, ℕ, Bool, false, List, [], Option, Some, Err, unwrap_or, refl, sym, ap, subst, inl, inr}
use Rattle.edi_told.specs.Told.{WhereTold}
use Rattle.edi_calls.specs.declared.ends.Outside as failing
use Rattle.edi_calls.specs.declared.ends.Outside.TheVariants as object
use Rattle.edi_calls.specs.Choice.{Choices}
use Rattle.edi_calls.specs.Outcome as outcome
use Rattle.edi_execute.specs.Objects.{HasRun, StandsAtCall}
use Rattle.edi_image.specs.declared.faults.MountFault.{MountFault}
use Rattle.edi_kernel.specs.declared.ends.Ending.{Ending}
use Rattle.edi_kernel.specs.declared.ends.Ending.TheVariants as ending
use Rattle.edi_target.specs.Check.{CodeParts}
use Rattle.edi_trace.specs.Drawn.{Drawn}
use Rattle.edi_statuses.specs.declared.status.Status.{Status}
use Rattle.edi_statuses.specs.Counts.{Counts, HasCause}
use Rattle.edi_statuses.specs.Outside.{Outside, seen, system_on, with_kept, Keeps, SameFiles, Lent}
use Rattle.edi_statuses.specs.Steps.{goes, Mounts}
use Rattle.edi_statuses.specs.Executions.{Runnable, FailedAt, HasCall, HasCode, Ran, BrokeRun, object_status, record_of, status_of}
use Rattle.edi_statuses.specs.Executions as statuses
use Rattle.edi_statuses.specs.Commands.{Runs}
use Rattle.edi_statuses.specs.Broken.{RanWhole}
use Rattle.edi_main.specs.steps.OnFiles.{RecordEnd, RecordStep}
use Rattle.edi_main.specs.steps.NotMounted.{mount_status}
use Rattle.edi_main.specs.run.CodeRan.{CodeRan, RanCode, ending_status}
use Rattle.edi_main.proofs.run.Mounting.{IsLeft, IsUnmounted, left_due, left_each, left_shows, mounts, shown_in, unkept, unmounted_by, unmounted_each}
use Rattle.edi_main.proofs.run.Left.{devices_told, told_by, ending_of, has_run, stands, IsNoFault}
use Rattle.edi_statuses.proofs.Told.{same_told, still, shows_nothing}

-- ---- the drive is not mounted

pub unmounted : (parts : CodeParts) (bound : ℕ) (choices : Choices) (name : Option (List ℕ)) (s : Status) (due : Bool) (before after : Outside) (kernel : Lent)
    (why : MountFault) → s ≡ mount_status why → due ≡ false → IsUnmounted before after kernel why → RanCode parts bound choices name s due before after kernel
unmounted parts bound choices name s due before after kernel why is silent h = record {
  shown = [];
  ran = λ program code. subst (λ x. CodeRan program bound choices name x (seen before after) after [] kernel) (sym is)
      (unmounted_by before after kernel why h name (BrokeRun (mount_status why) kernel.failed program bound choices (seen before after) after [])
      (RanWhole program bound choices (seen before after) after [] kernel) (λ end. Runs program bound choices name end (seen before after) after [] kernel));
  shows = shows_nothing before.shown after.shown h.shown;
  due_is = silent;
  each = unmounted_each before after kernel why h;
}

-- ---- the code was run

pub status_is : (e : Ending) (s : Status) → Some s ≡ ending_status e → s ≡ status_of (ending_of e)
status_is ending.Done s h = ap (λ x. unwrap_or x s) h
status_is (ending.Halted line) s h = ap (λ x. unwrap_or x s) h
status_is (ending.Failed why line) s h = ap (λ x. unwrap_or x s) h
status_is ending.Turns s h = ap (λ x. unwrap_or x s) h
status_is ending.Standstill s h = ap (λ x. unwrap_or x s) h
status_is (ending.Bad address) s h = ap (λ x. unwrap_or x s) h
status_is ending.Fault s h = absurd (cc)

ended : (end : outcome.Ending) (program : Runnable) (bound : ℕ) (choices : Choices) (name : Option (List ℕ)) (before after : Outside) (shown : List ℕ)
    (kernel : Lent) → Mounts before (goes tt) → Runs program bound choices name (status_of end) before after shown kernel
    → CodeRan program bound choices name (status_of end) before after shown kernel
ended outcome.done program bound choices name before after shown kernel m r = (m, r)
ended (outcome.halted line) program bound choices name before after shown kernel m r = (m, r)
ended (outcome.failed why line) program bound choices name before after shown kernel m r = (m, r)
ended outcome.turns program bound choices name before after shown kernel m r = (m, r)
ended outcome.standstill program bound choices name before after shown kernel m r = (m, r)
ended (outcome.bad address) program bound choices name before after shown kernel m r = (m, r)

module _ (parts : CodeParts) (bound : ℕ) (old : Drawn) (none : old.drawn ≡ 0) (due : Bool) (before after : Outside) (left : IsLeft due before after) where
  abbrev shown_now : List ℕ
  shown_now = shown_in due before after

  -- an object has failed
  pub broke_run : (failed : failing.Outside) (blamed : Option failing.Outside) → blamed ≡ Some failed
      → WhereTold (told_by before) (told_by after) (StandsAtCall parts bound old failed) → (program : Runnable) → HasCode program parts
      → BrokeRun (object_status failed) blamed program bound old.source (seen before after) after shown_now
  broke_run failed blamed named at program is =
      devices_told before after shown_now (StandsAtCall parts bound old failed)
      (λ d e. FailedAt (object_status failed) blamed (HasCall program (system_on d) bound old.source) d e shown_now)
      left.told.valid (left_shows due before after left) (stands program parts is bound old none shown_now failed blamed named) at

  broke_by : (failed : failing.Outside) (name : Option (List ℕ)) (kernel : Lent) → SameFiles (seen before after) after → (program : Runnable)
      → BrokeRun (object_status failed) kernel.failed program bound old.source (seen before after) after shown_now
      → CodeRan program bound old.source name (object_status failed) (seen before after) after shown_now kernel
  broke_by object.Drive name kernel files program broke = (files, inr (mounts due before after left, broke))
  broke_by object.Input name kernel files program broke = (files, mounts due before after left, broke)
  broke_by object.Terminal name kernel files program broke = (files, mounts due before after left, broke)
  broke_by object.Printer name kernel files program broke = (files, mounts due before after left, broke)

  pub broke : (name : Option (List ℕ)) (s : Status) (failed : failing.Outside) (kernel : Lent) → kernel.failed ≡ Some failed → s ≡ object_status failed
      → after.files ≡ before.files → WhereTold (told_by before) (told_by after) (StandsAtCall parts bound old failed)
      → RanCode parts bound old.source name s due before after kernel
  broke name s failed kernel named is files at = record {
    shown = shown_now;
    ran = λ program code. subst (λ x. CodeRan program bound old.source name x (seen before after) after shown_now kernel) (sym is)
        (broke_by failed name kernel (same_told before.files after.files files) program (broke_run failed kernel.failed named at program code));
    shows = left_shows due before after left;
    due_is = left_due due before after left;
    each = left_each due before after left;
  }

  -- the run has come to its ending
  module _ (e : Ending) (unfailed : IsNoFault e) (new : Drawn) (within : new.drawn ≤ bound) (kernel : Lent) (used : kernel.after.used ≤ bound)
      (run : WhereTold (told_by before) (told_by after) (HasRun parts bound old e kernel.after.words kernel.after.used new)) where
    pub has_ran : (program : Runnable) → HasCode program parts → Ran program bound old.source (ending_of e) new.drawn (seen before after) after shown_now kernel
    has_ran program is =
        devices_told before after shown_now (HasRun parts bound old e kernel.after.words kernel.after.used new)
        (λ d x. statuses.HasRun program bound old.source (ending_of e) new.drawn d x shown_now kernel.after) left.told.valid (left_shows due before after left)
        (λ x y valid shows h. has_run program parts is bound old none shown_now e kernel.after.words kernel.after.used new x y unfailed valid shows h) run

    pub whole : (program : Runnable) → HasCode program parts → RanWhole program bound old.source (seen before after) after shown_now kernel
    whole program is = record { ending = ending_of e; drawn = new.drawn; within = within; used = used; ran = has_ran program is }

    runs : (name : Option (List ℕ)) → Keeps (seen before after) after (record_of name old.source new.drawn) → (program : Runnable) → HasCode program parts
        → Runs program bound old.source name (status_of (ending_of e)) (seen before after) after shown_now kernel
    runs name kept program is = record {
      ending = ending_of e;
      drawn = new.drawn;
      within = within;
      used = used;
      status_is = refl;
      ran = has_ran program is;
      keeps = kept;
    }

    -- its record was kept, if there was to be one
    recorded : (name : Option (List ℕ)) (s : Status) → Some s ≡ ending_status e → new.source ≡ old.source
        → WhereTold before.files after.files (λ a b. b ≡ with_kept (record_of name new.source new.drawn) a)
        → RanCode parts bound old.source name s due before after kernel
    recorded name s is source step = record {
      shown = shown_now;
      ran = λ program code. subst (λ x. CodeRan program bound old.source name x (seen before after) after shown_now kernel) (sym (status_is e s is))
          (ended (ending_of e) program bound old.source name (seen before after) after shown_now kernel (mounts due before after left)
          (runs name (still _ before.files after.files
          (subst (λ from. WhereTold before.files after.files (λ a b. b ≡ with_kept (record_of name from new.drawn) a)) source step)) program code));
      shows = left_shows due before after left;
      due_is = left_due due before after left;
      each = left_each due before after left;
    }

    -- it was not kept
    unrecorded : (name : Option (List ℕ)) (s : Status) → RecordStep {A = Unit {0}} name new (Err s) before.files after.files
        → RanCode parts bound old.source name s due before after kernel
    unrecorded name s step = record {
      shown = shown_now;
      ran = λ program is.
          unkept due before after left new (Unit {0}) name s step (BrokeRun s kernel.failed program bound old.source (seen before after) after shown_now)
          (RanWhole program bound old.source (seen before after) after shown_now kernel)
          (λ end. Runs program bound old.source name end (seen before after) after shown_now kernel) shown_now kernel (whole program is);
      shows = left_shows due before after left;
      due_is = left_due due before after left;
      each = left_each due before after left;
    }

    pub ended_so : (name : Option (List ℕ)) (s t : Status) → Some s ≡ ending_status e → new.source ≡ old.source
        → RecordEnd name new s t before.files after.files → RanCode parts bound old.source name t due before after kernel
    ended_so name s t is source (inl kept) =
        subst (λ x. RanCode parts bound old.source name x due before after kernel) (sym kept.0) (recorded name s is source kept.1)
    ended_so name s t is source (inr why) = unrecorded name t why

-- a run that has come to its ending is by no fault
pub ended_cause : (e : outcome.Ending) (had has : Counts) → HasCause (status_of e) had has
ended_cause outcome.done had has = tt
ended_cause other had has = tt

-- another number that is the same
pub with_bound : (n m : ℕ) → n ≡ m → (parts : CodeParts) (choices : Choices) (name : Option (List ℕ)) (s : Status) (due : Bool) (before after : Outside)
    (kernel : Lent) → RanCode parts n choices name s due before after kernel → RanCode parts m choices name s due before after kernel
with_bound n m same parts choices name s due before after kernel = subst (λ k. RanCode parts k choices name s due before after kernel) same
