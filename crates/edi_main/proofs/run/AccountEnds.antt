-- The exits of a run with an account: the drive is not mounted, an object has failed, the files are kept, or they are not.
use Rattle.std.proofs.Common.{◌≡◌, ◌<◌, ◌≤◌, ◌++◌, ℕ, Bool, false, List, [], ◌∷◌, length, Option, Some, None, refl, sym, subst, inl, inr}
use Rattle.std.specs.Prelude.{IfSome, ⊤}
use Rattle.std.specs.Global.{Vec}
use Rattle.edi_told.specs.Faults.{CountRose}
use Rattle.edi_told.specs.Told.{WhereTold}
use Rattle.edi_calls.specs.declared.ends.Outside as failing
use Rattle.edi_calls.specs.Choice.{Choices}
use Rattle.edi_calls.specs.Outcome as outcome
use Rattle.edi_calls.specs.State.{State}
use Rattle.edi_dumped.specs.Dumps.{IsDumpOf}
use Rattle.edi_dumped.specs.Given.{program_given}
use Rattle.edi_dumped.proofs.Some.{each_run_has_a_dump}
use Rattle.edi_execute.specs.Objects as execute
use Rattle.edi_execute.specs.Objects.{HasRun, StandsAtCall}
use Rattle.edi_host.specs.Contents.{Contents}
use Rattle.edi_host.specs.declared.files.KeepEnd.{KeepEnd}
use Rattle.edi_host.specs.declared.files.KeepEnd.TheVariants as keep
use Rattle.edi_image.specs.declared.faults.MountFault.{MountFault}
use Rattle.edi_kernel.specs.declared.ends.Ending.{Ending}
use Rattle.edi_target.specs.Check.{CodeParts}
use Rattle.edi_trace.specs.Drawn.{Drawn}
use Rattle.edi_texts.specs.Run.{IsCodeFor}
use Rattle.edi_compile.proofs.Meant.{texts_do_as_meant}
use Rattle.edi_runs.specs.explore.Keeping.{KeepsInTurn}
use Rattle.edi_timed.specs.on.Timelines.{IsOf, IsTimelineOf}
use Rattle.edi_timeline.specs.Timelines.{Told}
use Rattle.edi_words.specs.Words.{Account, timeline, dump}
use Rattle.edi_statuses.specs.declared.status.Status.{Status}
use Rattle.edi_statuses.specs.declared.status.Status.TheVariants as status
use Rattle.edi_statuses.specs.Counts.{Counts, HasCause}
use Rattle.edi_statuses.specs.Outside.{Kept, Outside, devices_of, seen, system_on, Lent}
use Rattle.edi_statuses.specs.Executions.{Runnable, text, code, HasCode, BrokeRun, object_status, record_of, status_of}
use Rattle.edi_statuses.specs.Commands.{IsNothing}
use Rattle.edi_statuses.specs.Explored.{KeepsFirst, LosesNext}
use Rattle.edi_statuses.specs.Accounts.{AccountInPart, AccountLost, AreOf, HasAccount, KeepsAll, RunsWith, account_names, timable, timeline_files}
use Rattle.edi_statuses.specs.Broken.{names_in}
use Rattle.edi_statuses.proofs.EachLeft.{each_same}
use Rattle.edi_statuses.proofs.Told.{same_told, still, shows_nothing, told_so}
use Rattle.edi_main.specs.steps.NotMounted.{mount_status}
use Rattle.edi_main.specs.run.CodeRan.{RanCode, ending_status}
use Rattle.edi_main.specs.run.OnMounted.{DriveAsked}
use Rattle.edi_main.specs.run.OnAccounts.{IsCodeOf, IsGiven, ProgramWith, RanAccount, RanWith, kept_status}
use Rattle.edi_main.proofs.run.Asked.{asked_so}
use Rattle.edi_main.proofs.run.Endings.{broke_run, has_ran, status_is}
use Rattle.edi_main.proofs.run.Kept.{broke_kept, ended_kept, unmounted_kept}
use Rattle.edi_main.proofs.run.Left.{devices_told, ending_of, told_by, IsNoFault}
use Rattle.edi_main.proofs.run.Mounting.{IsLeft, IsUnmounted, left_due, left_each, left_shows, mounts, shown_in, unmounted_by, unmounted_each}
use Rattle.edi_main.proofs.run.Past.{IsPast, past_so}
use Rattle.edi_main.proofs.run.AccountKept.{lost_account, some_account}
use Rattle.edi_main.proofs.text.ManyNames.{all_kept, keeps_first, loses_next}

-- the code of a text may be made of it
pub has_code : (program : Runnable) (parts : CodeParts) → IsOf (timable program) parts → HasCode program parts
has_code (text bytes) parts (unit, is, can, same) = subst (IsCodeFor bytes) (sym same) (texts_do_as_meant bytes unit is)
has_code (code own) parts is = is

-- a run whose code may be made of its program is one of the code that is made of it
pub ran_plainly : (IsIt : Runnable → Type 0) (parts : CodeParts) (of : (program : Runnable) → IsIt program → IsOf (timable program) parts) (bound : ℕ) (choices : Choices) (name : Option (List ℕ)) (s : Status) (due : Bool) (before after : Outside)
    (kernel : Lent) → RanCode parts bound choices name s due before after kernel → RanWith None IsIt bound choices name s due before after kernel
ran_plainly IsIt parts of bound choices name s due before after kernel r = record {
  shown = r.shown;
  ran = λ program is. r.ran program (has_code program parts (of program is));
  shows = r.shows;
  due_is = r.due_is;
  each = r.each;
}

-- what holds of each program that this code is of holds of the one that was given
pub of_given : (given : Option (List ℕ)) (parts : CodeParts) (account : Account) (bound : ℕ) (choices : Choices) (name : Option (List ℕ)) (s : Status)
    (due : Bool) (before after : Outside) (kernel : Lent) → RanAccount (IsCodeOf parts) bound choices account name s due before after kernel
    → RanAccount (IsGiven given parts) bound choices account name s due before after kernel
of_given given parts account bound choices name s due before after kernel r = record {
  shown = r.shown;
  ran = λ program is. r.ran program is.0;
  shows = r.shows;
  due_is = r.due_is;
  each = r.each;
}

-- ---- nothing was kept

module _ (IsIt : Runnable → Type 0) (parts : CodeParts) (of : (program : Runnable) → IsIt program → IsOf (timable program) parts) (bound : ℕ) (account : Account) (name : Option (List ℕ)) (before after : Outside) where
  -- memory ran out before the drive was asked
  pub no_account : (choices : Choices) (s : Status) (due : Bool) (kernel : Lent) → s ≡ status.NoMemory → due ≡ false
      → IsNothing (seen before before) before [] kernel → RanAccount IsIt bound choices account name s due before before kernel
  no_account choices s due kernel is silent nothing = record {
    shown = [];
    ran = λ program is_it. subst (λ x. ProgramWith program bound choices account name x (seen before before) before [] kernel) (sym is) (inl nothing);
    shows = shows_nothing before.shown before.shown refl;
    due_is = silent;
    each = each_same None before before refl refl refl;
  }

  pub not_mounted : (choices : Choices) (s : Status) (due : Bool) (kernel : Lent) (why : MountFault) → s ≡ mount_status why → due ≡ false
      → IsUnmounted before after kernel why → RanAccount IsIt bound choices account name s due before after kernel
  not_mounted choices s due kernel why is silent h = record {
    shown = [];
    ran = λ program is_it.
        let x : Outside = seen before after in
        let broken : Type 0 = BrokeRun (mount_status why) kernel.failed program bound choices x after [] in
        let wants : Type 0 = AccountInPart program bound choices account name x after [] kernel in
        let lost : Type 0 = AccountLost program bound choices account name x after [] kernel in
        let comes : Status → Type 0 = λ end. RunsWith program bound choices account name end x after [] kernel in
        subst (λ t. ProgramWith program bound choices account name t x after [] kernel) (sym is)
        (unmounted_kept (account_names account ++ names_in name) broken wants lost comes x after [] kernel wants comes why
        (unmounted_by before after kernel why h None broken wants comes));
    shows = shows_nothing before.shown after.shown h.shown;
    due_is = silent;
    each = unmounted_each before after kernel why h;
  }

  module _ (old : Drawn) (none : old.drawn ≡ 0) (due : Bool) (left : IsLeft due before after) where
    abbrev shown_now : List ℕ
    shown_now = shown_in due before after

    pub failed_so : (s : Status) (failed : failing.Outside) (kernel : Lent) → kernel.failed ≡ Some failed → s ≡ object_status failed
        → after.files ≡ before.files → WhereTold (told_by before) (told_by after) (StandsAtCall parts bound old failed)
        → RanAccount IsIt bound old.source account name s due before after kernel
    failed_so s failed kernel named is files at = record {
      shown = shown_now;
      ran = λ program is_it. subst (λ t. ProgramWith program bound old.source account name t (seen before after) after shown_now kernel) (sym is)
          (broke_kept (account_names account ++ names_in name) (BrokeRun (object_status failed) kernel.failed program bound old.source (seen before after) after shown_now)
          (AccountInPart program bound old.source account name (seen before after) after shown_now kernel)
          (AccountLost program bound old.source account name (seen before after) after shown_now kernel)
          (λ end. RunsWith program bound old.source account name end (seen before after) after shown_now kernel) (seen before after) after shown_now kernel failed
          (mounts due before after left) (same_told before.files after.files files)
          (broke_run parts bound old none due before after left failed kernel.failed named at program (has_code program parts (of program is_it))));
      shows = left_shows due before after left;
      due_is = left_due due before after left;
      each = left_each due before after left;
    }

    -- ---- the run has come to its ending

    -- what was told of it where the run's own objects are told
    on_devices : (P : State → Type 0) → WhereTold (told_by before) (told_by after) (λ x y. P (execute.system_on x))
        → WhereTold (devices_of (seen before after)) (devices_of after) (λ d f. P (system_on d))
    on_devices P h =
        devices_told before after shown_now (λ x y. P (execute.system_on x)) (λ d f. P (system_on d)) left.told.valid (left_shows due before after left)
        (λ x y valid shows k. k) h

    -- the files of a timeline
    pub timeline_are : (told : Told) (out : List ℕ)
        → ((program : Runnable) → IsIt program → WhereTold (told_by before) (told_by after)
        (λ x y. IsTimelineOf (timable program) (execute.system_on x) bound old.source told))
        → (program : Runnable) → IsIt program
        → AreOf (timeline out) program bound old.source (seen before after) after (timeline_files out told)
    timeline_are told out stints program is =
        (told, on_devices (λ s. IsTimelineOf (timable program) s bound old.source told) (stints program is), refl)

    -- the file of a dump
    pub dump_are : (program : Runnable) (told out : List ℕ)
        → WhereTold (told_by before) (told_by after) (λ x y. IsDumpOf (timable program) (execute.system_on x) bound old.source told)
        → AreOf (dump out) program bound old.source (seen before after) after ((out, told) ∷ [])
    dump_are program told out tells = (told, on_devices (λ s. IsDumpOf (timable program) s bound old.source told) tells, refl)

    module _ (e : Ending) (unfailed : IsNoFault e) (new : Drawn) (within : new.drawn ≤ bound) (kernel : Lent) (used : kernel.after.used ≤ bound)
        (run : WhereTold (told_by before) (told_by after) (HasRun parts bound old e kernel.after.words kernel.after.used new)) where
      module _ (program : Runnable) (is : IsIt program) (made : List Kept)
          (are : AreOf account program bound old.source (seen before after) after made) where
        abbrev all_made : List Kept
        all_made = record_of name old.source new.drawn ++ made

        has_account : (Leaves : List Kept → Outside → Outside → Type 0) → Leaves all_made (seen before after) after
            → HasAccount Leaves program bound old.source account name (ending_of e) (seen before after) after shown_now kernel
        has_account Leaves files = record {
          drawn = new.drawn;
          within = within;
          used = used;
          ran = has_ran parts bound old none due before after left e unfailed new within kernel used run program (has_code program parts (of program is));
          made = made;
          are = are;
          files = files;
        }

        ended_by : (end : outcome.Ending) → RunsWith program bound old.source account name (status_of end) (seen before after) after shown_now kernel
            → ProgramWith program bound old.source account name (status_of end) (seen before after) after shown_now kernel
        ended_by end h =
            ended_kept (account_names account ++ names_in name) (BrokeRun (status_of end) kernel.failed program bound old.source (seen before after) after shown_now)
            (AccountInPart program bound old.source account name (seen before after) after shown_now kernel)
            (AccountLost program bound old.source account name (seen before after) after shown_now kernel)
            (λ s. RunsWith program bound old.source account name s (seen before after) after shown_now kernel) (seen before after) after shown_now kernel end
            (mounts due before after left) h

        there_is_one : 0 < length all_made
        there_is_one = some_account account program bound old.source (seen before after) after made are new.drawn name

        account_end : (end : KeepEnd) → WhereTold (seen before after).files after.files (KeepsInTurn end all_made)
            → ProgramWith program bound old.source account name (kept_status end (status_of (ending_of e))) (seen before after) after shown_now kernel
        account_end keep.Ok h =
            ended_by (ending_of e)
            (ending_of e, refl, has_account KeepsAll (told_so (KeepsInTurn keep.Ok all_made) _ (seen before after).files after.files (all_kept all_made) h))
        account_end keep.Failed h = (
          lost_account account program bound old.source (seen before after) after made are new.drawn name (seen before after).files after.files h,
          mounts due before after left,
          (ending_of e, has_account LosesNext (loses_next all_made there_is_one (seen before after) after h)),
        )
        account_end keep.NoMemory h =
            inr (
              mounts due before after left,
              (ending_of e, has_account KeepsFirst (keeps_first all_made there_is_one (seen before after) after h)),
            )

      pub account_so : (end : KeepEnd) (s t : Status) → Some s ≡ ending_status e → t ≡ kept_status end s → new.source ≡ old.source
          → ((program : Runnable) → IsIt program → (made : List Kept) × AreOf account program bound old.source (seen before after) after made
          × WhereTold before.files after.files (KeepsInTurn end (record_of name new.source new.drawn ++ made)))
          → RanAccount IsIt bound old.source account name t due before after kernel
      account_so end s t is_status same source keeps = record {
        shown = shown_now;
        ran = λ program is.
            let kept = keeps program is in
            subst (λ x. ProgramWith program bound old.source account name x (seen before after) after shown_now kernel)
            (sym (subst (λ x. t ≡ kept_status end x) (status_is e s is_status) same))
            (account_end program is kept.0 kept.1 end (still _ before.files after.files
            (subst (λ from. WhereTold before.files after.files (KeepsInTurn end (record_of name from new.drawn ++ kept.0))) source kept.2)));
        shows = left_shows due before after left;
        due_is = left_due due before after left;
        each = left_each due before after left;
      }

-- another number that is the same
pub with_bound : (n m : ℕ) → n ≡ m → (IsIt : Runnable → Type 0) (choices : Choices) (account : Account) (name : Option (List ℕ)) (s : Status) (due : Bool)
    (before after : Outside) (kernel : Lent) → RanAccount IsIt n choices account name s due before after kernel
    → RanAccount IsIt m choices account name s due before after kernel
with_bound n m same IsIt choices account name s due before after kernel =
    subst (λ k. RanAccount IsIt k choices account name s due before after kernel) same

-- ---- the text of a dump

-- It is there, or memory ran out for it; then there is one all the same.
pub some_dump : (program : Runnable) (parts : CodeParts) → IsOf (timable program) parts → (bound : ℕ) (choices : Choices) (before after : Option execute.Contents)
    (R : execute.Contents → execute.Contents → Type 0) → WhereTold before after R → (dump : Option (Vec ℕ))
    → IfSome dump (λ text. WhereTold before after (λ x y. IsDumpOf (timable program) (execute.system_on x) bound choices text.items))
    → (told : List ℕ) × IfSome dump (λ text. text.items ≡ told)
    × WhereTold before after (λ x y. IsDumpOf (timable program) (execute.system_on x) bound choices told)
some_dump program parts is bound choices before after R r (Some made) h = (made.items, refl, h)
some_dump program parts is bound choices before after R r None h = go before after r
  where
    go : (b a : Option execute.Contents) → WhereTold b a R
        → (told : List ℕ) × ⊤ × WhereTold b a (λ x y. IsDumpOf (timable program) (execute.system_on x) bound choices told)
    go None None r = ([], tt, tt)
    go None (Some y) r = absurd r
    go (Some x) None r = ([], tt, tt)
    go (Some x) (Some y) r =
        let e = each_run_has_a_dump (timable program) parts is (execute.system_on x) bound choices in (e.0, tt, e.1)

-- that of the program which was given is that of this program
pub given_dump : (given : Option (List ℕ)) (parts : CodeParts) (program : Runnable) → IsGiven given parts program → (bound : ℕ) (choices : Choices)
    (before after : Option execute.Contents) (told : List ℕ)
    → (IsOf (program_given given parts) parts
    → WhereTold before after (λ x y. IsDumpOf (program_given given parts) (execute.system_on x) bound choices told))
    → WhereTold before after (λ x y. IsDumpOf (timable program) (execute.system_on x) bound choices told)
given_dump given parts program is bound choices before after told tells =
    subst (λ p. WhereTold before after (λ x y. IsDumpOf p (execute.system_on x) bound choices told)) (sym is.1)
    (tells (subst (λ p. IsOf p parts) is.1 is.0))

-- what the files tell then
pub dump_tells : (dump : Option (Vec ℕ)) (old new : Option Contents) (P : List ℕ → Contents → Contents → Type 0)
    → ((told : List ℕ) → IfSome dump (λ text. text.items ≡ told) → WhereTold old new (P told)) → WhereTold old new (λ a b. ⊤)
dump_tells (Some made) old new P h = told_so (P made.items) _ old new (λ a b k. tt) (h made.items refl)
dump_tells None old new P h = told_so (P []) _ old new (λ a b k. tt) (h [] tt)

-- ---- what is known of the status

pub kept_asked : (count : ℕ) (end : KeepEnd) (came s : Status) → s ≡ kept_status end came → DriveAsked came count → DriveAsked s count
kept_asked count keep.Ok came s is h = asked_so came s count is h
kept_asked count keep.Failed came s is h = asked_so status.FileFault s count is (record { behind_steps = refl; fits = tt })
kept_asked count keep.NoMemory came s is h = asked_so status.NoMemory s count is (record { behind_steps = refl; fits = tt })

pub kept_past : (end : KeepEnd) (came s : Status) → s ≡ kept_status end came → IsPast came → IsPast s
kept_past keep.Ok came s is h = past_so came s is h
kept_past keep.Failed came s is h = past_so status.FileFault s is refl
kept_past keep.NoMemory came s is h = past_so status.NoMemory s is refl

pub kept_cause : (had has : Counts) (end : KeepEnd) (came s : Status) → s ≡ kept_status end came → HasCause came had has
    → (end ≡ keep.Failed → CountRose had.files has.files) → HasCause s had has
kept_cause had has keep.Ok came s is h rose = subst (λ x. HasCause x had has) (sym is) h
kept_cause had has keep.Failed came s is h rose = subst (λ x. HasCause x had has) (sym is) (rose refl)
kept_cause had has keep.NoMemory came s is h rose = subst (λ x. HasCause x had has) (sym is) tt
