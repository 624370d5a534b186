-- The exits of `boot`: the choices are not read, the drive is not mounted, an object has failed, the record is kept, or it is not.
use Rattle.std.proofs.Common.{◌≡◌, ◌≤◌, ◌*◌, ℕ, Bool, true, false, List, [], Option, Some, None, Err}
use Rattle.std.proofs.Common.{IsSome, option_map, refl, sym, subst, inl, inr}
use Rattle.std.specs.Prelude.{⊤, ◌||◌, not, is_none}
use Rattle.edi_told.specs.Told.{WhereTold}
use Rattle.edi_host.specs.Contents.{Contents}
use Rattle.edi_calls.specs.declared.ends.Outside as failing
use Rattle.edi_calls.specs.Choice.{Choices}
use Rattle.edi_execute.specs.Objects.{FailedIs, Objects, faults_in}
use Rattle.edi_image.specs.declared.faults.MountFault.{MountFault}
use Rattle.edi_session.specs.declared.end.SessionEnd.{SessionEnd}
use Rattle.edi_session.specs.declared.end.SessionEnd.TheVariants as end
use Rattle.edi_shell.specs.sessions.Ends.{ends_by_fault}
use Rattle.edi_shell_io.specs.calls.Standing.{failed_by}
use Rattle.edi_trace.specs.Drawn.{Drawn}
use Rattle.edi_words.specs.Words as words
use Rattle.edi_words.specs.Words.{ChoicesFrom, Options, nowhere, file, seed}
use Rattle.edi_statuses.specs.declared.status.Status.{Status}
use Rattle.edi_statuses.specs.Counts.{Counts, HasCause, IsBlamed}
use Rattle.edi_statuses.specs.declared.status.Status.TheVariants as status
use Rattle.edi_statuses.specs.Outside.{Outside, seen, still_told, with_kept, Keeps, SameFiles, Lent, blaming}
use Rattle.edi_statuses.specs.Steps.{goes, stops, Mounts, ReadsChoices, ChoicesAreThere}
use Rattle.edi_statuses.specs.Executions.{record_of}
use Rattle.edi_statuses.specs.Commands.{IsNothing}
use Rattle.edi_statuses.specs.EachObject.{MayBeImage, is_in_file}
use Rattle.edi_statuses.specs.Means.{MeansOf}
use Rattle.edi_statuses.specs.Decided.{Came}
use Rattle.edi_statuses.specs.Sessions.{BootSteps, BrokeSession, FailedSession, HasEnded, EndedWhole, HoldsSession, SessionEnded, session_status}
use Rattle.edi_main.specs.steps.OnFiles.{ChoicesStep, RecordEnd, RecordStep, files_only}
use Rattle.edi_main.specs.steps.NotMounted.{mount_status}
use Rattle.edi_main.specs.run.OnMounted.{DriveAsked}
use Rattle.edi_main.proofs.run.Mounting.{IsLeft, IsUnmounted, left_due, left_each, left_shows, mounts, shown_in, unkept, unmounted_by, unmounted_each}
use Rattle.edi_main.proofs.run.Exits.{IsRefusal, choices_refusal, not_begun, nothing, with_files}
use Rattle.edi_main.proofs.run.Blamed.{blamed_by}
use Rattle.edi_main.proofs.run.Meaning.{at_record}
use Rattle.edi_main.proofs.run.Left.{devices_told, told_by}
use Rattle.edi_statuses.proofs.EachLeft.{each_same}
use Rattle.edi_statuses.proofs.Told.{same_told, shows_nothing, still, still_same}
use Rattle.edi_main.proofs.run.Told.{on_files, reads_till_the_last, there_on_files}
use Rattle.edi_main.specs.boot.OnObjects.{EndsOn}
use Rattle.edi_main.specs.boot.SessionCame.{BootCame, SessionCame}
use Rattle.edi_main.proofs.boot.Devices.{broken_at, ended_to}

-- ---- the drive is not mounted

pub unmounted : (bound : ℕ) (choices : Choices) (name : Option (List ℕ)) (s : Status) (due : Bool) (before after : Outside) (kernel : Lent)
    (why : MountFault) → s ≡ mount_status why → due ≡ false → IsUnmounted before after kernel why → BootCame bound choices name s due before after kernel
unmounted bound choices name s due before after kernel why is silent h = record {
  shown = [];
  came = subst (λ x. SessionCame bound choices name x (seen before after) after [] kernel) (sym is)
      (unmounted_by before after kernel why h name (BrokeSession (mount_status why) kernel.failed bound choices (seen before after) after [])
      (EndedWhole bound choices (seen before after) after [])
      (λ end. HoldsSession bound choices name end (seen before after) after []));
  shows = shows_nothing before.shown after.shown h.shown;
  due_is = silent;
  each = unmounted_each before after kernel why h;
}

-- ---- the session is over

module _ (bound : ℕ) (old : Drawn) (none : old.drawn ≡ 0) (due : Bool) (how : SessionEnd) (before after : Outside) (left : IsLeft due before after)
    (kernel : Lent) (new : Drawn) (told : WhereTold (told_by before) (told_by after) (EndsOn bound old how new.drawn)) where
  abbrev shown_now : List ℕ
  shown_now = shown_in due before after

  -- an object has failed
  broke_now : ends_by_fault how ≡ true → BrokeSession (session_status how) (failed_by how) bound old.source (seen before after) after shown_now
  broke_now f =
      devices_told before after shown_now (EndsOn bound old how new.drawn)
      (λ d e. FailedSession (session_status how) (failed_by how) bound old.source d e shown_now) left.told.valid (left_shows due before after left)
      (λ x y valid shows h. broken_at bound old none new.drawn shown_now x y valid shows how f h) told

  broke_by : (e : SessionEnd) (name : Option (List ℕ)) → ends_by_fault e ≡ true → SameFiles (seen before after) after
      → BrokeSession (session_status e) (failed_by how) bound old.source (seen before after) after shown_now
      → SessionCame bound old.source name (session_status e) (seen before after) after shown_now (blaming (failed_by how) kernel)
  broke_by end.Halted name f files b = absurd (cc)
  broke_by end.InputEnd name f files b = absurd (cc)
  broke_by end.Limit name f files b = absurd (cc)
  broke_by end.DriveFault name f files b = (files, inr (mounts due before after left, b))
  broke_by end.InputFault name f files b = (files, mounts due before after left, b)
  broke_by end.TerminalFault name f files b = (files, mounts due before after left, b)
  broke_by end.PrinterFault name f files b = (files, mounts due before after left, b)

  pub broke : (name : Option (List ℕ)) (s : Status) → s ≡ session_status how → ends_by_fault how ≡ true → after.files ≡ before.files
      → BootCame bound old.source name s due before after (blaming (failed_by how) kernel)
  broke name s is f files = record {
    shown = shown_now;
    came = subst (λ x. SessionCame bound old.source name x (seen before after) after shown_now (blaming (failed_by how) kernel)) (sym is)
        (broke_by how name f (same_told before.files after.files files) (broke_now f));
    shows = left_shows due before after left;
    due_is = left_due due before after left;
    each = left_each due before after left;
  }

  module _ (unfailed : ends_by_fault how ≡ false) (within : new.drawn ≤ 4194304 * bound) where
    ended_now : SessionEnded bound old.source how new.drawn (seen before after) after shown_now
    ended_now =
        devices_told before after shown_now (EndsOn bound old how new.drawn) (λ d e. HasEnded bound old.source how new.drawn d e shown_now) left.told.valid
        (left_shows due before after left) (λ x y valid shows h. ended_to bound old none new.drawn shown_now x y valid shows how unfailed h) told

    whole : EndedWhole bound old.source (seen before after) after shown_now
    whole = record { how = how; drawn = new.drawn; within = within; ended = ended_now }

    holds : (name : Option (List ℕ)) → Keeps (seen before after) after (record_of name old.source new.drawn)
        → HoldsSession bound old.source name (session_status how) (seen before after) after shown_now
    holds name kept = record { how = how; drawn = new.drawn; within = within; status_is = refl; ended = ended_now; keeps = kept }

    ended_by : (e : SessionEnd) (name : Option (List ℕ)) → ends_by_fault e ≡ false
        → HoldsSession bound old.source name (session_status e) (seen before after) after shown_now
        → SessionCame bound old.source name (session_status e) (seen before after) after shown_now kernel
    ended_by end.Halted name f h = (mounts due before after left, h)
    ended_by end.InputEnd name f h = (mounts due before after left, h)
    ended_by end.Limit name f h = (mounts due before after left, h)
    ended_by end.DriveFault name f h = absurd (cc)
    ended_by end.InputFault name f h = absurd (cc)
    ended_by end.TerminalFault name f h = absurd (cc)
    ended_by end.PrinterFault name f h = absurd (cc)

    -- its record was kept, if there was to be one
    recorded : (name : Option (List ℕ)) (s : Status) → s ≡ session_status how → new.source ≡ old.source
        → WhereTold before.files after.files (λ a b. b ≡ with_kept (record_of name new.source new.drawn) a)
        → BootCame bound old.source name s due before after kernel
    recorded name s is source step = record {
      shown = shown_now;
      came = subst (λ x. SessionCame bound old.source name x (seen before after) after shown_now kernel) (sym is)
          (ended_by how name unfailed
          (holds name (still _ before.files after.files
          (subst (λ from. WhereTold before.files after.files (λ a b. b ≡ with_kept (record_of name from new.drawn) a)) source step))));
      shows = left_shows due before after left;
      due_is = left_due due before after left;
      each = left_each due before after left;
    }

    -- it was not kept
    unrecorded : (name : Option (List ℕ)) (s : Status) → RecordStep {A = Unit {0}} name new (Err s) before.files after.files
        → BootCame bound old.source name s due before after kernel
    unrecorded name s step = record {
      shown = shown_now;
      came = unkept due before after left new (Unit {0}) name s step
          (BrokeSession s kernel.failed bound old.source (seen before after) after shown_now)
          (EndedWhole bound old.source (seen before after) after shown_now)
          (λ e. HoldsSession bound old.source name e (seen before after) after shown_now) shown_now kernel whole;
      shows = left_shows due before after left;
      due_is = left_due due before after left;
      each = left_each due before after left;
    }

    pub ended_so : (name : Option (List ℕ)) (s t : Status) → s ≡ session_status how → new.source ≡ old.source
        → RecordEnd name new s t before.files after.files → BootCame bound old.source name t due before after kernel
    ended_so name s t is source (inl kept) =
        subst (λ x. BootCame bound old.source name x due before after kernel) (sym kept.0) (recorded name s is source kept.1)
    ended_so name s t is source (inr why) = unrecorded name t why

-- the count of the object rose that is blamed
pub blamed_end : {D S T P : Type 0} (drive : D → ℕ) (input : S → ℕ) (terminal : T → ℕ) (printer : P → ℕ) (before after : Objects D S T P) (s : Status)
    (which : Option failing.Outside) → FailedIs which (faults_in drive input terminal printer before) (faults_in drive input terminal printer after)
    → IsBlamed which s (terminal before.terminal) (terminal after.terminal) (printer before.printer) (printer after.printer)
blamed_end drive input terminal printer before after s None rose = tt
blamed_end drive input terminal printer before after s (Some failed) rose =
    blamed_by drive input terminal printer before after s failed (Some failed) refl rose

-- a session that came to its end is by no fault
pub ended_cause : (how : SessionEnd) (had has : Counts) → ends_by_fault how ≡ false → HasCause (session_status how) had has
ended_cause end.Halted had has f = tt
ended_cause end.InputEnd had has f = tt
ended_cause end.Limit had has f = tt
ended_cause end.DriveFault had has f = absurd (cc)
ended_cause end.InputFault had has f = absurd (cc)
ended_cause end.TerminalFault had has f = absurd (cc)
ended_cause end.PrinterFault had has f = absurd (cc)

-- another number that is the same
pub with_bound : (n m : ℕ) → n ≡ m → (choices : Choices) (name : Option (List ℕ)) (s : Status) (due : Bool) (before after : Outside) (kernel : Lent)
    → BootCame n choices name s due before after kernel → BootCame m choices name s due before after kernel
with_bound n m same choices name s due before after kernel = subst (λ k. BootCame k choices name s due before after kernel) same

-- ---- the meaning of the status

-- a file is named: by the choices, or where a record is asked for
chosen : (o : Outside) (from : ChoicesFrom) (name : Option (List ℕ)) → ChoicesAreThere o from → (is_in_file from || not (is_none name)) ≡ true
chosen o nowhere name h = absurd h
chosen o (file f) name h = refl
chosen o (seed n) name h = absurd h

recording : (from : ChoicesFrom) (name : Option (List ℕ)) → IsSome name → (is_in_file from || not (is_none name)) ≡ true
recording from None h = absurd (cc)
recording nowhere (Some name) h = refl
recording (file f) (Some name) h = refl
recording (seed n) (Some name) h = refl

-- no file is named
pub unnamed : (from : ChoicesFrom) (name : Option (List ℕ)) → (is_in_file from || not (is_none name)) ≡ false → (is_in_file from ≡ false) × (name ≡ None)
unnamed nowhere None h = (refl, refl)
unnamed (seed n) None h = (refl, refl)
unnamed (file f) name h = absurd (cc)
unnamed nowhere (Some name) h = absurd (cc)
unnamed (seed n) (Some name) h = absurd (cc)

pub none_there : {A B : Type 0} (f : A → B) (o : Option A) → option_map f o ≡ None → o ≡ None
none_there f None h = refl
none_there f (Some a) h = absurd (cc)

never_words : (e : SessionEnd) → status.Words ≡ session_status e → ⊥
never_words end.Halted e = absurd (cc)
never_words end.InputEnd e = absurd (cc)
never_words end.Limit e = absurd (cc)
never_words end.DriveFault e = absurd (cc)
never_words end.InputFault e = absurd (cc)
never_words end.TerminalFault e = absurd (cc)
never_words end.PrinterFault e = absurd (cc)

module _ (o : Options) (choices : Choices) (before after : Outside) (shown : List ℕ) (kernel : Lent)
    (there : ReadsChoices before o.choices (goes choices)) where
  went : Mounts before (goes tt) → BootSteps before o.choices (goes choices)
  went m = inr (choices, there, inr (tt, m, refl))

  stopped_there : (s : Status) → Mounts before (stops s) → BootSteps before o.choices (stops s)
  stopped_there s m = inr (choices, there, inl m)

  pub boot_means : (s : Status) → SessionCame o.turns choices o.record_file s before after shown kernel → MeansOf s (words.boot o) before after shown kernel
  boot_means status.Words h = absurd (never_words h.1.how h.1.status_is)
  boot_means status.NoMemory (inl h) = inl h
  boot_means status.NoMemory (inr h) = inr (at_record o.record_file (BootSteps before o.choices) _ choices h.0 (went h.1) h.2)
  boot_means status.FileFault h = record {
    uses = recording o.choices o.record_file h.0;
    far = inr (h.1, at_record o.record_file (BootSteps before o.choices) _ choices h.0 (went h.2) h.3);
  }
  boot_means status.DriveFault h = record {
    uses = refl;
    far = (
      h.0,
      elim h.1 [
        | inl none ↦ inl ((choices, there), none)
        | inr far ↦ inr (choices, went far.0, far.1)
      ],
    );
  }
  boot_means status.InputFault h = record { uses = tt; far = (h.0, (choices, went h.1, h.2)) }
  boot_means status.OutputFault h = record { uses = tt; far = (h.0, (choices, went h.1, h.2)) }
  boot_means (status.BadImage broken) h = inl (stopped_there (status.BadImage broken) h.0, h.1)
  boot_means s h = inr (choices, went h.0, h.1)

-- ---- the exits of the command

module _ (o : Options) (before : Outside) (new : Option Contents) (kernel : Lent) where
  -- the choices were not read
  module _ (kept : kernel.after ≡ kernel.before) (same : WhereTold before.files new (λ a b. b ≡ a)) where
    abbrev MeansUnread : Status → Type 0
    MeansUnread s = MeansOf s (words.boot o) (seen before (with_files before new)) (with_files before new) [] kernel

    nothing_done : IsNothing (seen before (with_files before new)) (with_files before new) [] kernel
    nothing_done = nothing before new kernel kept same

    refused : (s : Status) → IsRefusal s → BootSteps (seen before (with_files before new)) o.choices (stops s) → MeansUnread s
    refused status.Absent refusal h = inl (h, nothing_done)
    refused (status.BadChoices line) refusal h = inl (h, nothing_done)
    refused (status.Refused kind line) refusal h = inl (h, nothing_done)
    refused (status.BadCode broken) refusal h = inl (h, nothing_done)
    refused s refusal h = absurd refusal

    unread_means : (s : Status) → ChoicesStep (files_only (still_told before.files new)) o.choices (Err s) → MeansUnread s
    unread_means status.NoMemory h = inl nothing_done
    unread_means status.FileFault h = record {
      uses = chosen (files_only (still_told before.files new)) o.choices o.record_file h;
      far = inl (nothing_done.same.files, there_on_files (seen before (with_files before new)) o.choices h, not_begun before new kernel kept);
    }
    unread_means s h =
        refused s (choices_refusal (files_only (still_told before.files new)) o.choices s h)
        (inl (on_files (seen before (with_files before new)) o.choices (stops s) h))

    pub unread : (s t : Status) (due : Bool) → t ≡ s → due ≡ false → ChoicesStep (files_only (still_told before.files new)) o.choices (Err s)
        → Came t due (Some (words.boot o)) before (with_files before new) kernel
    unread s t due is silent h = record {
      shown = [];
      means = subst MeansUnread (sym is) (unread_means s h);
      shows = shows_nothing before.shown before.shown refl;
      due_is = silent;
      each = each_same (Some (words.boot o)) before (with_files before new) refl refl refl;
    }

  -- the session is over, or its drive not mounted
  pub boot_came : (choices : Choices) → ReadsChoices (files_only (still_told before.files new)) o.choices (goes choices)
      → WhereTold before.files new (λ a b. b ≡ a) → (s : Status) (due : Bool) (after : Outside) → WhereTold new after.files (λ a b. ⊤)
      → BootCame o.turns choices o.record_file s due (with_files before new) after kernel → Came s due (Some (words.boot o)) before after kernel
  boot_came choices reads first s due after last h =
      let all : Outside = seen before after in
      let there = on_files all o.choices (goes choices) (reads_till_the_last o.choices choices before.files new after.files last reads) in
      let came = subst (λ files. SessionCame o.turns choices o.record_file s (record all { files = files }) after h.shown kernel)
      (still_same before.files new after.files first last) h.came in
      record {
        shown = h.shown;
        means = boot_means o choices all after h.shown kernel there s came;
        shows = h.shows;
        due_is = h.due_is;
        each = record { drive = λ stays. h.each.drive refl; input = h.each.input; printer = h.each.printer };
      }

-- ---- the drive was asked

pub ended_asked : (count : ℕ) → MayBeImage count → (e : SessionEnd) → DriveAsked (session_status e) count
ended_asked count image end.Halted = record { behind_steps = refl; fits = image }
ended_asked count image end.InputEnd = record { behind_steps = refl; fits = image }
ended_asked count image end.Limit = record { behind_steps = refl; fits = image }
ended_asked count image end.DriveFault = record { behind_steps = refl; fits = image }
ended_asked count image end.InputFault = record { behind_steps = refl; fits = image }
ended_asked count image end.TerminalFault = record { behind_steps = refl; fits = tt }
ended_asked count image end.PrinterFault = record { behind_steps = refl; fits = tt }
