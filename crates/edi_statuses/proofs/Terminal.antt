-- What a status means does not change where the terminal takes its line: the steps of commands, and what they leave.
use Rattle.std.proofs.Common.{◌≡◌, ℕ, ◌-◌, List, length, Option, Some, None, inl, inr}
use Rattle.edi_told.specs.Told.{WhereTold}
use Rattle.edi_calls.specs.declared.ends.Outside as failing
use Rattle.edi_calls.specs.Choice.{Choices}
use Rattle.edi_debug.specs.stops.Stops.{Watched}
use Rattle.edi_calls.specs.Outcome.{Ending}
use Rattle.edi_calls.specs.State as state
use Rattle.edi_calls.specs.State.{State}
use Rattle.edi_image.specs.migrate.OldImage.{old_slots_of}
use Rattle.edi_target.specs.Check.{CodeParts}
use Rattle.edi_trace.specs.Lines.{read_of}
use Rattle.edi_unit.specs.Tree.{ProgramUnit}
use Rattle.edi_words.specs.Words as words
use Rattle.edi_words.specs.Words.{ChoicesFrom, Command}
use Rattle.edi_statuses.specs.declared.status.Status.{Status}
use Rattle.edi_statuses.specs.Outside.{Outside, seen, Lent, KernelLeft, Kept, Devices, DevicesAreAt, devices_of, system_on}
use Rattle.edi_statuses.specs.Steps.{AfterStep, goes, stops, ◌>>=◌, Ready, Fetches, GivesChoices, ReadsChoices, ChoicesAreThere, Accepts, Mounts, Loads}
use Rattle.edi_statuses.specs.Steps.{ChecksOld, FindsPoints, FitsDisk, HasRoom}
use Rattle.edi_statuses.specs.Executions.{Runnable, FailedAt, HasCall, HasRun, StandsAt, BrokeRun}
use Rattle.edi_session.specs.declared.end.SessionEnd.{SessionEnd}
use Rattle.edi_statuses.specs.Sessions.{BootSteps, BrokeSession, FailedSession, HasEnded, EndedWhole, HoldsSession}
use Rattle.edi_statuses.specs.Commands.{CommandEffect, Does, IsNothing, OnlyKeeps, OnlyBlocks, OnlyShows, KeepsCode, Runs, HasPlace, ReadsTitle}
use Rattle.edi_statuses.specs.Commands.{RunSteps, ExecSteps, PointSteps, WatchSteps, TextSteps, OldSteps, PutSteps, GetSteps, ListSteps, DemoSteps}
use Rattle.edi_statuses.specs.Broken.{AtRecord, HasNotBegun, ChangesDrive, ShowsFront, RanWhole, RanUnkept}
use Rattle.edi_statuses.specs.Facts.{FirstFile, no_file, file_named, file_of_choices, facts_of}
use Rattle.edi_statuses.specs.Means.{AsksDrive, FetchFails, IsThere}
use Rattle.edi_statuses.specs.Decided.{with_shown}
use Rattle.edi_statuses.proofs.SilentDevices.{devices_later, step_later, ProgramSteps}
pub use Rattle.edi_statuses.proofs.SilentDevices.{StillTold, Silent}

-- ---- one call, and the terminal behind it

module _ (b m : Outside) (y : Option (List ℕ)) (still : StillTold m.shown y) where
  -- what the steps saw, and see where the terminal has taken a line
  abbrev seen_then : Outside
  seen_then = seen b m

  abbrev seen_now : Outside
  seen_now = seen b (with_shown y m)

  abbrev now : Outside
  now = with_shown y m

  pub told_later : (P : Devices → Devices → Type 0) → Silent P → WhereTold (devices_of seen_then) (devices_of m) P
      → WhereTold (devices_of seen_now) (devices_of now) P
  told_later P silent told = devices_later P silent b m.files m.blocks m.input m.shown y m.printed still told

  -- ---- the steps

  pub fetches_later : (name : List ℕ) (r : AfterStep (List ℕ)) → Fetches seen_then name r → Fetches seen_now name r
  fetches_later name (goes bytes) h = h
  fetches_later name (stops s) h = h

  mounts_later : (r : AfterStep (Unit {0})) → Mounts seen_then r → Mounts seen_now r
  mounts_later (goes done) h = h
  mounts_later (stops s) h = h

  place_later : (title : List ℕ) (size : ℕ) (r : AfterStep (Unit {0})) → HasPlace seen_then title size r → HasPlace seen_now title size r
  place_later title size (goes done) h = h
  place_later title size (stops s) h = h

  reads_later : (title : List ℕ) (r : AfterStep (List ℕ)) → ReadsTitle seen_then title r → ReadsTitle seen_now title r
  reads_later title (goes bytes) h = h
  reads_later title (stops s) h = h

  choices_later : (from : ChoicesFrom) (r : AfterStep Choices) → ReadsChoices seen_then from r → ReadsChoices seen_now from r
  choices_later words.nowhere r h = h
  choices_later (words.file name) r h =
      step_later (Fetches seen_then name) (Fetches seen_now name) (λ bytes. GivesChoices (read_of bytes)) (λ bytes. GivesChoices (read_of bytes))
      (fetches_later name) (λ v q k. k) r h
  choices_later (words.seed number) r h = h

  -- steps that end with a mount of the drive
  mounted_later : {A B : Type 0} (step : AfterStep B → Type 0) (a : B → A) (r : AfterStep A) → (step >>= λ v. Mounts seen_then >>= λ done. Ready (a v)) r
      → (step >>= λ v. Mounts seen_now >>= λ done. Ready (a v)) r
  mounted_later step a r h =
      step_later step step (λ v. Mounts seen_then >>= λ done. Ready (a v)) (λ v. Mounts seen_now >>= λ done. Ready (a v)) (λ q k. k)
      (λ v q k. step_later (Mounts seen_then) (Mounts seen_now) (λ done. Ready (a v)) (λ done. Ready (a v)) mounts_later (λ w t l. l) q k) r h

  program_later : {A B : Type 0} (step : List ℕ → AfterStep B → Type 0) (a : List ℕ → Choices → B → A) (file : List ℕ) (from : ChoicesFrom)
      (r : AfterStep A) → ProgramSteps seen_then step a file from r → ProgramSteps seen_now step a file from r
  program_later step a file from r h =
      step_later (Fetches seen_then file) (Fetches seen_now file)
      (λ bytes. ReadsChoices seen_then from >>= λ choices. step bytes >>= λ x. Mounts seen_then >>= λ done. Ready (a bytes choices x))
      (λ bytes. ReadsChoices seen_now from >>= λ choices. step bytes >>= λ x. Mounts seen_now >>= λ done. Ready (a bytes choices x))
      (fetches_later file)
      (λ bytes. step_later (ReadsChoices seen_then from) (ReadsChoices seen_now from)
      (λ choices. step bytes >>= λ x. Mounts seen_then >>= λ done. Ready (a bytes choices x))
      (λ choices. step bytes >>= λ x. Mounts seen_now >>= λ done. Ready (a bytes choices x))
      (choices_later from) (λ choices. mounted_later (step bytes) (a bytes choices))) r h

  pub run_later : (file : List ℕ) (from : ChoicesFrom) (r : AfterStep (List ℕ × Choices)) → RunSteps seen_then file from r → RunSteps seen_now file from r
  run_later file from r h = program_later Accepts (λ bytes choices unit. (bytes, choices)) file from r h

  pub exec_later : (file : List ℕ) (from : ChoicesFrom) (r : AfterStep (CodeParts × Choices)) → ExecSteps seen_then file from r → ExecSteps seen_now file from r
  exec_later file from r h = program_later Loads (λ bytes choices parts. (parts, choices)) file from r h

  -- the steps of a watched program up to the drive
  points_later : (file points_file : List ℕ) (from : ChoicesFrom) (r : AfterStep (List ℕ × Choices × List Watched)) → PointSteps seen_then file points_file from r
      → PointSteps seen_now file points_file from r
  points_later file points_file from r h =
      step_later (Fetches seen_then file) (Fetches seen_now file)
      (λ bytes. ReadsChoices seen_then from >>= λ choices. Accepts bytes >>= λ unit. Fetches seen_then points_file >>= λ lines.
      FindsPoints bytes lines >>= λ points. Ready (bytes, choices, points))
      (λ bytes. ReadsChoices seen_now from >>= λ choices. Accepts bytes >>= λ unit. Fetches seen_now points_file >>= λ lines.
      FindsPoints bytes lines >>= λ points. Ready (bytes, choices, points))
      (fetches_later file)
      (λ bytes. step_later (ReadsChoices seen_then from) (ReadsChoices seen_now from)
      (λ choices. Accepts bytes >>= λ unit. Fetches seen_then points_file >>= λ lines. FindsPoints bytes lines >>= λ points. Ready (bytes, choices, points))
      (λ choices. Accepts bytes >>= λ unit. Fetches seen_now points_file >>= λ lines. FindsPoints bytes lines >>= λ points. Ready (bytes, choices, points))
      (choices_later from)
      (λ choices. step_later (Accepts bytes) (Accepts bytes)
      (λ unit. Fetches seen_then points_file >>= λ lines. FindsPoints bytes lines >>= λ points. Ready (bytes, choices, points))
      (λ unit. Fetches seen_now points_file >>= λ lines. FindsPoints bytes lines >>= λ points. Ready (bytes, choices, points)) (λ q k. k)
      (λ unit. step_later (Fetches seen_then points_file) (Fetches seen_now points_file) (λ lines. FindsPoints bytes lines >>= λ points. Ready (bytes, choices, points))
      (λ lines. FindsPoints bytes lines >>= λ points. Ready (bytes, choices, points)) (fetches_later points_file) (λ v q k. k)))) r h

  pub watch_later : (file points_file : List ℕ) (from : ChoicesFrom) (r : AfterStep (List ℕ × Choices × List Watched)) → WatchSteps seen_then file points_file from r
      → WatchSteps seen_now file points_file from r
  watch_later file points_file from r h =
      step_later (PointSteps seen_then file points_file from) (PointSteps seen_now file points_file from) (λ a. Mounts seen_then >>= λ done. Ready a)
      (λ a. Mounts seen_now >>= λ done. Ready a) (points_later file points_file from)
      (λ a. step_later (Mounts seen_then) (Mounts seen_now) (λ done. Ready a) (λ done. Ready a) mounts_later (λ w t l. l)) r h

  -- steps that look at a fetched file alone
  fetched_later : {A : Type 0} (file : List ℕ) (more : List ℕ → AfterStep A → Type 0) (r : AfterStep A) → (Fetches seen_then file >>= more) r
      → (Fetches seen_now file >>= more) r
  fetched_later file more r h = step_later (Fetches seen_then file) (Fetches seen_now file) more more (fetches_later file) (λ v q k. k) r h

  pub text_later : (file : List ℕ) (r : AfterStep (List ℕ × ProgramUnit)) → TextSteps seen_then file r → TextSteps seen_now file r
  text_later file r h = fetched_later file (λ bytes. Accepts bytes >>= λ unit. Ready (bytes, unit)) r h

  pub old_later : (blocks : ℕ) (file : List ℕ) (r : AfterStep (List (List ℕ))) → OldSteps seen_then blocks file r → OldSteps seen_now blocks file r
  old_later blocks file r h =
      fetched_later file (λ bytes. ChecksOld bytes >>= λ old. HasRoom (state.blocks_taken (old_slots_of old)) (blocks - 33) >>= λ done. Ready old) r h

  pub put_later : (file title : List ℕ) (r : AfterStep (List ℕ)) → PutSteps seen_then file title r → PutSteps seen_now file title r
  put_later file title r h =
      step_later (Fetches seen_then file) (Fetches seen_now file)
      (λ bytes. FitsDisk bytes >>= λ fits. Mounts seen_then >>= λ done. HasPlace seen_then title (length bytes) >>= λ room. Ready bytes)
      (λ bytes. FitsDisk bytes >>= λ fits. Mounts seen_now >>= λ done. HasPlace seen_now title (length bytes) >>= λ room. Ready bytes)
      (fetches_later file)
      (λ bytes. step_later (FitsDisk bytes) (FitsDisk bytes) (λ fits. Mounts seen_then >>= λ done. HasPlace seen_then title (length bytes) >>= λ room. Ready bytes)
      (λ fits. Mounts seen_now >>= λ done. HasPlace seen_now title (length bytes) >>= λ room. Ready bytes) (λ q k. k)
      (λ fits. step_later (Mounts seen_then) (Mounts seen_now) (λ done. HasPlace seen_then title (length bytes) >>= λ room. Ready bytes)
      (λ done. HasPlace seen_now title (length bytes) >>= λ room. Ready bytes) mounts_later
      (λ done. step_later (HasPlace seen_then title (length bytes)) (HasPlace seen_now title (length bytes)) (λ room. Ready bytes) (λ room. Ready bytes)
      (place_later title (length bytes)) (λ v q k. k)))) r h

  pub get_later : (title : List ℕ) (r : AfterStep (List ℕ)) → GetSteps seen_then title r → GetSteps seen_now title r
  get_later title r h =
      step_later (Mounts seen_then) (Mounts seen_now) (λ done. ReadsTitle seen_then title) (λ done. ReadsTitle seen_now title) mounts_later
      (λ done. reads_later title) r h

  pub list_later : (file : List ℕ) (r : AfterStep CodeParts) → ListSteps seen_then file r → ListSteps seen_now file r
  list_later file r h = fetched_later file (λ bytes. Loads bytes) r h

  pub demo_later : (from : ChoicesFrom) (r : AfterStep Choices) → DemoSteps seen_then from r → DemoSteps seen_now from r
  demo_later from r h = choices_later from r h

  pub boot_later : (from : ChoicesFrom) (r : AfterStep Choices) → BootSteps seen_then from r → BootSteps seen_now from r
  boot_later from r h =
      step_later (ReadsChoices seen_then from) (ReadsChoices seen_now from) (λ choices. Mounts seen_then >>= λ done. Ready choices)
      (λ choices. Mounts seen_now >>= λ done. Ready choices) (choices_later from)
      (λ choices. step_later (Mounts seen_then) (Mounts seen_now) (λ done. Ready choices) (λ done. Ready choices) mounts_later (λ w t l. l)) r h

  -- the steps before the drive is asked
  third_later : {U : Type 0} (file : List ℕ) (from : ChoicesFrom) (third : List ℕ → AfterStep U → Type 0) (r : AfterStep U)
      → (Fetches seen_then file >>= λ bytes. ReadsChoices seen_then from >>= λ choices. third bytes) r
      → (Fetches seen_now file >>= λ bytes. ReadsChoices seen_now from >>= λ choices. third bytes) r
  third_later file from third r h =
      step_later (Fetches seen_then file) (Fetches seen_now file) (λ bytes. ReadsChoices seen_then from >>= λ choices. third bytes)
      (λ bytes. ReadsChoices seen_now from >>= λ choices. third bytes) (fetches_later file)
      (λ bytes. step_later (ReadsChoices seen_then from) (ReadsChoices seen_now from) (λ choices. third bytes) (λ choices. third bytes)
      (choices_later from) (λ v q k. k)) r h

  pub asks_later : (c : Command) → AsksDrive c seen_then → AsksDrive c seen_now
  asks_later (words.run file o) h = (h.0, third_later file o.choices Accepts (goes h.0) h.1)
  asks_later (words.replay file choices turns) h = (h.0, third_later file (words.file choices) Accepts (goes h.0) h.1)
  asks_later (words.walk file choices turns) h = (h.0, third_later file (words.file choices) Accepts (goes h.0) h.1)
  asks_later (words.exec file o) h = (h.0, third_later file o.choices Loads (goes h.0) h.1)
  asks_later (words.run_with file account o) h = (h.0, third_later file o.choices Accepts (goes h.0) h.1)
  asks_later (words.exec_with file account o) h = (h.0, third_later file o.choices Loads (goes h.0) h.1)
  asks_later (words.boot o) h = (h.0, choices_later o.choices (goes h.0) h.1)
  asks_later (words.watch file points_file out o) h = (h.0, points_later file points_file o.choices (goes h.0) h.1)
  asks_later (words.put file title) h = (h.0, fetched_later file (λ bytes. FitsDisk bytes) (goes h.0) h.1)
  asks_later (words.get title file) h = tt
  asks_later c h = absurd h

  there_later : (from : ChoicesFrom) → ChoicesAreThere seen_then from → ChoicesAreThere seen_now from
  there_later words.nowhere h = h
  there_later (words.file name) h = h
  there_later (words.seed n) h = h

  is_there_later : (first : FirstFile) → IsThere first seen_then → IsThere first seen_now
  is_there_later no_file h = absurd h
  is_there_later (file_named name) h = h
  is_there_later (file_of_choices from) h = there_later from h

  pub fetch_fails_later : (c : Command) → FetchFails c seen_then → FetchFails c seen_now
  fetch_fails_later c h = is_there_later (facts_of c).fetches h

  -- ---- the effects

  pub nothing_later : (shown : List ℕ) (kernel : Lent) → IsNothing seen_then m shown kernel → IsNothing seen_now now shown kernel
  nothing_later shown kernel h = record {
    shown_ = h.shown_;
    same = record { files = h.same.files; blocks = h.same.blocks; input = h.same.input; printed = h.same.printed };
    kernel_same = h.kernel_same;
  }

  pub drive_later : (P : List (List ℕ) → List (List ℕ) → Type 0) (shown : List ℕ) (kernel : Lent) → ChangesDrive P seen_then m shown kernel
      → ChangesDrive P seen_now now shown kernel
  drive_later P shown kernel h =
      record { shown_ = h.shown_; blocks = h.blocks; input = h.input; printed = h.printed; kernel_same = h.kernel_same }

  pub begun_later : (shown : List ℕ) (kernel : Lent) → HasNotBegun seen_then m shown kernel → HasNotBegun seen_now now shown kernel
  begun_later shown kernel h = drive_later (λ old new. new ≡ old) shown kernel h

  pub keeps_later : (kept : List Kept) (shown : List ℕ) (kernel : Lent) → OnlyKeeps kept seen_then m shown kernel → OnlyKeeps kept seen_now now shown kernel
  keeps_later kept shown kernel h = search h

  pub blocks_later : (P : List (List ℕ) → List (List ℕ) → Type 0) (shown : List ℕ) (kernel : Lent) → OnlyBlocks P seen_then m shown kernel
      → OnlyBlocks P seen_now now shown kernel
  blocks_later P shown kernel h = search h

  pub code_later : (out bytes : List ℕ) (unit : ProgramUnit) (shown : List ℕ) (kernel : Lent) → KeepsCode out bytes unit seen_then m shown kernel
      → KeepsCode out bytes unit seen_now now shown kernel
  code_later out bytes unit shown kernel h = record { code_is = h.code_is; keeps = keeps_later _ shown kernel h.keeps }

  pub shows_later : (bytes shown : List ℕ) (kernel : Lent) → OnlyShows bytes seen_then m shown kernel → OnlyShows bytes seen_now now shown kernel
  shows_later bytes shown kernel h = record {
    shown_ = h.shown_;
    same = record { files = h.same.files; blocks = h.same.blocks; input = h.same.input; printed = h.same.printed };
    kernel_same = h.kernel_same;
  }

  pub front_later : (bytes shown : List ℕ) (kernel : Lent) → ShowsFront bytes seen_then m shown kernel → ShowsFront bytes seen_now now shown kernel
  front_later bytes shown kernel h = record {
    front = h.front;
    same = record { files = h.same.files; blocks = h.same.blocks; input = h.same.input; printed = h.same.printed };
    kernel_same = h.kernel_same;
  }

  pub has_run_silent : (program : Runnable) (bound : ℕ) (choices : Choices) (ending : Ending) (drawn : ℕ) (shown : List ℕ) (kernel : KernelLeft)
      → Silent (λ d e. HasRun program bound choices ending drawn d e shown kernel)
  has_run_silent program bound choices ending drawn shown kernel d e bytes h = record {
    outcome_ = h.outcome_;
    outcome_is = h.outcome_is;
    ending_is = h.ending_is;
    never_bad = h.never_bad;
    draws = h.draws;
    leaves = record { input = h.leaves.input; shown_ = h.leaves.shown_; printed = h.leaves.printed; disk = h.leaves.disk; count = h.leaves.count };
    kernel_is = h.kernel_is;
  }

  pub stands_silent : (Holds : Devices → State → Type 0) (shown : List ℕ) → Silent (λ d e. StandsAt (Holds d) d e shown)
  stands_silent Holds shown d e bytes h = record {
    moment = h.moment;
    comes = h.comes;
    at = record { input = h.at.input; shown_ = h.at.shown_; printed = h.at.printed; disk = h.at.disk; count = h.at.count };
  }

  at_silent : (state : State) (shown : List ℕ) → Silent (λ d e. DevicesAreAt state d e shown)
  at_silent state shown d e bytes h = record { input = h.input; shown_ = h.shown_; printed = h.printed; disk = h.disk; count = h.count }

  pub failed_silent : (s : Status) (blamed : Option failing.Outside) (Calls : Devices → State → State → Type 0) (shown : List ℕ)
      → Silent (λ d e. FailedAt s blamed (Calls d) d e shown)
  failed_silent s blamed Calls shown d e bytes h = record {
    failed = h.failed;
    blamed_is = h.blamed_is;
    status_is = h.status_is;
    before = h.before;
    next = h.next;
    calls = h.calls;
    asks = h.asks;
    left = h.left;
    at = elim h.at [
      | inl first ↦ inl (at_silent h.before shown d e bytes first)
      | inr then_ ↦ inr (then_.0, at_silent h.next shown d e bytes then_.1)
    ];
  }

  pub runs_later : (program : Runnable) (bound : ℕ) (choices : Choices) (record_file : Option (List ℕ)) (s : Status) (shown : List ℕ) (kernel : Lent)
      → Runs program bound choices record_file s seen_then m shown kernel → Runs program bound choices record_file s seen_now now shown kernel
  runs_later program bound choices record_file s shown kernel r =
      let ran = told_later (λ d e. HasRun program bound choices r.ending r.drawn d e shown kernel.after)
      (has_run_silent program bound choices r.ending r.drawn shown kernel.after) r.ran in
      search (r, ran)

  pub whole_later : (program : Runnable) (bound : ℕ) (choices : Choices) (shown : List ℕ) (kernel : Lent)
      → RanWhole program bound choices seen_then m shown kernel → RanWhole program bound choices seen_now now shown kernel
  whole_later program bound choices shown kernel r = record {
    ending = r.ending;
    drawn = r.drawn;
    within = r.within;
    used = r.used;
    ran = told_later (λ d e. HasRun program bound choices r.ending r.drawn d e shown kernel.after)
        (has_run_silent program bound choices r.ending r.drawn shown kernel.after) r.ran;
  }

  pub unkept_later : (program : Runnable) (bound : ℕ) (choices : Choices) (shown : List ℕ) (kernel : Lent)
      → RanUnkept program bound choices seen_then m shown kernel → RanUnkept program bound choices seen_now now shown kernel
  unkept_later program bound choices shown kernel r = (whole_later program bound choices shown kernel r.0, r.1)

  pub broke_later : (s : Status) (blamed : Option failing.Outside) (program : Runnable) (bound : ℕ) (choices : Choices) (shown : List ℕ)
      → BrokeRun s blamed program bound choices seen_then m shown → BrokeRun s blamed program bound choices seen_now now shown
  broke_later s blamed program bound choices shown told =
      told_later (λ d e. FailedAt s blamed (HasCall program (system_on d) bound choices) d e shown)
      (failed_silent s blamed (λ d. HasCall program (system_on d) bound choices) shown) told

  -- ---- sessions

  session_ended_silent : (bound : ℕ) (choices : Choices) (how : SessionEnd) (drawn : ℕ) (shown : List ℕ)
      → Silent (λ d e. HasEnded bound choices how drawn d e shown)
  session_ended_silent bound choices how drawn shown d e bytes h = record {
    after = h.after;
    session = h.session;
    draws = h.draws;
    leaves = record { input = h.leaves.input; shown_ = h.leaves.shown_; printed = h.leaves.printed; disk = h.leaves.disk; count = h.leaves.count };
  }

  pub holds_later : (bound : ℕ) (choices : Choices) (name : Option (List ℕ)) (s : Status) (shown : List ℕ)
      → HoldsSession bound choices name s seen_then m shown → HoldsSession bound choices name s seen_now now shown
  holds_later bound choices name s shown h =
      let ended = told_later (λ d e. HasEnded bound choices h.how h.drawn d e shown) (session_ended_silent bound choices h.how h.drawn shown) h.ended in
      search (h, ended)

  pub ended_later : (bound : ℕ) (choices : Choices) (shown : List ℕ) → EndedWhole bound choices seen_then m shown → EndedWhole bound choices seen_now now shown
  ended_later bound choices shown h = record {
    how = h.how;
    drawn = h.drawn;
    within = h.within;
    ended = told_later (λ d e. HasEnded bound choices h.how h.drawn d e shown) (session_ended_silent bound choices h.how h.drawn shown) h.ended;
  }

  failed_session_silent : (s : Status) (blamed : Option failing.Outside) (bound : ℕ) (choices : Choices) (shown : List ℕ)
      → Silent (λ d e. FailedSession s blamed bound choices d e shown)
  failed_session_silent s blamed bound choices shown d e bytes h = record {
    failed = h.failed;
    blamed_is = h.blamed_is;
    status_is = h.status_is;
    moment = h.moment;
    comes = h.comes;
    at = at_silent h.moment shown d e bytes h.at;
  }

  pub broke_session_later : (s : Status) (blamed : Option failing.Outside) (bound : ℕ) (choices : Choices) (shown : List ℕ)
      → BrokeSession s blamed bound choices seen_then m shown → BrokeSession s blamed bound choices seen_now now shown
  broke_session_later s blamed bound choices shown told =
      told_later (λ d e. FailedSession s blamed bound choices d e shown) (failed_session_silent s blamed bound choices shown) told

  -- ---- commands

  pub record_later : {A : Type 0} (name : Option (List ℕ)) (steps steps' : AfterStep A → Type 0) (P P' : A → Type 0)
      → ((r : AfterStep A) → steps r → steps' r) → ((v : A) → P v → P' v) → AtRecord name steps P → AtRecord name steps' P'
  record_later None steps steps' P P' f g h = absurd h
  record_later (Some name) steps steps' P P' f g h = (h.0, f (goes h.0) h.1, g h.0 h.2)

  -- a command made of steps and an effect
  pub does_later : {A : Type 0} (steps steps' : AfterStep A → Type 0) (effect effect' : A → CommandEffect) (s : Status) (shown : List ℕ) (kernel : Lent)
      → ((r : AfterStep A) → steps r → steps' r) → ((v : A) → effect v s seen_then m shown kernel → effect' v s seen_now now shown kernel)
      → Does steps effect s seen_then m shown kernel → Does steps' effect' s seen_now now shown kernel
  does_later steps steps' effect effect' s shown kernel f g (inl h) = inl (f (stops s) h.0, nothing_later shown kernel h.1)
  does_later steps steps' effect effect' s shown kernel f g (inr h) = inr (h.0, f (goes h.0) h.1, g h.0 h.2)
