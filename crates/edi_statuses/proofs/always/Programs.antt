-- The commands that run a program: how each may end.
use Rattle.std.proofs.Common.{◌≡◌, ◌≤◌, ℕ, List, [], ◌∷◌, ◌++◌, Option, Some, None, refl, sym, subst, inl, inr}
use Rattle.std.specs.Prelude.{IfSome}
use Rattle.edi_calls.specs.Choice.{Choices}
use Rattle.edi_calls.specs.Outcome as outcome
use Rattle.edi_calls.specs.Outcome.{Ending}
use Rattle.edi_calls.specs.Names.{Name}
use Rattle.edi_calls.specs.State.{Traced, fresh}
use Rattle.edi_debug.specs.stops.Stops.{Watched, log_of}
use Rattle.edi_host.specs.Contents.{Contents}
use Rattle.edi_image.specs.Image.{mount_fault_of}
use Rattle.edi_target.specs.Check.{CodeParts}
use Rattle.edi_texts.specs.Texts.{IsUnit}
use Rattle.edi_texts.proofs.Executions.{accepted_texts_run}
use Rattle.edi_unit.specs.Tree.{ProgramUnit}
use Rattle.edi_walk.specs.Walk.{WalkEnds}
use Rattle.edi_walk.proofs.Ends.{every_walk_ends}
use Rattle.edi_runs.specs.watch.Logs.{IsLogOf}
use Rattle.edi_words.specs.Words as words
use Rattle.edi_words.specs.Words.{ChoicesFrom, Command, Options}
use Rattle.edi_statuses.specs.Outside.{Outside, Devices, Kept, KernelLeft, system_on, with_kept}
use Rattle.edi_statuses.specs.Steps.{goes, ◌>>=◌, Accepts, FindsPoints, Fetches, Loads, Mounts, ReadsChoices, Ready}
use Rattle.edi_statuses.specs.Executions.{Runnable, text, code, record_of, status_of}
use Rattle.edi_statuses.specs.Commands.{Runs, Watches, RunSteps, ExecSteps, WatchSteps, PointSteps}
use Rattle.edi_statuses.specs.Walked.{Walks}
use Rattle.edi_statuses.specs.Decided.{IsDecisive}
use Rattle.edi_statuses.specs.EachObject.{LeavesEach}
use Rattle.edi_statuses.specs.Always.{HasBlocks, MayCome, MayEnd, told_outside}
use Rattle.edi_statuses.proofs.always.Steps.{exec_some, run_some, watch_some}
use Rattle.edi_statuses.proofs.always.Ends.{does_some, of_table}
use Rattle.edi_statuses.proofs.always.Executions.{HasGone, IsRun, code_runs, count_at, devices_at, gone_first, gone_keeps, grows_at, shown_by_then}
use Rattle.edi_statuses.proofs.always.Executions.{shrinks_at, text_runs}
use Rattle.edi_statuses.proofs.always.Walks.{walk_ends_so}

-- ---- what the steps have found

-- the drive is a valid image, and this is what goes on
pub mounts_then : {A : Type 0} (o : Outside) (x a : A) → (Mounts o >>= λ done. Ready x) (goes a) → IfSome o.blocks (λ blocks. mount_fault_of blocks ≡ None) × (a ≡ x)
mounts_then o x a (inl never) = absurd never
mounts_then o x a (inr h) = (h.1, h.2)

module _ (o : Outside) where
  abbrev IsImageThere : Type 0
  IsImageThere = IfSome o.blocks (λ blocks. mount_fault_of blocks ≡ None)

  -- a text with its unit, on a valid image
  abbrev pub TextIsReady : List ℕ → Type 0
  TextIsReady bytes = ((unit : ProgramUnit) × IsUnit bytes unit) × IsImageThere

  accepts_then : (bytes : List ℕ) (choices : Choices) (a : List ℕ × Choices)
      → (Accepts bytes >>= λ unit. Mounts o >>= λ done. Ready (bytes, choices)) (goes a) → TextIsReady a.0
  accepts_then bytes choices a (inl never) = absurd never
  accepts_then bytes choices a (inr h) =
      let m = mounts_then o (bytes, choices) a h.2 in
      subst (λ (x : List ℕ × Choices). TextIsReady x.0) (sym m.1) ((h.0, h.1), m.0)

  choices_then : (bytes : List ℕ) (from : ChoicesFrom) (a : List ℕ × Choices)
      → (ReadsChoices o from >>= λ choices. Accepts bytes >>= λ unit. Mounts o >>= λ done. Ready (bytes, choices)) (goes a) → TextIsReady a.0
  choices_then bytes from a (inl never) = absurd never
  choices_then bytes from a (inr h) = accepts_then bytes h.0 a h.2

  pub run_then : (file : List ℕ) (from : ChoicesFrom) (a : List ℕ × Choices) → RunSteps o file from (goes a) → TextIsReady a.0
  run_then file from a (inl never) = absurd never
  run_then file from a (inr h) = choices_then h.0 from a h.2

  loads_then : (bytes : List ℕ) (choices : Choices) (a : CodeParts × Choices)
      → (Loads bytes >>= λ parts. Mounts o >>= λ done. Ready (parts, choices)) (goes a) → IsImageThere
  loads_then bytes choices a (inl never) = absurd never
  loads_then bytes choices a (inr h) = (mounts_then o (h.0, choices) a h.2).0

  code_then : (bytes : List ℕ) (from : ChoicesFrom) (a : CodeParts × Choices)
      → (ReadsChoices o from >>= λ choices. Loads bytes >>= λ parts. Mounts o >>= λ done. Ready (parts, choices)) (goes a) → IsImageThere
  code_then bytes from a (inl never) = absurd never
  code_then bytes from a (inr h) = loads_then bytes h.0 a h.2

  pub exec_then : (file : List ℕ) (from : ChoicesFrom) (a : CodeParts × Choices) → ExecSteps o file from (goes a) → IsImageThere
  exec_then file from a (inl never) = absurd never
  exec_then file from a (inr h) = code_then h.0 from a h.2

  -- a text that is watched

  -- the unit of the text, and the file of its points
  abbrev pub IsWatched : List ℕ × Choices × List Watched → Type 0
  IsWatched a = ((unit : ProgramUnit) × IsUnit a.0 unit) × ((lines : List ℕ) × FindsPoints a.0 lines (goes a.2))

  finds_then : (bytes lines : List ℕ) (choices : Choices) (unit : ProgramUnit) → IsUnit bytes unit → (a : List ℕ × Choices × List Watched)
      → (FindsPoints bytes lines >>= λ points. Ready (bytes, choices, points)) (goes a) → IsWatched a
  finds_then bytes lines choices unit is a (inl never) = absurd never
  finds_then bytes lines choices unit is a (inr h) = subst IsWatched (sym h.2) ((unit, is), (lines, h.1))

  lines_then : (bytes : List ℕ) (choices : Choices) (points_file : List ℕ) (unit : ProgramUnit) → IsUnit bytes unit → (a : List ℕ × Choices × List Watched)
      → (Fetches o points_file >>= λ lines. FindsPoints bytes lines >>= λ points. Ready (bytes, choices, points)) (goes a) → IsWatched a
  lines_then bytes choices points_file unit is a (inl never) = absurd never
  lines_then bytes choices points_file unit is a (inr h) = finds_then bytes h.0 choices unit is a h.2

  watched_then : (bytes : List ℕ) (choices : Choices) (points_file : List ℕ) (a : List ℕ × Choices × List Watched)
      → (Accepts bytes >>= λ unit. Fetches o points_file >>= λ lines. FindsPoints bytes lines >>= λ points. Ready (bytes, choices, points)) (goes a)
      → IsWatched a
  watched_then bytes choices points_file a (inl never) = absurd never
  watched_then bytes choices points_file a (inr h) = lines_then bytes choices points_file h.0 h.1 a h.2

  asked_then : (bytes points_file : List ℕ) (from : ChoicesFrom) (a : List ℕ × Choices × List Watched)
      → (ReadsChoices o from >>= λ choices. Accepts bytes >>= λ unit. Fetches o points_file >>= λ lines. FindsPoints bytes lines
      >>= λ points. Ready (bytes, choices, points)) (goes a) → IsWatched a
  asked_then bytes points_file from a (inl never) = absurd never
  asked_then bytes points_file from a (inr h) = watched_then bytes h.0 points_file a h.2

  points_then : (file points_file : List ℕ) (from : ChoicesFrom) (a : List ℕ × Choices × List Watched) → PointSteps o file points_file from (goes a)
      → IsWatched a
  points_then file points_file from a (inl never) = absurd never
  points_then file points_file from a (inr h) = asked_then h.0 points_file from a h.2

  pub watch_then : (file points_file : List ℕ) (from : ChoicesFrom) (a : List ℕ × Choices × List Watched) → WatchSteps o file points_file from (goes a)
      → IsWatched a × IsImageThere
  watch_then file points_file from a (inl never) = absurd never
  watch_then file points_file from a (inr h) =
      let m = mounts_then o h.0 a h.2 in
      (subst IsWatched (sym m.1) (points_then file points_file from h.0 h.1), m.0)

-- ---- the effects

pub decisive : (ending : Ending) → IsDecisive (status_of ending)
decisive outcome.done = tt
decisive (outcome.halted line) = tt
decisive (outcome.failed why line) = tt
decisive outcome.turns = tt
decisive outcome.standstill = tt
decisive (outcome.bad address) = tt

module _ (c : Command) (files : Contents) (d : Devices) (kernel : KernelLeft) where
  module _ (program : Runnable) (bound : ℕ) (choices : Choices) (run : IsRun program bound choices d) where
    -- the bytes that were shown, and what the terminal has taken then
    abbrev pub bytes_shown : List ℕ
    bytes_shown = shown_by_then d run.last run.gone

    abbrev pub devices_then : Devices
    devices_then = devices_at d run.last run.gone (d.shown ++ bytes_shown)

    pub each_ran : (kept : Contents) → LeavesEach (Some c) (told_outside files d) (told_outside kept devices_then)
    each_ran kept = record {
      drive = λ e before. run.gone.image.image.holds.valid;
      input = shrinks_at d run.last run.gone;
      printer = grows_at d run.last run.gone;
    }

    runs_some : (record_file : Option (List ℕ)) → MayCome c (Runs program bound choices record_file) files d kernel
    runs_some record_file = record {
      answer = status_of run.ending;
      decisive = decisive run.ending;
      files_after = with_kept (record_of record_file choices run.drawn) files;
      devices_after = devices_then;
      sized = λ h. run.gone.image.image.sized;
      shown = bytes_shown;
      left = run.left;
      comes = record {
        ending = run.ending;
        drawn = run.drawn;
        within = run.within;
        used = run.used;
        status_is = refl;
        ran = run.ran (d.shown ++ bytes_shown);
        keeps = refl;
      };
      shows = refl;
      each = each_ran (with_kept (record_of record_file choices run.drawn) files);
    }

  -- a run that is watched has a log
  log_some : (bytes : List ℕ) (unit : ProgramUnit) → IsUnit bytes unit → (bound : ℕ) (choices : Choices) (points : List Watched)
      → (log : List ℕ) × IsLogOf bytes (system_on d) bound choices points log
  log_some bytes unit is bound choices points =
      let run = (accepted_texts_run bytes unit is (system_on d) bound choices).1 in (
        log_of run.unit (fresh (system_on d)) bound run.run.4 points,
        record {
          unit = run.unit;
          unit_is = run.unit_is;
          ending = run.run.0;
          end = run.run.1;
          turns = run.run.2;
          drawn = run.run.3;
          order = run.run.4;
          selected = run.run.5;
          log_is = refl;
        },
      )

  watches_some : (bytes : List ℕ) (points : List Watched) (bound : ℕ) (choices : Choices) (out : List ℕ) (record_file : Option (List ℕ))
      → (run : IsRun (text bytes) bound choices d) → ((log : List ℕ) × IsLogOf bytes (system_on d) bound choices points log)
      → MayCome c (Watches bytes points bound choices out record_file) files d kernel
  watches_some bytes points bound choices out record_file run log =
      let kept : List Kept = (out, log.0) ∷ record_of record_file choices run.drawn in record {
        answer = status_of run.ending;
        decisive = decisive run.ending;
        files_after = with_kept kept files;
        devices_after = devices_then (text bytes) bound choices run;
        sized = λ h. run.gone.image.image.sized;
        shown = bytes_shown (text bytes) bound choices run;
        left = run.left;
        comes = record {
          ending = run.ending;
          drawn = run.drawn;
          within = run.within;
          used = run.used;
          status_is = refl;
          ran = run.ran (d.shown ++ bytes_shown (text bytes) bound choices run);
          log = log.0;
          log_is = log.1;
          keeps = refl;
        };
        shows = refl;
        each = each_ran (text bytes) bound choices run (with_kept kept files);
      }

  -- ---- a walk

  walks_some : (bytes : List ℕ) (unit : ProgramUnit) → IsUnit bytes unit → (bound : ℕ) (choices : Choices) → HasBlocks d
      → mount_fault_of d.blocks ≡ None → MayCome c (Walks bytes bound choices) files d kernel
  walks_some bytes unit is bound choices sized valid = of_walk (every_walk_ends unit (fresh (system_on d)) bound choices 0)
    where
      of_walk : ((ending : Ending) × (end : Traced) × (turns : ℕ) × (drawn : ℕ) × (order : List Name)
          × WalkEnds unit (fresh (system_on d)) bound choices 0 ending end turns drawn order) → MayCome c (Walks bytes bound choices) files d kernel
      of_walk (ending, end, turns, drawn, order, walk) =
          let so = walk_ends_so (HasGone (fresh (system_on d))) (gone_keeps (fresh (system_on d))) unit (fresh (system_on d)) bound choices 0 ending end turns
          drawn order (gone_first d sized valid) walk in
          let shown : List ℕ = shown_by_then d end.now so.1 in
          let after : Devices = devices_at d end.now so.1 (d.shown ++ shown) in record {
            answer = status_of ending;
            decisive = decisive ending;
            files_after = files;
            devices_after = after;
            sized = λ h. so.1.image.image.sized;
            shown = shown;
            left = kernel;
            comes = record {
              ending = ending;
              ends = so.0;
              status_is = refl;
              walked = record {
                last = end.now;
                walk = record {
                  unit = unit;
                  unit_is = is;
                  end = end;
                  turns = turns;
                  drawn = drawn;
                  order = order;
                  walk = walk;
                  last_is = refl;
                };
                leaves = record {
                  input = refl;
                  shown_ = sym so.1.goes.shown.1;
                  printed = refl;
                  disk = so.1.image.image.holds;
                  count = count_at d end.now so.1;
                };
              };
              files = refl;
              kernel_same = refl;
            };
            shows = refl;
            each = record {
              drive = λ e before. so.1.image.image.holds.valid;
              input = shrinks_at d end.now so.1;
              printer = grows_at d end.now so.1;
            };
          }

module _ (files : Contents) (d : Devices) (kernel : KernelLeft) (sized : HasBlocks d) where
  pub run_may : (file : List ℕ) (o : Options) → MayEnd (words.run file o) files d kernel
  run_may file o =
      of_table (words.run file o) files d kernel _
      (does_some (words.run file o) files d kernel (RunSteps (told_outside files d) file o.choices) (λ a. Runs (text a.0) o.turns a.1 o.record_file)
      (run_some files d file o.choices)
      (λ a went. let ready = run_then (told_outside files d) file o.choices a went in
      runs_some (words.run file o) files d kernel (text a.0) o.turns a.1 (text_runs a.0 ready.0.0 ready.0.1 o.turns a.1 d sized ready.1) o.record_file)) (λ s after shown k h. h)

  pub replay_may : (file choices : List ℕ) (turns : ℕ) → MayEnd (words.replay file choices turns) files d kernel
  replay_may file choices turns =
      of_table (words.replay file choices turns) files d kernel _
      (does_some (words.replay file choices turns) files d kernel (RunSteps (told_outside files d) file (words.file choices))
      (λ a. Runs (text a.0) turns a.1 None) (run_some files d file (words.file choices))
      (λ a went. let ready = run_then (told_outside files d) file (words.file choices) a went in
      runs_some (words.replay file choices turns) files d kernel (text a.0) turns a.1 (text_runs a.0 ready.0.0 ready.0.1 turns a.1 d sized ready.1) None)) (λ s after shown k h. h)

  pub walk_may : (file choices : List ℕ) (turns : ℕ) → MayEnd (words.walk file choices turns) files d kernel
  walk_may file choices turns =
      of_table (words.walk file choices turns) files d kernel _
      (does_some (words.walk file choices turns) files d kernel (RunSteps (told_outside files d) file (words.file choices))
      (λ a. Walks a.0 turns a.1) (run_some files d file (words.file choices))
      (λ a went. let ready = run_then (told_outside files d) file (words.file choices) a went in
      walks_some (words.walk file choices turns) files d kernel a.0 ready.0.0 ready.0.1 turns a.1 sized ready.1)) (λ s after shown k h. h)

  pub exec_may : (file : List ℕ) (o : Options) → MayEnd (words.exec file o) files d kernel
  exec_may file o =
      of_table (words.exec file o) files d kernel _
      (does_some (words.exec file o) files d kernel (ExecSteps (told_outside files d) file o.choices) (λ a. Runs (code a.0) o.turns a.1 o.record_file)
      (exec_some files d file o.choices)
      (λ a went. runs_some (words.exec file o) files d kernel (code a.0) o.turns a.1
      (code_runs a.0 o.turns a.1 d sized (exec_then (told_outside files d) file o.choices a went)) o.record_file)) (λ s after shown k h. h)

  pub watch_may : (file points_file out : List ℕ) (o : Options) → MayEnd (words.watch file points_file out o) files d kernel
  watch_may file points_file out o =
      of_table (words.watch file points_file out o) files d kernel _
      (does_some (words.watch file points_file out o) files d kernel (WatchSteps (told_outside files d) file points_file o.choices)
      (λ a. Watches a.0 a.2 o.turns a.1 out o.record_file) (watch_some files d file points_file o.choices)
      (λ a went. let ready = watch_then (told_outside files d) file points_file o.choices a went in
      watches_some (words.watch file points_file out o) files d kernel a.0 a.2 o.turns a.1 out o.record_file
      (text_runs a.0 ready.0.0.0 ready.0.0.1 o.turns a.1 d sized ready.1)
      (log_some (words.watch file points_file out o) files d kernel a.0 ready.0.0.0 ready.0.0.1 o.turns a.1 a.2))) (λ s after shown k h. h)
