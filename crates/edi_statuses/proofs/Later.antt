-- What a status means does not change where the terminal takes its line: the commands, and the statuses.
use Rattle.std.proofs.Common.{ℕ, List, [], ◌∷◌, Option, Some, None, inl, inr}
use Rattle.std.specs.Prelude.{◌⊎◌}
use Rattle.edi_calls.specs.Choice.{Choices}
use Rattle.edi_utils.specs.Demo.{demo_text}
use Rattle.edi_utils.specs.Listing.{listing_of}
use Rattle.edi_words.specs.Words as words
use Rattle.edi_words.specs.Words.{Account, Command, ExploreOptions, Options}
use Rattle.edi_statuses.specs.declared.status.Status.{Status}
use Rattle.edi_statuses.specs.declared.status.Status.TheVariants as status
use Rattle.edi_statuses.specs.Outside.{Outside, seen, Lent}
use Rattle.edi_statuses.specs.Steps.{AfterStep, goes, Fetches, Ready}
use Rattle.edi_statuses.specs.Executions.{Runnable, text, code, BrokeRun}
use Rattle.edi_statuses.specs.Sessions.{BootSteps, EndedUnkept, EndedWhole, HoldsSession}
use Rattle.edi_statuses.specs.Facts.{Comes}
use Rattle.edi_statuses.specs.Commands.{Does, IsDone, IsNothing, OnlyKeeps, OnlyBlocks, OnlyShows, ShowsReport, KeepsCode, Runs, AreNew, AreMigrated, ArePut}
use Rattle.edi_statuses.specs.Commands.{RunSteps, ExecSteps, WatchSteps, Watches, TextSteps, OldSteps, PutSteps, GetSteps, ListSteps, DemoSteps}
use Rattle.edi_statuses.specs.Commands.{Demonstrates, Explains, OnItsOwn}
use Rattle.edi_statuses.specs.Broken.{AtRecord, HasBegun, RanWhole, RanUnkept, IsOpen, ArePutInPart}
use Rattle.edi_statuses.specs.Means.{ComesToBreak, Means, MeansOf, MeansRefused, Wants}
use Rattle.edi_statuses.specs.Decided.{with_shown}
use Rattle.edi_statuses.proofs.Terminal.{StillTold, asks_later, fetch_fails_later, run_later, exec_later, watch_later, text_later, old_later, put_later, get_later, nothing_later, begun_later}
use Rattle.edi_statuses.proofs.Terminal.{drive_later, keeps_later, blocks_later, code_later, runs_later, whole_later, unkept_later, broke_later}
use Rattle.edi_statuses.proofs.Terminal.{record_later, does_later, list_later, shows_later, front_later, demo_later, fetches_later}
use Rattle.edi_statuses.proofs.Demonstrated.{demonstrates_later, own_unkept, own_whole, broke_demo_later, demo_with_by}
use Rattle.edi_statuses.proofs.Watched.{watches_later, watched_wants, watched_lost, watched_broke}
use Rattle.edi_statuses.proofs.Accounts.{with_later_by}
use Rattle.edi_statuses.proofs.Walked.{walks_later, walked_failed, walked_wants}
use Rattle.edi_statuses.proofs.Explored.{explored_cut, explored_lost, explored_took, explored_wants, explores_later}
use Rattle.edi_statuses.specs.Explored.{ExploresText}
use Rattle.edi_statuses.specs.Walked.{Walks}
use Rattle.edi_statuses.proofs.Terminal.{boot_later, holds_later, ended_later, broke_session_later}

module _ (b m : Outside) (y : Option (List ℕ)) (still : StillTold m.shown y) where
  abbrev before_ : Outside
  before_ = seen b m

  abbrev later_ : Outside
  later_ = with_shown y m

  abbrev seen_later : Outside
  seen_later = seen b (with_shown y m)

  -- of one command
  record Later (c : Command) (shown : List ℕ) (kernel : Lent) : Type 0 where
    comes : (s : Status) → Comes c s before_ m shown kernel → Comes c s seen_later later_ shown kernel
    wants : Wants c before_ m shown kernel → Wants c seen_later later_ shown kernel
    files : ComesToBreak status.FileFault c before_ m shown kernel → ComesToBreak status.FileFault c seen_later later_ shown kernel
    drive : ComesToBreak status.DriveFault c before_ m shown kernel → ComesToBreak status.DriveFault c seen_later later_ shown kernel
    input : ComesToBreak status.InputFault c before_ m shown kernel → ComesToBreak status.InputFault c seen_later later_ shown kernel
    output : ComesToBreak status.OutputFault c before_ m shown kernel → ComesToBreak status.OutputFault c seen_later later_ shown kernel

  -- ---- commands that run programs

  -- of one that runs a program to which its steps lead
  record RunLater {A : Type 0} (steps steps' : AfterStep A → Type 0) (program : A → Runnable) (choices : A → Choices) (bound : ℕ) (name : Option (List ℕ))
      (shown : List ℕ) (kernel : Lent) : Type 0 where
    comes : (s : Status) → Does steps (λ v. Runs (program v) bound (choices v) name) s before_ m shown kernel
        → Does steps' (λ v. Runs (program v) bound (choices v) name) s seen_later later_ shown kernel
    wants : IsNothing before_ m shown kernel ⊎ AtRecord name steps (λ v. RanUnkept (program v) bound (choices v) before_ m shown kernel)
        → IsNothing seen_later later_ shown kernel ⊎ AtRecord name steps' (λ v. RanUnkept (program v) bound (choices v) seen_later later_ shown kernel)
    files : AtRecord name steps (λ v. RanWhole (program v) bound (choices v) before_ m shown kernel)
        → AtRecord name steps' (λ v. RanWhole (program v) bound (choices v) seen_later later_ shown kernel)
    broke : (s : Status) → HasBegun steps (λ v. BrokeRun s kernel.failed (program v) bound (choices v) before_ m shown)
        → HasBegun steps' (λ v. BrokeRun s kernel.failed (program v) bound (choices v) seen_later later_ shown)

  -- memory is wanting before the first effect, or at the record
  wants_later : {A : Type 0} (name : Option (List ℕ)) (steps steps' : AfterStep A → Type 0) (P P' : A → Type 0) (shown : List ℕ) (kernel : Lent)
      → ((r : AfterStep A) → steps r → steps' r) → ((v : A) → P v → P' v) → IsNothing before_ m shown kernel ⊎ AtRecord name steps P
      → IsNothing seen_later later_ shown kernel ⊎ AtRecord name steps' P'
  wants_later name steps steps' P P' shown kernel f g (inl h) = inl (nothing_later b m y still shown kernel h)
  wants_later name steps steps' P P' shown kernel f g (inr h) = inr (record_later b m y still name steps steps' P P' f g h)

  run_later_by : {A : Type 0} (steps steps' : AfterStep A → Type 0) (program : A → Runnable) (choices : A → Choices) (bound : ℕ) (name : Option (List ℕ))
      (shown : List ℕ) (kernel : Lent) → ((r : AfterStep A) → steps r → steps' r) → RunLater steps steps' program choices bound name shown kernel
  run_later_by steps steps' program choices bound name shown kernel go = record {
    comes = λ s. does_later b m y still steps steps' (λ v. Runs (program v) bound (choices v) name) (λ v. Runs (program v) bound (choices v) name) s shown
        kernel go (λ v. runs_later b m y still (program v) bound (choices v) name s shown kernel);
    wants = wants_later name steps steps' (λ v. RanUnkept (program v) bound (choices v) before_ m shown kernel)
        (λ v. RanUnkept (program v) bound (choices v) seen_later later_ shown kernel) shown kernel go
        (λ v. unkept_later b m y still (program v) bound (choices v) shown kernel);
    files = record_later b m y still name steps steps' (λ v. RanWhole (program v) bound (choices v) before_ m shown kernel)
        (λ v. RanWhole (program v) bound (choices v) seen_later later_ shown kernel) go
        (λ v. whole_later b m y still (program v) bound (choices v) shown kernel);
    broke = λ s h. (h.0, go (goes h.0) h.1, broke_later b m y still s kernel.failed (program h.0) bound (choices h.0) shown h.2);
  }

  run_is : (file : List ℕ) (options : Options) (shown : List ℕ) (kernel : Lent) → Later (words.run file options) shown kernel
  run_is file options shown kernel =
      let r = run_later_by (RunSteps before_ file options.choices) (RunSteps seen_later file options.choices) (λ v. text v.0) (λ v. v.1) options.turns
      options.record_file shown kernel (run_later b m y still file options.choices) in
      record { comes = r.comes; wants = r.wants; files = r.files; drive = r.broke status.DriveFault; input = r.broke status.InputFault; output = r.broke status.OutputFault }

  replay_is : (file choices : List ℕ) (turns : ℕ) (shown : List ℕ) (kernel : Lent) → Later (words.replay file choices turns) shown kernel
  replay_is file choices turns shown kernel =
      let r = run_later_by (RunSteps before_ file (words.file choices)) (RunSteps seen_later file (words.file choices)) (λ v. text v.0) (λ v. v.1) turns
      None shown kernel (run_later b m y still file (words.file choices)) in
      record {
        comes = r.comes;
        wants = nothing_later b m y still shown kernel;
        files = λ h. absurd h;
        drive = r.broke status.DriveFault;
        input = r.broke status.InputFault;
        output = r.broke status.OutputFault;
      }

  exec_is : (file : List ℕ) (options : Options) (shown : List ℕ) (kernel : Lent) → Later (words.exec file options) shown kernel
  exec_is file options shown kernel =
      let r = run_later_by (ExecSteps before_ file options.choices) (ExecSteps seen_later file options.choices) (λ v. code v.0) (λ v. v.1) options.turns
      options.record_file shown kernel (exec_later b m y still file options.choices) in
      record { comes = r.comes; wants = r.wants; files = r.files; drive = r.broke status.DriveFault; input = r.broke status.InputFault; output = r.broke status.OutputFault }

  run_with_is : (file : List ℕ) (account : Account) (options : Options) (shown : List ℕ) (kernel : Lent) → Later (words.run_with file account options) shown kernel
  run_with_is file account options shown kernel =
      let r = with_later_by b m y still (RunSteps before_ file options.choices) (RunSteps seen_later file options.choices) (λ v. text v.0) (λ v. v.1)
      options.turns account options.record_file shown kernel (run_later b m y still file options.choices) in
      record { comes = r.comes; wants = r.wants; files = r.files; drive = r.broke status.DriveFault; input = r.broke status.InputFault; output = r.broke status.OutputFault }

  exec_with_is : (file : List ℕ) (account : Account) (options : Options) (shown : List ℕ) (kernel : Lent) → Later (words.exec_with file account options) shown kernel
  exec_with_is file account options shown kernel =
      let r = with_later_by b m y still (ExecSteps before_ file options.choices) (ExecSteps seen_later file options.choices) (λ v. code v.0) (λ v. v.1)
      options.turns account options.record_file shown kernel (exec_later b m y still file options.choices) in
      record { comes = r.comes; wants = r.wants; files = r.files; drive = r.broke status.DriveFault; input = r.broke status.InputFault; output = r.broke status.OutputFault }

  watch_is : (file points_file out : List ℕ) (options : Options) (shown : List ℕ) (kernel : Lent) → Later (words.watch file points_file out options) shown kernel
  watch_is file points_file out options shown kernel =
      let steps = watch_later b m y still file points_file options.choices in
      let broke = watched_broke b m y still file points_file options.choices options.turns shown kernel.failed in
      record {
        comes = λ s. does_later b m y still (WatchSteps before_ file points_file options.choices) (WatchSteps seen_later file points_file options.choices)
            (λ a. Watches a.0 a.2 options.turns a.1 out options.record_file) (λ a. Watches a.0 a.2 options.turns a.1 out options.record_file) s shown
            kernel steps (λ a. watches_later b m y still a.0 a.2 options.turns a.1 out options.record_file s shown kernel);
        wants = watched_wants b m y still file points_file out options shown kernel;
        files = watched_lost b m y still file points_file out options shown kernel;
        drive = broke status.DriveFault;
        input = broke status.InputFault;
        output = broke status.OutputFault;
      }

  walk_is : (file choices : List ℕ) (turns : ℕ) (shown : List ℕ) (kernel : Lent) → Later (words.walk file choices turns) shown kernel
  walk_is file choices turns shown kernel =
      let failed = walked_failed b m y still file choices turns shown kernel in
      record {
        comes = λ s. does_later b m y still (RunSteps before_ file (words.file choices)) (RunSteps seen_later file (words.file choices))
            (λ a. Walks a.0 turns a.1) (λ a. Walks a.0 turns a.1) s shown kernel (run_later b m y still file (words.file choices))
            (λ a. walks_later b m y still a.0 turns a.1 s shown kernel);
        wants = walked_wants b m y still file choices turns shown kernel;
        files = λ h. absurd h;
        drive = failed status.DriveFault;
        input = failed status.InputFault;
        output = failed status.OutputFault;
      }

  demo_is : (n : ℕ) (options : Options) (shown : List ℕ) (kernel : Lent) → Later (words.demo n options) shown kernel
  demo_is n options shown kernel =
      let steps = demo_later b m y still options.choices in
      record {
        comes = λ s. does_later b m y still (DemoSteps before_ options.choices) (DemoSteps seen_later options.choices)
            (λ v. Demonstrates n options.turns v options.record_file) (λ v. Demonstrates n options.turns v options.record_file) s shown kernel steps
            (λ v. demonstrates_later b m y still n options.turns v options.record_file kernel s shown);
        wants = wants_later options.record_file (DemoSteps before_ options.choices) (DemoSteps seen_later options.choices)
            (λ v. OnItsOwn (λ a c. RanUnkept (text (demo_text n)) options.turns v a c shown kernel) before_ m)
            (λ v. OnItsOwn (λ a c. RanUnkept (text (demo_text n)) options.turns v a c shown kernel) seen_later later_) shown kernel steps
            (λ v. own_unkept b m y still n options.turns v options.record_file kernel shown);
        files = record_later b m y still options.record_file (DemoSteps before_ options.choices) (DemoSteps seen_later options.choices)
            (λ v. OnItsOwn (λ a c. RanWhole (text (demo_text n)) options.turns v a c shown kernel) before_ m)
            (λ v. OnItsOwn (λ a c. RanWhole (text (demo_text n)) options.turns v a c shown kernel) seen_later later_) steps
            (λ v. own_whole b m y still n options.turns v options.record_file kernel shown);
        drive = λ h. absurd h;
        input = λ h. absurd h;
        output = λ h. (h.0, steps (goes h.0) h.1, broke_demo_later b m y still n options.turns h.0 options.record_file kernel shown h.2);
      }

  demo_with_is : (n : ℕ) (account : Account) (options : Options) (shown : List ℕ) (kernel : Lent) → Later (words.demo_with n account options) shown kernel
  demo_with_is n account options shown kernel =
      let r = demo_with_by b m y still n options.turns options.choices account options.record_file shown kernel in
      record { comes = r.comes; wants = r.wants; files = r.files; drive = λ h. absurd h; input = λ h. absurd h; output = r.output }

  boot_is : (options : Options) (shown : List ℕ) (kernel : Lent) → Later (words.boot options) shown kernel
  boot_is options shown kernel =
      let steps = boot_later b m y still options.choices in
      record {
        comes = λ s. does_later b m y still (BootSteps before_ options.choices) (BootSteps seen_later options.choices)
            (λ v s b a shown k. HoldsSession options.turns v options.record_file s b a shown)
            (λ v s b a shown k. HoldsSession options.turns v options.record_file s b a shown) s shown kernel steps
            (λ v. holds_later b m y still options.turns v options.record_file s shown);
        wants = wants_later options.record_file (BootSteps before_ options.choices) (BootSteps seen_later options.choices)
            (λ v. EndedUnkept options.turns v before_ m shown) (λ v. EndedUnkept options.turns v seen_later later_ shown) shown kernel steps
            (λ v h. (ended_later b m y still options.turns v shown h.0, h.1));
        files = record_later b m y still options.record_file (BootSteps before_ options.choices) (BootSteps seen_later options.choices)
            (λ v. EndedWhole options.turns v before_ m shown) (λ v. EndedWhole options.turns v seen_later later_ shown) steps
            (λ v. ended_later b m y still options.turns v shown);
        drive = λ h. (h.0, steps (goes h.0) h.1, broke_session_later b m y still status.DriveFault kernel.failed options.turns h.0 shown h.2);
        input = λ h. (h.0, steps (goes h.0) h.1, broke_session_later b m y still status.InputFault kernel.failed options.turns h.0 shown h.2);
        output = λ h. (h.0, steps (goes h.0) h.1, broke_session_later b m y still status.OutputFault kernel.failed options.turns h.0 shown h.2);
      }

  -- ---- other commands

  compile_is : (file out shown : List ℕ) (kernel : Lent) → Later (words.compile file out) shown kernel
  compile_is file out shown kernel = record {
    comes = λ s. does_later b m y still (TextSteps before_ file) (TextSteps seen_later file) (λ a. IsDone (KeepsCode out a.0 a.1))
        (λ a. IsDone (KeepsCode out a.0 a.1)) s shown kernel (text_later b m y still file) (λ a h. (h.0, code_later b m y still out a.0 a.1 shown kernel h.1));
    wants = nothing_later b m y still shown kernel;
    files = λ h. (h.0, text_later b m y still file (goes h.0) h.1, begun_later b m y still shown kernel h.2);
    drive = λ h. absurd h;
    input = λ h. absurd h;
    output = λ h. absurd h;
  }

  new_is : (blocks : ℕ) (old : Option (List ℕ)) (shown : List ℕ) (kernel : Lent) → Later (words.newdisk blocks old) shown kernel
  new_is blocks None shown kernel = record {
    comes = λ s. does_later b m y still (Ready blocks) (Ready blocks) (λ count. IsDone (OnlyBlocks (AreNew count)))
        (λ count. IsDone (OnlyBlocks (AreNew count))) s shown kernel (λ r h. h) (λ count h. (h.0, blocks_later b m y still (AreNew count) shown kernel h.1));
    wants = nothing_later b m y still shown kernel;
    files = λ h. absurd h;
    drive = drive_later b m y still IsOpen shown kernel;
    input = λ h. absurd h;
    output = λ h. absurd h;
  }
  new_is blocks (Some file) shown kernel = record {
    comes = λ s. does_later b m y still (OldSteps before_ blocks file) (OldSteps seen_later blocks file)
        (λ old. IsDone (OnlyBlocks (AreMigrated blocks old))) (λ old. IsDone (OnlyBlocks (AreMigrated blocks old))) s shown kernel
        (old_later b m y still blocks file) (λ old h. (h.0, blocks_later b m y still (AreMigrated blocks old) shown kernel h.1));
    wants = nothing_later b m y still shown kernel;
    files = λ h. absurd h;
    drive = λ h. (h.0, old_later b m y still blocks file (goes h.0) h.1, drive_later b m y still IsOpen shown kernel h.2);
    input = λ h. absurd h;
    output = λ h. absurd h;
  }

  put_is : (file title shown : List ℕ) (kernel : Lent) → Later (words.put file title) shown kernel
  put_is file title shown kernel = record {
    comes = λ s. does_later b m y still (PutSteps before_ file title) (PutSteps seen_later file title)
        (λ bytes. IsDone (OnlyBlocks (ArePut title bytes))) (λ bytes. IsDone (OnlyBlocks (ArePut title bytes))) s shown kernel
        (put_later b m y still file title) (λ bytes h. (h.0, blocks_later b m y still (ArePut title bytes) shown kernel h.1));
    wants = nothing_later b m y still shown kernel;
    files = λ h. absurd h;
    drive = λ h. (h.0, put_later b m y still file title (goes h.0) h.1, drive_later b m y still (ArePutInPart title h.0) shown kernel h.2);
    input = λ h. absurd h;
    output = λ h. absurd h;
  }

  get_is : (title file shown : List ℕ) (kernel : Lent) → Later (words.get title file) shown kernel
  get_is title file shown kernel = record {
    comes = λ s. does_later b m y still (GetSteps before_ title) (GetSteps seen_later title) (λ bytes. IsDone (OnlyKeeps ((file, bytes) ∷ [])))
        (λ bytes. IsDone (OnlyKeeps ((file, bytes) ∷ []))) s shown kernel (get_later b m y still title)
        (λ bytes h. (h.0, keeps_later b m y still ((file, bytes) ∷ []) shown kernel h.1));
    wants = nothing_later b m y still shown kernel;
    files = λ h. (h.0, get_later b m y still title (goes h.0) h.1, begun_later b m y still shown kernel h.2);
    drive = λ h. absurd h;
    input = λ h. absurd h;
    output = λ h. absurd h;
  }

  list_is : (file shown : List ℕ) (kernel : Lent) → Later (words.list file) shown kernel
  list_is file shown kernel = record {
    comes = λ s. does_later b m y still (ListSteps before_ file) (ListSteps seen_later file) (λ parts. IsDone (OnlyShows (listing_of parts.words)))
        (λ parts. IsDone (OnlyShows (listing_of parts.words))) s shown kernel (list_later b m y still file)
        (λ parts h. (h.0, shows_later b m y still (listing_of parts.words) shown kernel h.1));
    wants = nothing_later b m y still shown kernel;
    files = λ h. absurd h;
    drive = λ h. absurd h;
    input = λ h. absurd h;
    output = λ h.
        (h.0, list_later b m y still file (goes h.0) h.1, front_later b m y still (listing_of h.0.words) shown kernel h.2);
  }

  check_is : (file shown : List ℕ) (kernel : Lent) → Later (words.check file) shown kernel
  check_is file shown kernel = record {
    comes = λ s. does_later b m y still (TextSteps before_ file) (TextSteps seen_later file) (λ a. IsDone (ShowsReport a.1))
        (λ a. IsDone (ShowsReport a.1)) s shown kernel (text_later b m y still file)
        (λ a h. (h.0, (h.1.0, h.1.1, shows_later b m y still h.1.0 shown kernel h.1.2)));
    wants = nothing_later b m y still shown kernel;
    files = λ h. absurd h;
    drive = λ h. absurd h;
    input = λ h. absurd h;
    output = λ h.
        (h.0, text_later b m y still file (goes h.0) h.1, (h.2.0, h.2.1, front_later b m y still h.2.0 shown kernel h.2.2));
  }

  explain_is : (file shown : List ℕ) (kernel : Lent) → Later (words.explain file) shown kernel
  explain_is file shown kernel = record {
    comes = λ s. does_later b m y still (Fetches before_ file) (Fetches seen_later file) Explains Explains s shown kernel (fetches_later b m y still file)
        (λ bytes h. (h.0, h.1, shows_later b m y still h.0 shown kernel h.2));
    wants = nothing_later b m y still shown kernel;
    files = λ h. absurd h;
    drive = λ h. absurd h;
    input = λ h. absurd h;
    output = λ h.
        (h.0, fetches_later b m y still file (goes h.0) h.1, (h.2.0, h.2.1, h.2.2, front_later b m y still h.2.1 shown kernel h.2.3));
  }

  explore_is : (file : List ℕ) (o : ExploreOptions) (shown : List ℕ) (kernel : Lent) → Later (words.explore file o) shown kernel
  explore_is file o shown kernel = record {
    comes = λ s. does_later b m y still (TextSteps before_ file) (TextSteps seen_later file) (λ a. ExploresText a.0 a.1 o) (λ a. ExploresText a.0 a.1 o)
        s shown kernel (text_later b m y still file) (λ a. explores_later b m y still a.0 a.1 o s shown kernel);
    wants = explored_wants b m y still file o shown kernel;
    files = explored_lost b m y still file o shown;
    drive = λ h. absurd h;
    input = explored_took b m y still file shown kernel;
    output = explored_cut b m y still file o shown;
  }

  each_is : (c : Command) (shown : List ℕ) (kernel : Lent) → Later c shown kernel
  each_is (words.run file options) shown kernel = run_is file options shown kernel
  each_is (words.replay file choices turns) shown kernel = replay_is file choices turns shown kernel
  each_is (words.exec file options) shown kernel = exec_is file options shown kernel
  each_is (words.compile file out) shown kernel = compile_is file out shown kernel
  each_is (words.newdisk blocks old) shown kernel = new_is blocks old shown kernel
  each_is (words.put file title) shown kernel = put_is file title shown kernel
  each_is (words.get title file) shown kernel = get_is title file shown kernel
  each_is (words.list file) shown kernel = list_is file shown kernel
  each_is (words.demo n options) shown kernel = demo_is n options shown kernel
  each_is (words.boot options) shown kernel = boot_is options shown kernel
  each_is (words.check file) shown kernel = check_is file shown kernel
  each_is (words.explain file) shown kernel = explain_is file shown kernel
  each_is (words.walk file choices turns) shown kernel = walk_is file choices turns shown kernel
  each_is (words.watch file points_file out options) shown kernel = watch_is file points_file out options shown kernel
  each_is (words.explore file options) shown kernel = explore_is file options shown kernel
  each_is (words.run_with file account options) shown kernel = run_with_is file account options shown kernel
  each_is (words.exec_with file account options) shown kernel = exec_with_is file account options shown kernel
  each_is (words.demo_with n account options) shown kernel = demo_with_is n account options shown kernel

  -- ---- the statuses

  means_later : (s : Status) (c : Command) (shown : List ℕ) (kernel : Lent) → MeansOf s c before_ m shown kernel → MeansOf s c seen_later later_ shown kernel
  means_later status.Words c shown kernel h = absurd h
  means_later status.NoMemory c shown kernel h = (each_is c shown kernel).wants h
  means_later status.FileFault c shown kernel h = record {
    uses = h.uses;
    far =
        elim h.far [
          | inl none ↦ inl (none.0, fetch_fails_later b m y still c none.1, begun_later b m y still shown kernel none.2)
          | inr far ↦ inr (far.0, (each_is c shown kernel).files far.1)
        ];
  }
  means_later status.DriveFault c shown kernel h = record {
    uses = h.uses;
    far = (
      h.far.0,
      elim h.far.1 [
        | inl none ↦ inl (asks_later b m y still c none.0, begun_later b m y still shown kernel none.1)
        | inr far ↦ inr ((each_is c shown kernel).drive far)
      ],
    );
  }
  means_later status.InputFault c shown kernel h = record { uses = h.uses; far = (h.far.0, (each_is c shown kernel).input h.far.1) }
  means_later status.OutputFault c shown kernel h = record { uses = h.uses; far = (h.far.0, (each_is c shown kernel).output h.far.1) }
  means_later status.Ok c shown kernel h = (each_is c shown kernel).comes status.Ok h
  means_later (status.Refused kind line) c shown kernel h = (each_is c shown kernel).comes (status.Refused kind line) h
  means_later (status.Stopped cause line) c shown kernel h = (each_is c shown kernel).comes (status.Stopped cause line) h
  means_later status.Turns c shown kernel h = (each_is c shown kernel).comes status.Turns h
  means_later (status.BadImage broken) c shown kernel h = (each_is c shown kernel).comes (status.BadImage broken) h
  means_later (status.BadCode broken) c shown kernel h = (each_is c shown kernel).comes (status.BadCode broken) h
  means_later (status.BadState address) c shown kernel h = (each_is c shown kernel).comes (status.BadState address) h
  means_later status.Absent c shown kernel h = (each_is c shown kernel).comes status.Absent h
  means_later (status.BadChoices line) c shown kernel h = (each_is c shown kernel).comes (status.BadChoices line) h
  means_later status.SessionLimit c shown kernel h = (each_is c shown kernel).comes status.SessionLimit h
  means_later status.DiskFull c shown kernel h = (each_is c shown kernel).comes status.DiskFull h
  means_later status.FileLarge c shown kernel h = (each_is c shown kernel).comes status.FileLarge h
  means_later status.Standstill c shown kernel h = (each_is c shown kernel).comes status.Standstill h
  means_later (status.BadPoints line) c shown kernel h = (each_is c shown kernel).comes (status.BadPoints line) h
  means_later (status.Found others) c shown kernel h = (each_is c shown kernel).comes (status.Found others) h
  means_later status.NotAll c shown kernel h = (each_is c shown kernel).comes status.NotAll h
  means_later status.InputLimit c shown kernel h = (each_is c shown kernel).comes status.InputLimit h
  means_later status.NoEnding c shown kernel h = (each_is c shown kernel).comes status.NoEnding h

  refused_later : (s : Status) (shown : List ℕ) (kernel : Lent) → MeansRefused s b m shown kernel → MeansRefused s b later_ shown kernel
  refused_later status.Words shown kernel h = record {
    shown_ = h.shown_;
    same = record { files = h.same.files; blocks = h.same.blocks; input = h.same.input; printed = h.same.printed };
    kernel_same = h.kernel_same;
  }
  refused_later status.NoMemory shown kernel h = record {
    shown_ = h.shown_;
    same = record { files = h.same.files; blocks = h.same.blocks; input = h.same.input; printed = h.same.printed };
    kernel_same = h.kernel_same;
  }
  refused_later s shown kernel h = absurd h

  -- WHAT A STATUS MEANS, behind its line
  pub later : (s : Status) (c : Option Command) (shown : List ℕ) (kernel : Lent) → Means s c b m shown kernel → Means s c b (with_shown y m) shown kernel
  later s None shown kernel h = refused_later s shown kernel h
  later s (Some c) shown kernel h = means_later s c shown kernel h
