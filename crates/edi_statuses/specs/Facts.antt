-- Definition. THE TABLE OF COMMANDS: for each a row of facts, `facts_of`, with its steps and its effect. All that is said of a command by name
-- stands there; whatever else is said of a command is read off its row.
use Rattle.std.specs.Prelude.{◌≡◌, ◌≤◌, ◌⊎◌, ℕ, Bool, true, false, List, [], ◌∷◌, Option, Some, None, ⊤}
use Rattle.edi_calls.specs.Choice.{Choices}
use Rattle.edi_calls.specs.State.{is_title}
use Rattle.edi_unit.specs.Tree.{ProgramUnit}
use Rattle.edi_debug.specs.stops.Stops.{Watched}
use Rattle.edi_utils.specs.Demo.{demo_text}
use Rattle.edi_utils.specs.Listing.{listing_of}
use Rattle.edi_words.specs.Words as words
use Rattle.edi_words.specs.Words.{Account, ChoicesFrom, Command}
use Rattle.edi_statuses.specs.declared.status.Status.{Status}
use Rattle.edi_statuses.specs.declared.status.Status.TheVariants as status
use Rattle.edi_statuses.specs.Outside.{Outside, Lent}
use Rattle.edi_statuses.specs.Steps.{AfterStep, ◌>>=◌, Fetches, ReadsChoices, FitsDisk, Ready}
use Rattle.edi_statuses.specs.Executions.{Runnable, text, code, BrokeRun}
use Rattle.edi_statuses.specs.Sessions.{BootSteps, BrokeSession, EndedUnkept, EndedWhole, HoldsSession}
use Rattle.edi_statuses.specs.Commands.{CommandEffect, Does, IsDone, Runs, Watches, KeepsCode, OnlyBlocks, OnlyKeeps, OnlyShows, ShowsReport}
use Rattle.edi_statuses.specs.Commands.{Explains, Demonstrates, DemonstratesWith, AreNew, AreMigrated, ArePut}
use Rattle.edi_statuses.specs.Commands.{IsNothing, OnItsOwn, RunSteps, ExecSteps, WatchSteps, TextSteps, OldSteps, PutSteps, GetSteps, ListSteps, DemoSteps}
use Rattle.edi_statuses.specs.Broken.{RanWhole, RanUnkept, AtRecord, HasNotBegun, ChangesDrive, ArePutInPart, IsOpen, BrokeDemo, BrokeDemoWith}
use Rattle.edi_statuses.specs.Broken.{ShowsFront, ShowsReportFront, ExplainsFront}
use Rattle.edi_statuses.specs.Broken.{HasBegun, WentOn, RunAsks, ExecAsks, WatchAsks, WatchedLost, WatchedUnkept}
use Rattle.edi_statuses.specs.Walked.{BrokeWalk, FailedWalk, Walks}
use Rattle.edi_statuses.specs.Explored.{ExploresText, ExploredFront, ExploredInPart, ExploredThen, FailsIn, LosesNext, OnlyAccepts, names_of_records}
use Rattle.edi_statuses.specs.Accounts.{RunsWith, AccountInPart, AccountLost, account_names, is_dump}

-- ---- facts

-- the first file that a command fetches: there is none; it has this name; or it is that of the choices, if they stand in a file
pub data FirstFile : Type 0 where
  no_file : FirstFile
  file_named : (name : List ℕ) → FirstFile
  file_of_choices : ChoicesFrom → FirstFile

-- What a command does with the drive: it leaves it alone; it mounts it after its other steps, or before them; or it formats it with so many
-- blocks.
pub data DriveUse : Type 0 where
  leaves_drive : DriveUse
  mounts_last : DriveUse
  mounts_first : DriveUse
  formats_to : (blocks : ℕ) → DriveUse

-- what a command leaves: the outside before and after it, what it has shown before the line of its status, and the kernel
abbrev pub Left : Type 1
Left = Outside → Outside → (shown : List ℕ) → Lent → Type 0

-- its steps in their order, and the effect that it has with what they give
pub record Work : Type 1 where
  pub Found : Type 0
  pub steps : Outside → AfterStep Found → Type 0
  pub effect : Found → CommandEffect

abbrev pub by_steps : {A : Type 0} → (steps : Outside → AfterStep A → Type 0) → (effect : A → CommandEffect) → Work
by_steps {A = A} steps effect = record { Found = A; steps = steps; effect = effect }

pub record Facts : Type 1 where
  pub work : Work
  -- what its words give: ranges of numbers, and a title
  pub ranges : Type 0
  -- It tells a watcher how far it is, which is no part of what the call shows.
  pub watched : Bool
  -- Contents decide how it ends, unless an object fails or memory runs out. They do not where memory may run out at single lines of a session, or in
  -- a search that then tells what it has found.
  pub decided : Bool
  -- It keeps a dump. Contents do not decide which one: it tells a process that was stopped by the bound on the turns behind its last instruction or before it.
  pub dumps : Bool
  -- It shows nothing but the line of its status.
  pub silent : Bool
  -- It sees the terminal and the printer.
  pub devices : Bool
  -- It runs on the lent kernel.
  pub kernel : Bool
  -- It sees the input.
  pub input : Bool
  pub drive : DriveUse
  pub fetches : FirstFile
  -- the names under which it keeps what it makes, and the one under which it keeps the record of its choices
  pub keeps : List (List ℕ)
  pub record_file : Option (List ℕ)
  -- It keeps its files before it shows its last bytes.
  pub keeps_first : Bool
  -- The steps have come to the drive: so it is where the drive fails and the command has not begun.
  pub asks_drive : Outside → Type 0
  -- what it leaves where memory runs out, and where each object fails after its steps; the printer's faults are those of the output
  pub no_memory : Left
  pub files_failed : Left
  pub drive_failed : Left
  pub input_failed : Left
  pub output_failed : Left

abbrev pub never : Left
never before after shown kernel = ⊥

-- A command that uses no object and that none can break off. Each row says how its command differs from it. What a row passes over is claimed as it
-- is here, which is the most that can be claimed, but for want of memory, which any command may meet before it has done anything.
abbrev pub plain : Work → Facts
plain work = record {
  work = work;
  ranges = ⊤;
  watched = false;
  decided = true;
  dumps = false;
  silent = true;
  devices = false;
  kernel = false;
  input = false;
  drive = leaves_drive;
  fetches = no_file;
  keeps = [];
  record_file = None;
  keeps_first = false;
  asks_drive = λ before. ⊥;
  no_memory = IsNothing;
  files_failed = never;
  drive_failed = never;
  input_failed = never;
  output_failed = never;
}

-- ---- what is left behind the steps

-- they went on, and then this is left
abbrev pub begun : {A : Type 0} → (steps : Outside → AfterStep A → Type 0) → (A → Left) → Left
begun steps P before after shown kernel = HasBegun (steps before) (λ a. P a before after shown kernel)

-- and a record is to be kept
abbrev pub at_record : {A : Type 0} → (record_file : Option (List ℕ)) → (steps : Outside → AfterStep A → Type 0) → (A → Left) → Left
at_record record_file steps P before after shown kernel = AtRecord record_file (steps before) (λ a. P a before after shown kernel)

-- nothing was done, or this is left
abbrev pub nothing_or : Left → Left
nothing_or P before after shown kernel = IsNothing before after shown kernel ⊎ P before after shown kernel

-- this is left by a program on its own
abbrev pub alone : Left → Left
alone P before after shown kernel = OnItsOwn (λ b a. P b a shown kernel) before after

-- ---- rows that several commands share

-- One that runs a program on all devices. Memory runs out before the first effect, or when the record is to be kept.
abbrev pub on_devices : Work → FirstFile → Option (List ℕ) → Facts
on_devices work fetches record_file = record (plain work) {
  silent = false;
  devices = true;
  kernel = true;
  input = true;
  drive = mounts_last;
  fetches = fetches;
  record_file = record_file;
}

-- one that runs the program of a demonstration, without a disk and on an empty input of its own
abbrev pub demonstration : Work → (n : ℕ) → words.Options → Facts
demonstration work n o = record (plain work) {
  ranges = (1 ≤ n) × (n ≤ 1000);
  silent = false;
  devices = true;
  kernel = true;
  fetches = file_of_choices o.choices;
  record_file = o.record_file;
  keeps_first = true;
}

-- one that runs the program of a file, which its steps give with the choices; every device can break it off
abbrev pub program_run : {A : Type 0} → (file : List ℕ) → (asks : Outside → Type 0) → (steps : Outside → AfterStep A → Type 0)
    → (program : A → Runnable) → (choices : A → Choices) → (bound : ℕ) → (record_file : Option (List ℕ)) → Facts
program_run file asks steps program choices bound record_file =
    let broken : Status → Left = λ s. begun steps (λ a before after shown kernel. BrokeRun s kernel.failed (program a) bound (choices a) before after shown) in
    record (on_devices (by_steps steps (λ a. Runs (program a) bound (choices a) record_file)) (file_named file) record_file) {
      asks_drive = asks;
      no_memory = nothing_or (at_record record_file steps (λ a. RanUnkept (program a) bound (choices a)));
      files_failed = at_record record_file steps (λ a. RanWhole (program a) bound (choices a));
      drive_failed = broken status.DriveFault;
      input_failed = broken status.InputFault;
      output_failed = broken status.OutputFault;
    }

-- One that runs the program of a file and keeps an account of the run, after the record. Memory runs out before the first effect, or when a file is to be
-- kept.
abbrev pub account_run : {A : Type 0} → (file : List ℕ) → (asks : Outside → Type 0) → (steps : Outside → AfterStep A → Type 0)
    → (program : A → Runnable) → (choices : A → Choices) → (bound : ℕ) → Account → (record_file : Option (List ℕ)) → Facts
account_run file asks steps program choices bound account record_file = record (program_run file asks steps program choices bound record_file) {
  work = by_steps steps (λ a. RunsWith (program a) bound (choices a) account record_file);
  dumps = is_dump account;
  keeps = account_names account;
  no_memory = nothing_or (begun steps (λ a. AccountInPart (program a) bound (choices a) account record_file));
  files_failed = begun steps (λ a. AccountLost (program a) bound (choices a) account record_file);
}

-- ---- rows by the operand that may be there

-- a format, or a migration of the image that `newdisk` is given
abbrev pub new_work : (blocks : ℕ) → Option (List ℕ) → Work
new_work blocks None = by_steps (λ before. Ready blocks) (λ n. IsDone (OnlyBlocks (AreNew n)))
new_work blocks (Some file) = by_steps (λ before. OldSteps before blocks file) (λ old. IsDone (OnlyBlocks (AreMigrated blocks old)))

-- the image that `newdisk` may be given
abbrev pub old_image : Option (List ℕ) → FirstFile
old_image None = no_file
old_image (Some file) = file_named file

-- a format or a migration was broken off
abbrev pub broke_format : (blocks : ℕ) → Option (List ℕ) → Left
broke_format blocks None = ChangesDrive IsOpen
broke_format blocks (Some file) = begun (λ before. OldSteps before blocks file) (λ old. ChangesDrive IsOpen)

-- ---- THE TABLE

abbrev pub facts_of : Command → Facts
facts_of (words.run file o) =
    program_run file (λ before. RunAsks before file o.choices) (λ before. RunSteps before file o.choices) (λ a. text a.0) (λ a. a.1) o.turns o.record_file
facts_of (words.replay file choices turns) =
    record (program_run file (λ before. RunAsks before file (words.file choices)) (λ before. RunSteps before file (words.file choices))
    (λ a. text a.0) (λ a. a.1) turns None) { no_memory = IsNothing; files_failed = never }
facts_of (words.exec file o) =
    program_run file (λ before. ExecAsks before file o.choices) (λ before. ExecSteps before file o.choices) (λ a. code a.0) (λ a. a.1) o.turns o.record_file
facts_of (words.boot o) =
    let steps : Outside → AfterStep Choices → Type 0 = λ before. BootSteps before o.choices in
    let session : Choices → CommandEffect = λ choices s before after shown kernel. HoldsSession o.turns choices o.record_file s before after shown in
    let broken : Status → Left = λ s. begun steps (λ choices before after shown kernel. BrokeSession s kernel.failed o.turns choices before after shown) in
    record (on_devices (by_steps steps session) (file_of_choices o.choices) o.record_file) {
      decided = false;
      asks_drive = λ before. WentOn (ReadsChoices before o.choices);
      no_memory = nothing_or (at_record o.record_file steps (λ choices before after shown kernel. EndedUnkept o.turns choices before after shown));
      files_failed = at_record o.record_file steps (λ choices before after shown kernel. EndedWhole o.turns choices before after shown);
      drive_failed = broken status.DriveFault;
      input_failed = broken status.InputFault;
      output_failed = broken status.OutputFault;
    }
facts_of (words.compile file out) = record (plain (by_steps (λ before. TextSteps before file) (λ a. IsDone (KeepsCode out a.0 a.1)))) {
  fetches = file_named file;
  keeps = out ∷ [];
  files_failed = begun (λ before. TextSteps before file) (λ a. HasNotBegun);
}
facts_of (words.newdisk blocks old) = record (plain (new_work blocks old)) {
  ranges = (64 ≤ blocks) × (blocks ≤ 4096);
  drive = formats_to blocks;
  fetches = old_image old;
  drive_failed = broke_format blocks old;
}
facts_of (words.put file title) = record (plain (by_steps (λ before. PutSteps before file title) (λ bytes. IsDone (OnlyBlocks (ArePut title bytes))))) {
  ranges = is_title title ≡ true;
  drive = mounts_last;
  fetches = file_named file;
  asks_drive = λ before. WentOn (Fetches before file >>= λ bytes. FitsDisk bytes);
  drive_failed = begun (λ before. PutSteps before file title) (λ bytes. ChangesDrive (ArePutInPart title bytes));
}
facts_of (words.get title file) = record (plain (by_steps (λ before. GetSteps before title) (λ bytes. IsDone (OnlyKeeps ((file, bytes) ∷ []))))) {
  drive = mounts_first;
  keeps = file ∷ [];
  asks_drive = λ before. ⊤;
  files_failed = begun (λ before. GetSteps before title) (λ bytes. HasNotBegun);
}
facts_of (words.list file) = record (plain (by_steps (λ before. ListSteps before file) (λ parts. IsDone (OnlyShows (listing_of parts.words))))) {
  silent = false;
  fetches = file_named file;
  output_failed = begun (λ before. ListSteps before file) (λ parts. ShowsFront (listing_of parts.words));
}
facts_of (words.demo n o) =
    let steps : Outside → AfterStep Choices → Type 0 = λ before. DemoSteps before o.choices in
    record (demonstration (by_steps steps (λ choices. Demonstrates n o.turns choices o.record_file)) n o) {
      no_memory = nothing_or (at_record o.record_file steps (λ choices. alone (RanUnkept (text (demo_text n)) o.turns choices)));
      files_failed = at_record o.record_file steps (λ choices. alone (RanWhole (text (demo_text n)) o.turns choices));
      output_failed = begun steps (λ choices. BrokeDemo n o.turns choices o.record_file);
    }
facts_of (words.check file) = record (plain (by_steps (λ before. TextSteps before file) (λ a. IsDone (ShowsReport a.1)))) {
  silent = false;
  fetches = file_named file;
  output_failed = begun (λ before. TextSteps before file) (λ a. ShowsReportFront a.1);
}
facts_of (words.explain file) = record (plain (by_steps (λ before. Fetches before file) Explains)) {
  silent = false;
  fetches = file_named file;
  output_failed = begun (λ before. Fetches before file) ExplainsFront;
}
facts_of (words.walk file choices turns) =
    let steps : Outside → AfterStep (List ℕ × Choices) → Type 0 = λ before. RunSteps before file (words.file choices) in
    let failed : Status → Left = λ s. begun steps (λ a. FailedWalk s a.0 turns a.1) in
    record (on_devices (by_steps steps (λ a. Walks a.0 turns a.1)) (file_named file) None) {
      kernel = false;
      asks_drive = λ before. RunAsks before file (words.file choices);
      no_memory = nothing_or (begun steps (λ a. BrokeWalk a.0 turns a.1));
      drive_failed = failed status.DriveFault;
      input_failed = failed status.InputFault;
      output_failed = failed status.OutputFault;
    }
facts_of (words.watch file points_file out o) =
    let steps : Outside → AfterStep (List ℕ × Choices × List Watched) → Type 0 = λ before. WatchSteps before file points_file o.choices in
    record (program_run file (λ before. WatchAsks before file points_file o.choices) steps (λ a. text a.0) (λ a. a.1) o.turns o.record_file) {
      work = by_steps steps (λ a. Watches a.0 a.2 o.turns a.1 out o.record_file);
      keeps = out ∷ [];
      no_memory = nothing_or (begun steps (λ a. WatchedUnkept a.0 a.2 o.turns a.1 out o.record_file));
      files_failed = begun steps (λ a. WatchedLost a.0 a.2 o.turns a.1 out o.record_file);
    }
facts_of (words.explore file o) =
    let steps : Outside → AfterStep (List ℕ × ProgramUnit) → Type 0 = λ before. TextSteps before file in
    record (plain (by_steps steps (λ a. ExploresText a.0 a.1 o))) {
      watched = true;
      decided = false;
      silent = false;
      kernel = true;
      input = true;
      fetches = file_named file;
      keeps = names_of_records o.record_file;
      no_memory = nothing_or (begun steps (λ a. ExploredInPart a.0 a.1 o));
      files_failed = begun steps (λ a before after shown kernel. ExploredThen LosesNext a.0 a.1 o before after shown);
      input_failed = begun steps (λ a. OnlyAccepts FailsIn a.1);
      output_failed = begun steps (λ a before after shown kernel. ExploredFront a.0 a.1 o before after shown);
    }
facts_of (words.run_with file account o) =
    account_run file (λ before. RunAsks before file o.choices) (λ before. RunSteps before file o.choices) (λ a. text a.0) (λ a. a.1) o.turns account o.record_file
facts_of (words.exec_with file account o) =
    account_run file (λ before. ExecAsks before file o.choices) (λ before. ExecSteps before file o.choices) (λ a. code a.0) (λ a. a.1) o.turns account o.record_file
facts_of (words.demo_with n account o) =
    let steps : Outside → AfterStep Choices → Type 0 = λ before. DemoSteps before o.choices in
    record (demonstration (by_steps steps (λ choices. DemonstratesWith n o.turns choices account o.record_file)) n o) {
      dumps = is_dump account;
      keeps = account_names account;
      no_memory = nothing_or (begun steps (λ choices. alone (AccountInPart (text (demo_text n)) o.turns choices account o.record_file)));
      files_failed = begun steps (λ choices. alone (AccountLost (text (demo_text n)) o.turns choices account o.record_file));
      output_failed = begun steps (λ choices. BrokeDemoWith n o.turns choices account o.record_file);
    }

-- ---- read off it

-- HOW A COMMAND ENDS, by the statuses that its words and the contents decide
abbrev pub Comes : Command → CommandEffect
Comes c s before after shown kernel = Does ((facts_of c).work.steps before) (facts_of c).work.effect s before after shown kernel
