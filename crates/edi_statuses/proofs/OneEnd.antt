-- Contents that are told decide all that a command leaves.
use Rattle.std.proofs.Common.{◌≡◌, ◌∙◌, ℕ, List, [], ◌∷◌, ◌++◌, length, Option, Some, None, false, true, refl, sym, ap, subst, inl, inr, rules, true≢false}
use Rattle.edi_calls.specs.Choice.{Choices}
use Rattle.edi_calls.specs.Outcome.{Ending, Outcome}
use Rattle.edi_calls.specs.State.{State}
use Rattle.edi_debug.specs.stops.Stops.{Watched}
use Rattle.edi_host.specs.Contents.{Contents}
use Rattle.edi_image.specs.Image.{slots_of}
use Rattle.edi_scheme.specs.Laws.{parts_of}
use Rattle.edi_target.specs.File.{code_bytes}
use Rattle.edi_unit.specs.Tree.{ProgramUnit}
use Rattle.edi_utils.specs.Demo.{demo_text}
use Rattle.edi_utils.specs.Listing.{listing_of}
use Rattle.edi_runs.proofs.walk.Texts.{texts_have_one_walk}
use Rattle.edi_timed.specs.on.Laws.{TimelinesAreOne}
use Rattle.edi_words.specs.Words as words
use Rattle.edi_words.specs.Words.{Command, timeline, dump}
use Rattle.edi_statuses.specs.declared.status.Status.{Status}
use Rattle.edi_statuses.specs.Outside.{Outside, Devices, Kept, KernelLeft, system_on, with_kept}
use Rattle.edi_statuses.specs.Steps.{AfterStep, goes, stops, Fetches, FindsPoints, Ready}
use Rattle.edi_statuses.specs.Executions.{Runnable, text, code, HasRun, record_of}
use Rattle.edi_statuses.specs.Walked.{Walks}
use Rattle.edi_statuses.specs.Accounts.{RunsWith, timable, timeline_files}
use Rattle.edi_statuses.specs.Facts.{Comes}
use Rattle.edi_statuses.specs.Commands.{CommandEffect, Demonstrates, DemonstratesWith, Does, Explains, IsDone, IsNothing, KeepsCode, OnlyBlocks}
use Rattle.edi_statuses.specs.Commands.{Runs, ShowsReport, AreMigrated, AreNew, ArePut, RunSteps, ExecSteps, WatchSteps, Watches, TextSteps, OldSteps}
use Rattle.edi_statuses.specs.Commands.{OnlyKeeps, OnlyShows, ShowsSize, PutSteps, GetSteps, ListSteps, DemoSteps}
use Rattle.edi_statuses.specs.Decided.{IsTold, is_decided}
use Rattle.edi_statuses.specs.Always.{lent_from, told_outside}
use Rattle.edi_statuses.specs.OneEnd.{LeaveSame, OneEnd, keeps_dump}
use Rattle.edi_statuses.proofs.OneLog.{one_log}
use Rattle.edi_statuses.proofs.always.Programs.{watch_then}
use Rattle.edi_statuses.proofs.StepLemmas.{IsOne, TextsAreOne, fetches_one, not_both, ready_one, value_or}
use Rattle.edi_statuses.proofs.OneStatus.{outcome_same, text_steps, watch_steps, code_steps, compile_steps, old_steps, put_steps, get_steps, list_steps}
use Rattle.edi_statuses.proofs.OneStatus.{demo_steps}

pub told_is : (files : Contents) (d : Devices) → IsTold (told_outside files d)
told_is files d =
    record { files = search rules; blocks = search rules; input = search rules; shown = search rules; printed = search rules }

-- ---- two runs of a program

record RunsLeave (drawn other_drawn : ℕ) (e f : Devices) (left also : KernelLeft) : Type 0 where
  draws : drawn ≡ other_drawn
  slots : slots_of e.blocks ≡ slots_of f.blocks
  count : length e.blocks ≡ length f.blocks
  input : e.input ≡ f.input
  printed : e.printed ≡ f.printed
  turns : left.used ≡ also.used

runs_leave : (program : Runnable) (bound : ℕ) (choices : Choices) (s t : Ending) (m n : ℕ) (d e f : Devices) (shown bytes : List ℕ)
    (left also : KernelLeft) → HasRun program bound choices s m d e shown left → HasRun program bound choices t n d f bytes also
    → RunsLeave m n e f left also
runs_leave program bound choices s t m n d e f shown bytes left also h k =
    let same = outcome_same program (system_on d) bound choices h.outcome_ k.outcome_ h.outcome_is k.outcome_is in record {
      draws = sym h.draws ∙ ap (λ (o : Outcome). o.draws) same ∙ k.draws;
      slots = h.leaves.disk.files ∙ ap (λ (o : Outcome). o.slots) same ∙ sym k.leaves.disk.files;
      count = h.leaves.count ∙ sym k.leaves.count;
      input = h.leaves.input ∙ ap (λ (o : Outcome). o.input) same ∙ sym k.leaves.input;
      printed = h.leaves.printed ∙ ap (λ (o : Outcome). o.printed) same ∙ sym k.leaves.printed;
      turns = h.kernel_is.turns ∙ ap (λ (o : Outcome). o.turns) same ∙ sym k.kernel_is.turns;
    }

-- an effect that leaves one thing
abbrev LeavesOne : Contents → Devices → KernelLeft → CommandEffect → Type 0
LeavesOne files d kernel effect =
    (s t : Status) (one other : Contents) (e f : Devices) (shown bytes : List ℕ) (left also : KernelLeft)
    → effect s (told_outside files d) (told_outside one e) shown (lent_from kernel left)
    → effect t (told_outside files d) (told_outside other f) bytes (lent_from kernel also)
    → LeaveSame one other e f left also

-- ---- runs, on any devices

module _ (files : Contents) (d : Devices) (kernel : KernelLeft) where
  runs_end : (program : Runnable) (bound : ℕ) (choices : Choices) (record_file : Option (List ℕ))
      → LeavesOne files d kernel (Runs program bound choices record_file)
  runs_end program bound choices record_file s t one other e f shown bytes left also h k =
      let same = runs_leave program bound choices h.ending k.ending h.drawn k.drawn d e f shown bytes left also h.ran k.ran in record {
        files_ = h.keeps ∙ ap (λ n. with_kept (record_of record_file choices n) files) same.draws ∙ sym k.keeps;
        slots = same.slots;
        count = same.count;
        input = same.input;
        printed = same.printed;
        turns = same.turns;
      }

  -- with a timeline
  runs_with_end : TimelinesAreOne → (program : Runnable) (bound : ℕ) (choices : Choices) (out : List ℕ) (record_file : Option (List ℕ))
      → LeavesOne files d kernel (RunsWith program bound choices (timeline out) record_file)
  runs_with_end timelines program bound choices out record_file s t one other e f shown bytes left also h k =
      let same = runs_leave program bound choices h.0 k.0 h.2.drawn k.2.drawn d e f shown bytes left also h.2.ran k.2.ran in
      let told : h.2.are.0 ≡ k.2.are.0 =
      timelines (timable program) (system_on d) bound choices h.2.are.0 k.2.are.0 h.2.are.1 k.2.are.1 in
      let made : h.2.made ≡ k.2.made = h.2.are.2 ∙ ap (timeline_files out) told ∙ sym k.2.are.2 in record {
        files_ =
            h.2.files ∙ ap (λ x. with_kept (record_of record_file choices h.2.drawn ++ x) files) made
            ∙ ap (λ n. with_kept (record_of record_file choices n ++ k.2.made) files) same.draws
            ∙ sym k.2.files;
        slots = same.slots;
        count = same.count;
        input = same.input;
        printed = same.printed;
        turns = same.turns;
      }

module _ (each : TextsAreOne) (files : Contents) (d : Devices) (kernel : KernelLeft) where
  abbrev EndsOne : CommandEffect → Type 0
  EndsOne effect = LeavesOne files d kernel effect

  -- all is as before
  stays : (one other : Contents) (e f : Devices) (left also : KernelLeft) → one ≡ files → other ≡ files
      → e.blocks ≡ d.blocks → f.blocks ≡ d.blocks → e.input ≡ d.input → f.input ≡ d.input → e.printed ≡ d.printed → f.printed ≡ d.printed
      → left ≡ kernel → also ≡ kernel → LeaveSame one other e f left also
  stays one other e f left also o p b c i j q r l m = record {
    files_ = o ∙ sym p;
    slots = ap slots_of (b ∙ sym c);
    count = ap length (b ∙ sym c);
    input = i ∙ sym j;
    printed = q ∙ sym r;
    turns = ap (λ (x : KernelLeft). x.used) (l ∙ sym m);
  }

  nothing_one : (one other : Contents) (e f : Devices) (shown bytes : List ℕ) (left also : KernelLeft)
      → IsNothing (told_outside files d) (told_outside one e) shown (lent_from kernel left)
      → IsNothing (told_outside files d) (told_outside other f) bytes (lent_from kernel also) → LeaveSame one other e f left also
  nothing_one one other e f shown bytes left also h k =
      stays one other e f left also h.same.files k.same.files h.same.blocks k.same.blocks h.same.input k.same.input h.same.printed k.same.printed
      h.kernel_same k.kernel_same

  does_end : {A : Type 0} (steps : AfterStep A → Type 0) (effect : A → CommandEffect) → IsOne steps
      → ((a : A) → steps (goes a) → EndsOne (effect a)) → EndsOne (Does steps effect)
  does_end steps effect one_step ones s t one other e f shown bytes left also (inl h) (inl k) =
      nothing_one one other e f shown bytes left also h.1 k.1
  does_end steps effect one_step ones s t one other e f shown bytes left also (inl h) (inr k) =
      absurd (not_both k.0 s (one_step (goes k.0) (stops s) k.1 h.0))
  does_end steps effect one_step ones s t one other e f shown bytes left also (inr h) (inl k) =
      absurd (not_both h.0 t (one_step (goes h.0) (stops t) h.1 k.0))
  does_end steps effect one_step ones s t one other e f shown bytes left also (inr h) (inr k) =
      let same = ap (λ x. value_or h.0 x) (one_step (goes h.0) (goes k.0) h.1 k.1) in
      ones k.0 k.1 s t one other e f shown bytes left also
      (subst (λ a. effect a s (told_outside files d) (told_outside one e) shown (lent_from kernel left)) same h.2) k.2

  -- ---- effects that touch one object

  shows_end : (all : List ℕ) → EndsOne (IsDone (OnlyShows all))
  shows_end all s t one other e f shown bytes left also h k =
      stays one other e f left also h.1.same.files k.1.same.files h.1.same.blocks k.1.same.blocks h.1.same.input k.1.same.input h.1.same.printed
      k.1.same.printed h.1.kernel_same k.1.kernel_same

  report_end : (unit : ProgramUnit) → EndsOne (IsDone (ShowsReport unit))
  report_end unit s t one other e f shown bytes left also h k =
      stays one other e f left also h.1.2.same.files k.1.2.same.files h.1.2.same.blocks k.1.2.same.blocks h.1.2.same.input k.1.2.same.input
      h.1.2.same.printed k.1.2.same.printed h.1.2.kernel_same k.1.2.kernel_same

  explains_end : (program : List ℕ) → EndsOne (Explains program)
  explains_end program s t one other e f shown bytes left also h k =
      stays one other e f left also h.2.same.files k.2.same.files h.2.same.blocks k.2.same.blocks h.2.same.input k.2.same.input h.2.same.printed
      k.2.same.printed h.2.kernel_same k.2.kernel_same

  -- these files are kept
  kept_end : (one other : Contents) (e f : Devices) (kept : List Kept) (shown bytes : List ℕ) (left also : KernelLeft)
      → OnlyKeeps kept (told_outside files d) (told_outside one e) shown (lent_from kernel left)
      → OnlyKeeps kept (told_outside files d) (told_outside other f) bytes (lent_from kernel also) → LeaveSame one other e f left also
  kept_end one other e f kept shown bytes left also h k = record {
    files_ = h.keeps ∙ sym k.keeps;
    slots = ap slots_of (h.blocks ∙ sym k.blocks);
    count = ap length (h.blocks ∙ sym k.blocks);
    input = h.input ∙ sym k.input;
    printed = h.printed ∙ sym k.printed;
    turns = ap (λ (x : KernelLeft). x.used) (h.kernel_same ∙ sym k.kernel_same);
  }

  keeps_end : (kept : List Kept) → EndsOne (IsDone (OnlyKeeps kept))
  keeps_end kept s t one other e f shown bytes left also h k = kept_end one other e f kept shown bytes left also h.1 k.1

  code_end : (out program : List ℕ) (unit : ProgramUnit) → EndsOne (IsDone (KeepsCode out program unit))
  code_end out program unit s t one other e f shown bytes left also h k =
      kept_end one other e f ((out, code_bytes (parts_of unit)) ∷ []) shown bytes left also h.1.keeps k.1.keeps

  blocks_end : (P : List (List ℕ) → List (List ℕ) → Type 0)
      → ((a b : List (List ℕ)) → P d.blocks a → P d.blocks b → (slots_of a ≡ slots_of b) × (length a ≡ length b)) → EndsOne (IsDone (OnlyBlocks P))
  blocks_end P same s t one other e f shown bytes left also h k =
      let blocks = same e.blocks f.blocks h.1.blocks k.1.blocks in record {
        files_ = h.1.files ∙ sym k.1.files;
        slots = blocks.0;
        count = blocks.1;
        input = h.1.input ∙ sym k.1.input;
        printed = h.1.printed ∙ sym k.1.printed;
        turns = ap (λ (x : KernelLeft). x.used) (h.1.kernel_same ∙ sym k.1.kernel_same);
      }

  -- ---- walks, and programs that are run on their own

  walks_end : (program : List ℕ) (bound : ℕ) (choices : Choices) → EndsOne (Walks program bound choices)
  walks_end program bound choices s t one other e f shown bytes left also h k =
      let last : h.walked.last ≡ k.walked.last =
      (texts_have_one_walk program (system_on d) bound choices h.ending k.ending h.walked.last k.walked.last h.walked.walk k.walked.walk).1 in record {
        files_ = h.files ∙ sym k.files;
        slots = h.walked.leaves.disk.files ∙ ap (λ (x : State). x.slots) last ∙ sym k.walked.leaves.disk.files;
        count = h.walked.leaves.count ∙ sym k.walked.leaves.count;
        input = h.walked.leaves.input ∙ ap (λ (x : State). x.input) last ∙ sym k.walked.leaves.input;
        printed = h.walked.leaves.printed ∙ ap (λ (x : State). x.printed) last ∙ sym k.walked.leaves.printed;
        turns = ap (λ (x : KernelLeft). x.used) (h.kernel_same ∙ sym k.kernel_same);
      }

  size_end : (n : ℕ) (effect : CommandEffect)
      → LeavesOne files (record { blocks = []; input = []; shown = d.shown; printed = d.printed }) kernel effect → EndsOne (ShowsSize n effect)
  size_end n effect ends s t one other e f shown bytes left also h k =
      let same = ends s t one other (record { blocks = h.ran.disk; input = h.ran.left; shown = e.shown; printed = e.printed })
      (record { blocks = k.ran.disk; input = k.ran.left; shown = f.shown; printed = f.printed }) h.by_program k.by_program left also
      h.ran.is k.ran.is in record {
        files_ = same.files_;
        slots = ap slots_of (h.ran.blocks ∙ sym k.ran.blocks);
        count = ap length (h.ran.blocks ∙ sym k.ran.blocks);
        input = h.ran.input ∙ sym k.ran.input;
        printed = same.printed;
        turns = same.turns;
      }

  watches_end : (program lines : List ℕ) (points : List Watched) → FindsPoints program lines (goes points) → (bound : ℕ) (choices : Choices)
      (out : List ℕ) (record_file : Option (List ℕ)) → EndsOne (Watches program points bound choices out record_file)
  watches_end program lines points finds bound choices out record_file s t one other e f shown bytes left also h k =
      let same = runs_leave (text program) bound choices h.ending k.ending h.drawn k.drawn d e f shown bytes left also h.ran k.ran in
      let log : h.log ≡ k.log = one_log program lines points finds (system_on d) bound choices h.log k.log h.log_is k.log_is in record {
        files_ =
            h.keeps ∙ ap (λ x. with_kept ((out, x) ∷ record_of record_file choices h.drawn) files) log
            ∙ ap (λ n. with_kept ((out, k.log) ∷ record_of record_file choices n) files) same.draws
            ∙ sym k.keeps;
        slots = same.slots;
        count = same.count;
        input = same.input;
        printed = same.printed;
        turns = same.turns;
      }

  -- ---- the commands

  abbrev own : Devices
  own = record { blocks = []; input = []; shown = d.shown; printed = d.printed }

  abbrev before : Outside
  before = told_outside files d

  told : IsTold (told_outside files d)
  told = told_is files d

  ends_one : TimelinesAreOne → (c : Command) → is_decided c ≡ true → keeps_dump c ≡ false → EndsOne (Comes c)
  ends_one timelines (words.run file o) decided whole = does_end (RunSteps before file o.choices) (λ a. Runs (text a.0) o.turns a.1 o.record_file)
      (text_steps each before before before told told told file o.choices) (λ a went. runs_end files d kernel (text a.0) o.turns a.1 o.record_file)
  ends_one timelines (words.replay file choices turns) decided whole = does_end (RunSteps before file (words.file choices)) (λ a. Runs (text a.0) turns a.1 None)
      (text_steps each before before before told told told file (words.file choices)) (λ a went. runs_end files d kernel (text a.0) turns a.1 None)
  ends_one timelines (words.exec file o) decided whole = does_end (ExecSteps before file o.choices) (λ a. Runs (code a.0) o.turns a.1 o.record_file)
      (code_steps each before before before told told told file o.choices) (λ a went. runs_end files d kernel (code a.0) o.turns a.1 o.record_file)
  ends_one timelines (words.boot o) decided whole = absurd (true≢false (sym decided))
  ends_one timelines (words.compile file out) decided whole = does_end (TextSteps before file) (λ a. IsDone (KeepsCode out a.0 a.1))
      (compile_steps each before before before told told told file) (λ a went. code_end out a.0 a.1)
  ends_one timelines (words.newdisk blocks None) decided whole = does_end (Ready blocks) (λ n. IsDone (OnlyBlocks (AreNew n))) (ready_one blocks)
      (λ n went. blocks_end (AreNew n) (λ a b h k. (h.1.files ∙ sym k.1.files, h.0 ∙ sym k.0)))
  ends_one timelines (words.newdisk blocks (Some file)) decided whole =
      does_end (OldSteps before blocks file) (λ old. IsDone (OnlyBlocks (AreMigrated blocks old))) (old_steps each before before before told told told blocks file)
      (λ old went. blocks_end (AreMigrated blocks old) (λ a b h k. (h.1.files ∙ sym k.1.files, h.0 ∙ sym k.0)))
  ends_one timelines (words.put file title) decided whole = does_end (PutSteps before file title) (λ bytes. IsDone (OnlyBlocks (ArePut title bytes)))
      (put_steps each before before before told told told file title)
      (λ bytes went. blocks_end (ArePut title bytes) (λ a b h k. (h.1.files ∙ sym k.1.files, h.0 ∙ sym k.0)))
  ends_one timelines (words.get title file) decided whole = does_end (GetSteps before title) (λ bytes. IsDone (OnlyKeeps ((file, bytes) ∷ [])))
      (get_steps each before before before told told told title) (λ bytes went. keeps_end ((file, bytes) ∷ []))
  ends_one timelines (words.list file) decided whole = does_end (ListSteps before file) (λ parts. IsDone (OnlyShows (listing_of parts.words)))
      (list_steps each before before before told told told file) (λ parts went. shows_end (listing_of parts.words))
  ends_one timelines (words.demo n o) decided whole = does_end (DemoSteps before o.choices) (λ choices. Demonstrates n o.turns choices o.record_file)
      (demo_steps each before before before told told told o.choices)
      (λ choices went. size_end n (Runs (text (demo_text n)) o.turns choices o.record_file)
      (runs_end files own kernel (text (demo_text n)) o.turns choices o.record_file))
  ends_one timelines (words.check file) decided whole = does_end (TextSteps before file) (λ a. IsDone (ShowsReport a.1))
      (compile_steps each before before before told told told file) (λ a went. report_end a.1)
  ends_one timelines (words.explain file) decided whole = does_end (Fetches before file) Explains (fetches_one before told.files file) (λ bytes went. explains_end bytes)
  ends_one timelines (words.walk file choices turns) decided whole = does_end (RunSteps before file (words.file choices)) (λ a. Walks a.0 turns a.1)
      (text_steps each before before before told told told file (words.file choices)) (λ a went. walks_end a.0 turns a.1)
  ends_one timelines (words.watch file points_file out o) decided whole =
      does_end (WatchSteps before file points_file o.choices) (λ a. Watches a.0 a.2 o.turns a.1 out o.record_file)
      (watch_steps each before before before told told told file points_file o.choices) (λ a went. let found = (watch_then before file points_file o.choices a went).0.1 in
      watches_end a.0 found.0 a.2 found.1 o.turns a.1 out o.record_file)
  ends_one timelines (words.run_with file (timeline out) o) decided whole =
      does_end (RunSteps before file o.choices) (λ a. RunsWith (text a.0) o.turns a.1 (timeline out) o.record_file)
      (text_steps each before before before told told told file o.choices) (λ a went. runs_with_end files d kernel timelines (text a.0) o.turns a.1 out o.record_file)
  ends_one timelines (words.exec_with file (timeline out) o) decided whole =
      does_end (ExecSteps before file o.choices) (λ a. RunsWith (code a.0) o.turns a.1 (timeline out) o.record_file)
      (code_steps each before before before told told told file o.choices) (λ a went. runs_with_end files d kernel timelines (code a.0) o.turns a.1 out o.record_file)
  ends_one timelines (words.demo_with n (timeline out) o) decided whole =
      does_end (DemoSteps before o.choices) (λ choices. DemonstratesWith n o.turns choices (timeline out) o.record_file)
      (demo_steps each before before before told told told o.choices)
      (λ choices went. size_end n (RunsWith (text (demo_text n)) o.turns choices (timeline out) o.record_file)
      (runs_with_end files own kernel timelines (text (demo_text n)) o.turns choices out o.record_file))
  ends_one timelines (words.run_with file (dump out) o) decided whole = absurd (true≢false whole)
  ends_one timelines (words.exec_with file (dump out) o) decided whole = absurd (true≢false whole)
  ends_one timelines (words.demo_with n (dump out) o) decided whole = absurd (true≢false whole)
  ends_one timelines (words.explore file o) decided whole = absurd (true≢false (sym decided))

-- THE LAW
pub one_end : TextsAreOne → TimelinesAreOne → OneEnd
one_end each timelines s t c files one other d e f shown bytes kernel left also decided whole h k =
    ends_one each files d kernel timelines c decided whole s t one other e f shown bytes left also h k
