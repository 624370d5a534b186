-- The commands that keep an account of their run: how each may end.
use Rattle.std.proofs.Common.{Option, ℕ, List, [], ◌∷◌, ◌++◌, refl}
use Rattle.edi_calls.specs.Choice.{Choices}
use Rattle.edi_calls.specs.State.{fresh}
use Rattle.edi_compile.proofs.Meant.{texts_can_be_coded}
use Rattle.edi_dumped.specs.Dumps.{IsDumpOf}
use Rattle.edi_dumped.proofs.Some.{each_run_has_a_dump}
use Rattle.edi_scheme.specs.Laws.{parts_of}
use Rattle.edi_host.specs.Contents.{Contents}
use Rattle.edi_target.specs.Check.{CodeParts}
use Rattle.edi_target.proofs.Histories.{every_run_ends_through}
use Rattle.edi_texts.specs.Texts.{IsUnit}
use Rattle.edi_texts.proofs.Executions.{accepted_texts_run}
use Rattle.edi_timed.specs.Ran.{stints_of_code}
use Rattle.edi_timed.specs.on.Timelines.{AreStints}
use Rattle.edi_timeline.specs.Stints.{Stint, stints_of}
use Rattle.edi_timeline.specs.Timelines.{told_of}
use Rattle.edi_unit.specs.Tree.{ProgramUnit}
use Rattle.edi_words.specs.Words as words
use Rattle.edi_words.specs.Words.{Account, Command, Options, timeline, dump}
use Rattle.edi_statuses.specs.Outside.{Devices, KernelLeft, Kept, system_on, with_kept}
use Rattle.edi_statuses.specs.Executions.{Runnable, text, code, record_of, status_of}
use Rattle.edi_statuses.specs.Commands.{ExecSteps, RunSteps}
use Rattle.edi_statuses.specs.Accounts.{AreOf, RunsWith, timable, timeline_files}
use Rattle.edi_statuses.specs.Always.{HasBlocks, MayCome, MayEnd, lent_from, told_outside}
use Rattle.edi_statuses.proofs.always.Steps.{exec_some, run_some}
use Rattle.edi_statuses.proofs.always.Ends.{does_some, of_table}
use Rattle.edi_statuses.proofs.always.Executions.{IsRun, code_runs, devices_at, shown_by_then, text_runs}
use Rattle.edi_statuses.proofs.always.Programs.{bytes_shown, decisive, devices_then, each_ran, exec_then, run_then}

-- ---- an execution has stints

module _ (d : Devices) (bound : ℕ) (choices : Choices) where
  pub stints_of_text : (bytes : List ℕ) (unit : ProgramUnit) → IsUnit bytes unit → (stints : List Stint) × AreStints (timable (text bytes)) (system_on d) bound choices stints
  stints_of_text bytes unit is =
      let run = (accepted_texts_run bytes unit is (system_on d) bound choices).1 in (
        stints_of run.unit (fresh (system_on d)) bound run.run.4,
        record {
          unit = run.unit;
          unit_is = run.unit_is;
          ending = run.run.0;
          end = run.run.1;
          turns = run.run.2;
          drawn = run.run.3;
          order = run.run.4;
          selected = run.run.5;
          are = refl;
        },
      )

  stints_of_parts : (parts : CodeParts) → (stints : List Stint) × AreStints (timable (code parts)) (system_on d) bound choices stints
  stints_of_parts parts =
      let e = every_run_ends_through parts.words parts.entry parts.calls (fresh (system_on d)) bound choices 0 in (
        stints_of_code parts (fresh (system_on d)) bound choices 0 e.4.0,
        record { steps = e.4.0; ending = e.0; machine = e.1; drawn = e.2; ends = e.4.1; are = refl },
      )

-- ---- and files of an account, whatever they leave

-- these may be those of an account of this run
abbrev pub CanBeMade : Account → Runnable → (bound : ℕ) → Choices → Devices → Type 0
CanBeMade account program bound choices d =
    (made : List Kept) × ((files kept : Contents) (e : Devices) → AreOf account program bound choices (told_outside files d) (told_outside kept e) made)

module _ (d : Devices) (bound : ℕ) (choices : Choices) where
  stints_made : (program : Runnable) → (xs : List Stint) × AreStints (timable program) (system_on d) bound choices xs → (out : List ℕ)
      → CanBeMade (timeline out) program bound choices d
  stints_made program stints out =
      (timeline_files out (told_of stints.0), λ files kept e. (told_of stints.0, (stints.0, stints.1, refl), refl))

  dump_made : (program : Runnable) → (told : List ℕ) × IsDumpOf (timable program) (system_on d) bound choices told → (out : List ℕ)
      → CanBeMade (dump out) program bound choices d
  dump_made program found out = ((out, found.0) ∷ [], λ files kept e. (found.0, found.1, refl))

  pub made_of_text : (bytes : List ℕ) (unit : ProgramUnit) → IsUnit bytes unit → (account : Account) → CanBeMade account (text bytes) bound choices d
  made_of_text bytes unit is (timeline out) = stints_made (text bytes) (stints_of_text d bound choices bytes unit is) out
  made_of_text bytes unit is (dump out) =
      dump_made (text bytes)
      (each_run_has_a_dump (timable (text bytes)) (parts_of unit) (unit, is, texts_can_be_coded bytes unit is, refl) (system_on d) bound choices) out

  pub made_of_parts : (parts : CodeParts) → (account : Account) → CanBeMade account (code parts) bound choices d
  made_of_parts parts (timeline out) = stints_made (code parts) (stints_of_parts d bound choices parts) out
  made_of_parts parts (dump out) = dump_made (code parts) (each_run_has_a_dump (timable (code parts)) parts refl (system_on d) bound choices) out

-- ---- the effect

module _ (c : Command) (files : Contents) (d : Devices) (kernel : KernelLeft) (program : Runnable) (bound : ℕ) (choices : Choices)
    (run : IsRun program bound choices d) (account : Account) (can : CanBeMade account program bound choices d) where
  -- the files that are kept
  abbrev pub files_then : (record_file : Option (List ℕ)) → Contents
  files_then record_file = with_kept (record_of record_file choices run.drawn ++ can.0) files

  -- whatever the terminal has taken behind it
  pub runs_with_so : (record_file : Option (List ℕ)) (taken : List ℕ)
      → RunsWith program bound choices account record_file (status_of run.ending) (told_outside files d)
      (told_outside (files_then record_file) (devices_at d run.last run.gone taken)) (shown_by_then d run.last run.gone) (lent_from kernel run.left)
  runs_with_so record_file taken = (
    run.ending,
    refl,
    record {
      drawn = run.drawn;
      within = run.within;
      used = run.used;
      ran = run.ran taken;
      made = can.0;
      are = can.1 files (files_then record_file) (devices_at d run.last run.gone taken);
      files = refl;
    },
  )

  runs_with_some : (record_file : Option (List ℕ)) → MayCome c (RunsWith program bound choices account record_file) files d kernel
  runs_with_some record_file =
      let shown : List ℕ = bytes_shown c files d kernel program bound choices run in record {
        answer = status_of run.ending;
        decisive = decisive run.ending;
        files_after = files_then record_file;
        devices_after = devices_then c files d kernel program bound choices run;
        sized = λ h. run.gone.image.image.sized;
        shown = shown;
        left = run.left;
        comes = runs_with_so record_file (d.shown ++ shown);
        shows = refl;
        each = each_ran c files d kernel program bound choices run (files_then record_file);
      }

-- ---- the commands

module _ (files : Contents) (d : Devices) (kernel : KernelLeft) (sized : HasBlocks d) where
  pub run_with_may : (file : List ℕ) (account : Account) (o : Options) → MayEnd (words.run_with file account o) files d kernel
  run_with_may file account o =
      of_table (words.run_with file account o) files d kernel _
      (does_some (words.run_with file account o) files d kernel (RunSteps (told_outside files d) file o.choices) (λ a. RunsWith (text a.0) o.turns a.1 account o.record_file)
      (run_some files d file o.choices)
      (λ a went. let ready = run_then (told_outside files d) file o.choices a went in
      runs_with_some (words.run_with file account o) files d kernel (text a.0) o.turns a.1 (text_runs a.0 ready.0.0 ready.0.1 o.turns a.1 d sized ready.1)
      account (made_of_text d o.turns a.1 a.0 ready.0.0 ready.0.1 account) o.record_file)) (λ s after shown k h. h)

  pub exec_with_may : (file : List ℕ) (account : Account) (o : Options) → MayEnd (words.exec_with file account o) files d kernel
  exec_with_may file account o =
      of_table (words.exec_with file account o) files d kernel _
      (does_some (words.exec_with file account o) files d kernel (ExecSteps (told_outside files d) file o.choices)
      (λ a. RunsWith (code a.0) o.turns a.1 account o.record_file) (exec_some files d file o.choices)
      (λ a went. runs_with_some (words.exec_with file account o) files d kernel (code a.0) o.turns a.1
      (code_runs a.0 o.turns a.1 d sized (exec_then (told_outside files d) file o.choices a went)) account (made_of_parts d o.turns a.1 a.0 account) o.record_file))
      (λ s after shown k h. h)
