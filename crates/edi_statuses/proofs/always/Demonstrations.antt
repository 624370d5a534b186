-- The commands that run a program on its own and then show the line of a demonstration: how each may end.
use Rattle.std.proofs.Common.{◌≤◌, ℕ, List, [], ◌++◌, Option, refl}
use Rattle.edi_calls.specs.Choice.{Choices}
use Rattle.edi_host.specs.Contents.{Contents}
use Rattle.edi_utils.specs.Demo.{demo_text}
use Rattle.edi_utils.proofs.demonstrated.Accepted.{demonstrations_are_accepted}
use Rattle.edi_words.specs.Words as words
use Rattle.edi_words.specs.Words.{Account, Command, Options}
use Rattle.edi_statuses.specs.Outside.{Devices, KernelLeft, with_kept}
use Rattle.edi_statuses.specs.Executions.{Runnable, text, record_of, status_of}
use Rattle.edi_statuses.specs.Commands.{CommandEffect, Demonstrates, DemonstratesWith, DemoSteps, Runs, ShowsSize, size_shown}
use Rattle.edi_statuses.specs.Accounts.{RunsWith}
use Rattle.edi_statuses.specs.Always.{MayCome, MayEnd, lent_from, told_outside}
use Rattle.edi_statuses.proofs.always.Steps.{choices_some}
use Rattle.edi_statuses.proofs.always.Ends.{does_some, of_table}
use Rattle.edi_statuses.proofs.always.Executions.{IsRun, devices_at, grows_at, shown_by_then, text_runs}
use Rattle.edi_statuses.proofs.always.Programs.{decisive}
use Rattle.edi_statuses.proofs.always.Accounts.{CanBeMade, files_then, made_of_text, runs_with_so}

module _ (c : Command) (files : Contents) (d : Devices) (kernel : KernelLeft) where
  -- it has no disk and an empty input of its own
  abbrev own : Devices
  own = record { blocks = []; input = []; shown = d.shown; printed = d.printed }

  module _ (n bound : ℕ) (choices : Choices) (run : IsRun (text (demo_text n)) bound choices own) where
    abbrev program : Runnable
    program = text (demo_text n)

    abbrev by_program : List ℕ
    by_program = shown_by_then own run.last run.gone

    abbrev all_shown : List ℕ
    all_shown = by_program ++ size_shown (status_of run.ending) n run.left.used by_program

    abbrev demo_devices : Devices
    demo_devices = record { blocks = d.blocks; input = d.input; shown = d.shown ++ all_shown; printed = run.last.printed }

    -- what the terminal has taken then
    abbrev own_devices : Devices
    own_devices = devices_at own run.last run.gone (d.shown ++ all_shown)

    size_some : (effect : CommandEffect) (kept : Contents)
        → effect (status_of run.ending) (told_outside files own) (told_outside kept own_devices) by_program (lent_from kernel run.left)
        → MayCome c (ShowsSize n effect) files d kernel
    size_some effect kept h = record {
      answer = status_of run.ending;
      decisive = decisive run.ending;
      files_after = kept;
      devices_after = demo_devices;
      sized = λ h. h;
      shown = all_shown;
      left = run.left;
      comes = record {
        by_program = by_program;
        shown_ = refl;
        ran = record { disk = run.gone.image.image.blocks; left = run.last.input; is = h; blocks = refl; input = refl };
      };
      shows = refl;
      each = record { drive = λ e valid. valid; input = (0, refl); printer = grows_at own run.last run.gone };
    }

    demo_some : (record_file : Option (List ℕ)) → MayCome c (Demonstrates n bound choices record_file) files d kernel
    demo_some record_file =
        size_some (Runs program bound choices record_file) (with_kept (record_of record_file choices run.drawn) files) (record {
          ending = run.ending;
          drawn = run.drawn;
          within = run.within;
          used = run.used;
          status_is = refl;
          ran = run.ran (d.shown ++ all_shown);
          keeps = refl;
        })

    demo_with_some : (account : Account) → CanBeMade account program bound choices own → (record_file : Option (List ℕ))
        → MayCome c (DemonstratesWith n bound choices account record_file) files d kernel
    demo_with_some account can record_file =
        size_some (RunsWith program bound choices account record_file) (files_then c files own kernel program bound choices run account can record_file)
        (runs_with_so c files own kernel program bound choices run account can record_file (d.shown ++ all_shown))

-- ---- the commands

module _ (files : Contents) (d : Devices) (kernel : KernelLeft) (n : ℕ) (o : Options) (least : 1 ≤ n) (most : n ≤ 1000) where
  pub demo_may : MayEnd (words.demo n o) files d kernel
  demo_may =
      of_table (words.demo n o) files d kernel _
      (does_some (words.demo n o) files d kernel (DemoSteps (told_outside files d) o.choices) (λ choices. Demonstrates n o.turns choices o.record_file)
      (choices_some files d o.choices)
      (λ choices went. let accepted = demonstrations_are_accepted n least most in
      demo_some (words.demo n o) files d kernel n o.turns choices
      (text_runs (demo_text n) accepted.unit accepted.unit_is o.turns choices (own (words.demo n o) files d kernel) refl refl) o.record_file))
      (λ s after shown k h. h)

  pub demo_with_may : (account : Account) → MayEnd (words.demo_with n account o) files d kernel
  demo_with_may account =
      of_table (words.demo_with n account o) files d kernel _
      (does_some (words.demo_with n account o) files d kernel (DemoSteps (told_outside files d) o.choices)
      (λ choices. DemonstratesWith n o.turns choices account o.record_file) (choices_some files d o.choices)
      (λ choices went. let accepted = demonstrations_are_accepted n least most in
      let alone : Devices = own (words.demo_with n account o) files d kernel in
      demo_with_some (words.demo_with n account o) files d kernel n o.turns choices
      (text_runs (demo_text n) accepted.unit accepted.unit_is o.turns choices alone refl refl)
      account (made_of_text alone o.turns choices (demo_text n) accepted.unit accepted.unit_is account) o.record_file)) (λ s after shown k h. h)
