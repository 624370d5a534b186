-- The laws that a decisive status is always open.
use Rattle.std.proofs.Common.{◌≡◌, [], Some, None, true, true≢false, refl, sym, inl, inr}
use Rattle.std.specs.Prelude.{◌⊎◌}
use Rattle.edi_host.specs.Contents.{Contents}
use Rattle.edi_words.specs.Words as words
use Rattle.edi_words.specs.Words.{Command}
use Rattle.edi_statuses.specs.Outside.{Devices, KernelLeft, idle}
use Rattle.edi_statuses.specs.Steps.{goes, stops}
use Rattle.edi_statuses.specs.Commands.{IsNothing}
use Rattle.edi_statuses.specs.Facts.{facts_of}
use Rattle.edi_statuses.specs.Always.{HasBlocks, IsInRange, IsStopped, MayEnd, SomeStatus, SomeStep, StepsGo, is_open, told_outside}
use Rattle.edi_statuses.proofs.always.Steps.{ComesTo, boot_some, choices_some, exec_some, fetches_some, get_some, list_some, old_steps_some, put_some, ready_some, run_some}
use Rattle.edi_statuses.proofs.always.Steps.{text_some, watch_some}
use Rattle.edi_statuses.proofs.always.Plain.{compile_may, explore_may, get_may, list_may, new_disk_may}
use Rattle.edi_statuses.proofs.always.Programs.{exec_may, replay_may, run_may, walk_may, watch_may}
use Rattle.edi_statuses.proofs.always.Demonstrations.{demo_may, demo_with_may}
use Rattle.edi_statuses.proofs.always.Accounts.{exec_with_may, run_with_may}
use Rattle.edi_statuses.proofs.always.OldDisks.{old_disk_may}
use Rattle.edi_statuses.proofs.always.Puts.{put_may}
use Rattle.edi_statuses.proofs.always.Sessions.{boot_may}

module _ (files : Contents) (d : Devices) (kernel : KernelLeft) where
  -- nothing was done
  abbrev nothing : IsNothing (told_outside files d) (told_outside files d) [] (idle kernel)
  nothing = record { shown_ = refl; same = record { files = refl; blocks = refl; input = refl; printed = refl }; kernel_same = refl }

  -- each step comes to something
  steps_come : (c : Command) → ComesTo ((facts_of c).work.steps (told_outside files d))
  steps_come (words.run file o) = run_some files d file o.choices
  steps_come (words.replay file choices turns) = run_some files d file (words.file choices)
  steps_come (words.exec file o) = exec_some files d file o.choices
  steps_come (words.boot o) = boot_some files d o.choices
  steps_come (words.compile file out) = text_some files d file
  steps_come (words.newdisk blocks None) = ready_some blocks
  steps_come (words.newdisk blocks (Some file)) = old_steps_some files d blocks file
  steps_come (words.put file title) = put_some files d file title
  steps_come (words.get title file) = get_some files d title
  steps_come (words.list file) = list_some files d file
  steps_come (words.demo n o) = choices_some files d o.choices
  steps_come (words.check file) = text_some files d file
  steps_come (words.explain file) = fetches_some files d file
  steps_come (words.walk file choices turns) = run_some files d file (words.file choices)
  steps_come (words.watch file points_file out o) = watch_some files d file points_file o.choices
  steps_come (words.explore file o) = text_some files d file
  steps_come (words.run_with file account o) = run_some files d file o.choices
  steps_come (words.exec_with file account o) = exec_some files d file o.choices
  steps_come (words.demo_with n account o) = choices_some files d o.choices

  some_of : (c : Command) → ComesTo ((facts_of c).work.steps (told_outside files d)) → IsStopped c files d kernel ⊎ StepsGo c (told_outside files d)
  some_of c (stops s, h, fine) = inl (record { answer = s; decisive = fine; stopped = h; comes = inl (h, nothing) })
  some_of c (goes a, h, fine) = inr (a, h)

  open_of : (c : Command) → is_open c ≡ true → IsInRange c → HasBlocks d → MayEnd c files d kernel
  open_of (words.run file o) is range sized = run_may files d kernel sized file o
  open_of (words.replay file choices turns) is range sized = replay_may files d kernel sized file choices turns
  open_of (words.exec file o) is range sized = exec_may files d kernel sized file o
  open_of (words.boot o) is range sized = boot_may files d kernel sized o
  open_of (words.compile file out) is range sized = compile_may files d kernel file out
  open_of (words.newdisk blocks None) is range sized = new_disk_may files d kernel blocks range.0 range.1
  open_of (words.newdisk blocks (Some file)) is range sized = old_disk_may files d kernel blocks file range.0 range.1
  open_of (words.put file title) is range sized = put_may files d kernel sized file title range
  open_of (words.get title file) is range sized = get_may files d kernel title file
  open_of (words.list file) is range sized = list_may files d kernel file
  open_of (words.demo n o) is range sized = demo_may files d kernel n o range.0 range.1
  open_of (words.check file) is range sized = absurd (true≢false (sym is))
  open_of (words.explain file) is range sized = absurd (true≢false (sym is))
  open_of (words.walk file choices turns) is range sized = walk_may files d kernel sized file choices turns
  open_of (words.watch file points_file out o) is range sized = watch_may files d kernel sized file points_file out o
  open_of (words.explore file o) is range sized = explore_may files d kernel file o
  open_of (words.run_with file account o) is range sized = run_with_may files d kernel sized file account o
  open_of (words.exec_with file account o) is range sized = exec_with_may files d kernel sized file account o
  open_of (words.demo_with n account o) is range sized = demo_with_may files d kernel n o range.0 range.1 account

-- THE LAWS
pub some_step : SomeStep
some_step c files d kernel = some_of files d kernel c (steps_come files d kernel c)

pub some_status : SomeStatus
some_status c files d kernel is range sized = open_of files d kernel c is range sized
