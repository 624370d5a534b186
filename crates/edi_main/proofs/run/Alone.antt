-- How `demo` came to its status, whatever the drive and the input are.
use Rattle.std.proofs.Common.{◌≡◌, ◌∙◌, ◌≤◌, arith, ℕ, Bool, false, List, [], ◌++◌}
use Rattle.std.proofs.Common.{Option, Some, None, Err, map, refl, sym, ap, subst, inl}
use Rattle.std.specs.Prelude.{⊤}
use Rattle.edi_told.specs.Told.{WhereTold}
use Rattle.edi_host.specs.Blocks.{block_of}
use Rattle.edi_host.specs.Contents.{Contents}
use Rattle.edi_calls.specs.declared.ends.Outside.TheVariants as object
use Rattle.edi_calls.specs.Choice.{Choices}
use Rattle.edi_utils.specs.Demo.{demo_text}
use Rattle.edi_words.specs.Words.{Account, Options}
use Rattle.edi_statuses.specs.declared.ended.Ended.{Ended}
use Rattle.edi_statuses.specs.declared.status.Status.{Status}
use Rattle.edi_statuses.specs.declared.status.Status.TheVariants as status
use Rattle.edi_statuses.specs.Counts.{HasCause, counts_with}
use Rattle.edi_statuses.specs.EachObject.{LeavesEach}
use Rattle.edi_statuses.specs.Means.{MeansOf}
use Rattle.edi_statuses.specs.Outside.{KernelLeft, Lent, Outside, blaming, idle, outside_with, seen, still_told}
use Rattle.edi_statuses.specs.Showing.{ShowsBytes, due_behind}
use Rattle.edi_statuses.specs.Steps.{ReadsChoices, goes}
use Rattle.edi_statuses.specs.Executions.{Runnable, text}
use Rattle.edi_statuses.specs.Commands.{DemoSteps, IsNothing, size_line}
use Rattle.edi_statuses.proofs.Causes.{rose_before}
use Rattle.edi_statuses.proofs.Closing as closing
use Rattle.edi_statuses.proofs.Due.{due_then}
use Rattle.edi_statuses.proofs.EachLeft.{each_same}
use Rattle.edi_statuses.proofs.Told.{same_told, shows_nothing, still, still_same}
use Rattle.edi_main.specs.steps.OnFiles.{ChoicesStep, files_only}
use Rattle.edi_main.specs.run.Demonstrated.{CameAlone, HasCauseAlone, RanAlone, demo_with, is_ok}
use Rattle.edi_main.specs.run.OnAccounts.{ProgramRan, RanWith}
use Rattle.edi_main.proofs.run.Demonstrated.{IsOfDemo}
use Rattle.edi_main.proofs.run.AccountDemo.{EndsWell, line_by, ran_by, uncoded_by, unread_by, well_later}
use Rattle.edi_main.proofs.run.Told.{on_files, reads_till_the_last}

-- ---- causes

pub of_demo : (s : Status) (had has had_shown has_shown had_printed has_printed : ℕ)
    → HasCauseAlone s had has had_shown has_shown had_printed has_printed → IsOfDemo s
of_demo status.DriveFault had has had_shown has_shown had_printed has_printed h = let rose = h 0 0 in absurd (omega (arith, rose))
of_demo status.InputFault had has had_shown has_shown had_printed has_printed h = let rose = h 0 0 in absurd (omega (arith, rose))
of_demo s had has had_shown has_shown had_printed has_printed h = tt

-- a cause since the steps is one since the call
pub cause_since : (s : Status) (before had has had_shown has_shown had_printed has_printed : ℕ) → before ≤ had
    → HasCauseAlone s had has had_shown has_shown had_printed has_printed → HasCauseAlone s before has had_shown has_shown had_printed has_printed
cause_since status.FileFault before had has had_shown has_shown had_printed has_printed l h = λ drive input. rose_before before had has l (h drive input)
cause_since status.DriveFault before had has had_shown has_shown had_printed has_printed l h = λ drive input. h drive input
cause_since status.InputFault before had has had_shown has_shown had_printed has_printed l h = λ drive input. h drive input
cause_since status.OutputFault before had has had_shown has_shown had_printed has_printed l h = λ drive input. h drive input
cause_since s before had has had_shown has_shown had_printed has_printed l h = λ drive input. tt

-- a drive and an input that never fail have no fault
pub cause_alone : (s : Status) (had has had_shown has_shown had_printed has_printed : ℕ)
    → HasCause s (counts_with had 0 0 had_shown had_printed) (counts_with has 0 0 has_shown has_printed)
    → HasCauseAlone s had has had_shown has_shown had_printed has_printed
cause_alone status.DriveFault had has had_shown has_shown had_printed has_printed h = absurd (omega (arith, h))
cause_alone status.InputFault had has had_shown has_shown had_printed has_printed h = absurd (omega (arith, h))
cause_alone status.FileFault had has had_shown has_shown had_printed has_printed h = λ drive input. h
cause_alone status.OutputFault had has had_shown has_shown had_printed has_printed h = λ drive input. h
cause_alone s had has had_shown has_shown had_printed has_printed h = λ drive input. tt

-- ---- nothing was run

-- another status that is the same
came_so : (n : ℕ) (account : Option Account) (o : Options) (s t : Status) (due : Bool) (old new : Option Contents) (taken printed : Option (List ℕ))
    (kernel : Lent) → t ≡ s → due ≡ false → CameAlone (demo_with n account o) s false old new taken taken printed printed kernel
    → CameAlone (demo_with n account o) t due old new taken taken printed printed kernel
came_so n account o s t due old new taken printed kernel same silent h =
    subst (λ d. CameAlone (demo_with n account o) t d old new taken taken printed printed kernel) (sym silent)
    (subst (λ x. CameAlone (demo_with n account o) x false old new taken taken printed printed kernel) (sym same) h)

module _ (n : ℕ) (account : Option Account) (o : Options) (old mid : Option Contents) (first : WhereTold old mid (λ a b. b ≡ a))
    (taken printed : Option (List ℕ)) (kernel : KernelLeft) where
  module _ (blocks : Option (List (List ℕ))) (input : Option (List ℕ)) where
    abbrev start : Outside
    start = outside_with old blocks input taken printed

    abbrev end : Outside
    end = outside_with mid blocks input taken printed

    nothing : IsNothing (seen start end) end [] (idle kernel)
    nothing = record {
      shown_ = refl;
      same = record {
        files = still (λ a b. b ≡ a) old mid first;
        blocks = same_told blocks blocks refl;
        input = same_told input input refl;
        printed = same_told printed printed refl;
      };
      kernel_same = refl;
    }

  -- so for any drive and any input
  stopped : (s t : Status) (due : Bool) → t ≡ s → due ≡ false → ((blocks : Option (List (List ℕ))) (input : Option (List ℕ))
      → MeansOf s (demo_with n account o) (seen (start blocks input) (end blocks input)) (end blocks input) [] (idle kernel))
      → CameAlone (demo_with n account o) t due old mid taken taken printed printed (idle kernel)
  stopped s t due same silent means = came_so n account o s t due old mid taken printed (idle kernel) same silent (λ blocks input. record {
    shown = [];
    means = means blocks input;
    shows = shows_nothing taken taken refl;
    due_is = refl;
    each = each_same (Some (demo_with n account o)) (start blocks input) (end blocks input) refl refl refl;
  })

  pub unread : (s t : Status) (due : Bool) → t ≡ s → due ≡ false → ChoicesStep (files_only (still_told old mid)) o.choices (Err s)
      → CameAlone (demo_with n account o) t due old mid taken taken printed printed (idle kernel)
  unread s t due same silent h = stopped s t due same silent (λ blocks input.
      unread_by n account o (seen (start blocks input) (end blocks input)) (end blocks input) (same_told blocks blocks refl) (same_told input input refl)
      (idle kernel) (nothing blocks input) s h)

  pub uncoded : (t : Status) (due : Bool) → t ≡ status.NoMemory → due ≡ false
      → CameAlone (demo_with n account o) t due old mid taken taken printed printed (idle kernel)
  uncoded t due same silent = stopped status.NoMemory t due same silent (λ blocks input.
      uncoded_by n account o (seen (start blocks input) (end blocks input)) (end blocks input) (same_told blocks blocks refl) (same_told input input refl)
      (idle kernel) (nothing blocks input))

-- ---- the code was run

-- on a drive and an input of its own that began empty
pub alone_by : (account : Option Account) (IsIt : Runnable → Type 0) (bound : ℕ) (choices : Choices) (name : Option (List ℕ)) (s : Status) (due : Bool) (old new : Option Contents)
    (taken takes printed prints : Option (List ℕ)) (kernel : Lent) (disk disk' : List (List ℕ)) (input input' : List ℕ) → disk ≡ [] → input ≡ []
    → RanWith account IsIt bound choices name s due (outside_with old (Some (map block_of disk)) (Some input) taken printed)
    (outside_with new (Some (map block_of disk')) (Some input') takes prints) kernel
    → RanAlone account IsIt bound choices name s due old new taken takes printed prints kernel
alone_by account IsIt bound choices name s due old new taken takes printed prints kernel disk disk' input input' no_disk no_input h = record {
  disk = map block_of disk';
  left = input';
  ran = subst (λ d. RanWith account IsIt bound choices name s due (outside_with old (Some (map block_of d)) (Some []) taken printed)
      (outside_with new (Some (map block_of disk')) (Some input') takes prints) kernel) no_disk
      (subst (λ b. RanWith account IsIt bound choices name s due (outside_with old (Some (map block_of disk)) (Some b) taken printed)
      (outside_with new (Some (map block_of disk')) (Some input') takes prints) kernel) no_input h);
}

-- memory was wanting for them
pub alone_wants : (account : Option Account) (IsIt : Runnable → Type 0) (bound : ℕ) (choices : Choices) (name : Option (List ℕ)) (s : Status) (due : Bool) (old : Option Contents)
    (taken printed : Option (List ℕ)) (kernel : KernelLeft) → s ≡ status.NoMemory → due ≡ false
    → RanAlone account IsIt bound choices name s due old old taken taken printed printed (idle kernel)
alone_wants account IsIt bound choices name s due old taken printed kernel no_memory silent = record {
  disk = [];
  left = [];
  ran = record {
    shown = [];
    ran = λ program is. subst (λ t. ProgramRan account program bound choices name t (seen start start) start [] (idle kernel)) (sym no_memory)
        (wants_by account program);
    shows = shows_nothing taken taken refl;
    due_is = silent;
    each = each_same None start start refl refl refl;
  };
} where
  start : Outside
  start = outside_with old (Some []) (Some []) taken printed

  nothing_now : IsNothing (seen start start) start [] (idle kernel)
  nothing_now = record {
    shown_ = refl;
    same = record { files = same_told old old refl; blocks = refl; input = refl; printed = same_told printed printed refl };
    kernel_same = refl;
  }

  wants_by : (account : Option Account) (program : Runnable) → ProgramRan account program bound choices name status.NoMemory (seen start start) start [] (idle kernel)
  wants_by None program = inl nothing_now
  wants_by (Some account) program = inl nothing_now

module _ (n : ℕ) (account : Option Account) (o : Options) (old mid new : Option Contents) (choices : Choices) (c : ReadsChoices (files_only (still_told old mid)) o.choices (goes choices))
    (first : WhereTold old mid (λ a b. b ≡ a)) (last : WhereTold mid new (λ a b. ⊤)) (IsIt : Runnable → Type 0)
    (is : IsIt (text (demo_text n))) (taken takes printed prints : Option (List ℕ)) (kernel : Lent) (s : Status) (due : Bool)
    (r : RanAlone account IsIt o.turns choices o.record_file s due mid new taken takes printed prints kernel) where
  steps : (shown : Option (List ℕ)) (blocks : Option (List (List ℕ))) (input : Option (List ℕ))
      → DemoSteps (seen (outside_with old blocks input taken printed) (outside_with new blocks input shown prints)) o.choices (goes choices)
  steps shown blocks input =
      on_files (seen (outside_with old blocks input taken printed) (outside_with new blocks input shown prints)) o.choices (goes choices)
      (reads_till_the_last o.choices choices old mid new last c)

  -- the drive and the input that were lent are left alone
  each_alone : (shown : Option (List ℕ)) (blocks : Option (List (List ℕ))) (input : Option (List ℕ))
      → LeavesEach (Some (demo_with n account o)) (outside_with old blocks input taken printed) (outside_with new blocks input shown prints)
  each_alone shown blocks input =
      let rest = each_same (Some (demo_with n account o)) (outside_with old blocks input taken printed) (outside_with new blocks input shown printed) refl refl refl in
      record { drive = rest.drive; input = rest.input; printer = r.ran.each.printer }

  -- so over the files from before the command
  ran : ProgramRan account (text (demo_text n)) o.turns choices o.record_file s
      (outside_with (still_told old new) (Some []) (Some []) (still_told taken takes) (still_told printed prints))
      (outside_with new (Some r.disk) (Some r.left) takes prints) r.ran.shown kernel
  ran =
      subst (λ files. ProgramRan account (text (demo_text n)) o.turns choices o.record_file s
      (outside_with files (Some []) (Some []) (still_told taken takes) (still_told printed prints))
      (outside_with new (Some r.disk) (Some r.left) takes prints) r.ran.shown kernel)
      (still_same old mid new first last) (r.ran.ran (text (demo_text n)) is)

  pub ran_alone : IsOfDemo s → is_ok s ≡ false → CameAlone (demo_with n account o) s due old new taken takes printed prints kernel
  ran_alone of_ not_ok = λ blocks input. record {
    shown = r.ran.shown;
    means = ran_by n account o (seen (outside_with old blocks input taken printed) (outside_with new blocks input takes prints))
        (outside_with new blocks input takes prints) (same_told blocks blocks refl) (same_told input input refl) kernel choices (steps takes blocks input)
        r.disk r.left r.ran.shown s of_ not_ok ran;
    shows = r.ran.shows;
    due_is = r.ran.due_is;
    each = each_alone takes blocks input;
  }

  -- the line of its size was shown, or a first part of it
  module _ (ok : s ≡ status.Ok) (shows : Option (List ℕ)) (ended : Ended)
      (line : ShowsBytes (size_line n kernel.after.used r.ran.shown) due ended takes shows) where
    -- for which the terminal is blamed
    abbrev blaming_it : Lent
    blaming_it = blaming (Some object.Terminal) kernel

    ends : EndsWell account (text (demo_text n)) o.turns choices o.record_file
        (outside_with (still_told old new) (Some []) (Some []) (still_told taken shows) (still_told printed prints))
        (outside_with new (Some r.disk) (Some r.left) shows prints) r.ran.shown blaming_it
    ends =
        well_later (outside_with old (Some []) (Some []) taken printed) (outside_with new (Some r.disk) (Some r.left) takes prints) shows
        (closing.still_told takes shows _ line.2) account (text (demo_text n)) o.turns choices o.record_file r.ran.shown (Some object.Terminal) kernel
        (subst (λ t. ProgramRan account (text (demo_text n)) o.turns choices o.record_file t
        (outside_with (still_told old new) (Some []) (Some []) (still_told taken takes) (still_told printed prints))
        (outside_with new (Some r.disk) (Some r.left) takes prints) r.ran.shown kernel) ok ran)

    pub lined : CameAlone (demo_with n account o) ended.status ended.due old new taken shows printed prints blaming_it
    lined = λ blocks input. record {
      shown = r.ran.shown ++ line.0;
      means = line_by n account o (seen (outside_with old blocks input taken printed) (outside_with new blocks input shows prints))
          (outside_with new blocks input shows prints) (same_told blocks blocks refl) (same_told input input refl) blaming_it refl choices
          (steps shows blocks input) r.disk r.left r.ran.shown ends ended.status line.0 line.1;
      shows = closing.shown_line taken takes shows r.ran.shown line.0 r.ran.shows line.2;
      due_is = line.3 ∙ ap (λ d. due_behind d line.0) r.ran.due_is ∙ sym (due_then r.ran.shown line.0);
      each = each_alone shows blocks input;
    }
