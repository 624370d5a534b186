-- Words of contracts. The laws that a status which words and contents decide is always open: want of memory is never the only answer that is left.
use Rattle.std.specs.Prelude.{◌≡◌, ◌⊎◌, ℕ, Bool, true, false, List, [], ◌++◌, Some, None}
use Rattle.std.specs.List.{list_all}
use Rattle.edi_host.specs.Blocks.{is_block}
use Rattle.edi_host.specs.Contents.{Contents}
use Rattle.edi_words.specs.Words as words
use Rattle.edi_words.specs.Words.{Command, command_of}
use Rattle.edi_statuses.specs.declared.status.Status.{Status}
use Rattle.edi_statuses.specs.Outside.{Outside, Devices, KernelLeft, Lent, idle, outside_with}
use Rattle.edi_statuses.specs.Steps.{AfterStep, stops}
use Rattle.edi_statuses.specs.Commands.{CommandEffect}
use Rattle.edi_statuses.specs.Facts.{Comes, facts_of}
use Rattle.edi_statuses.specs.Broken.{WentOn}
use Rattle.edi_statuses.specs.Decided.{IsDecisive}
use Rattle.edi_statuses.specs.EachObject.{LeavesEach}

-- ---- told outsides

-- the outside that has these files and devices, all of them told
abbrev pub told_outside : Contents → Devices → Outside
told_outside files d = outside_with (Some files) (Some d.blocks) (Some d.input) (Some d.shown) (Some d.printed)

-- a drive has blocks of 512 bytes
abbrev pub HasBlocks : Devices → Type 0
HasBlocks d = list_all is_block d.blocks ≡ true

-- the kernel before a call and after it
abbrev pub lent_from : (before after : KernelLeft) → Lent
lent_from before after = record { before = before; after = after; failed = None }

-- ---- an end that is open

-- THE COMMAND MAY END: at a status that words and contents decide. There is an outside after it, told as the one before, with the bytes that were
-- shown, and a kernel, of which this effect holds. Each object is left as a command may leave it, and a drive still has blocks of 512 bytes.
pub record MayCome (c : Command) (effect : CommandEffect) (files : Contents) (d : Devices) (kernel : KernelLeft) : Type 0 where
  pub answer : Status
  pub decisive : IsDecisive answer
  pub files_after : Contents
  pub devices_after : Devices
  pub sized : HasBlocks d → HasBlocks devices_after
  pub shown : List ℕ
  pub left : KernelLeft
  pub comes : effect answer (told_outside files d) (told_outside files_after devices_after) shown (lent_from kernel left)
  pub shows : devices_after.shown ≡ d.shown ++ shown
  pub each : LeavesEach (Some c) (told_outside files d) (told_outside files_after devices_after)

abbrev pub MayEnd : Command → Contents → Devices → KernelLeft → Type 0
MayEnd c = MayCome c (Comes c)

-- ---- refusals

-- what is said of steps, whatever they find
abbrev pub OfSteps : Type 1
OfSteps = (A : Type 0) → (AfterStep A → Type 0) → Type 0

-- what is said of the steps of a command
abbrev pub StepsOf : OfSteps → Command → Outside → Type 0
StepsOf P c before = P (facts_of c).work.Found ((facts_of c).work.steps before)

-- all of them have gone on
abbrev pub StepsGo : Command → Outside → Type 0
StepsGo c before = StepsOf (λ A steps. WentOn steps) c before

-- one of them stops the command at this status
abbrev pub StepsStop : Status → Command → Outside → Type 0
StepsStop s c before = StepsOf (λ A steps. steps (stops s)) c before

-- A step stops the command at a status that words and contents decide, and nothing is done.
pub record IsStopped (c : Command) (files : Contents) (d : Devices) (kernel : KernelLeft) : Type 0 where
  pub answer : Status
  pub decisive : IsDecisive answer
  pub stopped : StepsStop answer c (told_outside files d)
  pub comes : Comes c answer (told_outside files d) (told_outside files d) [] (idle kernel)

-- Of every command: a step stops it so, or all its steps go on.
abbrev pub SomeStep : Type 0
SomeStep = (c : Command) (files : Contents) (d : Devices) (kernel : KernelLeft) → IsStopped c files d kernel ⊎ StepsGo c (told_outside files d)

-- ---- the whole

-- what the words of a command give: ranges of numbers, and a title
abbrev pub IsInRange : Command → Type 0
IsInRange c = (facts_of c).ranges

-- so of every command that words are
abbrev pub WordsGiveRanges : Type 0
WordsGiveRanges = (given : List (List ℕ)) (c : Command) → command_of given ≡ Some c → IsInRange c

-- the commands of which the law speaks
abbrev pub is_open : Command → Bool
is_open (words.check file) = false
is_open (words.explain file) = false
is_open c = true

-- THE LAW. Each of these commands may end at a decisive status, whatever the files are, the blocks of the drive, the input, the terminal, the printer
-- and the kernel: want of memory is never the only answer that is left.
abbrev pub SomeStatus : Type 0
SomeStatus =
    (c : Command) (files : Contents) (d : Devices) (kernel : KernelLeft) → is_open c ≡ true → IsInRange c → HasBlocks d → MayEnd c files d kernel

-- it is false that there is none
abbrev pub IsNotNone : Type 0 → Type 0
IsNotNone A = (A → ⊥) → ⊥

-- Of `check` and `explain` no end is given, but it is false that there is none.
abbrev pub NotRefuted : Type 0
NotRefuted =
    (file : List ℕ) (files : Contents) (d : Devices) (kernel : KernelLeft)
    → IsNotNone (MayEnd (words.check file) files d kernel) × IsNotNone (MayEnd (words.explain file) files d kernel)
