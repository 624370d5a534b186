-- Words of contracts. What a command answers that touches the drive alone, or the files and the drive.
use Rattle.std.specs.Prelude.{◌≡◌, ◌≤◌, ℕ, List, [], Option, Some, ⊤}
use Rattle.edi_told.specs.Faults.{CountRose}
use Rattle.edi_host.specs.Contents.{Contents}
use Rattle.edi_words.specs.Words.{Command}
use Rattle.edi_statuses.specs.declared.status.Status.{Status}
use Rattle.edi_statuses.specs.declared.status.Status.TheVariants as status
use Rattle.edi_statuses.specs.Outside.{Outside, Lent}
use Rattle.edi_statuses.specs.Means.{Means}

-- the input, the printer and the kernel are as before
pub record RestStays (before after : Outside) (kernel : Lent) : Type 0 where
  pub input : after.input ≡ before.input
  pub printed : after.printed ≡ before.printed
  pub kernel_same : kernel.after ≡ kernel.before

-- The command has come to this status, and has shown nothing before its line, whatever the other objects and the kernel are, which
-- stay as they are.
abbrev pub MeansOnDisk : Command → Status → (old new : Option Contents) → (was now : Option (List (List ℕ))) → Type 0
MeansOnDisk c s old new was now =
    (before after : Outside) (kernel : Lent) → before.files ≡ old → after.files ≡ new → before.blocks ≡ was → after.blocks ≡ now
    → RestStays before after kernel → Means s (Some c) before after [] kernel

-- so, where the files are as before too
abbrev pub MeansOnDrive : Command → Status → (was now : Option (List (List ℕ))) → Type 0
MeansOnDrive c s was now = (files : Option Contents) → MeansOnDisk c s files files was now

-- no object but the files and the drive has failed
abbrev pub IsOfDisk : Status → Type 0
IsOfDisk status.InputFault = ⊥
IsOfDisk status.OutputFault = ⊥
IsOfDisk _ = ⊤

-- A status that tells a fault comes only where the count of its object rose, which is that of the files or of the drive; no count falls.
pub record HasCauseOnDisk (s : Status) (files files' drive drive' : ℕ) : Type 0 where
  pub kind : IsOfDisk s
  pub later_files : files ≤ files'
  pub later_drive : drive ≤ drive'
  pub cause_files : s ≡ status.FileFault → CountRose files files'
  pub cause_drive : s ≡ status.DriveFault → CountRose drive drive'
