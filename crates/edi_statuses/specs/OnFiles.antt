-- Words of contracts. What a command answers that touches the files alone.
use Rattle.std.specs.Prelude.{◌≡◌, [], Option, Some, ⊤}
use Rattle.edi_host.specs.Contents.{Contents}
use Rattle.edi_words.specs.Words.{Command}
use Rattle.edi_statuses.specs.declared.status.Status.{Status}
use Rattle.edi_statuses.specs.declared.status.Status.TheVariants as status
use Rattle.edi_statuses.specs.Outside.{Outside, Lent}
use Rattle.edi_statuses.specs.Means.{Means}

-- the other objects and the kernel are as before
pub record RestIsSame (before after : Outside) (kernel : Lent) : Type 0 where
  pub blocks : after.blocks ≡ before.blocks
  pub input : after.input ≡ before.input
  pub printed : after.printed ≡ before.printed
  pub kernel_same : kernel.after ≡ kernel.before

-- The command has come to this status, and has shown nothing before its line, whatever the other objects and the kernel are, which
-- stay as they are.
abbrev pub MeansOnFiles : Command → Status → (old new : Option Contents) → Type 0
MeansOnFiles c s old new =
    (before after : Outside) (kernel : Lent) → before.files ≡ old → after.files ≡ new → RestIsSame before after kernel
    → Means s (Some c) before after [] kernel

-- no object but the files has failed
abbrev pub IsOfFiles : Status → Type 0
IsOfFiles status.DriveFault = ⊥
IsOfFiles status.InputFault = ⊥
IsOfFiles status.OutputFault = ⊥
IsOfFiles _ = ⊤
