-- Words of contracts. What is left where a program is run on a drive that is mounted for it, and several files are kept after it.
use Rattle.std.specs.Prelude.{◌⊎◌, ℕ, List}
use Rattle.edi_statuses.specs.declared.status.Status.{Status}
use Rattle.edi_statuses.specs.declared.status.Status.TheVariants as status
use Rattle.edi_statuses.specs.Outside.{Outside, SameBut, SameFiles, Lent}
use Rattle.edi_statuses.specs.Steps.{goes, stops, Mounts}
use Rattle.edi_statuses.specs.Commands.{IsNothing}
use Rattle.edi_statuses.specs.Broken.{HasNotBegun}

-- The drive was not mounted; or the run was `broken` off, for an object had failed; or it came to its end, and then memory ran out where the files of
-- these names were to be kept, which `wants` tells, or the files failed, which `lost` tells; or all were kept, and the status says to which end it
-- `comes`.
abbrev pub OnKept : (names : List (List ℕ)) → (broken wants lost : Type 0) → (comes : Status → Type 0) → Status → Outside → Outside → (shown : List ℕ)
    → Lent → Type 0
OnKept names broken wants lost comes status.NoMemory before after shown kernel =
    IsNothing before after shown kernel ⊎ (Mounts before (goes tt) × wants)
OnKept names broken wants lost comes status.FileFault before after shown kernel = SameBut names before after × Mounts before (goes tt) × lost
OnKept names broken wants lost comes status.DriveFault before after shown kernel =
    SameFiles before after × (HasNotBegun before after shown kernel ⊎ (Mounts before (goes tt) × broken))
OnKept names broken wants lost comes status.InputFault before after shown kernel = SameFiles before after × Mounts before (goes tt) × broken
OnKept names broken wants lost comes status.OutputFault before after shown kernel = SameFiles before after × Mounts before (goes tt) × broken
OnKept names broken wants lost comes (status.BadImage fault) before after shown kernel =
    Mounts before (stops (status.BadImage fault)) × IsNothing before after shown kernel
OnKept names broken wants lost comes s before after shown kernel = Mounts before (goes tt) × comes s
