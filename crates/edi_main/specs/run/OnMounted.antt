-- Words of contracts. What is left where something is carried out on a drive that is mounted for it, a run of a program or a session, and
-- the record of its choices is kept.
use Rattle.std.specs.Prelude.{◌≡◌, ◌⊎◌, false, List, ℕ, Option, IsSome}
use Rattle.edi_statuses.specs.declared.status.Status.{Status}
use Rattle.edi_statuses.specs.declared.status.Status.TheVariants as status
use Rattle.edi_statuses.specs.EachObject.{FitsCount, is_before_drive}
use Rattle.edi_statuses.specs.Outside.{Outside, SameBut, SameFiles, Lent}
use Rattle.edi_statuses.specs.Steps.{goes, stops, Mounts}
use Rattle.edi_statuses.specs.Commands.{IsNothing}
use Rattle.edi_statuses.specs.Broken.{HasNotBegun, names_in}

-- The drive was asked: the status is none of a step before that, and fits the number of blocks.
pub record DriveAsked (s : Status) (count : ℕ) : Type 0 where
  pub behind_steps : is_before_drive s ≡ false
  pub fits : FitsCount s count

-- The drive was not mounted; or it was `broken` off, for an object had failed; or it came to its end, `whole`, and then the record wanted
-- memory, or the files failed; or that was kept, and the status says to which end it `comes`.
abbrev pub OnMounted : (record_file : Option (List ℕ)) → (broken whole : Type 0) → (comes : Status → Type 0) → Status → Outside → Outside
    → (shown : List ℕ) → Lent → Type 0
OnMounted name broken whole comes status.NoMemory before after shown kernel =
    IsNothing before after shown kernel ⊎ (IsSome name × Mounts before (goes tt) × (whole × SameFiles before after))
OnMounted name broken whole comes status.FileFault before after shown kernel =
    IsSome name × SameBut (names_in name) before after × Mounts before (goes tt) × whole
OnMounted name broken whole comes status.DriveFault before after shown kernel =
    SameFiles before after × (HasNotBegun before after shown kernel ⊎ (Mounts before (goes tt) × broken))
OnMounted name broken whole comes status.InputFault before after shown kernel = SameFiles before after × Mounts before (goes tt) × broken
OnMounted name broken whole comes status.OutputFault before after shown kernel = SameFiles before after × Mounts before (goes tt) × broken
OnMounted name broken whole comes (status.BadImage fault) before after shown kernel =
    Mounts before (stops (status.BadImage fault)) × IsNothing before after shown kernel
OnMounted name broken whole comes s before after shown kernel = Mounts before (goes tt) × comes s
