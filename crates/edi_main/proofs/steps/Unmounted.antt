-- The status of a command whose drive was not mounted.
use Rattle.std.proofs.Common.{◌≡◌, ◌≤◌, ℕ, false, refl, arith}
use Rattle.std.specs.Prelude.{⊤}
use Rattle.edi_catalog.specs.Counted.{IsOfCount}
use Rattle.edi_image.specs.declared.faults.MountFault.{MountFault}
use Rattle.edi_image.specs.declared.faults.MountFault.TheVariants as mount
use Rattle.edi_statuses.specs.declared.status.Status.{Status}
use Rattle.edi_statuses.specs.declared.status.Status.TheVariants as status
use Rattle.edi_statuses.specs.EachObject.{FitsCount, FitsGet, MayBeImage, is_before_drive}
use Rattle.edi_statuses.specs.Steps.{IsBrokenRule}
use Rattle.edi_main.specs.steps.NotMounted.{mount_status}

-- it is one of these three
pub unmounted : (P : Status → Type 0) (Q : MountFault → Type 0) → (Q mount.Fault → P status.DriveFault) → (Q mount.NoMemory → P status.NoMemory)
    → ((broken : MountFault) → IsBrokenRule broken → Q broken → P (status.BadImage broken)) → (why : MountFault) → Q why → P (mount_status why)
unmounted P Q fails wants breaks mount.Fault h = fails h
unmounted P Q fails wants breaks mount.NoMemory h = wants h
unmounted P Q fails wants breaks mount.Short h = breaks mount.Short tt h
unmounted P Q fails wants breaks mount.Header h = breaks mount.Header tt h
unmounted P Q fails wants breaks (mount.Entry slot) h = breaks (mount.Entry slot) tt h
unmounted P Q fails wants breaks (mount.Page slot block) h = breaks (mount.Page slot block) tt h
unmounted P Q fails wants breaks (mount.Shared block) h = breaks (mount.Shared block) tt h

-- a drive that is read has the number of blocks of an image
may_be_image : (count : ℕ) → (64 ≤ count) × (count ≤ 4096) → MayBeImage count
may_be_image count h = record { least = λ some few. (let least = h.0 in omega (arith, few, least)); most = h.1 }

-- it fits the number of blocks
pub unmounted_fits : (why : MountFault) (count : ℕ) → IsOfCount count why → FitsCount (mount_status why) count
unmounted_fits why count h = unmounted (λ s. FitsCount s count) (IsOfCount count) (may_be_image count) (λ x. tt) (λ broken rule x. x) why h

pub unread_fits : (why : MountFault) (count : ℕ) → IsOfCount count why → FitsGet (mount_status why) count
unread_fits why count h = unmounted (λ s. FitsGet s count) (IsOfCount count) (may_be_image count) (λ x. tt) (λ broken rule x. x) why h

-- and is none of a step before the mount
pub unmounted_behind : (why : MountFault) → is_before_drive (mount_status why) ≡ false
unmounted_behind why = unmounted (λ s. is_before_drive s ≡ false) (λ broken. ⊤) (λ x. refl) (λ x. refl) (λ broken rule x. refl) why tt
