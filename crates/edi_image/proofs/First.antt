-- The first broken rule.
use Rattle.std.proofs.Common.{◌≡◌, true, false, sym, ◌∙◌, subst}
use Rattle.std.specs.Prelude.{Option, Result, Ok, Err}
use Rattle.edi_image.specs.declared.faults.MountFault.{MountFault}
use Rattle.edi_image.specs.declared.faults.MountFault.TheVariants as fault
use Rattle.edi_image.specs.Finds.{Finds, IsFirst, is_drive_fault}

-- of a fault of the drive nothing is said
pub drive_first : (e : MountFault) (broken : Option MountFault) → is_drive_fault e ≡ true → IsFirst e broken
drive_first fault.Short broken h = absurd (let no : false ≡ true = h in cc)
drive_first fault.Header broken h = absurd (let no : false ≡ true = h in cc)
drive_first (fault.Entry s) broken h = absurd (let no : false ≡ true = h in cc)
drive_first (fault.Page s n) broken h = absurd (let no : false ≡ true = h in cc)
drive_first (fault.Shared n) broken h = absurd (let no : false ≡ true = h in cc)
drive_first fault.Fault broken h = tt
drive_first fault.NoMemory broken h = tt

pub finds_map : {X : Type 0} (r : Result X MountFault) (one other : Option MountFault) (P Q : X → Type 0)
    → one ≡ other → ((x : X) → P x → Q x) → Finds r one P → Finds r other Q
finds_map (Ok x) one other P Q same so found = (sym same ∙ found.0, so x found.1)
finds_map (Err e) one other P Q same so found = subst (IsFirst e) same found
