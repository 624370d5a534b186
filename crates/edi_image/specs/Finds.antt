-- Words of contracts. What a check of an image finds: the first broken rule, or what is kept of it.
use Rattle.std.specs.Prelude.{◌≡◌, ℕ, Bool, true, false, List, Option, Some, None, Result, Ok, Err, [], ◌∷◌, ◌++◌, ⊤}
use Rattle.edi_image.specs.Rules.{Rule, used_by}
use Rattle.edi_image.specs.Stored.{StoredFile}
use Rattle.edi_image.specs.declared.faults.MountFault.{MountFault}
use Rattle.edi_image.specs.declared.faults.MountFault.TheVariants as fault

-- the drive has failed
abbrev pub is_drive_fault : MountFault → Bool
is_drive_fault fault.Fault = true
is_drive_fault other = false

abbrev pub failed : {X : Type 0} → Result X MountFault → Bool
failed (Ok x) = false
failed (Err e) = is_drive_fault e

-- a fault is that of the first broken rule; want of memory, and a fault of the drive, say nothing
abbrev pub IsFirst : MountFault → Option MountFault → Type 0
IsFirst fault.Fault broken = ⊤
IsFirst fault.NoMemory broken = ⊤
IsFirst other broken = broken ≡ Some other

-- on Ok no rule is broken and P holds, and else the fault is that of the first broken rule
abbrev pub Finds : {X : Type 0} → Result X MountFault → Option MountFault → (X → Type 0) → Type 0
Finds (Ok x) broken P = (broken ≡ None) × P x
Finds (Err e) broken P = IsFirst e broken

-- the blocks that rules use are used, and pages are put behind the others
pub record Takes (used_before used_after : List ℕ) (rules : List Rule) (before after pages : List ℕ) : Type 0 where
  pub used : used_after ≡ used_before ++ used_by rules
  pub pages_ : after ≡ before ++ pages

-- what is read of a slot: its rules use their blocks, and what is kept of its entry is put behind the others
pub record TakesSlot (used_before used_after : List ℕ) (rules : List Rule) (before after : List (Option StoredFile)) (file : Option StoredFile) : Type 0 where
  pub used : used_after ≡ used_before ++ used_by rules
  pub files : after ≡ before ++ file ∷ []
