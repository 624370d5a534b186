-- Definition. Which fault of an image fits which number of blocks.
use Rattle.std.specs.Prelude.{◌≡◌, ◌≤◌, ◌<◌, ℕ, true, false, ⊤}
use Rattle.edi_image.specs.Entries.{is_data}
use Rattle.edi_image.specs.declared.faults.MountFault.{MountFault}
use Rattle.edi_image.specs.declared.faults.MountFault.TheVariants as fault

-- a fault of the slots: a number that `Page` names lies outside the data of a drive of so many blocks, one that `Shared` names inside
abbrev pub IsInRange : (count : ℕ) → MountFault → Type 0
IsInRange count fault.Short = ⊥
IsInRange count fault.Header = ⊥
IsInRange count (fault.Page slot page) = is_data 33 count page ≡ false
IsInRange count (fault.Shared block) = is_data 33 count block ≡ true
IsInRange count other = ⊤

-- A fault of an image: `Short` of 1 to 63 blocks; `Header` of 64 or more; a fault of a slot of 64 to 4096. Only a drive of 64 to 4096
-- blocks is read, so no other can fail.
abbrev pub IsOfCount : (count : ℕ) → MountFault → Type 0
IsOfCount count fault.Short = (0 < count) × (count < 64)
IsOfCount count fault.Header = 64 ≤ count
IsOfCount count fault.Fault = (64 ≤ count) × (count ≤ 4096)
IsOfCount count fault.NoMemory = ⊤
IsOfCount count other = (64 ≤ count) × ((count ≤ 4096) × IsInRange count other)
