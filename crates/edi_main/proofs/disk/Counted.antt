-- What a status says of the drive by itself: of the number of its blocks, and of its image.
use Rattle.std.proofs.Common.{◌≡◌, ℕ, false, true, true≢false, List, refl, sym, inl, inr}
use Rattle.edi_host.specs.declared.files.KeepEnd.{KeepEnd}
use Rattle.edi_host.specs.declared.files.KeepEnd.TheVariants as keep
use Rattle.edi_statuses.specs.EachObject.{FitsGet, KeepsImage, MayBeImage, is_before_drive, is_unread}
use Rattle.edi_statuses.specs.declared.status.Status.{Status}
use Rattle.edi_statuses.specs.declared.status.Status.TheVariants as status
use Rattle.edi_statuses.proofs.EachLeft.{same_valid}
use Rattle.edi_main.specs.disk.OnDrive.{IsOfPut, PutsOn, status_kept}

-- ---- the number of blocks

pub kept_fits : (end : KeepEnd) (count : ℕ) → MayBeImage count → FitsGet (status_kept end) count
kept_fits keep.Ok count h = h
kept_fits keep.Failed count h = h
kept_fits keep.NoMemory count h = tt

-- ---- the image

-- the drive was asked
pub asked : (s : Status) → IsOfPut s → is_before_drive s ≡ true → ⊥
asked status.Ok of_ h = absurd (true≢false (sym h))
asked status.DiskFull of_ h = absurd (true≢false (sym h))
asked (status.BadImage broken) of_ h = absurd (true≢false (sym h))
asked status.NoMemory of_ h = absurd (true≢false (sym h))
asked status.DriveFault of_ h = absurd (true≢false (sym h))
asked s of_ h = absurd of_

pub put_valid : (s : Status) (title bytes : List ℕ) (old new : List (List ℕ)) → PutsOn s title bytes old new → KeepsImage old new
put_valid status.Ok title bytes old new h = λ valid. h.2.1.valid
put_valid status.DiskFull title bytes old new h = same_valid old new h.2
put_valid (status.BadImage broken) title bytes old new h = same_valid old new h.1
put_valid status.NoMemory title bytes old new h = same_valid old new h
put_valid status.DriveFault title bytes old new (inl same) = same_valid old new same
put_valid status.DriveFault title bytes old new (inr far) = λ valid. elim far.2.1 [
  | inl before ↦ before.valid
  | inr more ↦
      elim more [
        | inl released ↦ released.valid
        | inr whole ↦ whole.valid
      ]
]
put_valid s title bytes old new h = absurd h

-- nor is it that of a file that is not read
pub kept_read : (end : KeepEnd) → is_unread (status_kept end) ≡ false
kept_read keep.Ok = refl
kept_read keep.Failed = refl
kept_read keep.NoMemory = refl
