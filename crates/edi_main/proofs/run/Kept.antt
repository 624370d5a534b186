-- What is left where a program is run on a drive and several files are kept: the drive is not mounted, an object has failed, or it has come to its end.
use Rattle.std.proofs.Common.{◌≡◌, ℕ, List, Option, None, Some, IsSome, refl, inl, inr}
use Rattle.edi_calls.specs.declared.ends.Outside as failing
use Rattle.edi_calls.specs.declared.ends.Outside.TheVariants as object
use Rattle.edi_calls.specs.Outcome as outcome
use Rattle.edi_image.specs.declared.faults.MountFault.{MountFault}
use Rattle.edi_image.specs.declared.faults.MountFault.TheVariants as mount
use Rattle.edi_statuses.specs.declared.status.Status.{Status}
use Rattle.edi_statuses.specs.Executions.{object_status, status_of}
use Rattle.edi_statuses.specs.Outside.{Outside, SameFiles, Lent}
use Rattle.edi_statuses.specs.Steps.{goes, Mounts}
use Rattle.edi_main.specs.steps.NotMounted.{mount_status}
use Rattle.edi_main.specs.run.OnKept.{OnKept}
use Rattle.edi_main.specs.run.OnMounted.{OnMounted}

-- there is no name
pub not_there : (name : Option (List ℕ)) → name ≡ None → IsSome name → ⊥
not_there None e there = absurd (cc)
not_there (Some name) e there = absurd (cc)

module _ (names : List (List ℕ)) (broken wants lost : Type 0) (comes : Status → Type 0) (before after : Outside) (shown : List ℕ) (kernel : Lent) where
  -- the drive was not mounted
  pub unmounted_kept : (whole : Type 0) (ends : Status → Type 0) (why : MountFault)
      → OnMounted None broken whole ends (mount_status why) before after shown kernel
      → OnKept names broken wants lost comes (mount_status why) before after shown kernel
  unmounted_kept whole ends mount.Fault h = h
  unmounted_kept whole ends mount.NoMemory (inl h) = inl h
  unmounted_kept whole ends mount.NoMemory (inr h) = absurd (not_there None refl h.0)
  unmounted_kept whole ends mount.Short h = h
  unmounted_kept whole ends mount.Header h = h
  unmounted_kept whole ends (mount.Entry slot) h = h
  unmounted_kept whole ends (mount.Page slot block) h = h
  unmounted_kept whole ends (mount.Shared block) h = h

  -- an object has failed
  pub broke_kept : (failed : failing.Outside) → Mounts before (goes tt) → SameFiles before after → broken
      → OnKept names broken wants lost comes (object_status failed) before after shown kernel
  broke_kept object.Drive mounts files broke = (files, inr (mounts, broke))
  broke_kept object.Input mounts files broke = (files, mounts, broke)
  broke_kept object.Terminal mounts files broke = (files, mounts, broke)
  broke_kept object.Printer mounts files broke = (files, mounts, broke)

  -- it has come to its end
  pub ended_kept : (end : outcome.Ending) → Mounts before (goes tt) → comes (status_of end)
      → OnKept names broken wants lost comes (status_of end) before after shown kernel
  ended_kept outcome.done mounts h = (mounts, h)
  ended_kept (outcome.halted line) mounts h = (mounts, h)
  ended_kept (outcome.failed why line) mounts h = (mounts, h)
  ended_kept outcome.turns mounts h = (mounts, h)
  ended_kept outcome.standstill mounts h = (mounts, h)
  ended_kept (outcome.bad address) mounts h = (mounts, h)
