-- The exits that a run of a code and a session share: the drive is not mounted, an object has failed, the record is not kept.
use Rattle.std.proofs.Common.{◌≡◌, ℕ, Bool, false, List, [], length, drop, Option, None, Err, IfSome, refl, sym, subst, inl, inr}
use Rattle.edi_told.specs.Told.{WhereTold}
use Rattle.edi_image.specs.declared.faults.MountFault.{MountFault}
use Rattle.edi_image.specs.declared.faults.MountFault.TheVariants as mount
use Rattle.edi_image.specs.Finds.{IsFirst}
use Rattle.edi_image.specs.Image.{mount_fault_of}
use Rattle.edi_system.specs.Parts.{ToldStays, due_after}
use Rattle.edi_trace.specs.Drawn.{Drawn}
use Rattle.edi_statuses.specs.declared.status.Status.{Status}
use Rattle.edi_statuses.specs.declared.status.Status.TheVariants as status
use Rattle.edi_statuses.specs.EachObject.{LeavesEach}
use Rattle.edi_statuses.specs.Outside.{Outside, seen, still_told, SameBlocks, Shows, Lent}
use Rattle.edi_statuses.specs.Lines.{is_due}
use Rattle.edi_statuses.specs.Steps.{goes, Mounts}
use Rattle.edi_statuses.specs.Commands.{IsNothing}
use Rattle.edi_statuses.specs.Broken.{HasNotBegun}
use Rattle.edi_statuses.proofs.EachLeft.{each_but_drive, keeps_valid}
use Rattle.edi_statuses.proofs.Told.{same_told, still, told_so, first_told}
use Rattle.edi_main.specs.steps.NotMounted.{mount_status}
use Rattle.edi_main.specs.steps.OnFiles.{RecordStep}
use Rattle.edi_main.specs.run.OnMounted.{OnMounted}
use Rattle.edi_main.proofs.run.Shown.{due_so, shown_since, shows_so}

-- ---- the drive is not mounted

pub record IsUnmounted (before after : Outside) (kernel : Lent) (why : MountFault) : Type 0 where
  pub files : after.files ≡ before.files
  pub blocks : WhereTold before.blocks after.blocks (λ old new. (new ≡ old) × IsFirst why (mount_fault_of old))
  pub input : after.input ≡ before.input
  pub shown : after.shown ≡ before.shown
  pub printed : after.printed ≡ before.printed
  pub kernel_same : kernel.after ≡ kernel.before

module _ (before after : Outside) (kernel : Lent) (why : MountFault) (h : IsUnmounted before after kernel why) where
  same_blocks : SameBlocks (seen before after) after
  same_blocks = still _ before.blocks after.blocks (told_so _ _ before.blocks after.blocks (λ old new both. both.0) h.blocks)

  nothing : IsNothing (seen before after) after [] kernel
  nothing = record {
    shown_ = refl;
    same = record {
      files = same_told before.files after.files h.files;
      blocks = same_blocks;
      input = same_told before.input after.input h.input;
      printed = same_told before.printed after.printed h.printed;
    };
    kernel_same = h.kernel_same;
  }

  not_begun : HasNotBegun (seen before after) after [] kernel
  not_begun = record {
    shown_ = refl;
    blocks = same_blocks;
    input = same_told before.input after.input h.input;
    printed = same_told before.printed after.printed h.printed;
    kernel_same = h.kernel_same;
  }

  first : IfSome (still_told before.blocks after.blocks) (λ old. IsFirst why (mount_fault_of old))
  first = first_told _ _ before.blocks after.blocks (λ old new both. both.1) h.blocks

  pub unmounted_each : LeavesEach None before after
  unmounted_each =
      each_but_drive None before after
      (told_so _ _ before.blocks after.blocks (λ old new both valid. subst (λ b. mount_fault_of b ≡ None) (sym both.0) valid) h.blocks) h.input h.printed

pub unmounted_by : (before after : Outside) (kernel : Lent) (why : MountFault) → IsUnmounted before after kernel why → (name : Option (List ℕ))
    (broken whole : Type 0) (comes : Status → Type 0) → OnMounted name broken whole comes (mount_status why) (seen before after) after [] kernel
unmounted_by before after kernel mount.Fault h name broken whole comes =
    (same_told before.files after.files h.files, inl (not_begun before after kernel mount.Fault h))
unmounted_by before after kernel mount.NoMemory h name broken whole comes = inl (nothing before after kernel mount.NoMemory h)
unmounted_by before after kernel mount.Short h name broken whole comes =
    ((mount.Short, refl, first before after kernel mount.Short h, tt), nothing before after kernel mount.Short h)
unmounted_by before after kernel mount.Header h name broken whole comes =
    ((mount.Header, refl, first before after kernel mount.Header h, tt), nothing before after kernel mount.Header h)
unmounted_by before after kernel (mount.Entry slot) h name broken whole comes =
    ((mount.Entry slot, refl, first before after kernel (mount.Entry slot) h, tt), nothing before after kernel (mount.Entry slot) h)
unmounted_by before after kernel (mount.Page slot block) h name broken whole comes =
    ((mount.Page slot block, refl, first before after kernel (mount.Page slot block) h, tt), nothing before after kernel (mount.Page slot block) h)
unmounted_by before after kernel (mount.Shared block) h name broken whole comes =
    ((mount.Shared block, refl, first before after kernel (mount.Shared block) h, tt), nothing before after kernel (mount.Shared block) h)

-- ---- it was mounted

pub record IsLeft (due : Bool) (before after : Outside) : Type 0 where
  pub mounted : WhereTold before.blocks after.blocks (λ old new. mount_fault_of old ≡ None)
  pub told : ToldStays before.blocks after.blocks before.input after.input before.shown after.shown before.printed after.printed
  pub due_is : WhereTold before.shown after.shown (λ taken now. due ≡ due_after false (drop (length taken) now))

pub left_on : (due : Bool) (before after : Outside) → WhereTold before.blocks after.blocks (λ old new. mount_fault_of old ≡ None)
    → ToldStays before.blocks after.blocks before.input after.input before.shown after.shown before.printed after.printed
    → WhereTold before.shown after.shown (λ taken now. due ≡ due_after false (drop (length taken) now)) → IsLeft due before after
left_on due before after mounted told due_is = record { mounted = mounted; told = told; due_is = due_is }

-- the bytes that were shown
abbrev pub shown_in : (due : Bool) → (before after : Outside) → List ℕ
shown_in due before after = shown_since due before.shown after.shown

pub left_shows : (due : Bool) (before after : Outside) → IsLeft due before after → Shows before after (shown_in due before after)
left_shows due before after left = shows_so due before.shown after.shown left.told.grows

pub left_due : (due : Bool) (before after : Outside) → IsLeft due before after → due ≡ is_due (shown_in due before after)
left_due due before after left = due_so due before.shown after.shown left.told.grows left.due_is

pub mounts : (due : Bool) (before after : Outside) → IsLeft due before after → Mounts (seen before after) (goes tt)
mounts due before after left =
    first_told (λ old new. mount_fault_of old ≡ None) (λ blocks. mount_fault_of blocks ≡ None) before.blocks after.blocks (λ x y h. h) left.mounted

pub left_each : (due : Bool) (before after : Outside) → IsLeft due before after → LeavesEach None before after
left_each due before after left = record {
  drive = λ stays. keeps_valid before.blocks after.blocks _ left.mounted left.told.valid;
  input = left.told.shrinks;
  printer = left.told.prints;
}

-- its end was reached, and the record was not kept
pub unkept : (due : Bool) (before after : Outside) → IsLeft due before after → (new : Drawn) (A : Type 0) (name : Option (List ℕ)) (s : Status)
    → RecordStep {A = A} name new (Err s) before.files after.files → (broken whole : Type 0) (comes : Status → Type 0) (shown : List ℕ) (kernel : Lent)
    → whole → OnMounted name broken whole comes s (seen before after) after shown kernel
unkept due before after left new A name status.NoMemory step broken whole comes shown kernel done =
    inr (step.0, mounts due before after left, (done, still _ before.files after.files step.1))
unkept due before after left new A name status.FileFault step broken whole comes shown kernel done =
    (step.0, still _ before.files after.files step.1, mounts due before after left, done)
unkept due before after left new A name _ step broken whole comes shown kernel done = absurd step
