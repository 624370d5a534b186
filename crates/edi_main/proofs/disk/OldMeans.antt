-- From a migration to what the status of `newdisk --from` means.
use Rattle.std.proofs.Common.{◌≡◌, ◌∙◌, inl, inr, ℕ, ◌+◌, ◌-◌, ◌<◌, ◌≤◌, true, false, List, [], take, Option, Some, None, refl, ap, sym, subst, arith}
use Rattle.std.specs.Prelude.{IfSome, nat_le}
use Rattle.std.specs.FinMap as map
use Rattle.std.proofs.lemmas.Bool.{le-leb}
use Rattle.std.proofs.lemmas.Bool.Decides.{leb_tells}
use Rattle.edi_told.specs.Told.{WhereTold}
use Rattle.edi_host.specs.BytesAsBlocks.{blocks_of}
use Rattle.edi_host.specs.Contents.{Contents}
use Rattle.edi_calls.specs.State as calls
use Rattle.edi_image.specs.declared.faults.MountFault.{MountFault}
use Rattle.edi_image.specs.declared.faults.MountFault.TheVariants as mount
use Rattle.edi_image.proofs.migrate.Limited.{first_bytes_decide}
use Rattle.edi_image.specs.migrate.Limit.{FirstBytesDecide, most_fetched}
use Rattle.edi_image.specs.migrate.Migrated.{MigrateAnswers, MigrateLeaves, is_image_fault}
use Rattle.edi_image.specs.migrate.OldImage.{old_fault_of, old_slots_of}
use Rattle.edi_image.specs.declared.migrate.migrating.MigrateEnd.{MigrateEnd}
use Rattle.edi_image.specs.declared.migrate.migrating.MigrateEnd.TheVariants as end
use Rattle.edi_words.specs.Words.{newdisk}
use Rattle.edi_statuses.specs.declared.status.Status.{Status}
use Rattle.edi_statuses.specs.declared.status.Status.TheVariants as status
use Rattle.edi_statuses.specs.Outside.{Lent, Outside, seen, still_told}
use Rattle.edi_statuses.specs.Steps.{Fetches, IsBrokenRule, goes}
use Rattle.edi_statuses.specs.Commands.{AreMigrated, OldSteps}
use Rattle.edi_statuses.specs.Broken.{IsOpen}
use Rattle.edi_statuses.specs.Means.{Means}
use Rattle.edi_main.specs.steps.OnFiles.{files_only}
use Rattle.edi_main.specs.disk.OnDisk.{MeansOnDisk, RestStays}
use Rattle.edi_statuses.proofs.Told.{still, told_so}
use Rattle.edi_main.proofs.disk.Meant.{Same, changes_drive, meant, not_begun, nothing, only_blocks}
use Rattle.edi_main.proofs.disk.PutMeans.{NotFetched}

-- ---- no file

pub not_taken : (s : Status) (count : ℕ) (file : List ℕ) (old new : Option Contents) (was now : Option (List (List ℕ)))
    → NotFetched s file old new was now → MeansOnDisk (newdisk count (Some file)) s old new was now
not_taken s count file old new was now h = meant (NotFetched s file) (newdisk count (Some file)) s old new was now h go where
  go : (before after : Outside) (kernel : Lent) → RestStays before after kernel → NotFetched s file before.files after.files before.blocks after.blocks
      → Means s (Some (newdisk count (Some file))) before after [] kernel
  go before after kernel rest n = elim n.why [
    | inl e ↦ subst (λ s. Means s (Some (newdisk count (Some file))) before after [] kernel) (sym e) (nothing before after kernel rest n.files n.blocks)
    | inr more ↦
        elim more [
          | inl e ↦
              subst (λ s. Means s (Some (newdisk count (Some file))) before after [] kernel) (sym e.0) (record {
                uses = refl;
                far = inl (still (λ old new. new ≡ old) before.files after.files n.files, e.1, not_begun before after kernel rest n.blocks);
              })
          | inr a ↦
              subst (λ s. Means s (Some (newdisk count (Some file))) before after [] kernel) (sym a.0)
              (inl (inl (refl, a.1), nothing before after kernel rest n.files n.blocks))
        ]
  ]

-- ---- an old image

-- the status by the answer of the migration
abbrev pub status_migrated : MigrateEnd → Status
status_migrated end.Ok = status.Ok
status_migrated (end.Image broken) = status.BadImage broken
status_migrated (end.Full wanted free) = status.DiskFull
status_migrated end.Fault = status.DriveFault
status_migrated end.NoMemory = status.NoMemory

broken_rule : (broken : MountFault) → is_image_fault broken ≡ true → IsBrokenRule broken
broken_rule mount.Fault h = absurd (cc)
broken_rule mount.NoMemory h = absurd (cc)
broken_rule mount.Short h = tt
broken_rule mount.Header h = tt
broken_rule (mount.Entry slot) h = tt
broken_rule (mount.Page slot block) h = tt
broken_rule (mount.Shared block) h = tt

pub record Migrates (e : MigrateEnd) (count : ℕ) (file bytes : List ℕ) (old new : Option Contents) (was now : Option (List (List ℕ))) : Type 0 where
  pub all : List ℕ
  pub fetched : IfSome (still_told old new) (λ files. map.get files file ≡ Some all)
  pub front : bytes ≡ take most_fetched all
  pub files : Same old new
  pub answers : MigrateAnswers e count (calls.blocks_taken (old_slots_of (blocks_of bytes))) (blocks_of bytes)
  pub leaves : WhereTold was now (MigrateLeaves e count (blocks_of bytes))

module _ (decide : FirstBytesDecide) (count : ℕ) (least : 64 ≤ count) (file bytes : List ℕ) (before after : Outside) (kernel : Lent)
    (rest : RestStays before after kernel) where
  migrates_means : (e : MigrateEnd) → Migrates e count file bytes before.files after.files before.blocks after.blocks
      → Means (status_migrated e) (Some (newdisk count (Some file))) before after [] kernel
  migrates_means e m = go e m.answers m.leaves where
    fetched : Fetches (seen before after) file (goes m.all)
    fetched = m.fetched

    -- the image that was fetched breaks the rule that the file breaks
    same_fault : old_fault_of (blocks_of bytes) ≡ old_fault_of (blocks_of m.all)
    same_fault = ap (λ b. old_fault_of (blocks_of b)) m.front ∙ (decide m.all).0

    whole : old_fault_of (blocks_of bytes) ≡ None → blocks_of bytes ≡ blocks_of m.all
    whole valid =
        let fine : old_fault_of (blocks_of (take most_fetched m.all)) ≡ None = sym (ap (λ b. old_fault_of (blocks_of b)) m.front) ∙ valid in
        ap blocks_of (m.front ∙ (decide m.all).1 fine)

    wanted : ℕ
    wanted = calls.blocks_taken (old_slots_of (blocks_of bytes))

    steps : old_fault_of (blocks_of bytes) ≡ None → wanted + 33 ≤ count → OldSteps (seen before after) count file (goes (blocks_of bytes))
    steps valid room =
        inr (m.all, fetched, inr (blocks_of bytes, (whole valid, valid), inr (tt, le-leb wanted (count - 33) (omega (arith, room)), refl)))

    go : (e : MigrateEnd) → MigrateAnswers e count wanted (blocks_of bytes) → WhereTold before.blocks after.blocks (MigrateLeaves e count (blocks_of bytes))
        → Means (status_migrated e) (Some (newdisk count (Some file))) before after [] kernel
    go end.Ok a l =
        inr (blocks_of bytes, steps a.0 a.1, (refl, only_blocks before after kernel rest (AreMigrated count (blocks_of bytes)) m.files l))
    go (end.Image broken) a l =
        inl (inr (m.all, fetched, inl (broken, refl, sym same_fault ∙ a.0, broken_rule broken a.1)), nothing before after kernel rest m.files l)
    go (end.Full taken free) a l =
        let few : free < taken = a.3 in
        let full : nat_le wanted (count - 33) ≡ false = elim (leb_tells wanted (count - 33)) [
          | inl fits ↦ absurd (omega (arith, fits.1, few, a.1, a.2))
          | inr t ↦ t.0
        ] in
        inl (inr (m.all, fetched, inr (blocks_of bytes, (whole a.0, a.0), inl (full, refl))), nothing before after kernel rest m.files l)
    go end.Fault a l = record {
      uses = refl;
      far = (
        still (λ old new. new ≡ old) before.files after.files m.files,
        inr (
          blocks_of bytes,
          steps a.0 a.1,
          changes_drive before after kernel rest IsOpen
              (told_so (MigrateLeaves end.Fault count (blocks_of bytes)) IsOpen before.blocks after.blocks (λ x y h. tt) l),
        ),
      );
    }
    go end.NoMemory a l = nothing before after kernel rest m.files l

-- the first bytes of the file, which were fetched, are read as an old image
pub migrated_means : (e : MigrateEnd) (count : ℕ) → 64 ≤ count → (file bytes items : List ℕ) (old new : Option Contents) (was now : Option (List (List ℕ)))
    → (all : List ℕ) × Fetches (files_only (still_told old new)) file (goes all) × (items ≡ take most_fetched all) → bytes ≡ items → Same old new
    → MigrateAnswers e count (calls.blocks_taken (old_slots_of (blocks_of bytes))) (blocks_of bytes)
    → WhereTold was now (MigrateLeaves e count (blocks_of bytes)) → MeansOnDisk (newdisk count (Some file)) (status_migrated e) old new was now
migrated_means e count least file bytes items old new was now fetched is files answers leaves =
    meant (Migrates e count file bytes) (newdisk count (Some file)) (status_migrated e) old new was now
    (record { all = fetched.0; fetched = fetched.1; front = is ∙ fetched.2; files = files; answers = answers; leaves = leaves })
    (λ before after kernel rest m. migrates_means first_bytes_decide count least file bytes before after kernel rest e m)
