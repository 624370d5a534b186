-- What a check leaves of the drive.
use Rattle.std.proofs.Common.{◌≡◌, ℕ, ◌≤◌, ◌<◌, Bool, true, false, List, length, refl, ap, sym, ◌∙◌, subst}
use Rattle.std.specs.Prelude.{Option, Some, None, ⊤}
use Rattle.std.specs.Option.{option_map}
use Rattle.edi_told.specs.Told.{WhereTold}
use Rattle.edi_disk.specs.declared.disk.Disk.{Disk}
use Rattle.edi_disk.specs.Shown.{over, shown, drive_of}
use Rattle.edi_disk.specs.Since.{Kept, nothing}
use Rattle.edi_disk.proofs.Since.{between_nothing, kept_settled}
use Rattle.edi_image.specs.declared.faults.MountFault.{MountFault}
use Rattle.edi_image.specs.declared.faults.MountFault.TheVariants as fault
use Rattle.edi_image.specs.Image.{mount_fault_of}
use Rattle.edi_image.specs.Stored.{IsKeptOf, is_stored}
use Rattle.edi_catalog.specs.Mounted.{AreCached, AreEntries, AreWhole, HaveEntries, IsMounted, disk_of, entry_blocks_of, files_of}
use Rattle.edi_catalog.specs.Plan.{are_different, blocks_used}
use Rattle.edi_catalog.specs.declared.catalog.Catalog.{Catalog}
use Rattle.std.specs.List.{list_all}
use Rattle.edi_catalog.specs.Reads.{Checks, EntriesStay}
use Rattle.edi_image.specs.Finds.{IsFirst, is_drive_fault}
use Rattle.edi_catalog.proofs.StillCached.{still_cached}

-- ---- what is told in the end

pub told_now : {A : Type 0} (a b : Option A) (P : A → Type 0) → WhereTold a b (λ old new. (new ≡ old) × P old) → (x : A) → b ≡ Some x
    → (a ≡ Some x) × P x
told_now a None P told x e = absurd (cc)
told_now None (Some y) P told x e = absurd told
told_now (Some o) (Some y) P told x e =
    let same : o ≡ x = sym told.0 ∙ (let is : Some y ≡ Some x = e in cc) in (ap Some same, subst P same told.1)

told_before : {A : Type 0} (a b : Option A) → WhereTold a b (λ old new. ⊤) → (x : A) → b ≡ Some x → (y : A) × (a ≡ Some y)
told_before a None told x e = absurd (cc)
told_before None (Some y) told x e = absurd told
told_before (Some o) (Some y) told x e = (o, refl)

-- ---- what a check leaves

shown_some : {D : Type 0} (contents : D → Option (List (List ℕ))) (disk : Disk D) (blocks : List (List ℕ)) → contents (drive_of disk) ≡ Some blocks
    → shown contents disk ≡ Some (over blocks disk.cache)
shown_some contents disk blocks e = ap (option_map (λ bs. over bs disk.cache)) e

shown_none : {D : Type 0} (contents : D → Option (List (List ℕ))) (disk : Disk D) → contents (drive_of disk) ≡ None → shown contents disk ≡ None
shown_none contents disk e = ap (option_map (λ bs. over bs disk.cache)) e

-- the drive has the blocks that it had, whatever the answer
pub same_blocks : {D : Type 0} (contents : D → Option (List (List ℕ))) (count faults : D → ℕ) (broke : Bool) (a b : Disk D) (P : List (List ℕ) → Type 0)
    → contents (drive_of a) ≡ shown contents a → Checks contents count faults broke a b P → (blocks : List (List ℕ)) → contents (drive_of b) ≡ Some blocks
    → contents (drive_of a) ≡ Some blocks
same_blocks contents count faults broke a b P settled checks blocks e =
    let before : (y : List (List ℕ)) × (shown contents a ≡ Some y) =
    told_before (shown contents a) (shown contents b) checks.told (over blocks b.cache) (shown_some contents b blocks e) in
    let there : contents (drive_of a) ≡ Some before.0 = settled ∙ before.1 in
    let kept : Kept contents before.0 nothing b = checks.since before.0 nothing (kept_settled contents before.0 nothing a there before.1) in
    let same : blocks ≡ before.0 = between_nothing before.0 blocks (kept.on_drive blocks e) in
    there ∙ ap Some (sym same)

pub told_same_blocks : {A : Type 0} (a b : Option A) (Q : A → Type 0) → ((x : A) → b ≡ Some x → (a ≡ Some x) × Q x)
    → WhereTold a b (λ old new. (new ≡ old) × Q old)
told_same_blocks a None Q all = tt
told_same_blocks None (Some y) Q all = absurd (let f : None ≡ Some y = (all y refl).0 in cc)
told_same_blocks (Some x) (Some y) Q all =
    let f : Some x ≡ Some y = (all y refl).0 in
    let same : x ≡ y = cc in
    (sym same, subst Q (sym same) (all y refl).1)

-- the drive still has all that the disk shows
pub still_settled : {D : Type 0} (contents : D → Option (List (List ℕ))) (count faults : D → ℕ) (a b : Disk D) (P : List (List ℕ) → Type 0)
    → contents (drive_of a) ≡ shown contents a → Checks contents count faults false a b P → contents (drive_of b) ≡ shown contents b
still_settled contents count faults a b P settled checks = go (contents (drive_of b)) refl where
  go : (o : Option (List (List ℕ))) → contents (drive_of b) ≡ o → contents (drive_of b) ≡ shown contents b
  go None e = e ∙ sym (shown_none contents b e)
  go (Some blocks) e =
      let there : contents (drive_of a) ≡ Some blocks = same_blocks contents count faults false a b P settled checks blocks e in
      let now : (shown contents a ≡ Some (over blocks b.cache)) × P (over blocks b.cache) =
      told_now (shown contents a) (shown contents b) P (checks.shows refl) (over blocks b.cache) (shown_some contents b blocks e) in
      e ∙ sym there ∙ settled ∙ now.0 ∙ sym (shown_some contents b blocks e)

-- what was found of the blocks that the disk shows is so of the drive's
pub found_of : {D : Type 0} (contents : D → Option (List (List ℕ))) (count faults : D → ℕ) (a b : Disk D) (P : List (List ℕ) → Type 0)
    → contents (drive_of a) ≡ shown contents a → Checks contents count faults false a b P → (blocks : List (List ℕ)) → contents (drive_of b) ≡ Some blocks
    → (contents (drive_of a) ≡ Some blocks) × P blocks
found_of contents count faults a b P settled checks blocks e =
    let there : shown contents b ≡ Some blocks = sym (still_settled contents count faults a b P settled checks) ∙ e in
    let now : (shown contents a ≡ Some blocks) × P blocks = told_now (shown contents a) (shown contents b) P (checks.shows refl) blocks there in
    (settled ∙ now.0, now.1)

-- so what follows from that is told of the drive, which has the blocks that it had
pub told_found : {D : Type 0} (contents : D → Option (List (List ℕ))) (count faults : D → ℕ) (a b : Disk D) (P Q : List (List ℕ) → Type 0)
    → contents (drive_of a) ≡ shown contents a → Checks contents count faults false a b P
    → ((blocks : List (List ℕ)) → contents (drive_of a) ≡ Some blocks → P blocks → Q blocks)
    → WhereTold (contents (drive_of a)) (contents (drive_of b)) (λ old new. (new ≡ old) × Q old)
told_found contents count faults a b P Q settled checks so =
    told_same_blocks (contents (drive_of a)) (contents (drive_of b)) Q
    (λ blocks told. (let found = found_of contents count faults a b P settled checks blocks told in (found.0, so blocks found.0 found.1)))

-- a fault of the image is that of the drive's blocks
pub first_found : {D : Type 0} (contents : D → Option (List (List ℕ))) (count faults : D → ℕ) (e : MountFault) (a b : Disk D)
    → contents (drive_of a) ≡ shown contents a → Checks contents count faults (is_drive_fault e) a b (λ blocks. IsFirst e (mount_fault_of blocks))
    → (blocks : List (List ℕ)) → contents (drive_of b) ≡ Some blocks → IsFirst e (mount_fault_of blocks)
first_found contents count faults fault.Short a b settled checks blocks told =
    (found_of contents count faults a b (λ bs. IsFirst fault.Short (mount_fault_of bs)) settled checks blocks told).1
first_found contents count faults fault.Header a b settled checks blocks told =
    (found_of contents count faults a b (λ bs. IsFirst fault.Header (mount_fault_of bs)) settled checks blocks told).1
first_found contents count faults (fault.Entry s) a b settled checks blocks told =
    (found_of contents count faults a b (λ bs. IsFirst (fault.Entry s) (mount_fault_of bs)) settled checks blocks told).1
first_found contents count faults (fault.Page s n) a b settled checks blocks told =
    (found_of contents count faults a b (λ bs. IsFirst (fault.Page s n) (mount_fault_of bs)) settled checks blocks told).1
first_found contents count faults (fault.Shared n) a b settled checks blocks told =
    (found_of contents count faults a b (λ bs. IsFirst (fault.Shared n) (mount_fault_of bs)) settled checks blocks told).1
first_found contents count faults fault.Fault a b settled checks blocks told = tt
first_found contents count faults fault.NoMemory a b settled checks blocks told = tt

-- a catalogue whose disk was only read
pub still_mounted : {D : Type 0} (contents : D → Option (List (List ℕ))) (count faults : D → ℕ) (one other : Catalog D) (P : List (List ℕ) → Type 0)
    → files_of other ≡ files_of one → entry_blocks_of other ≡ entry_blocks_of one → IsMounted contents count one → Checks contents count faults false
    (disk_of one) (disk_of other) P → EntriesStay (disk_of one) (disk_of other)
    → IsMounted contents count other
still_mounted contents count faults one other P same entries_same mounted checks stay = record {
  works = checks.works refl;
  settled = still_settled contents count faults (disk_of one) (disk_of other) P mounted.settled checks;
  clean = checks.clean refl mounted.clean;
  many = ap length same ∙ mounted.many;
  most = subst (λ n. n ≤ 4096) (sym checks.count_stays) mounted.most;
  stored =
      ap (list_all (is_stored (count (drive_of (disk_of other))))) same
      ∙ subst (λ n. list_all (is_stored n) (files_of one) ≡ true) (sym checks.count_stays) mounted.stored;
  apart = ap (λ fs. are_different (blocks_used fs)) same ∙ mounted.apart;
  room = λ some. subst AreWhole (sym entries_same) (mounted.room (subst (λ n. 0 < n) checks.count_stays some));
  said = λ some.
      subst (λ n. HaveEntries n (entry_blocks_of other) (files_of other)) (sym checks.count_stays)
      (subst (HaveEntries (count (drive_of (disk_of one))) (entry_blocks_of other)) (sym same)
      (subst (λ es. HaveEntries (count (drive_of (disk_of one))) es (files_of one)) (sym entries_same)
      (mounted.said (subst (λ n. 0 < n) checks.count_stays some))));
  entries_cached = λ some.
      subst (λ es. AreCached es (disk_of other)) (sym entries_same)
      (still_cached (entry_blocks_of one) (disk_of one) (disk_of other) stay (mounted.entries_cached (subst (λ n. 0 < n) checks.count_stays some)));
  entries = λ blocks told.
      subst (λ es. AreEntries es blocks) (sym entries_same)
      (mounted.entries blocks (found_of contents count faults (disk_of one) (disk_of other) P mounted.settled checks blocks told).0);
  image = λ blocks told.
      subst (λ fs. IsKeptOf blocks fs) (sym same)
      (mounted.image blocks (found_of contents count faults (disk_of one) (disk_of other) P mounted.settled checks blocks told).0);
}
