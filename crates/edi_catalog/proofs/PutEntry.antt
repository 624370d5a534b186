-- The calls of the disk by which the entry of a slot is written.
use Rattle.std.proofs.Common.{◌≡◌, ℕ, ◌+◌, ◌*◌, ◌/◌, ◌%◌, ◌-◌, ◌^◌, ◌≤◌, inl, inr, Bool, true, List, length, min, refl, ap, sym, subst, ◌∙◌, arith}
use Rattle.std.specs.Prelude.{◌==◌, Option, Some, None, slice_set, ⊤}
use Rattle.std.specs.Option.{option_map}
use Rattle.std.specs.Str.{bytes_eq}
use Rattle.std.proofs.lemmas.Bool.{and_from, eq-eqb}
use Rattle.std.proofs.lemmas.Slice.Eq.{bytes_eq-Decides}
use Rattle.edi_told.specs.Told.{WhereTold}
use Rattle.edi_told.specs.Faults.{CountRose}
use Rattle.edi_disk.specs.declared.disk.Disk.{Disk}
use Rattle.edi_disk.specs.declared.disk.DiskEnd.{DiskEnd}
use Rattle.edi_disk.specs.declared.disk.DiskEnd.TheVariants as disk
use Rattle.edi_disk.specs.Shown.{over, shown, drive_of, reference_of}
use Rattle.edi_disk.specs.Since.{Kept, only}
use Rattle.edi_disk.proofs.Since.{kept_settled, between_only}
use Rattle.edi_disk.proofs.Writing.{told, where_told, shown_some}
use Rattle.edi_image.specs.Entries.{block_at}
use Rattle.edi_catalog.specs.Writing.{patched, BlockLeaves, IsWritten, EntryLeaves, Flushes, PutsEntry, Settles}
use Rattle.edi_image.proofs.Told.{told_then}

only_itself : (n : ℕ) (bytes : List ℕ) → only n bytes n bytes ≡ true
only_itself n bytes = and_from (n == n) (bytes_eq bytes bytes) (eq-eqb n n refl) ((bytes_eq-Decides bytes bytes).1 refl)

written_from : (slot n : ℕ) (entry bytes read : List ℕ) (old new : List (List ℕ)) → n ≡ 1 + slot / 8 → length read ≡ 512
    → bytes ≡ patched (64 * (slot % 8)) entry read → block_at old n ≡ read → new ≡ slice_set old n bytes → IsWritten slot entry old new
written_from slot n entry bytes read old new index long made is now =
    let here : block_at old (1 + slot / 8) ≡ read = ap (block_at old) (sym index) ∙ is in
    record {
      whole = ap length here ∙ long;
      now =
          now ∙ ap (λ k. slice_set old k bytes) index
          ∙ ap (slice_set old (1 + slot / 8)) (made ∙ ap (patched (64 * (slot % 8)) entry) (sym here));
    }

-- what is known of the block that is put: it is the drive's, with the entry
pub record IsOver (slot n : ℕ) (entry bytes read : List ℕ) : Type 0 where
  pub index : n ≡ 1 + slot / 8
  pub long : length read ≡ 512
  pub made : bytes ≡ patched (64 * (slot % 8)) entry read

-- the entry is written where its block is
entry_leaves : (end : DiskEnd) (slot n : ℕ) (entry bytes read : List ℕ) (old new : List (List ℕ)) → IsOver slot n entry bytes read → block_at old n ≡ read
    → BlockLeaves end n bytes old new → EntryLeaves end slot entry old new
entry_leaves disk.Ok slot n entry bytes read old new over_it is now =
    written_from slot n entry bytes read old new over_it.index over_it.long over_it.made is now
entry_leaves disk.Fault slot n entry bytes read old new over_it is (inl same) = inl same
entry_leaves disk.Fault slot n entry bytes read old new over_it is (inr now) =
    inr (written_from slot n entry bytes read old new over_it.index over_it.long over_it.made is now)

pub entry_put : {D : Type 0} (contents : D → Option (List (List ℕ))) (count faults : D → ℕ) (end : DiskEnd) (slot n : ℕ) (entry bytes read : List ℕ)
    (b d : Disk D) → ((blocks : List (List ℕ)) → contents (drive_of b) ≡ Some blocks → block_at blocks n ≡ read) → IsOver slot n entry bytes read
    → Settles contents count faults end (BlockLeaves end n bytes) b d → PutsEntry contents count faults end slot entry b d
entry_put contents count faults end slot n entry bytes read b d kept over_it puts = record {
  same_reference = puts.same_reference;
  count_stays = puts.count_stays;
  later = puts.later;
  cause = puts.cause;
  works = puts.works;
  settled = puts.settled;
  clean = puts.clean;
  leaves =
      where_told (EntryLeaves end slot entry) (contents (drive_of b)) (contents (drive_of d))
      (λ new e.
      (let was = told (BlockLeaves end n bytes) (contents (drive_of b)) (contents (drive_of d)) new puts.leaves e in
      (was.0, was.1, entry_leaves end slot n entry bytes read was.0 new over_it (kept was.0 was.1) was.2)));
}

-- ---- a block, and the flush behind it

-- what the drive then has of it
block_leaves : {D : Type 0} (contents : D → Option (List (List ℕ))) (end : DiskEnd) (n : ℕ) (bytes : List ℕ) (b d : Disk D)
    → contents (drive_of b) ≡ shown contents b → (end ≡ disk.Ok → contents (drive_of d) ≡ shown contents d)
    → ((base : List (List ℕ)) (was_put : ℕ → List ℕ → Bool) → was_put n bytes ≡ true → Kept contents base was_put b → Kept contents base was_put d)
    → WhereTold (shown contents b) (shown contents d) (λ old new. ⊤)
    → (end ≡ disk.Ok → WhereTold (shown contents b) (shown contents d) (λ old new. new ≡ slice_set old n bytes))
    → WhereTold (contents (drive_of b)) (contents (drive_of d)) (BlockLeaves end n bytes)
block_leaves contents disk.Ok n bytes b d settled settles since told_too shows =
    subst (λ o. WhereTold o (contents (drive_of d)) (BlockLeaves disk.Ok n bytes)) (sym settled)
    (subst (λ o. WhereTold (shown contents b) o (BlockLeaves disk.Ok n bytes)) (sym (settles refl)) (shows refl))
block_leaves contents disk.Fault n bytes b d settled settles since told_too shows =
    where_told (BlockLeaves disk.Fault n bytes) (contents (drive_of b)) (contents (drive_of d))
    (λ new e.
    (let was = told (λ old new. ⊤) (shown contents b) (shown contents d) (over new d.cache) told_too (shown_some contents (drive_of d) d.cache new e) in
    let base : contents (drive_of b) ≡ Some was.0 = settled ∙ was.1 in
    let kept : Kept contents was.0 (only n bytes) d =
    since was.0 (only n bytes) (only_itself n bytes) (kept_settled contents was.0 (only n bytes) b base was.1) in
    (was.0, base, between_only was.0 new n bytes (kept.on_drive new e))))

-- what is told of the disk is told of the drive
pub told_below : {D : Type 0} (contents : D → Option (List (List ℕ))) (a b : Disk D) (P : List (List ℕ) → List (List ℕ) → Type 0)
    → WhereTold (shown contents a) (shown contents b) P → WhereTold (contents (drive_of a)) (contents (drive_of b)) (λ old new. ⊤)
told_below contents a b P shows = go (contents (drive_of a)) (contents (drive_of b)) shows where
  go : (x y : Option (List (List ℕ))) → WhereTold (option_map (λ bs. over bs a.cache) x) (option_map (λ bs. over bs b.cache) y) P
      → WhereTold x y (λ old new. ⊤)
  go x None p = tt
  go None (Some new) p = absurd p
  go (Some old) (Some new) p = tt

-- the put has failed
pub block_failed : {D : Type 0} (contents : D → Option (List (List ℕ))) (count faults : D → ℕ) (n : ℕ) (bytes : List ℕ) (b c : Disk D)
    → contents (drive_of b) ≡ shown contents b
    → reference_of c ≡ reference_of b → count (drive_of c) ≡ count (drive_of b) → faults (drive_of b) ≤ faults (drive_of c)
    → CountRose (faults (drive_of b)) (faults (drive_of c))
    → ((base : List (List ℕ)) (was_put : ℕ → List ℕ → Bool) → was_put n bytes ≡ true → Kept contents base was_put b → Kept contents base was_put c)
    → WhereTold (shown contents b) (shown contents c) (λ old new. ⊤) → Settles contents count faults disk.Fault (BlockLeaves disk.Fault n bytes) b c
block_failed contents count faults n bytes b c settled reference stays later rose since told_too = record {
  same_reference = reference;
  count_stays = stays;
  later = later;
  cause = λ e. rose;
  works = λ e. absurd (cc);
  settled = λ e. absurd (cc);
  clean = λ e. absurd (cc);
  leaves = block_leaves contents disk.Fault n bytes b c settled (λ e. absurd (cc)) since told_too (λ e. absurd (cc));
}

-- what was put is flushed
pub block_written : {D : Type 0} (contents : D → Option (List (List ℕ))) (count faults : D → ℕ) (end : DiskEnd) (n : ℕ) (bytes : List ℕ) (b c d : Disk D)
    → contents (drive_of b) ≡ shown contents b
    → reference_of c ≡ reference_of b → count (drive_of c) ≡ count (drive_of b) → faults (drive_of b) ≤ faults (drive_of c)
    → ((base : List (List ℕ)) (was_put : ℕ → List ℕ → Bool) → was_put n bytes ≡ true → Kept contents base was_put b → Kept contents base was_put c)
    → WhereTold (shown contents b) (shown contents c) (λ old new. new ≡ slice_set old n bytes) → Flushes contents count faults end c d
    → Settles contents count faults end (BlockLeaves end n bytes) b d
block_written contents count faults end n bytes b c d settled reference stays later since put flush = record {
  same_reference = flush.settles.same_reference ∙ reference;
  count_stays = flush.settles.count_stays ∙ stays;
  later = omega (arith, later, flush.settles.later);
  cause = λ e. (let rises : min (faults (drive_of c) + 1) (2 ^ 64 - 1) ≤ faults (drive_of d) = flush.settles.cause e in omega (arith, later));
  works = flush.settles.works;
  settled = flush.settles.settled;
  clean = flush.settles.clean;
  leaves =
      block_leaves contents end n bytes b d settled flush.settles.settled (λ base was_put has kept. flush.since base was_put (since base was_put has kept))
      (told_then (shown contents b) (shown contents c) (shown contents d) (λ old new. new ≡ slice_set old n bytes) (λ old new. end ≡ disk.Ok → new ≡ old)
      (λ old new. ⊤) (λ old between new p q. tt) put flush.shows)
      (λ e. told_then (shown contents b) (shown contents c) (shown contents d) (λ old new. new ≡ slice_set old n bytes)
      (λ old new. end ≡ disk.Ok → new ≡ old) (λ old new. new ≡ slice_set old n bytes) (λ old between new p q. q e ∙ p) put flush.shows);
}
