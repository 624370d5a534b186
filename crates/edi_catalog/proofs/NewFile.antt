-- A new file is written to the drive, and then its entry.
use Rattle.std.proofs.Common.{◌≡◌, inl, inr, ℕ, ◌+◌, ◌-◌, ◌^◌, ◌≤◌, min, List, length, Option, Some, refl, sym, subst, ◌∙◌, arith}
use Rattle.std.specs.Prelude.{⊤}
use Rattle.edi_told.specs.Told.{WhereTold}
use Rattle.edi_disk.specs.declared.disk.Disk.{Disk}
use Rattle.edi_disk.specs.declared.disk.DiskEnd.{DiskEnd}
use Rattle.edi_disk.specs.declared.disk.DiskEnd.TheVariants as disk
use Rattle.edi_disk.specs.Shown.{over, shown, drive_of}
use Rattle.edi_disk.specs.Since.{Between, Kept}
use Rattle.edi_disk.proofs.Since.{between_unput, kept_settled}
use Rattle.edi_disk.proofs.Writing as writing
use Rattle.edi_image.specs.Stored.{StoredFile}
use Rattle.edi_catalog.specs.Writing.{EntryLeaves, PutsEntry}
use Rattle.edi_image.specs.Bytes.{bytes_of_record}
use Rattle.edi_catalog.specs.Plan.{ArePut, content_of, used_in}
use Rattle.edi_catalog.specs.Putting.{HasAll, PutsBlocks, OnlyIn, NewLeaves, WritesNew}
use Rattle.edi_catalog.proofs.Unchanged.{among, gets_same}
use Rattle.edi_catalog.proofs.PutBlocks.{in_at}

only_from_between : (numbers : List ℕ) (old new : List (List ℕ)) → Between old (among numbers) new → OnlyIn numbers old new
only_from_between numbers old new between = record {
  as_many = between.as_many;
  others = λ n h. gets_same old new n (between_unput old (among numbers) new n between (λ block. h));
}

only_from_put : (numbers : List ℕ) (content : ℕ → List ℕ) (many : ℕ) (old new : List (List ℕ)) → ArePut numbers content many old new
    → OnlyIn numbers old new
only_from_put numbers content many old new put = record { as_many = put.as_many; others = put.others }

among_all : (numbers : List ℕ) (content : ℕ → List ℕ) → HasAll (among numbers) numbers content
among_all numbers content i h = in_at numbers i h

-- whatever the answer, the drive's blocks have changed in these alone
puts_only : {D : Type 0} (contents : D → Option (List (List ℕ))) (count faults : D → ℕ) (end : DiskEnd) (numbers : List ℕ) (content : ℕ → List ℕ)
    (many : ℕ) (a b : Disk D) → contents (drive_of a) ≡ shown contents a → PutsBlocks contents count faults end numbers content many a b
    → WhereTold (contents (drive_of a)) (contents (drive_of b)) (OnlyIn numbers)
puts_only contents count faults end numbers content many a b settled puts =
    writing.where_told (OnlyIn numbers) (contents (drive_of a)) (contents (drive_of b))
    (λ new there.
    let before = writing.told (λ old new. ⊤) (shown contents a) (shown contents b) (over new b.cache) puts.told
    (writing.shown_some contents (drive_of b) b.cache new there) in
    let base : contents (drive_of a) ≡ Some before.0 = settled ∙ before.1 in
    let kept : Kept contents before.0 (among numbers) b =
    puts.since before.0 (among numbers) (among_all numbers content) (kept_settled contents before.0 (among numbers) a base before.1) in
    (before.0, base, only_from_between numbers before.0 new (kept.on_drive new there)))

-- on Ok they are put
pub puts_there : {D : Type 0} (contents : D → Option (List (List ℕ))) (count faults : D → ℕ) (numbers : List ℕ) (content : ℕ → List ℕ)
    (many : ℕ) (a b : Disk D) → contents (drive_of a) ≡ shown contents a → contents (drive_of b) ≡ shown contents b
    → PutsBlocks contents count faults disk.Ok numbers content many a b
    → WhereTold (contents (drive_of a)) (contents (drive_of b)) (ArePut numbers content many)
puts_there contents count faults numbers content many a b settled settles puts =
    subst (λ o. WhereTold o (contents (drive_of b)) (ArePut numbers content many)) (sym settled)
    (subst (λ o. WhereTold (shown contents a) o (ArePut numbers content many)) (sym settles) (puts.shows refl))

pub new_fails : {D : Type 0} (contents : D → Option (List (List ℕ))) (count faults : D → ℕ) (slot : ℕ) (file : StoredFile) (bytes : List ℕ)
    (a b : Disk D) → contents (drive_of a) ≡ shown contents a
    → PutsBlocks contents count faults disk.Fault (used_in (Some file)) (content_of file bytes) (length (used_in (Some file))) a b
    → WritesNew contents count faults disk.Fault slot file bytes a b
new_fails contents count faults slot file bytes a b settled puts = record {
  same_reference = puts.same_reference;
  count_stays = puts.count_stays;
  later = puts.later;
  cause = puts.cause;
  works = λ e. absurd (cc);
  settled = λ e. absurd (cc);
  clean = λ e. absurd (cc);
  leaves =
      writing.where_told _ (contents (drive_of a)) (contents (drive_of b))
      (λ new there.
      let before = writing.told (OnlyIn (used_in (Some file))) (contents (drive_of a)) (contents (drive_of b)) new
      (puts_only contents count faults disk.Fault _ _ _ a b settled puts) there in
      (before.0, before.1, inl before.2));
}

leaves_new : (end : DiskEnd) (slot : ℕ) (file : StoredFile) (bytes : List ℕ) (old laid new : List (List ℕ))
    → ArePut (used_in (Some file)) (content_of file bytes) (length (used_in (Some file))) old laid
    → EntryLeaves end slot (bytes_of_record file.record_) laid new → NewLeaves end slot file bytes old new
leaves_new disk.Ok slot file bytes old laid new put leaves = record { laid = laid; put = put; written = leaves }
leaves_new disk.Fault slot file bytes old laid new put (inl same) =
    inl (subst (OnlyIn (used_in (Some file)) old) (sym same) (only_from_put _ _ _ old laid put))
leaves_new disk.Fault slot file bytes old laid new put (inr written) = inr (record { laid = laid; put = put; written = written })

pub new_entry : {D : Type 0} (contents : D → Option (List (List ℕ))) (count faults : D → ℕ) (end : DiskEnd) (slot : ℕ) (file : StoredFile) (bytes : List ℕ)
    (a b c : Disk D) → contents (drive_of a) ≡ shown contents a → contents (drive_of b) ≡ shown contents b
    → PutsBlocks contents count faults disk.Ok (used_in (Some file)) (content_of file bytes) (length (used_in (Some file))) a b
    → PutsEntry contents count faults end slot (bytes_of_record file.record_) b c
    → WritesNew contents count faults end slot file bytes a c
new_entry contents count faults end slot file bytes a b c settled settles puts entry = record {
  same_reference = entry.same_reference ∙ puts.same_reference;
  count_stays = entry.count_stays ∙ puts.count_stays;
  later = omega (arith, entry.later, puts.later);
  cause = λ e.
      (let rose : min (faults (drive_of b) + 1) (2 ^ 64 - 1) ≤ faults (drive_of c) = entry.cause e in
      let later : faults (drive_of a) ≤ faults (drive_of b) = puts.later in omega arith);
  works = entry.works;
  settled = entry.settled;
  clean = entry.clean;
  leaves =
      writing.where_told _ (contents (drive_of a)) (contents (drive_of c))
      (λ new there.
      let laid = writing.told (EntryLeaves end slot (bytes_of_record file.record_)) (contents (drive_of b)) (contents (drive_of c)) new entry.leaves there in
      let old = writing.told (ArePut (used_in (Some file)) (content_of file bytes) (length (used_in (Some file)))) (contents (drive_of a))
      (contents (drive_of b)) laid.0
      (puts_there contents count faults _ _ _ a b settled settles puts) laid.1 in
      (old.0, old.1, leaves_new end slot file bytes old.0 laid.0 new old.2 laid.2));
}
