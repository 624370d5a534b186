-- A store, from what it writes to what it leaves.
use Rattle.std.proofs.Common.{◌≡◌, inl, inr, ℕ, ◌+◌, ◌-◌, ◌<◌, ◌≤◌, true, false, List, ◌++◌, length, set, replicate, refl, ap, sym, subst, ◌∙◌, arith}
use Rattle.std.proofs.Common.{length-set, length-append, ◌*◌, ◌/◌, ◌%◌, [], get_or}
use Rattle.std.specs.Prelude.{IfSome, Option, Some, None, Result, Ok, Err}
use Rattle.std.specs.List.{list_all}
use Rattle.edi_told.specs.Told.{WhereTold}
use Rattle.std.proofs.lemmas.List.{length-replicate}
use Rattle.edi_calls.specs.State.{is_title}
use Rattle.edi_calls.specs.declared.kinds.FileKind.{FileKind}
use Rattle.edi_disk.specs.declared.disk.DiskEnd.{DiskEnd}
use Rattle.edi_disk.specs.declared.disk.DiskEnd.TheVariants as disk
use Rattle.edi_disk.specs.Shown.{drive_of}
use Rattle.edi_disk.proofs.Writing as writing
use Rattle.edi_catalog.specs.declared.ends.CatEnd.{CatEnd}
use Rattle.edi_catalog.specs.declared.ends.CatEnd.TheVariants as cat
use Rattle.edi_catalog.specs.declared.entry.Entry.{Entry}
use Rattle.edi_catalog.specs.declared.catalog.Catalog.{Catalog}
use Rattle.edi_image.specs.Image.{Holds, slots_of}
use Rattle.edi_image.specs.Stored.{StoredFile, is_stored, IsKeptOf}
use Rattle.edi_catalog.specs.Files.{entry_of, file_titled}
use Rattle.edi_catalog.specs.Mounted.{AreEntries, AreWhole, HaveEntries, IsMounted, disk_of, files_of, entry_blocks_of, room_reference}
use Rattle.edi_catalog.specs.Changes.{Leaves}
use Rattle.edi_image.specs.Bytes.{bytes_of_record, field_bytes}
use Rattle.edi_catalog.specs.Writing.{is_protected, patched}
use Rattle.edi_image.specs.Titles.{with_blanks}
use Rattle.edi_image.specs.Build.{two}
use Rattle.edi_image.specs.Records.{FileRecord}
use Rattle.edi_catalog.specs.Plan.{are_different, blocks_used, used_in, AreFree}
use Rattle.edi_catalog.specs.Putting.{EntryCached, FileCached, OnlyIn, IsNew, NewLeaves, WritesNew}
use Rattle.edi_catalog.specs.Storing.{StoreChanges, index_for, stored_entry}
use Rattle.edi_catalog.specs.SlotsStored.{put_at, stored_file, slots_stored}
use Rattle.edi_catalog.proofs.Unchanged.{IsSameImage, free_same, same_kept, same_slots}
use Rattle.edi_catalog.proofs.StoredIndex.{slot_for_same}
use Rattle.edi_catalog.proofs.NewlyLaid.{IsLaid}
use Rattle.edi_catalog.proofs.FileShape.{shape_of}
use Rattle.edi_image.proofs.Spelled.{title_length}
use Rattle.edi_catalog.proofs.StoredImage.{IsStoredIn, stored_holds}
use Rattle.edi_catalog.proofs.Changed.{all_set}
use Rattle.edi_catalog.proofs.EntryBlocks.{entries_over, entries_laid}
use Rattle.edi_catalog.proofs.KeptEntries.{said_over, stored_said, whole_over}
use Rattle.edi_catalog.proofs.StillCached.{cached_over, changed_cached}
use Rattle.edi_catalog.proofs.Apart.{free_apart}
use Rattle.std.proofs.lemmas.List.{get_or-set_same}

-- what is known where a file is stored in a slot
pub record Stores (count : ℕ) (files : List (Option StoredFile)) (title : List ℕ) (kind : FileKind) (bytes : List ℕ) (slot : ℕ) (file : StoredFile) : Type 0
  where
    pub within : slot < 256
    pub all : list_all (is_stored count) files ≡ true
    pub laid : IsLaid count files file
    pub entry : entry_of file ≡ stored_entry title kind (length bytes)
    pub whole : length (bytes_of_record file.record_) ≡ 64
    pub index : index_for title files ≡ Some slot
    pub open_ : is_protected (file_titled title files) ≡ false

title_is : (title : List ℕ) (kind : FileKind) (size : ℕ) (file : StoredFile) → entry_of file ≡ stored_entry title kind size → file.record_.title ≡ title
title_is title kind size file e = ap (λ (x : Entry). x.title) e

length_is : (title : List ℕ) (kind : FileKind) (size : ℕ) (file : StoredFile) → entry_of file ≡ stored_entry title kind size → file.record_.length ≡ size
length_is title kind size file e = ap (λ (x : Entry). x.length) e

file_is : (title : List ℕ) (kind : FileKind) (bytes : List ℕ) (file : StoredFile) → entry_of file ≡ stored_entry title kind (length bytes)
    → record { title = file.record_.title; kind = file.record_.kind; protected = file.record_.protected; bytes = bytes } ≡ stored_file title kind bytes
file_is title kind bytes file e =
    ap (λ (x : Entry). record { title = x.title; kind = x.kind; protected = x.protected; bytes = bytes }) e

-- what a store answers, by the answer of the disk
abbrev stored_as : DiskEnd → Result (Unit {0}) CatEnd
stored_as disk.Ok = Ok tt
stored_as disk.Fault = Err cat.Fault

module _ (count : ℕ) (files : List (Option StoredFile)) (title : List ℕ) (kind : FileKind) (bytes : List ℕ) (slot : ℕ) (file : StoredFile)
    (stores : Stores count files title kind bytes slot file) (old : List (List ℕ)) (size : length old ≡ count) (kept : IsKeptOf old files) where
  -- the image after the entry is written
  stored : (new : List (List ℕ)) → IsNew slot file bytes old new → IsStoredIn files slot file bytes old new
  stored new made =
      stored_holds old new files slot count file bytes stores.within size kept stores.all stores.laid
      (sym (length_is title kind (length bytes) file stores.entry)) stores.whole
      (ap (λ t. index_for t files) (title_is title kind (length bytes) file stores.entry) ∙ stores.index) made

  wanted : slots_stored title kind bytes (slots_of old) ≡ set (slots_of old) slot (Some (stored_file title kind bytes))
  wanted =
      ap (λ index. put_at index (stored_file title kind bytes) (slots_of old))
      (slot_for_same old title files kept stores.open_ ∙ stores.index)

  pub stored_kept : (new : List (List ℕ)) → IsNew slot file bytes old new → IsKeptOf new (set files slot (Some file))
  stored_kept new made = (stored new made).kept

  stored_now : (new : List (List ℕ)) → IsNew slot file bytes old new → Holds new (slots_stored title kind bytes (slots_of old))
  stored_now new made =
      let now : IsStoredIn files slot file bytes old new = stored new made in
      record {
        valid = now.kept.valid;
        files =
            now.slots ∙ ap (λ f. set (slots_of old) slot (Some f)) (file_is title kind bytes file stores.entry) ∙ sym wanted;
      }

  before_still : (new : List (List ℕ)) → OnlyIn (used_in (Some file)) old new → Holds new (slots_of old)
  before_still new only =
      let same : IsSameImage old new files =
      free_same count files (used_in (Some file)) old new stores.laid.free only.as_many only.others in
      record { valid = (same_kept old new files kept same).valid; files = same_slots old new files kept same }

  -- what it leaves
  store_leaves : (end : DiskEnd) (new : List (List ℕ)) → NewLeaves end slot file bytes old new
      → Leaves (stored_as end) (slots_of old) (slots_stored title kind bytes (slots_of old)) old new
  store_leaves disk.Ok new made = stored_now new made
  store_leaves disk.Fault new (inl only) = record { one = inl (before_still new only) }
  store_leaves disk.Fault new (inr made) = record { one = inr (stored_now new made) }

module _ {D : Type 0} (contents : D → Option (List (List ℕ))) (count faults : D → ℕ)
    (counted : (drive : D) → IfSome (contents drive) (λ blocks. length blocks ≡ count drive)) where
  -- what is told of the drive behind a store
  stored_told : (one other : Catalog D) (end : DiskEnd) (slot : ℕ) (file : StoredFile) (bytes : List ℕ) (Q : List (List ℕ) → List (List ℕ) → Type 0)
      → WritesNew contents count faults end slot file bytes (disk_of one) (disk_of other)
      → ((old new : List (List ℕ)) → contents (drive_of (disk_of one)) ≡ Some old → length old ≡ count (drive_of (disk_of one))
      → NewLeaves end slot file bytes old new → Q old new)
      → WhereTold (contents (drive_of (disk_of one))) (contents (drive_of (disk_of other))) Q
  stored_told one other end slot file bytes Q writes so =
      writing.where_told Q (contents (drive_of (disk_of one))) (contents (drive_of (disk_of other)))
      (λ new there.
      let old = writing.told (NewLeaves end slot file bytes) (contents (drive_of (disk_of one))) (contents (drive_of (disk_of other))) new writes.leaves
      there in
      (old.0, old.1, so old.0 new old.1 (writing.many contents count faults counted (drive_of (disk_of one)) old.0 old.1) old.2))

  -- and what a store leaves of it
  stored_leaves : (one other : Catalog D) (title : List ℕ) (kind : FileKind) (bytes : List ℕ) (slot : ℕ) (file : StoredFile) (end : DiskEnd)
      → IsMounted contents count one → Stores (count (drive_of (disk_of one))) (files_of one) title kind bytes slot file
      → WritesNew contents count faults end slot file bytes (disk_of one) (disk_of other)
      → WhereTold (contents (drive_of (disk_of one))) (contents (drive_of (disk_of other)))
      (λ old new. Leaves (stored_as end) (slots_of old) (slots_stored title kind bytes (slots_of old)) old new)
  stored_leaves one other title kind bytes slot file end mounted stores writes =
      stored_told one other end slot file bytes _ writes
      (λ old new told many made. store_leaves (count (drive_of (disk_of one))) (files_of one) title kind bytes slot file stores old many
      (mounted.image old told) end new made)

  pub store_mounted : (one other : Catalog D) (title : List ℕ) (kind : FileKind) (bytes : List ℕ) (slot : ℕ) (file : StoredFile)
      → IsMounted contents count one → Stores (count (drive_of (disk_of one))) (files_of one) title kind bytes slot file
      → WritesNew contents count faults disk.Ok slot file bytes (disk_of one) (disk_of other)
      → files_of other ≡ set (files_of one) slot (Some file) → AreWhole (entry_blocks_of one)
      → entry_blocks_of other ≡ set (entry_blocks_of one) (slot / 8)
      (patched (64 * (slot % 8)) (bytes_of_record file.record_) (get_or (entry_blocks_of one) (slot / 8) []))
      → EntryCached (1 + slot / 8) (get_or (entry_blocks_of other) (slot / 8) []) (disk_of one) (disk_of other)
      → IsMounted contents count other
  store_mounted one other title kind bytes slot file mounted stores writes now whole blocks_now used = record {
    works = writes.works refl;
    settled = writes.settled refl;
    clean = writes.clean refl;
    many = ap length now ∙ length-set (files_of one) slot (Some file) ∙ mounted.many;
    most = subst (λ n. n ≤ 4096) (sym writes.count_stays) mounted.most;
    stored =
        ap (list_all (is_stored (count (drive_of (disk_of other))))) now
        ∙ subst (λ n. list_all (is_stored n) (set (files_of one) slot (Some file)) ≡ true) (sym writes.count_stays)
        (all_set (is_stored (count (drive_of (disk_of one)))) (files_of one) slot (Some file) stores.all stores.laid.kept);
    apart =
        ap (λ fs. are_different (blocks_used fs)) now
        ∙ free_apart (count (drive_of (disk_of one))) (files_of one) slot file mounted.apart stores.laid.free;
    room = λ some. subst AreWhole (sym blocks_now)
        (whole_over slot (bytes_of_record file.record_) (entry_blocks_of one) stores.within stores.whole whole);
    said = λ some.
        (let was : 0 < count (drive_of (disk_of one)) = subst (λ n. 0 < n) writes.count_stays some in
        subst (λ n. HaveEntries n (entry_blocks_of other) (files_of other)) (sym writes.count_stays)
        (subst (HaveEntries (count (drive_of (disk_of one))) (entry_blocks_of other)) (sym now)
        (subst (λ es. HaveEntries (count (drive_of (disk_of one))) es (set (files_of one) slot (Some file))) (sym blocks_now)
        (said_over (count (drive_of (disk_of one))) slot (bytes_of_record file.record_) (entry_blocks_of one) (files_of one) (Some file) stores.within
        stores.whole whole mounted.many (stored_said (count (drive_of (disk_of one))) file stores.laid.kept) (mounted.said was)))));
    entries_cached = λ some.
        cached_over slot (entry_blocks_of one) (entry_blocks_of other) _ (disk_of one) (disk_of other) blocks_now used
        (mounted.entries_cached (subst (λ n. 0 < n) writes.count_stays some));
    entries = λ blocks told.
        (let old = writing.told (NewLeaves disk.Ok slot file bytes) (contents (drive_of (disk_of one))) (contents (drive_of (disk_of other))) blocks
        writes.leaves told in
        subst (λ es. AreEntries es blocks) (sym blocks_now)
        (entries_over slot (bytes_of_record file.record_) (entry_blocks_of one) old.2.laid blocks stores.within whole.many
        (entries_laid (count (drive_of (disk_of one))) (used_in (Some file)) (entry_blocks_of one) old.0 old.2.laid stores.laid.free.on_drive
        old.2.put.others (mounted.entries old.0 old.1)) old.2.written));
    image = λ blocks told.
        (let old = writing.told (NewLeaves disk.Ok slot file bytes) (contents (drive_of (disk_of one))) (contents (drive_of (disk_of other))) blocks
        writes.leaves told in
        subst (IsKeptOf blocks) (sym now)
        (stored_kept (count (drive_of (disk_of one))) (files_of one) title kind bytes slot file stores old.0
        (writing.many contents count faults counted (drive_of (disk_of one)) old.0 old.1) (mounted.image old.0 old.1) blocks old.2));
  }

  pub changes_done : (one other : Catalog D) (title : List ℕ) (kind : FileKind) (bytes : List ℕ) (slot : ℕ) (file : StoredFile)
      → IsMounted contents count one → Stores (count (drive_of (disk_of one))) (files_of one) title kind bytes slot file
      → WritesNew contents count faults disk.Ok slot file bytes (disk_of one) (disk_of other) → room_reference other ≡ room_reference one
      → files_of other ≡ set (files_of one) slot (Some file) → AreWhole (entry_blocks_of one)
      → entry_blocks_of other ≡ set (entry_blocks_of one) (slot / 8)
      (patched (64 * (slot % 8)) (bytes_of_record file.record_) (get_or (entry_blocks_of one) (slot / 8) []))
      → EntryCached (1 + slot / 8) (get_or (entry_blocks_of other) (slot / 8) []) (disk_of one) (disk_of other)
      → FileCached file bytes (disk_of other)
      → StoreChanges {X = Unit {0}} contents count faults (Ok tt) None title kind bytes one other
  changes_done one other title kind bytes slot file mounted stores writes lent now whole blocks_now used file_used = record {
    answers = (refl, record { file = file; entry_ = stores.entry; at = slot; index_ = stores.index; others = now });
    free = λ at e.
        subst (λ f. AreFree (count (drive_of (disk_of one))) (files_of one) (used_in f)) (sym (there at e)) stores.laid.free;
    untouched = tt;
    mounted = inr (store_mounted one other title kind bytes slot file mounted stores writes now whole blocks_now used);
    entries_cached = inr (changed_cached slot (entry_blocks_of one) (entry_blocks_of other) _ (disk_of one) (disk_of other) blocks_now used);
    file_cached = λ at e. subst (λ f. IfSome f (λ it. FileCached it bytes (disk_of other))) (sym (there at e)) file_used;
    leaves = stored_leaves one other title kind bytes slot file disk.Ok mounted stores writes;
    same_reference = writes.same_reference;
    same_room = lent;
    count_stays = writes.count_stays;
    later = writes.later;
    cause = λ e. absurd (cc);
  } where
    -- the file has the slot now
    there : (at : ℕ) → index_for title (files_of one) ≡ Some at → get_or (files_of other) at None ≡ Some file
    there at e =
        let both : Some slot ≡ Some at = sym stores.index ∙ e in
        let here : slot ≡ at = cc in
        let many : slot < length (files_of one) = omega (arith, mounted.many, stores.within) in
        ap (λ k. get_or (files_of other) k None) (sym here) ∙ ap (λ fs. get_or fs slot None) now
        ∙ get_or-set_same (files_of one) slot (Some file) None many

  pub changes_failed : (one other : Catalog D) (title : List ℕ) (kind : FileKind) (bytes : List ℕ) (slot : ℕ) (file : StoredFile)
      → IsMounted contents count one → Stores (count (drive_of (disk_of one))) (files_of one) title kind bytes slot file
      → WritesNew contents count faults disk.Fault slot file bytes (disk_of one) (disk_of other) → room_reference other ≡ room_reference one
      → StoreChanges {X = Unit {0}} contents count faults (Err cat.Fault) None title kind bytes one other
  changes_failed one other title kind bytes slot file mounted stores writes lent = record {
    answers = refl;
    free = tt;
    untouched = tt;
    mounted = inl refl;
    entries_cached = inl refl;
    file_cached = tt;
    leaves = stored_leaves one other title kind bytes slot file disk.Fault mounted stores writes;
    same_reference = writes.same_reference;
    same_room = lent;
    count_stays = writes.count_stays;
    later = writes.later;
    cause = λ e. writes.cause refl;
  }

-- ---- the entry of a file

pub length_record : (r : FileRecord) → is_title r.title ≡ true → length (bytes_of_record r) ≡ 64
unfolding bytes_of_record with_blanks two
length_record r titled =
    let title : length (r.title ++ replicate (24 - length r.title) 32) ≡ 24 =
    length-append r.title (replicate (24 - length r.title) 32)
    ∙ ap (λ n. length r.title + n) (length-replicate (24 - length r.title) 32)
    ∙ (let short : length r.title ≤ 24 = title_length r.title titled in omega arith) in
    let back : length (field_bytes r ++ replicate 30 0) ≡ 40 = refl in
    length-append (r.title ++ replicate (24 - length r.title) 32) (field_bytes r ++ replicate 30 0)
    ∙ ap (λ n. n + length (field_bytes r ++ replicate 30 0)) title ∙ ap (λ n. 24 + n) back

pub stores_from : (count : ℕ) (files : List (Option StoredFile)) (title : List ℕ) (kind : FileKind) (bytes : List ℕ) (slot : ℕ) (file : StoredFile)
    → slot < 256 → list_all (is_stored count) files ≡ true → is_stored count (Some file) ≡ true → AreFree count files (used_in (Some file))
    → entry_of file ≡ stored_entry title kind (length bytes) → index_for title files ≡ Some slot
    → is_protected (file_titled title files) ≡ false → Stores count files title kind bytes slot file
stores_from count files title kind bytes slot file within all kept free entry index open_ = record {
  within = within;
  all = all;
  laid = record { kept = kept; free = free };
  entry = entry;
  whole = length_record file.record_ (shape_of count file kept).titled;
  index = index;
  open_ = open_;
}
