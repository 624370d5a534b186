-- What the calls that change one file leave.
use Rattle.std.proofs.Common.{◌≡◌, ℕ, suc, ◌<◌, ◌≤◌, inl, inr, Bool, true, false, List, [], ◌∷◌, length, set, get_or, refl, ap, sym, subst, ◌∙◌, arith, ◌*◌}
use Rattle.std.proofs.Common.{◌/◌, ◌%◌, ◌+◌}
use Rattle.std.specs.Prelude.{◌&&◌, ◌==◌, nat_le, is_some, if◌then◌else◌, map, Option, Some, None, IfSome, Result, Ok, Err}
use Rattle.std.specs.List.{list_all}
use Rattle.std.specs.Option.{option_map, option_and_then}
use Rattle.std.proofs.Math.ListN.{get_or-map}
use Rattle.std.proofs.lemmas.List.{length-set, set-set, get_or_default}
use Rattle.edi_calls.specs.State.{File, is_title, most_bytes, pages_of, find_slot}
use Rattle.edi_disk.specs.declared.disk.DiskEnd.TheVariants as disk
use Rattle.edi_disk.specs.Shown.{drive_of}
use Rattle.edi_disk.proofs.Writing.{told, where_told}
use Rattle.edi_catalog.specs.declared.ends.CatEnd.{CatEnd}
use Rattle.edi_catalog.specs.declared.ends.CatEnd.TheVariants as cat
use Rattle.edi_catalog.specs.declared.catalog.Catalog.{Catalog}
use Rattle.edi_image.specs.Records.{FileRecord}
use Rattle.edi_image.specs.Entries.{entry_says}
use Rattle.edi_image.specs.Image.{slots_of}
use Rattle.edi_image.specs.Stored.{StoredFile, is_record, is_stored, are_data, is_titled, IsKeptOf}
use Rattle.edi_catalog.specs.Files.{find_index, file_titled}
use Rattle.edi_catalog.specs.Mounted.{AreEntries, AreWhole, HaveEntries, IsMounted, disk_of, entry_blocks_of, files_of, room_reference}
use Rattle.edi_catalog.specs.Changes.{CatalogAnswers, BeforeOrAfter, Changes, Leaves, Untouched, kept_changed, not_deleted, not_renamed}
use Rattle.edi_catalog.specs.SlotsChanged.{changed_at}
use Rattle.edi_catalog.specs.SlotsChanged.{slots_changed}
use Rattle.edi_image.specs.Bytes.{bytes_of_slot}
use Rattle.edi_catalog.specs.Writing.{patched, is_protected, IsWritten, EntryLeaves, PutsEntry, kept_as, put_kept, file_as, put_file, IsRecordFor, IsRecordAt}
use Rattle.edi_image.proofs.Spelled.{both}
use Rattle.edi_catalog.proofs.Sizes.{kept_at}
use Rattle.edi_image.proofs.Told.{told_same}
use Rattle.edi_image.proofs.KeptFiles.{file_of, slots_are}
use Rattle.edi_catalog.proofs.WholeFiles.{index_same}
use Rattle.edi_catalog.specs.Plan.{are_different, blocks_used}
use Rattle.edi_catalog.proofs.Apart.{put_apart}
use Rattle.edi_catalog.proofs.EntryBlocks.{entries_over}
use Rattle.edi_catalog.proofs.KeptEntries.{record_said, said_over, whole_over}
use Rattle.edi_catalog.proofs.StillCached.{cached_over, changed_cached, entry_used}
use Rattle.edi_catalog.specs.Putting.{EntryCached}
use Rattle.edi_catalog.specs.Reads.{UsesBlock}
use Rattle.edi_catalog.proofs.Changed.{IsChangedTo, written_changes, put_stored, record_room}

-- ---- a slot that is written

-- a drive with a file has the blocks of a catalogue
pub has_catalogue : (count : ℕ) (files : List (Option StoredFile)) (index : ℕ) (r : Option FileRecord) → list_all (is_stored count) files ≡ true
    → IsRecordAt files index r → 33 ≤ count
has_catalogue count files index r all at =
    let file : StoredFile = at.file in
    let kept : is_stored count (Some file) ≡ true = ap (is_stored count) (sym at.there) ∙ kept_at count files index all in
    let pages = both (is_record count file.record_ && are_data count file.pages) (length file.pages == pages_of file.record_.length) kept in
    let room : 33 < count = record_room count file.record_ (both (is_record count file.record_) (are_data count file.pages) pages.0).0 in
    omega (arith, room)

-- the blocks with the entries are kept
pub slot_room : {D : Type 0} (contents : D → Option (List (List ℕ))) (count : D → ℕ) (a : Catalog D) (index : ℕ) (r : Option FileRecord)
    → IsMounted contents count a → IsRecordAt (files_of a) index r → AreWhole (entry_blocks_of a)
slot_room contents count a index r mounted at =
    mounted.room (let room : 33 ≤ count (drive_of (disk_of a)) = has_catalogue (count (drive_of (disk_of a))) (files_of a) index r mounted.stored at in
    omega (arith, room))

-- the slot as it is kept
pub slot_kept : (files : List (Option StoredFile)) (index : ℕ) (x y taken there : Option StoredFile) (r : Option FileRecord) → length files ≡ 256 → index < 256
    → y ≡ kept_as r taken → taken ≡ there → there ≡ get_or files index there → set (set files index x) index y ≡ put_kept files index r
slot_kept files index x y taken there r many h kept took is =
    set-set files index x y
    ∙ ap (set files index)
    (kept ∙ ap (kept_as r) (took ∙ is ∙ sym (get_or_default files index None there (let inside : index < length files = omega (arith, many, h) in inside))))

-- the entry is written
pub slot_done : {D X : Type 0} (contents : D → Option (List (List ℕ))) (count faults : D → ℕ) (x : X) (index slot : ℕ) (entry : List ℕ) (r : Option FileRecord)
    (a b : Catalog D) → IsMounted contents count a → index < 256 → IsRecordAt (files_of a) index r → length entry ≡ 64 → entry ≡ bytes_of_slot r
    → slot ≡ index → PutsEntry contents count faults disk.Ok slot entry (disk_of a) (disk_of b) → room_reference b ≡ room_reference a
    → files_of b ≡ put_kept (files_of a) index r
    → entry_blocks_of b ≡ set (entry_blocks_of a) (index / 8) (patched (64 * (index % 8)) entry (get_or (entry_blocks_of a) (index / 8) []))
    → UsesBlock (1 + index / 8) (get_or (entry_blocks_of b) (index / 8) []) (disk_of a) (disk_of b)
    → Changes contents count faults (Ok x) None (put_kept (files_of a) index r) (put_file index r) a b
slot_done {X = X} contents count faults x index slot entry r a b mounted h at long is same puts lent files blocks uses = record {
  answers = (refl, files);
  untouched = tt;
  mounted = inr (record {
    works = puts.works refl;
    settled = puts.settled refl;
    clean = puts.clean refl;
    many = ap length files ∙ length-set (files_of a) index _ ∙ mounted.many;
    most = subst (λ n. n ≤ 4096) (sym puts.count_stays) mounted.most;
    stored =
        ap (list_all (is_stored (count (drive_of (disk_of b))))) files
        ∙ subst (λ n. list_all (is_stored n) (put_kept (files_of a) index r) ≡ true) (sym puts.count_stays)
        (put_stored (count (drive_of (disk_of a))) (files_of a) index r mounted.stored at);
    apart = ap (λ fs. are_different (blocks_used fs)) files ∙ put_apart (files_of a) index r mounted.apart at;
    room = λ some. subst AreWhole (sym blocks) (whole_over index entry (entry_blocks_of a) h long whole);
    said = λ some.
        (let was : 0 < count (drive_of (disk_of a)) = subst (λ n. 0 < n) puts.count_stays some in
        subst (λ n. HaveEntries n (entry_blocks_of b) (files_of b)) (sym puts.count_stays)
        (subst (HaveEntries (count (drive_of (disk_of a))) (entry_blocks_of b)) (sym files)
        (subst (λ es. HaveEntries (count (drive_of (disk_of a))) es (put_kept (files_of a) index r)) (sym blocks)
        (said_over (count (drive_of (disk_of a))) index entry (entry_blocks_of a) (files_of a) (kept_as r (get_or (files_of a) index None)) h long whole
        mounted.many (ap (entry_says (count (drive_of (disk_of a)))) is ∙ record_said (count (drive_of (disk_of a))) (files_of a) index r mounted.stored at)
        (mounted.said was)))));
    entries_cached = λ some.
        cached_over index (entry_blocks_of a) (entry_blocks_of b) _ (disk_of a) (disk_of b) blocks used
        (mounted.entries_cached (subst (λ n. 0 < n) puts.count_stays some));
    entries = λ new e.
        (let was = told (EntryLeaves disk.Ok slot entry) (contents (drive_of (disk_of a))) (contents (drive_of (disk_of b))) new puts.leaves e in
        subst (λ es. AreEntries es new) (sym blocks)
        (entries_over index entry (entry_blocks_of a) was.0 new h whole.many (mounted.entries was.0 was.1) (subst (λ n. IsWritten n entry was.0 new) same was.2)));
    image = λ new e. (let was = written new e in subst (IsKeptOf new) (sym files) was.2.kept);
  });
  entries_cached = inr (changed_cached index (entry_blocks_of a) (entry_blocks_of b) _ (disk_of a) (disk_of b) blocks used);
  leaves =
      where_told (λ old new. Leaves {X = X} (Ok x) (slots_of old) (put_file index r (slots_of old)) old new) (contents (drive_of (disk_of a)))
      (contents (drive_of (disk_of b)))
      (λ new e. (let was = written new e in (was.0, was.1, record { valid = was.2.kept.valid; files = was.2.slots })));
  same_reference = puts.same_reference;
  same_room = lent;
  count_stays = puts.count_stays;
  later = puts.later;
  cause = λ e. absurd (let not_err : Ok x ≡ Err cat.Fault = e in cc);
} where
  used : EntryCached (1 + index / 8) (get_or (entry_blocks_of b) (index / 8) []) (disk_of a) (disk_of b)
  used = entry_used (1 + index / 8) (get_or (entry_blocks_of b) (index / 8) []) (disk_of a) (disk_of b) uses

  whole : AreWhole (entry_blocks_of a)
  whole = slot_room contents count a index r mounted at

  written : (new : List (List ℕ)) → contents (drive_of (disk_of b)) ≡ Some new
      → (old : List (List ℕ)) × (contents (drive_of (disk_of a)) ≡ Some old) × IsChangedTo (files_of a) index r old new
  written new e =
      let was = told (EntryLeaves disk.Ok slot entry) (contents (drive_of (disk_of a))) (contents (drive_of (disk_of b))) new puts.leaves e in
      let here : IsWritten index (bytes_of_slot r) was.0 new =
      subst (λ n. IsWritten n (bytes_of_slot r) was.0 new) same (subst (λ bs. IsWritten slot bs was.0 new) is was.2) in (
        was.0,
        was.1,
        written_changes was.0 new (files_of a) index (count (drive_of (disk_of a))) r h (mounted.image was.0 was.1) mounted.stored at
            (ap length (sym is) ∙ long) here,
      )

-- the drive has failed
pub slot_failed : {D X : Type 0} (contents : D → Option (List (List ℕ))) (count faults : D → ℕ) (index slot : ℕ) (entry : List ℕ) (r : Option FileRecord)
    (a b : Catalog D) → IsMounted contents count a → index < 256 → IsRecordAt (files_of a) index r → length entry ≡ 64 → entry ≡ bytes_of_slot r
    → slot ≡ index → PutsEntry contents count faults disk.Fault slot entry (disk_of a) (disk_of b) → room_reference b ≡ room_reference a
    → Changes {X = X} contents count faults (Err cat.Fault) None (put_kept (files_of a) index r) (put_file index r) a b
slot_failed {X = X} contents count faults index slot entry r a b mounted h at long is same puts lent = record {
  answers = refl;
  untouched = tt;
  mounted = inl refl;
  entries_cached = inl refl;
  leaves =
      where_told (λ old new. Leaves {X = X} (Err cat.Fault) (slots_of old) (put_file index r (slots_of old)) old new) (contents (drive_of (disk_of a)))
      (contents (drive_of (disk_of b)))
      (λ new e. (let was = told (EntryLeaves disk.Fault slot entry) (contents (drive_of (disk_of a))) (contents (drive_of (disk_of b))) new puts.leaves e in
      (was.0, was.1, ends was.0 new (mounted.image was.0 was.1) was.2)));
  same_reference = puts.same_reference;
  same_room = lent;
  count_stays = puts.count_stays;
  later = puts.later;
  cause = λ e. puts.cause refl;
} where
  ends : (old new : List (List ℕ)) → IsKeptOf old (files_of a) → EntryLeaves disk.Fault slot entry old new
      → BeforeOrAfter (slots_of old) (put_file index r (slots_of old)) new
  ends old new kept (inl unwritten) =
      subst (BeforeOrAfter (slots_of old) (put_file index r (slots_of old))) (sym unwritten)
      (record { one = inl (record { valid = kept.valid; files = refl }) })
  ends old new kept (inr wrote) =
      let here : IsWritten index (bytes_of_slot r) old new =
      subst (λ n. IsWritten n (bytes_of_slot r) old new) same (subst (λ bs. IsWritten slot bs old new) is wrote) in
      let now : IsChangedTo (files_of a) index r old new =
      written_changes old new (files_of a) index (count (drive_of (disk_of a))) r h kept mounted.stored at (ap length (sym is) ∙ long) here in
      record { one = inr (record { valid = now.kept.valid; files = now.slots }) }

-- ---- a call that is refused

pub untouched_same : {X C : Type 0} (result : Result X CatEnd) (a : C) → Untouched result a a
untouched_same (Ok done) a = tt
untouched_same (Err cat.NoSuch) a = refl
untouched_same (Err cat.Taken) a = refl
untouched_same (Err cat.Protected) a = refl
untouched_same (Err (cat.TooLarge n)) a = refl
untouched_same (Err cat.CatalogFull) a = refl
untouched_same (Err (cat.Full wanted free)) a = refl
untouched_same (Err cat.Fault) a = tt

pub not_changed : {D X : Type 0} (contents : D → Option (List (List ℕ))) (count faults : D → ℕ) (result : Result X CatEnd) (refusal : Option CatEnd)
    (kept : List (Option StoredFile)) (wanted : List (Option File) → List (Option File)) (a : Catalog D) → IsMounted contents count a
    → CatalogAnswers result refusal (files_of a) kept (files_of a)
    → ((blocks : List (List ℕ)) → Leaves result (slots_of blocks) (wanted (slots_of blocks)) blocks blocks) → (result ≡ Err cat.Fault → ⊥)
    → Changes contents count faults result refusal kept wanted a a
not_changed contents count faults result refusal kept wanted a mounted answers leaves no_fault = record {
  answers = answers;
  untouched = untouched_same result a;
  mounted = inr mounted;
  entries_cached = inr (λ k h. inl refl);
  leaves =
      told_same (contents (drive_of (disk_of a))) (λ old new. Leaves result (slots_of old) (wanted (slots_of old)) old new) leaves;
  same_reference = refl;
  same_room = refl;
  count_stays = refl;
  later = omega arith;
  cause = λ e. absurd (no_fault e);
}

-- ---- the file of a title

-- the file of a title, in its slot
pub record HasFile (title : List ℕ) (files : List (Option StoredFile)) (index : ℕ) : Type 0 where
  pub file : StoredFile
  pub there : get_or files index None ≡ Some file
  pub titled : file_titled title files ≡ Some file

file_there : (title : List ℕ) (files : List (Option StoredFile)) (index : ℕ) → find_index title files ≡ Some index
    → (file : StoredFile) × (get_or files index None ≡ Some file)
file_there title [] index h = absurd (let none : None ≡ Some index = h in cc)
file_there title (None ∷ files) index h = go (find_index title files) refl h (λ k e. file_there title files k e) where
  go : (o : Option ℕ) → find_index title files ≡ o → option_map suc o ≡ Some index
      → ((k : ℕ) → find_index title files ≡ Some k → (file : StoredFile) × (get_or files k None ≡ Some file))
      → (file : StoredFile) × (get_or (None ∷ files) index None ≡ Some file)
  go None e h rest = absurd (let none : None ≡ Some index = h in cc)
  go (Some k) e h rest =
      let same : Some (suc k) ≡ Some index = h in
      let is : suc k ≡ index = cc in
      let was = rest k e in (was.0, ap (λ n. get_or (None ∷ files) n None) (sym is) ∙ was.1)
file_there title (Some f ∷ files) index h = go (is_titled title (Some f)) (find_index title files) refl h (λ k e. file_there title files k e) where
  go : (b : Bool) (o : Option ℕ) → find_index title files ≡ o → (if b then Some 0 else option_map suc o) ≡ Some index
      → ((k : ℕ) → find_index title files ≡ Some k → (file : StoredFile) × (get_or files k None ≡ Some file))
      → (file : StoredFile) × (get_or (Some f ∷ files) index None ≡ Some file)
  go true o e h rest =
      let same : Some 0 ≡ Some index = h in
      let is : 0 ≡ index = cc in (f, ap (λ n. get_or (Some f ∷ files) n None) (sym is))
  go false None e h rest = absurd (let none : None ≡ Some index = h in cc)
  go false (Some k) e h rest =
      let same : Some (suc k) ≡ Some index = h in
      let is : suc k ≡ index = cc in
      let was = rest k e in (was.0, ap (λ n. get_or (Some f ∷ files) n None) (sym is) ∙ was.1)

pub has_file : (title : List ℕ) (files : List (Option StoredFile)) (index : ℕ) → find_index title files ≡ Some index → HasFile title files index
has_file title files index h =
    let was = file_there title files index h in
    record {
      file = was.0;
      there = was.1;
      titled = ap (option_and_then (λ k. get_or files k None)) h ∙ was.1;
    }

-- what is kept of a file has a title
pub kept_title : (count : ℕ) (files : List (Option StoredFile)) (index : ℕ) (file : StoredFile) → list_all (is_stored count) files ≡ true
    → get_or files index None ≡ Some file → is_title file.record_.title ≡ true
kept_title count files index file all there =
    let kept : is_stored count (Some file) ≡ true = ap (is_stored count) (sym there) ∙ kept_at count files index all in
    let r : FileRecord = file.record_ in
    let pages = both (is_record count r && are_data count file.pages) (length file.pages == pages_of r.length) kept in
    let whole = both (is_record count r) (are_data count file.pages) pages.0 in
    let maps = both (is_title r.title && nat_le r.length most_bytes && are_data count r.maps)
    (length r.maps == (if nat_le (pages_of r.length) 255 then 1 else 2)) whole.0 in
    let data_ = both (is_title r.title && nat_le r.length most_bytes) (are_data count r.maps) maps.0 in
    (both (is_title r.title) (nat_le r.length most_bytes) data_.0).0

-- ---- what is written in the slot of a file

slot_there : (files : List (Option StoredFile)) (index : ℕ) (there : Option StoredFile) (file : StoredFile) → length files ≡ 256 → index < 256
    → there ≡ get_or files index there → get_or files index None ≡ Some file → there ≡ Some file
slot_there files index there file many h is here =
    is ∙ sym (get_or_default files index None there (let inside : index < length files = omega (arith, many, h) in inside)) ∙ here

pub entry_is : (files : List (Option StoredFile)) (index : ℕ) (there : Option StoredFile) (file : StoredFile) (entry : Option FileRecord)
    (make : Option StoredFile → Option FileRecord) → length files ≡ 256 → index < 256 → there ≡ get_or files index there
    → get_or files index None ≡ Some file → entry ≡ make there → entry ≡ make (Some file)
entry_is files index there file entry make many h is here made = made ∙ ap make (slot_there files index there file many h is here)

-- the file is protected or not
protection_is : (files : List (Option StoredFile)) (index : ℕ) (there : Option StoredFile) (file : StoredFile) (answer b : Bool) → length files ≡ 256
    → index < 256 → there ≡ get_or files index there → get_or files index None ≡ Some file → answer ≡ is_protected there → answer ≡ b
    → file.record_.protected ≡ b
protection_is files index there file answer b many h is here asked answered =
    sym (asked ∙ ap is_protected (slot_there files index there file many h is here)) ∙ answered

-- a file that is not protected has the title
pub record HasUnprotected (title : List ℕ) (files : List (Option StoredFile)) (index : ℕ) : Type 0 where
  pub found : HasFile title files index
  pub free : found.file.record_.protected ≡ false

pub has_unprotected : (title : List ℕ) (files : List (Option StoredFile)) (index : ℕ) (there : Option StoredFile) (answer : Bool)
    → find_index title files ≡ Some index → length files ≡ 256 → index < 256 → there ≡ get_or files index there → answer ≡ is_protected there
    → answer ≡ false → HasUnprotected title files index
has_unprotected title files index there answer first many h is asked answered =
    let found = has_file title files index first in
    record { found = found; free = protection_is files index there found.file answer false many h is found.there asked answered }

pub record_at : (files : List (Option StoredFile)) (index : ℕ) (file : StoredFile) (q : FileRecord) (entry : Option FileRecord)
    → get_or files index None ≡ Some file → IsRecordFor files file q → entry ≡ Some q → IsRecordAt files index entry
record_at files index file q entry there fits is =
    subst (IsRecordAt files index) (sym is) (record { file = file; there = there; fits = fits })

-- no file has a title where no slot has one
pub untitled_none : (title : List ℕ) (files : List (Option StoredFile)) → find_index title files ≡ None → file_titled title files ≡ None
untitled_none title files h = ap (option_and_then (λ k. get_or files k None)) h

pub titled_some : (title : List ℕ) (files : List (Option StoredFile)) (o : Option ℕ) → find_index title files ≡ o → is_some o ≡ true
    → is_some (file_titled title files) ≡ true
titled_some title files None e h = absurd (let never : false ≡ true = h in cc)
titled_some title files (Some k) e h = ap is_some (has_file title files k e).titled

pub none_there : (o : Option ℕ) → is_some o ≡ false → o ≡ None
none_there None h = refl
none_there (Some k) h = absurd (let never : true ≡ false = h in cc)

pub some_title : (entry : Option FileRecord) (q : FileRecord) → entry ≡ Some q → IfSome entry (λ r. is_title r.title ≡ true) → is_title q.title ≡ true
some_title entry q is title = subst (λ o. IfSome o (λ r. is_title r.title ≡ true)) is title

-- why a file that is there is not deleted, or not renamed
pub delete_refusal : (title : List ℕ) (files : List (Option StoredFile)) (index : ℕ) (found : HasFile title files index)
    → found.file.record_.protected ≡ false → not_deleted (file_titled title files) ≡ None
delete_refusal title files index found free =
    ap not_deleted found.titled ∙ ap (λ b. if b then Some cat.Protected else None) free

pub rename_refusal : (old new : List ℕ) (files : List (Option StoredFile)) (index : ℕ) (found : HasFile old files index) (taken : Bool)
    → found.file.record_.protected ≡ false → is_some (file_titled new files) ≡ taken
    → not_renamed (file_titled old files) (file_titled new files) ≡ (if taken then Some cat.Taken else None)
rename_refusal old new files index found taken free there =
    ap (λ o. not_renamed o (file_titled new files)) found.titled
    ∙ ap (λ b. if b then Some cat.Protected else (if is_some (file_titled new files) then Some cat.Taken else None)) free
    ∙ ap (λ b. if b then Some cat.Taken else None) there

-- ---- a call, from the slot that it writes

pub changes_as : {D X : Type 0} (contents : D → Option (List (List ℕ))) (count faults : D → ℕ) (result : Result X CatEnd) (refusal : Option CatEnd)
    (title : List ℕ) (index : ℕ) (r : Option FileRecord) (change : StoredFile → Option StoredFile) (change_file : File → Option File)
    (file : StoredFile) (a b : Catalog D) → IsMounted contents count a → find_index title (files_of a) ≡ Some index
    → get_or (files_of a) index None ≡ Some file → refusal ≡ None → kept_as r (Some file) ≡ change file
    → ((blocks : List (List ℕ)) → file_as r (Some (file_of blocks file)) ≡ change_file (file_of blocks file))
    → Changes contents count faults result None (put_kept (files_of a) index r) (put_file index r) a b
    → Changes contents count faults result refusal (kept_changed change title (files_of a)) (slots_changed change_file title) a b
changes_as contents count faults result refusal title index r change change_file file a b mounted finds there free kept in_image changes = record {
  answers =
      subst (λ o. CatalogAnswers result o (files_of a) (kept_changed change title (files_of a)) (files_of b)) (sym free)
      (subst (λ k. CatalogAnswers result None (files_of a) k (files_of b)) same_kept changes.answers);
  untouched = changes.untouched;
  mounted = changes.mounted;
  entries_cached = changes.entries_cached;
  leaves =
      where_told (λ old new. Leaves result (slots_of old) (slots_changed change_file title (slots_of old)) old new) (contents (drive_of (disk_of a)))
      (contents (drive_of (disk_of b)))
      (λ new e. (let was = told (λ old new. Leaves result (slots_of old) (put_file index r (slots_of old)) old new) (contents (drive_of (disk_of a)))
      (contents (drive_of (disk_of b))) new changes.leaves e in
      (was.0, was.1, subst (λ s. Leaves result (slots_of was.0) s was.0 new) (same_slots was.0 (mounted.image was.0 was.1)) was.2)));
  same_reference = changes.same_reference;
  same_room = changes.same_room;
  count_stays = changes.count_stays;
  later = changes.later;
  cause = changes.cause;
} where
  same_kept : put_kept (files_of a) index r ≡ kept_changed change title (files_of a)
  same_kept =
      ap (λ f. set (files_of a) index (kept_as r f)) there ∙ ap (set (files_of a) index) kept
      ∙ ap (λ f. set (files_of a) index (option_and_then change f)) (sym there)
      ∙ ap (λ o. changed_at change o (files_of a)) (sym finds)

  same_slots : (old : List (List ℕ)) → IsKeptOf old (files_of a) → put_file index r (slots_of old) ≡ slots_changed change_file title (slots_of old)
  same_slots old is =
      let slots : slots_of old ≡ map (option_map (file_of old)) (files_of a) = slots_are old ∙ ap (map (option_map (file_of old))) (sym is.slots) in
      let here : get_or (slots_of old) index None ≡ Some (file_of old file) =
      ap (λ s. get_or s index None) slots ∙ get_or-map (option_map (file_of old)) (files_of a) index None ∙ ap (option_map (file_of old)) there in
      let found : find_slot (slots_of old) title ≡ Some index = ap (λ s. find_slot s title) slots ∙ index_same old title (files_of a) ∙ finds in
      ap (λ f. set (slots_of old) index (file_as r f)) here ∙ ap (set (slots_of old) index) (in_image old)
      ∙ ap (λ f. set (slots_of old) index (option_and_then change_file f)) (sym here)
      ∙ ap (λ o. changed_at change_file o (slots_of old)) (sym found)
