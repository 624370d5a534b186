-- The files of an image in which the entry of one slot is written.
use Rattle.std.proofs.Common.{◌≡◌, ℕ, suc, ◌+◌, ◌-◌, ◌/◌, ◌<◌, ◌≤◌, ◌⊎◌, inl, inr, Bool, true, false, List, [], ◌∷◌, ◌++◌, length, take, set, get_or, refl}
use Rattle.std.proofs.Common.{ap, sym, subst, ◌∙◌, arith, append_assoc, zero}
use Rattle.std.specs.Prelude.{◌&&◌, ◌||◌, ◌==◌, nat_le, nat_lt, map, flat_map, if◌then◌else◌, Option, Some, None, IfSome}
use Rattle.std.specs.List.{list_all, list_any}
use Rattle.std.specs.Str.{bytes_eq}
use Rattle.std.specs.Option.{option_map}
use Rattle.std.proofs.Math.Seq.{set-append_seam, get_or-append_seam}
use Rattle.std.proofs.Math.ListN.{get_or-map}
use Rattle.std.proofs.lemmas.Bool.{leb-true, ltb-true}
use Rattle.std.proofs.lemmas.List.{length-map, map-append, map-set, length-set}
use Rattle.edi_calls.specs.State.{is_title, most_bytes, pages_of}
use Rattle.edi_image.specs.declared.faults.MountFault.TheVariants as fault
use Rattle.edi_image.specs.declared.entries.Said.{Said}
use Rattle.edi_image.specs.declared.entries.Said.TheVariants as said
use Rattle.edi_image.specs.Records.{FileRecord}
use Rattle.edi_image.specs.Rules.{first_broken, needs}
use Rattle.edi_image.specs.Entries.{block_at, is_data}
use Rattle.edi_image.specs.Image.{header_block, header_rules, titles_in, slot_rules, entry_at, said_at, entries_from, entries_of, mount_fault_of, numbers_of}
use Rattle.edi_image.specs.Image.{slots_of}
use Rattle.edi_image.specs.Stored.{StoredFile, stored_of, are_data, is_record, is_stored, is_fit, IsKeptOf}
use Rattle.edi_catalog.specs.Files.{find_index}
use Rattle.edi_image.specs.Bytes.{bytes_of_slot}
use Rattle.edi_catalog.specs.Writing.{IsWritten, kept_as, put_kept, file_as, put_file, IsRecordFor, IsRecordAt}
use Rattle.edi_image.proofs.Spelled.{both}
use Rattle.edi_image.proofs.SlotRules.{entry_fits}
use Rattle.edi_catalog.proofs.Sizes.{kept_at}
use Rattle.edi_image.proofs.ImageRules.{rules_of}
use Rattle.edi_image.proofs.KeptFiles.{file_of, slots_are}
use Rattle.edi_image.proofs.EntryBytes.{maps_fit_back, said_of, says_slot}
use Rattle.edi_catalog.proofs.EntryFrames.{block_kept, entries_around, entries_written, length-entries_from}
use Rattle.edi_image.proofs.UsedBlocks.{titles_all, neither, none_left, none_right, none_both}
use Rattle.edi_catalog.proofs.OneEntry.{MapsSame, EntrySame, AllSame, Around, around, IsApart, own_apart, new_apart, freed_holds, record_holds, numbers_same}
use Rattle.edi_catalog.proofs.OneEntry.{any_left, any_right}

-- ---- what is known of a record

record_maps : (count : ℕ) (r : FileRecord) → is_record count r ≡ true → are_data count r.maps ≡ true
record_maps count r h =
    let maps = both (is_title r.title && nat_le r.length most_bytes && are_data count r.maps)
    (length r.maps == (if nat_le (pages_of r.length) 255 then 1 else 2)) h in
    (both (is_title r.title && nat_le r.length most_bytes) (are_data count r.maps) maps.0).1

-- there is a block behind those of the catalogue
pub record_room : (count : ℕ) (r : FileRecord) → is_record count r ≡ true → 33 < count
record_room count r h =
    let maps = both (is_title r.title && nat_le r.length most_bytes && are_data count r.maps)
    (length r.maps == (if nat_le (pages_of r.length) 255 then 1 else 2)) h in
    let data_ = both (is_title r.title && nat_le r.length most_bytes) (are_data count r.maps) maps.0 in
    let first = both (nat_le 33 (get_or r.maps 0 0)) (nat_lt (get_or r.maps 0 0) count)
    (maps_fit_back (nat_le (pages_of r.length) 255) count r.maps maps.1 data_.1).0 in
    let low : 33 ≤ get_or r.maps 0 0 = leb-true 33 (get_or r.maps 0 0) first.0 in
    let high : get_or r.maps 0 0 < count = ltb-true (get_or r.maps 0 0) count first.1 in
    omega (arith, low, high)

pub record_like : (count : ℕ) (r q : FileRecord) → is_record count r ≡ true → is_title q.title ≡ true → q.maps ≡ r.maps → q.length ≡ r.length
    → is_record count q ≡ true
record_like count r q h title maps long =
    let parts = both (is_title r.title && nat_le r.length most_bytes && are_data count r.maps)
    (length r.maps == (if nat_le (pages_of r.length) 255 then 1 else 2)) h in
    let data_ = both (is_title r.title && nat_le r.length most_bytes) (are_data count r.maps) parts.0 in
    let size = both (is_title r.title) (nat_le r.length most_bytes) data_.0 in
    ap (λ ms. is_title q.title && nat_le q.length most_bytes && are_data count ms && length ms == (if nat_le (pages_of q.length) 255 then 1 else 2)) maps
    ∙ ap (λ n. is_title q.title && nat_le n most_bytes && are_data count r.maps && length r.maps == (if nat_le (pages_of n) 255 then 1 else 2)) long
    ∙ ap (λ b. b && nat_le r.length most_bytes && are_data count r.maps && length r.maps == (if nat_le (pages_of r.length) 255 then 1 else 2))
    (title ∙ sym size.0)
    ∙ h

-- ---- blocks behind the catalogue are as they were

abbrev pub KeepsData : (one two : List (List ℕ)) → Type 0
KeepsData one two = (n : ℕ) → 33 ≤ n → block_at two n ≡ block_at one n

pub keeps_written : (old new : List (List ℕ)) (slot : ℕ) (entry : List ℕ) → slot < 256 → IsWritten slot entry old new → KeepsData old new
keeps_written old new slot entry h written n low =
    ap (λ bs. block_at bs n) written.now
    ∙ block_kept old slot entry n (λ e. (let few : slot / 8 < 32 = omega arith in omega (arith, e, low, few)))

maps_kept : (one two : List (List ℕ)) (count : ℕ) (maps : List ℕ) → KeepsData one two → are_data count maps ≡ true → MapsSame one two maps
maps_kept one two count [] keeps h = tt
maps_kept one two count (m ∷ ms) keeps h =
    let parts = both (is_data 33 count m) (are_data count ms) h in
    let low = both (nat_le 33 m) (nat_lt m count) parts.0 in
    (keeps m (leb-true 33 m low.0), maps_kept one two count ms keeps parts.1)

entry_kept : (one two : List (List ℕ)) (count : ℕ) (s : Said) → KeepsData one two → is_fit count s ≡ true → EntrySame one two s
entry_kept one two count said.Free keeps h = tt
entry_kept one two count said.Wrong keeps h = tt
entry_kept one two count (said.File r) keeps h = maps_kept one two count r.maps keeps (record_maps count r h)

pub all_kept : (one two : List (List ℕ)) (first n : ℕ) → KeepsData one two → AllSame one two (entries_from one first n)
all_kept one two first zero keeps = tt
all_kept one two first (suc n) keeps =
    (entry_kept one two (length one) (said_at one first) keeps (entry_fits (length one) (entry_at one first)), all_kept one two (first + 1) n keeps)

pages_kept : (one two : List (List ℕ)) (count : ℕ) (pages : List ℕ) → KeepsData one two → are_data count pages ≡ true
    → flat_map (block_at two) pages ≡ flat_map (block_at one) pages
pages_kept one two count [] keeps h = refl
pages_kept one two count (p ∷ ps) keeps h =
    let parts = both (is_data 33 count p) (are_data count ps) h in
    let low = both (nat_le 33 p) (nat_lt p count) parts.0 in
    ap (λ b. b ++ flat_map (block_at two) ps) (keeps p (leb-true 33 p low.0))
    ∙ ap (λ bs. block_at one p ++ bs) (pages_kept one two count ps keeps parts.1)

-- the files that are kept have the same bytes
pub files_kept : (one two : List (List ℕ)) (count : ℕ) (files : List (Option StoredFile)) → KeepsData one two
    → list_all (is_stored count) files ≡ true → map (option_map (file_of two)) files ≡ map (option_map (file_of one)) files
files_kept one two count [] keeps h = refl
files_kept one two count (None ∷ files) keeps h = ap (λ fs. None ∷ fs) (files_kept one two count files keeps h)
files_kept one two count (Some f ∷ files) keeps h =
    let parts = both (is_stored count (Some f)) (list_all (is_stored count) files) h in
    let pages = both (is_record count f.record_ && are_data count f.pages) (length f.pages == pages_of f.record_.length) parts.0 in
    let data_ = both (is_record count f.record_) (are_data count f.pages) pages.0 in
    ap (λ bs. Some (record { title = f.record_.title; kind = f.record_.kind; protected = f.record_.protected; bytes = take f.record_.length bs })
    ∷ map (option_map (file_of two)) files) (pages_kept one two count f.pages keeps data_.1)
    ∙ ap (λ fs. option_map (file_of one) (Some f) ∷ fs) (files_kept one two count files keeps parts.1)

-- ---- the list that is kept

pub stored_same : (one two : List (List ℕ)) (es : List Said) → AllSame one two es → map (stored_of two) es ≡ map (stored_of one) es
stored_same one two [] same = refl
stored_same one two (said.Free ∷ es) same = ap (λ fs. None ∷ fs) (stored_same one two es same.1)
stored_same one two (said.Wrong ∷ es) same = ap (λ fs. None ∷ fs) (stored_same one two es same.1)
stored_same one two (said.File r ∷ es) same =
    ap (λ ns. Some (record { record_ = r; pages = ns }) ∷ map (stored_of two) es) (numbers_same one two (pages_of r.length) r.maps same.0)
    ∙ ap (λ fs. stored_of one (said.File r) ∷ fs) (stored_same one two es same.1)

-- the entry of a file that is kept
abbrev IsEntryOf : List (List ℕ) → Said → StoredFile → Type 0
IsEntryOf blocks s file = (s ≡ said.File file.record_) × (file.pages ≡ numbers_of blocks (pages_of file.record_.length) file.record_.maps)

kept_said : (blocks : List (List ℕ)) (s : Said) (file : StoredFile) → stored_of blocks s ≡ Some file → IsEntryOf blocks s file
kept_said blocks said.Free file h = absurd (let none : None ≡ Some file = h in cc)
kept_said blocks said.Wrong file h = absurd (let none : None ≡ Some file = h in cc)
kept_said blocks (said.File r) file h =
    let kept : StoredFile = record { record_ = r; pages = numbers_of blocks (pages_of r.length) r.maps } in
    let both_some : Some kept ≡ Some file = h in
    let same : kept ≡ file = cc in
    subst (IsEntryOf blocks (said.File r)) same (refl, refl)

map_none : (o : Option ℕ) → option_map suc o ≡ None → o ≡ None
map_none None h = refl
map_none (Some n) h = absurd (let some : Some (suc n) ≡ None = h in cc)

-- no entry has a title that no file has
pub untitled : (blocks : List (List ℕ)) (title : List ℕ) (es : List Said) → find_index title (map (stored_of blocks) es) ≡ None
    → list_any (bytes_eq title) (titles_all es) ≡ false
untitled blocks title [] h = refl
untitled blocks title (said.Free ∷ es) h = untitled blocks title es (map_none (find_index title (map (stored_of blocks) es)) h)
untitled blocks title (said.Wrong ∷ es) h = untitled blocks title es (map_none (find_index title (map (stored_of blocks) es)) h)
untitled blocks title (said.File r ∷ es) h =
    go (bytes_eq title r.title) refl h (λ rest. untitled blocks title es (map_none (find_index title (map (stored_of blocks) es)) rest)) where
      go : (b : Bool) → bytes_eq title r.title ≡ b
          → (if b then Some 0 else option_map suc (find_index title (map (stored_of blocks) es))) ≡ None
          → (option_map suc (find_index title (map (stored_of blocks) es)) ≡ None → list_any (bytes_eq title) (titles_all es) ≡ false)
          → (bytes_eq title r.title || list_any (bytes_eq title) (titles_all es)) ≡ false
      go true e h later = absurd (let some : Some 0 ≡ None = h in cc)
      go false e h later = neither (bytes_eq title r.title) (list_any (bytes_eq title) (titles_all es)) e (later h)

pub titles_all-append : (xs ys : List Said) → titles_all (xs ++ ys) ≡ titles_all xs ++ titles_all ys
titles_all-append [] ys = refl
titles_all-append (x ∷ xs) ys =
    ap (λ ts. titles_in x ++ ts) (titles_all-append xs ys) ∙ sym (append_assoc (titles_in x) (titles_all xs) (titles_all ys))

-- ---- the written image

-- the entries before a slot, and those behind it
abbrev pub front_of : List (List ℕ) → ℕ → List Said
front_of blocks slot = entries_from blocks 0 slot

abbrev pub back_of : List (List ℕ) → ℕ → List Said
back_of blocks slot = entries_from blocks (slot + 1) (255 - slot)

-- what is known of an image whose entry of a slot is that of a file
record Before (blocks : List (List ℕ)) (files : List (Option StoredFile)) (slot : ℕ) (file : StoredFile) : Type 0 where
  entries : entries_of blocks ≡ front_of blocks slot ++ said.File file.record_ ∷ back_of blocks slot
  listed : files ≡ map (stored_of blocks) (front_of blocks slot) ++ Some file ∷ map (stored_of blocks) (back_of blocks slot)
  pages : file.pages ≡ numbers_of blocks (pages_of file.record_.length) file.record_.maps
  fits : is_record (length blocks) file.record_ ≡ true

pub length-front : (blocks : List (List ℕ)) (slot : ℕ) → length (map (stored_of blocks) (front_of blocks slot)) ≡ slot
length-front blocks slot = length-map (front_of blocks slot) (stored_of blocks) ∙ length-entries_from blocks 0 slot

before_of : (blocks : List (List ℕ)) (files : List (Option StoredFile)) (slot : ℕ) (file : StoredFile) → slot < 256
    → files ≡ map (stored_of blocks) (entries_of blocks) → get_or files slot None ≡ Some file → Before blocks files slot file
unfolding entries_of
before_of blocks files slot file h is there =
    let s : Said = said_at blocks slot in
    let listed : files ≡ map (stored_of blocks) (front_of blocks slot) ++ stored_of blocks s ∷ map (stored_of blocks) (back_of blocks slot) =
    is ∙ ap (map (stored_of blocks)) (entries_around blocks slot h) ∙ map-append (stored_of blocks) (front_of blocks slot) (s ∷ back_of blocks slot) in
    let stored : stored_of blocks s ≡ Some file =
    sym (get_or-append_seam (map (stored_of blocks) (front_of blocks slot)) (stored_of blocks s) (map (stored_of blocks) (back_of blocks slot)) None)
    ∙ ap (λ n. get_or (map (stored_of blocks) (front_of blocks slot) ++ stored_of blocks s ∷ map (stored_of blocks) (back_of blocks slot)) n None)
    (length-front blocks slot)
    ∙ ap (λ fs. get_or fs slot None) (sym listed) ∙ there in
    let said_is : IsEntryOf blocks s file = kept_said blocks s file stored in
    record {
      entries =
          entries_around blocks slot h ∙ ap (λ e. front_of blocks slot ++ e ∷ back_of blocks slot) said_is.0;
      listed = listed ∙ ap (λ f. map (stored_of blocks) (front_of blocks slot) ++ f ∷ map (stored_of blocks) (back_of blocks slot)) stored;
      pages = said_is.1;
      fits = ap (is_fit (length blocks)) (sym said_is.0) ∙ entry_fits (length blocks) (entry_at blocks slot);
    }

pub header_same : (one two : List (List ℕ)) → length two ≡ length one → block_at two 0 ≡ block_at one 0 → header_rules 2 two ≡ header_rules 2 one
header_same one two size same =
    ap (λ n. needs (nat_le 64 n) fault.Short
    ∷ needs (nat_le n 4096 && bytes_eq (block_at two 0) (header_block 2 n)) fault.Header ∷ []) size
    ∙ ap (λ b. needs (nat_le 64 (length one)) fault.Short
    ∷ needs (nat_le (length one) 4096 && bytes_eq b (header_block 2 (length one))) fault.Header ∷ []) same

-- the blocks break no rule where the slots keep theirs
pub image_holds : (old new : List (List ℕ)) (slot : ℕ) (entry : List ℕ) → 0 < length old → IsWritten slot entry old new
    → mount_fault_of old ≡ None → first_broken [] (slot_rules 33 new 0 [] (entries_of new)) ≡ None → mount_fault_of new ≡ None
image_holds old new slot entry some written valid holds =
    let size : length new ≡ length old = ap length written.now ∙ length-set old (1 + slot / 8) _ in
    let first : block_at new 0 ≡ block_at old 0 =
    ap (λ bs. block_at bs 0) written.now ∙ block_kept old slot entry 0 (λ e. omega (arith, e)) in
    let was : first_broken [] (header_rules 2 old ++ slot_rules 33 old 0 [] (entries_of old)) ≡ None = sym (rules_of old some) ∙ valid in
    rules_of new (omega (arith, some, size))
    ∙ none_both [] (header_rules 2 new) (slot_rules 33 new 0 [] (entries_of new))
    (ap (first_broken []) (header_same old new size first) ∙ none_left [] (header_rules 2 old) (slot_rules 33 old 0 [] (entries_of old)) was)
    holds

slots_hold : (old new : List (List ℕ)) (files : List (Option StoredFile)) (slot : ℕ) (file : StoredFile) (r : Option FileRecord)
    → Around old (front_of old slot) (said.File file.record_) (back_of old slot) → length new ≡ length old → KeepsData old new
    → files ≡ map (stored_of old) (entries_of old) → Before old files slot file → IfSome r (IsRecordFor files file)
    → first_broken [] (slot_rules 33 new 0 [] (front_of old slot ++ said_of r ∷ back_of old slot)) ≡ None
slots_hold old new files slot file None around size keeps is was fits =
    freed_holds old new (front_of old slot) (back_of old slot) (said.File file.record_) around size
    (all_kept old new 0 slot keeps) (all_kept old new (slot + 1) (255 - slot) keeps)
slots_hold old new files slot file (Some q) around size keeps is was fits =
    record_holds old new (front_of old slot) (back_of old slot) file.record_ q around size
    (all_kept old new 0 slot keeps) (all_kept old new (slot + 1) (255 - slot) keeps)
    (maps_kept old new (length old) file.record_.maps keeps (record_maps (length old) file.record_ was.fits))
    fits.maps fits.length_ (apart fits.free) where
      apart : (q.title ≡ file.record_.title) ⊎ (find_index q.title files ≡ None) → IsApart (front_of old slot) (back_of old slot) q.title
      apart (inl same) =
          subst (IsApart (front_of old slot) (back_of old slot)) (sym same)
          (own_apart old (front_of old slot) (back_of old slot) file.record_ around)
      apart (inr free) =
          let all : list_any (bytes_eq q.title) (titles_all (front_of old slot ++ said.File file.record_ ∷ back_of old slot)) ≡ false =
          ap (λ es. list_any (bytes_eq q.title) (titles_all es)) (sym was.entries)
          ∙ untitled old q.title (entries_of old) (ap (find_index q.title) (sym is) ∙ free) in
          let parts : list_any (bytes_eq q.title) (titles_all (front_of old slot) ++ (file.record_.title ∷ titles_all (back_of old slot))) ≡ false =
          ap (list_any (bytes_eq q.title)) (sym (titles_all-append (front_of old slot) (said.File file.record_ ∷ back_of old slot))) ∙ all in
          new_apart (front_of old slot) (back_of old slot) q.title
          (any_left q.title (titles_all (front_of old slot)) (file.record_.title ∷ titles_all (back_of old slot)) parts)
          (any_right q.title (file.record_.title ∷ []) (titles_all (back_of old slot))
          (any_right q.title (titles_all (front_of old slot)) (file.record_.title ∷ titles_all (back_of old slot)) parts))

-- what is kept of the written entry
stored_now : (old new : List (List ℕ)) (files : List (Option StoredFile)) (file : StoredFile) (r : Option FileRecord) → KeepsData old new
    → file.pages ≡ numbers_of old (pages_of file.record_.length) file.record_.maps → is_record (length old) file.record_ ≡ true
    → IfSome r (IsRecordFor files file) → stored_of new (said_of r) ≡ kept_as r (Some file)
stored_now old new files file None keeps pages fit fits = refl
stored_now old new files file (Some q) keeps pages fit fits =
    ap (λ ns. Some (record { record_ = q; pages = ns }))
    (ap (λ ms. numbers_of new (pages_of q.length) ms) fits.maps
    ∙ ap (λ n. numbers_of new (pages_of n) file.record_.maps) fits.length_
    ∙ numbers_same old new (pages_of file.record_.length) file.record_.maps
    (maps_kept old new (length old) file.record_.maps keeps (record_maps (length old) file.record_ fit))
    ∙ sym pages)

-- what the file in the image is
file_now : (blocks : List (List ℕ)) (files : List (Option StoredFile)) (file : StoredFile) (r : Option FileRecord) → IfSome r (IsRecordFor files file)
    → option_map (file_of blocks) (kept_as r (Some file)) ≡ file_as r (Some (file_of blocks file))
file_now blocks files file None fits = refl
file_now blocks files file (Some q) fits =
    ap (λ n. Some (record { title = q.title; kind = q.kind; protected = q.protected; bytes = take n (flat_map (block_at blocks) file.pages) })) fits.length_

pub all_set : {X : Type 0} (test : X → Bool) (xs : List X) (i : ℕ) (x : X) → list_all test xs ≡ true → test x ≡ true → list_all test (set xs i x) ≡ true
all_set test [] i x all h = refl
all_set test (y ∷ ys) zero x all h = ap (λ b. b && list_all test ys) h ∙ (both (test y) (list_all test ys) all).1
all_set test (y ∷ ys) (suc i) x all h =
    let parts = both (test y) (list_all test ys) all in
    ap (λ b. b && list_all test (set ys i x)) parts.0 ∙ all_set test ys i x parts.1 h

fit_stored : (count : ℕ) (files : List (Option StoredFile)) (file : StoredFile) (r : Option FileRecord) → is_stored count (Some file) ≡ true
    → IfSome r (IsRecordFor files file) → is_stored count (kept_as r (Some file)) ≡ true
fit_stored count files file None h fits = refl
fit_stored count files file (Some q) h fits =
    let pages = both (is_record count file.record_ && are_data count file.pages) (length file.pages == pages_of file.record_.length) h in
    let data_ = both (is_record count file.record_) (are_data count file.pages) pages.0 in
    ap (λ n. is_record count q && are_data count file.pages && length file.pages == pages_of n) fits.length_
    ∙ ap (λ b. b && are_data count file.pages && length file.pages == pages_of file.record_.length)
    (record_like count file.record_ q data_.0 fits.title fits.maps fits.length_ ∙ sym data_.0)
    ∙ h

-- what is kept in memory stays what is known of it
pub put_stored : (count : ℕ) (files : List (Option StoredFile)) (slot : ℕ) (r : Option FileRecord) → list_all (is_stored count) files ≡ true
    → IsRecordAt files slot r → list_all (is_stored count) (put_kept files slot r) ≡ true
put_stored count files slot r all at =
    all_set (is_stored count) files slot (kept_as r (get_or files slot None)) all
    (ap (λ f. is_stored count (kept_as r f)) at.there
    ∙ fit_stored count files at.file r (ap (is_stored count) (sym at.there) ∙ kept_at count files slot all) at.fits)

-- the image has the wanted files
pub record IsChangedTo (files : List (Option StoredFile)) (slot : ℕ) (r : Option FileRecord) (old new : List (List ℕ)) : Type 0 where
  pub kept : IsKeptOf new (put_kept files slot r)
  pub slots : slots_of new ≡ put_file slot r (slots_of old)

pub written_changes : (old new : List (List ℕ)) (files : List (Option StoredFile)) (slot count : ℕ) (r : Option FileRecord) → slot < 256
    → IsKeptOf old files → list_all (is_stored count) files ≡ true → IsRecordAt files slot r → length (bytes_of_slot r) ≡ 64
    → IsWritten slot (bytes_of_slot r) old new → IsChangedTo files slot r old new
unfolding entries_of
written_changes old new files slot count r h kept all at long written =
    let file : StoredFile = at.file in
    let was : Before old files slot file = before_of old files slot file h kept.slots at.there in
    let room : 33 < length old = record_room (length old) file.record_ was.fits in
    let few : slot / 8 < 32 = omega arith in
    let size : length new ≡ length old = ap length written.now ∙ length-set old (1 + slot / 8) _ in
    let keeps : KeepsData old new = keeps_written old new slot (bytes_of_slot r) h written in
    let rules : first_broken [] (slot_rules 33 old 0 [] (entries_of old)) ≡ None =
    none_right [] (header_rules 2 old) (slot_rules 33 old 0 [] (entries_of old)) (sym (rules_of old (omega (arith, room))) ∙ kept.valid) in
    let around_it : Around old (front_of old slot) (said.File file.record_) (back_of old slot) =
    around old (front_of old slot) (said.File file.record_) (back_of old slot)
    (ap (λ es. first_broken [] (slot_rules 33 old 0 [] es)) (sym was.entries) ∙ rules) in
    let entries : entries_of new ≡ front_of old slot ++ said_of r ∷ back_of old slot =
    entries_written old new slot (bytes_of_slot r) h long (omega (arith, room, few)) written
    ∙ ap (λ e. front_of old slot ++ e ∷ back_of old slot) (says_slot (length old) r (fit r at.fits was.fits)) in
    let there : get_or (map (option_map (file_of old)) files) slot None ≡ Some (file_of old file) =
    get_or-map (option_map (file_of old)) files slot None ∙ ap (option_map (file_of old)) at.there in
    let slots : slots_of old ≡ map (option_map (file_of old)) files = slots_are old ∙ ap (map (option_map (file_of old))) (sym kept.slots) in
    let now : put_kept files slot r ≡ map (stored_of new) (entries_of new) =
    ap (λ f. set files slot (kept_as r f)) at.there
    ∙ ap (λ fs. set fs slot (kept_as r (Some file))) was.listed
    ∙ ap (λ n. set (map (stored_of old) (front_of old slot) ++ Some file ∷ map (stored_of old) (back_of old slot)) n (kept_as r (Some file)))
    (sym (length-front old slot))
    ∙ set-append_seam (map (stored_of old) (front_of old slot)) (Some file) (map (stored_of old) (back_of old slot)) (kept_as r (Some file))
    ∙ ap (λ fs. fs ++ kept_as r (Some file) ∷ map (stored_of old) (back_of old slot))
    (sym (stored_same old new (front_of old slot) (all_kept old new 0 slot keeps)))
    ∙ ap (λ f. map (stored_of new) (front_of old slot) ++ f ∷ map (stored_of old) (back_of old slot))
    (sym (stored_now old new files file r keeps was.pages was.fits at.fits))
    ∙ ap (λ fs. map (stored_of new) (front_of old slot) ++ stored_of new (said_of r) ∷ fs)
    (sym (stored_same old new (back_of old slot) (all_kept old new (slot + 1) (255 - slot) keeps)))
    ∙ sym (map-append (stored_of new) (front_of old slot) (said_of r ∷ back_of old slot))
    ∙ ap (map (stored_of new)) (sym entries) in
    record {
      kept = record {
        valid =
            image_holds old new slot (bytes_of_slot r) (omega (arith, room)) written kept.valid
            (ap (λ es. first_broken [] (slot_rules 33 new 0 [] es)) entries
            ∙ slots_hold old new files slot file r around_it size keeps kept.slots was at.fits);
        slots = now;
      };
      slots =
          slots_are new ∙ ap (map (option_map (file_of new))) (sym now)
          ∙ files_kept old new count (put_kept files slot r) keeps (put_stored count files slot r all at)
          ∙ map-set (option_map (file_of old)) files slot (kept_as r (get_or files slot None))
          ∙ ap (λ f. set (map (option_map (file_of old)) files) slot (option_map (file_of old) (kept_as r f))) at.there
          ∙ ap (set (map (option_map (file_of old)) files) slot) (file_now old files file r at.fits)
          ∙ ap (λ f. set (map (option_map (file_of old)) files) slot (file_as r f)) (sym there)
          ∙ ap (λ s. set s slot (file_as r (get_or s slot None))) (sym slots);
    } where
      fit : (r : Option FileRecord) → IfSome r (IsRecordFor files at.file) → is_record (length old) at.file.record_ ≡ true
          → IfSome r (λ q. is_record (length old) q ≡ true)
      fit None fits h = tt
      fit (Some q) fits h = record_like (length old) at.file.record_ q h fits.title fits.maps fits.length_
