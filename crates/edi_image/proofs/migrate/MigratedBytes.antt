-- The blocks of an image that is made of bytes: the catalogue, and the blocks of the files.
use Rattle.std.proofs.Common.{◌≡◌, ℕ, zero, suc, ◌+◌, ◌-◌, ◌*◌, ◌/◌, ◌%◌, ◌<◌, ◌≤◌, true, List, [], ◌∷◌, ◌++◌, length, take, drop, get_or, refl, ap, sym}
use Rattle.std.proofs.Common.{subst, ◌∙◌, arith, append_assoc, length-append, length-drop}
use Rattle.std.specs.Prelude.{map, ◌&&◌, ◌==◌, nat_le, nat_lt, if◌then◌else◌, replicate, Option, Some, None, IfSome, ⊤}
use Rattle.std.specs.List.{list_all, range_with_len}
use Rattle.std.specs.Simd.{first_chunks}
use Rattle.std.proofs.Math.ListN.{get_or-append}
use Rattle.std.proofs.Math.Seq.{get_or-append_seam}
use Rattle.std.proofs.lemmas.Bool.{and_parts, ltb-true}
use Rattle.std.proofs.lemmas.List.{take_at, drop_at, take-append-le, drop-append-le, take-take, drop-take, drop-drop, length-map, length-replicate}
use Rattle.std.proofs.lemmas.List.{length-take-le}
use Rattle.edi_calls.specs.State.{is_title, most_bytes, pages_of}
use Rattle.edi_host.specs.BytesAsBlocks.{blocks_of}
use Rattle.edi_image.specs.Build.{two, map_block}
use Rattle.edi_image.specs.Records.{FileRecord}
use Rattle.edi_image.specs.Entries.{block_at, is_data}
use Rattle.edi_image.specs.Image.{header_block, entry_at, Holds}
use Rattle.edi_image.specs.migrate.OldImage.{old_entries_from, old_entries_of, old_fault_of}
use Rattle.edi_image.specs.migrate.OldFiles.{is_old_stored, old_files_of}
use Rattle.edi_image.specs.migrate.MigratedSlots.{migrated_slots}
use Rattle.edi_image.specs.Stored.{StoredFile, stored_of, are_data, is_record}
use Rattle.edi_image.specs.Bytes.{bytes_of_slot, bytes_of_record, field_bytes}
use Rattle.edi_image.specs.Titles.{with_blanks}
use Rattle.edi_image.specs.migrate.Migrated.{blocks_of_slot, blocks_of_slots, moved_from, laid, laid_from, entries_bytes, blocks_bytes, migrated_bytes}
use Rattle.edi_image.proofs.EntryBytes.{length-with_blanks}
use Rattle.edi_image.proofs.migrate.MigratedMaps.{length-map_block}
use Rattle.edi_image.proofs.migrate.MigratedRules.{whole_of, IsLaidIn, AreLaid}
use Rattle.edi_image.proofs.migrate.MigratedSlots.{AreRecords, moved_records, IsMigrated, migrated_holds}

-- ---- chunks

chunk_at : (k j : ℕ) (xs : List ℕ) → j < k → get_or (first_chunks 512 k xs) j [] ≡ take 512 (drop (512 * j) xs)
chunk_at zero j xs h = absurd (omega arith)
chunk_at (suc k) zero xs h = refl
chunk_at (suc k) (suc j) xs h =
    chunk_at k j (drop 512 xs) (omega arith)
    ∙ ap (take 512) (drop-drop (512 * j) 512 xs ∙ ap (λ n. drop n xs) (let same : 512 + 512 * j ≡ 512 * suc j = omega arith in same))

length-first_chunks : (k : ℕ) (xs : List ℕ) → length (first_chunks 512 k xs) ≡ k
length-first_chunks zero xs = refl
length-first_chunks (suc k) xs = ap suc (length-first_chunks k (drop 512 xs))

chunks_both : (m k : ℕ) (xs ys : List ℕ) → length xs ≡ 512 * m
    → first_chunks 512 (m + k) (xs ++ ys) ≡ first_chunks 512 m xs ++ first_chunks 512 k ys
chunks_both zero k [] ys e = ap (λ n. first_chunks 512 n ys) (let same : 0 + k ≡ k = omega arith in same)
chunks_both zero k (x ∷ xs) ys e = absurd (omega arith)
chunks_both (suc m) k xs ys e =
    ap (λ n. first_chunks 512 n (xs ++ ys)) (let same : suc m + k ≡ suc (m + k) = omega arith in same)
    ∙ ap (λ c. c ∷ first_chunks 512 (m + k) (drop 512 (xs ++ ys))) (take-append-le 512 xs ys (omega arith))
    ∙ ap (λ zs. take 512 xs ∷ first_chunks 512 (m + k) zs) (drop-append-le 512 xs ys (omega arith))
    ∙ ap (λ cs. take 512 xs ∷ cs) (chunks_both m k (drop 512 xs) ys (omega (arith, length-drop 512 xs)))

-- all blocks have 512 bytes
abbrev pub AreBlocks : List (List ℕ) → Type 0
AreBlocks [] = ⊤
AreBlocks (b ∷ blocks) = (length b ≡ 512) × AreBlocks blocks

chunks_whole : (blocks : List (List ℕ)) → AreBlocks blocks → first_chunks 512 (length blocks) (blocks_bytes blocks) ≡ blocks
chunks_whole [] whole = refl
chunks_whole (b ∷ blocks) whole =
    ap (λ c. c ∷ first_chunks 512 (length blocks) (drop 512 (b ++ blocks_bytes blocks))) (take_at b (blocks_bytes blocks) 512 whole.0)
    ∙ ap (λ bs. b ∷ first_chunks 512 (length blocks) bs) (drop_at b (blocks_bytes blocks) 512 whole.0)
    ∙ ap (λ bs. b ∷ bs) (chunks_whole blocks whole.1)

pub length-blocks_bytes : (blocks : List (List ℕ)) → AreBlocks blocks → length (blocks_bytes blocks) ≡ 512 * length blocks
length-blocks_bytes [] whole = refl
length-blocks_bytes (b ∷ blocks) whole =
    let later : length (blocks_bytes blocks) ≡ 512 * length blocks = length-blocks_bytes blocks whole.1 in
    length-append b (blocks_bytes blocks) ∙ omega (arith, later, whole.0)

blocks_both : (xs ys : List (List ℕ)) → AreBlocks xs → AreBlocks ys → AreBlocks (xs ++ ys)
blocks_both [] ys a b = b
blocks_both (x ∷ xs) ys a b = (a.0, blocks_both xs ys a.1 b)

-- the whole blocks of bytes
pub AreFull : List (List ℕ) → Type 0
AreFull blocks = (n : ℕ) → n < length blocks → length (block_at blocks n) ≡ 512

chunks_full : (k : ℕ) (bytes : List ℕ) → 512 * k ≤ length bytes → AreBlocks (first_chunks 512 k bytes)
chunks_full zero bytes h = tt
chunks_full (suc k) bytes h = (length-take-le 512 bytes (omega arith), chunks_full k (drop 512 bytes) (omega (arith, length-drop 512 bytes)))

blocks_full : (blocks : List (List ℕ)) → AreBlocks blocks → AreFull blocks
unfolding AreFull
blocks_full [] whole n h = absurd (omega arith)
blocks_full (b ∷ blocks) whole zero h = whole.0
blocks_full (b ∷ blocks) whole (suc n) h = blocks_full blocks whole.1 n (omega arith)

pub old_full : (bytes : List ℕ) → AreFull (blocks_of bytes)
old_full bytes = blocks_full (blocks_of bytes) (chunks_full (length bytes / 512) bytes (omega arith))

-- ---- the entries

length-fields : (r : FileRecord) → length (field_bytes r ++ replicate 30 0) ≡ 40
unfolding two
length-fields r = ap (λ n. suc (suc (suc (suc (suc (suc (suc (suc (suc (suc n)))))))))) (length-replicate {A = ℕ} 30 0)

length-bytes_of_record : (count : ℕ) (r : FileRecord) → is_record count r ≡ true → length (bytes_of_record r) ≡ 64
unfolding bytes_of_record
length-bytes_of_record count r h =
    let maps = and_parts (is_title r.title && nat_le r.length most_bytes && are_data count r.maps)
    (length r.maps == (if nat_le (pages_of r.length) 255 then 1 else 2)) h in
    let data_ = and_parts (is_title r.title && nat_le r.length most_bytes) (are_data count r.maps) maps.0 in
    let size = and_parts (is_title r.title) (nat_le r.length most_bytes) data_.0 in
    length-append (with_blanks 24 r.title) (field_bytes r ++ replicate 30 0)
    ∙ ap (λ n. n + length (field_bytes r ++ replicate 30 0)) (length-with_blanks r.title size.0)
    ∙ ap (λ n. 24 + n) (length-fields r)

length-entry : (count : ℕ) (r : Option FileRecord) → IfSome r (λ q. is_record count q ≡ true) → length (bytes_of_slot r) ≡ 64
length-entry count None fit = length-replicate {A = ℕ} 64 0
length-entry count (Some q) fit = length-bytes_of_record count q fit

length-entries : (count : ℕ) (records : List (Option FileRecord)) → AreRecords count records → length (entries_bytes records) ≡ 64 * length records
length-entries count [] fit = refl
length-entries count (r ∷ records) fit =
    let later : length (entries_bytes records) ≡ 64 * length records = length-entries count records fit.1 in
    let first : length (bytes_of_slot r) ≡ 64 = length-entry count r fit.0 in
    length-append (bytes_of_slot r) (entries_bytes records) ∙ omega (arith, later, first)

entry_in : (count : ℕ) (records : List (Option FileRecord)) (k : ℕ) → AreRecords count records → k < length records
    → take 64 (drop (64 * k) (entries_bytes records)) ≡ bytes_of_slot (get_or records k None)
entry_in count [] k fit h = absurd (omega arith)
entry_in count (r ∷ records) zero fit h = take_at (bytes_of_slot r) (entries_bytes records) 64 (length-entry count r fit.0)
entry_in count (r ∷ records) (suc k) fit h =
    let index : 64 * suc k ≡ 64 + 64 * k = omega arith in
    ap (λ n. take 64 (drop n (bytes_of_slot r ++ entries_bytes records))) index
    ∙ ap (take 64) (sym (drop-drop (64 * k) 64 (bytes_of_slot r ++ entries_bytes records))
    ∙ ap (drop (64 * k)) (drop_at (bytes_of_slot r) (entries_bytes records) 64 (length-entry count r fit.0)))
    ∙ entry_in count records k fit.1 (omega arith)

-- an entry of the blocks that the entries fill
entry_of_blocks : (header : List ℕ) (bytes : List ℕ) (rest : List (List ℕ)) (k : ℕ) → k < 256
    → entry_at (header ∷ (first_chunks 512 32 bytes ++ rest)) k ≡ take 64 (drop (64 * k) bytes)
entry_of_blocks header bytes rest k h =
    let inside : k / 8 < 32 = omega arith in
    let index : 1 + k / 8 ≡ suc (k / 8) = omega arith in
    let block : block_at (header ∷ (first_chunks 512 32 bytes ++ rest)) (1 + k / 8) ≡ take 512 (drop (512 * (k / 8)) bytes) =
    ap (λ n. get_or (header ∷ (first_chunks 512 32 bytes ++ rest)) n []) index
    ∙ get_or-append (first_chunks 512 32 bytes) rest [] (k / 8) (subst (λ n. k / 8 < n) (sym (length-first_chunks 32 bytes)) inside)
    ∙ chunk_at 32 (k / 8) bytes inside in
    let at = 64 * (k % 8) in
    let room : 512 ≡ at + (512 - at) = omega arith in
    ap (λ b. take 64 (drop at b)) block
    ∙ ap (λ n. take 64 (drop at (take n (drop (512 * (k / 8)) bytes)))) room
    ∙ ap (take 64) (drop-take at (512 - at) (drop (512 * (k / 8)) bytes))
    ∙ take-take 64 (512 - at) (drop at (drop (512 * (k / 8)) bytes)) (omega arith)
    ∙ ap (take 64) (drop-drop at (512 * (k / 8)) bytes)
    ∙ ap (λ n. take 64 (drop n bytes)) (let same : 512 * (k / 8) + 64 * (k % 8) ≡ 64 * k = omega arith in same)

-- ---- the blocks of the files

pub pages_blocks : (old : List (List ℕ)) (pages : List ℕ) → AreFull old → list_all (is_data 5 (length old)) pages ≡ true
    → AreBlocks (map (block_at old) pages)
unfolding AreFull
pages_blocks old [] full h = tt
pages_blocks old (p ∷ pages) full h =
    let parts = and_parts (is_data 5 (length old) p) (list_all (is_data 5 (length old)) pages) h in
    let inside = and_parts (nat_le 5 p) (nat_lt p (length old)) parts.0 in
    (full p (ltb-true p (length old) inside.1), pages_blocks old pages full parts.1)

file_blocks : (old : List (List ℕ)) (first : ℕ) (file : Option StoredFile) → AreFull old → is_old_stored (length old) file ≡ true
    → AreBlocks (laid old first file)
file_blocks old first None full h = tt
file_blocks old first (Some file) full h =
    let whole = whole_of (length old) file h in
    (length-map_block (first + 1) (length file.pages) whole.few, pages_blocks old file.pages full whole.data_)

files_blocks : (old : List (List ℕ)) (first : ℕ) (files : List (Option StoredFile)) → AreFull old → list_all (is_old_stored (length old)) files ≡ true
    → AreBlocks (laid_from old first files)
files_blocks old first [] full h = tt
files_blocks old first (file ∷ files) full h =
    let parts = and_parts (is_old_stored (length old) file) (list_all (is_old_stored (length old)) files) h in
    blocks_both (laid old first file) (laid_from old (first + blocks_of_slot file) files) (file_blocks old first file full parts.0)
    (files_blocks old (first + blocks_of_slot file) files full parts.1)

length-laid : (old : List (List ℕ)) (first : ℕ) (file : Option StoredFile) → length (laid old first file) ≡ blocks_of_slot file
length-laid old first None = refl
length-laid old first (Some file) =
    ap suc (length-map file.pages (block_at old)) ∙ (let same : suc (length file.pages) ≡ 1 + length file.pages = omega arith in same)

length-laid_from : (old : List (List ℕ)) (first : ℕ) (files : List (Option StoredFile)) → length (laid_from old first files) ≡ blocks_of_slots files
length-laid_from old first [] = refl
length-laid_from old first (file ∷ files) =
    let one : length (laid old first file) ≡ blocks_of_slot file = length-laid old first file in
    let later : length (laid_from old (first + blocks_of_slot file) files) ≡ blocks_of_slots files = length-laid_from old (first + blocks_of_slot file) files in
    length-append (laid old first file) (laid_from old (first + blocks_of_slot file) files) ∙ omega (arith, one, later)

-- blocks that stand behind others
there : (new front xs rest : List (List ℕ)) (first : ℕ) → new ≡ front ++ (xs ++ rest) → length front ≡ first
    → map (block_at new) (range_with_len first (length xs)) ≡ xs
there new front [] rest first is size = refl
there new front (x ∷ xs) rest first is size =
    let here : block_at new first ≡ x =
    ap (block_at new) (sym size) ∙ ap (λ bs. get_or bs (length front) []) is ∙ get_or-append_seam front x (xs ++ rest) [] in
    ap (λ b. b ∷ map (block_at new) (range_with_len (first + 1) (length xs))) here
    ∙ ap (λ bs. x ∷ bs)
    (there new (front ++ x ∷ []) xs rest (first + 1) (is ∙ sym (append_assoc front (x ∷ []) (xs ++ rest)))
    (length-append front (x ∷ []) ∙ omega (arith, size)))

are_laid : (new old front rest : List (List ℕ)) (first : ℕ) (files : List (Option StoredFile)) → new ≡ front ++ (laid_from old first files ++ rest)
    → length front ≡ first → AreLaid new old first files
are_laid new old front rest first [] is size = tt
are_laid new old front rest first (file ∷ files) is size = (
  one file (is ∙ ap (λ bs. front ++ bs) (append_assoc (laid old first file) (laid_from old (first + blocks_of_slot file) files) rest)),
  are_laid new old (front ++ laid old first file) rest (first + blocks_of_slot file) files
      (is ∙ ap (λ bs. front ++ bs) (append_assoc (laid old first file) (laid_from old (first + blocks_of_slot file) files) rest)
      ∙ sym (append_assoc front (laid old first file) (laid_from old (first + blocks_of_slot file) files ++ rest)))
      (length-append front (laid old first file) ∙ ap (λ n. n + length (laid old first file)) size ∙ ap (λ n. first + n) (length-laid old first file)),
) where
  one : (file_ : Option StoredFile) → new ≡ front ++ (laid old first file_ ++ (laid_from old (first + blocks_of_slot file) files ++ rest))
      → IsLaidIn new old first file_
  one None e = tt
  one (Some f) e =
      let map_ : List ℕ = map_block (range_with_len (first + 1) (length f.pages)) in
      let behind : List (List ℕ) = laid_from old (first + blocks_of_slot file) files ++ rest in
      record {
        map_ =
            ap (block_at new) (sym size) ∙ ap (λ bs. get_or bs (length front) []) e
            ∙ get_or-append_seam front map_ (map (block_at old) f.pages ++ behind) [];
        pages_ =
            ap (λ n. map (block_at new) (range_with_len (first + 1) n)) (sym (length-map f.pages (block_at old)))
            ∙ there new (front ++ map_ ∷ []) (map (block_at old) f.pages) behind (first + 1)
            (e ∙ sym (append_assoc front (map_ ∷ []) (map (block_at old) f.pages ++ behind)))
            (length-append front (map_ ∷ []) ∙ omega (arith, size));
      }

-- ---- the image

length-moved_from : (first : ℕ) (files : List (Option StoredFile)) → length (moved_from first files) ≡ length files
length-moved_from first [] = refl
length-moved_from first (file ∷ files) = ap suc (length-moved_from (first + blocks_of_slot file) files)

length-old_entries_from : (blocks : List (List ℕ)) (slot n : ℕ) → length (old_entries_from blocks slot n) ≡ n
length-old_entries_from blocks slot zero = refl
length-old_entries_from blocks slot (suc n) = ap suc (length-old_entries_from blocks (slot + 1) n)

pub length-old_files : (old : List (List ℕ)) → length (old_files_of old) ≡ 256
unfolding old_entries_of
length-old_files old =
    length-append (map (stored_of old) (old_entries_from old 0 64)) (replicate 192 None)
    ∙ ap (λ n. n + length (replicate {A = Option StoredFile} 192 None))
    (length-map (old_entries_from old 0 64) (stored_of old) ∙ length-old_entries_from old 0 64)
    ∙ ap (λ n. 64 + n) (length-replicate {A = Option StoredFile} 192 None)

length-header_block : (version count : ℕ) → length (header_block version count) ≡ 512
unfolding header_block
length-header_block version count = ap (λ n. suc (suc (suc (suc (suc (suc (suc (suc n)))))))) (length-replicate {A = ℕ} 504 0)

pub record IsMade (old : List (List ℕ)) (count : ℕ) (files : List (Option StoredFile)) (bytes : List ℕ) : Type 0 where
  pub blocks : blocks_of bytes ≡ header_block 2 count ∷ (first_chunks 512 32 (entries_bytes (moved_from 33 files)) ++ laid_from old 33 files)
  pub many : length (blocks_of bytes) ≡ 33 + blocks_of_slots files

made : (old : List (List ℕ)) (count k : ℕ) (header entries : List ℕ) (xs : List (List ℕ)) → length header ≡ 512 → length entries ≡ 512 * 32
    → AreBlocks xs → k ≡ suc (32 + length xs)
    → first_chunks 512 k (header ++ (entries ++ blocks_bytes xs)) ≡ header ∷ (first_chunks 512 32 entries ++ xs)
made old count k header entries xs h e whole n =
    ap (λ m. first_chunks 512 m (header ++ (entries ++ blocks_bytes xs))) n
    ∙ ap (λ b. b ∷ first_chunks 512 (32 + length xs) (drop 512 (header ++ (entries ++ blocks_bytes xs)))) (take_at header (entries ++ blocks_bytes xs) 512 h)
    ∙ ap (λ bs. header ∷ first_chunks 512 (32 + length xs) bs) (drop_at header (entries ++ blocks_bytes xs) 512 h)
    ∙ ap (λ bs. header ∷ bs) (chunks_both 32 (length xs) entries (blocks_bytes xs) e ∙ ap (λ bs. first_chunks 512 32 entries ++ bs) (chunks_whole xs whole))

pub is_made : (old : List (List ℕ)) (count : ℕ) (files : List (Option StoredFile)) (bytes : List ℕ) → AreFull old
    → list_all (is_old_stored (length old)) files ≡ true → length files ≡ 256 → 33 + blocks_of_slots files ≤ count
    → bytes ≡ migrated_bytes old count files → IsMade old count files bytes
unfolding migrated_bytes
is_made old count files bytes full stored many room e =
    let records = moved_from 33 files in
    let xs = laid_from old 33 files in
    let whole : AreBlocks xs = files_blocks old 33 files full stored in
    let header : length (header_block 2 count) ≡ 512 = length-header_block 2 count in
    let slots : length records ≡ 256 = length-moved_from 33 files ∙ many in
    let entries : length (entries_bytes records) ≡ 64 * length records =
    length-entries count records (moved_records count (length old) 33 files stored (omega arith) room) in
    let behind : length (blocks_bytes xs) ≡ 512 * length xs = length-blocks_bytes xs whole in
    let size : length bytes ≡ 512 * suc (32 + length xs) =
    ap length e ∙ length-append (header_block 2 count) (entries_bytes records ++ blocks_bytes xs)
    ∙ ap (λ n. length (header_block 2 count) + n) (length-append (entries_bytes records) (blocks_bytes xs))
    ∙ omega (arith, header, slots, entries, behind) in
    let number : length bytes / 512 ≡ suc (32 + length xs) = omega (arith, size) in
    let blocks : blocks_of bytes ≡ header_block 2 count ∷ (first_chunks 512 32 (entries_bytes records) ++ xs) =
    ap (λ bs. first_chunks 512 (length bytes / 512) bs) e
    ∙ made old count (length bytes / 512) (header_block 2 count) (entries_bytes records) xs header (omega (arith, slots, entries)) whole number in
    let taken : length xs ≡ blocks_of_slots files = length-laid_from old 33 files in
    record { blocks = blocks; many = length-first_chunks (length bytes / 512) bytes ∙ omega (arith, number, taken) }

-- the blocks of a drive that begin with those of the image
pub is_migrated : (new old rest : List (List ℕ)) (count : ℕ) (bytes : List ℕ) → list_all (is_old_stored (length old)) (old_files_of old) ≡ true
    → 33 + blocks_of_slots (old_files_of old) ≤ count → 64 ≤ count → count ≤ 4096 → length new ≡ count → IsMade old count (old_files_of old) bytes
    → new ≡ blocks_of bytes ++ rest → IsMigrated new old (old_files_of old)
is_migrated new old rest count bytes stored room least most size made_ is =
    let files = old_files_of old in
    let records = moved_from 33 files in
    let entries = entries_bytes records in
    let slots : length records ≡ 256 = length-moved_from 33 files ∙ length-old_files old in
    let whole : new ≡ header_block 2 count ∷ (first_chunks 512 32 entries ++ (laid_from old 33 files ++ rest)) =
    is ∙ ap (λ bs. bs ++ rest) made_.blocks
    ∙ ap (λ bs. header_block 2 count ∷ bs) (append_assoc (first_chunks 512 32 entries) (laid_from old 33 files) rest) in
    record {
      least = omega (arith, size);
      most = omega (arith, size);
      room = omega (arith, size);
      header = ap (λ bs. block_at bs 0) whole ∙ ap (header_block 2) (sym size);
      slots = slots;
      entries = λ k h.
          ap (λ bs. entry_at bs k) whole
          ∙ entry_of_blocks (header_block 2 count) entries (laid_from old 33 files ++ rest) k (omega (arith, slots))
          ∙ entry_in count records k (moved_records count (length old) 33 files stored (omega arith) room) h;
      laid =
          are_laid new old (header_block 2 count ∷ first_chunks 512 32 entries) rest 33 files whole
          (ap suc (length-first_chunks 32 entries));
    }

pub image_holds_old : (new old rest : List (List ℕ)) (count : ℕ) (bytes : List ℕ) → old_fault_of old ≡ None
    → list_all (is_old_stored (length old)) (old_files_of old) ≡ true
    → 33 + blocks_of_slots (old_files_of old) ≤ count → 64 ≤ count → count ≤ 4096 → length new ≡ count → IsMade old count (old_files_of old) bytes
    → new ≡ blocks_of bytes ++ rest → Holds new (migrated_slots old)
image_holds_old new old rest count bytes none stored room least most size made_ is =
    migrated_holds new old (length old) none stored (is_migrated new old rest count bytes stored room least most size made_ is)
