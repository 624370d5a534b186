-- A valid image, and one call that changes its files: there is a valid image of as many blocks with the files after the call.
use Rattle.std.proofs.Common.{◌≡◌, ℕ, zero, suc, ◌+◌, ◌-◌, ◌*◌, ◌/◌, ◌%◌, ◌≤◌, ◌<◌, Bool, true, false, List, [], ◌∷◌, ◌++◌, length, take, drop, set, get_or}
use Rattle.std.proofs.Common.{Option, Some, None, refl, ap, sym, subst, ◌∙◌, arith, length-append, length-drop, take-append-drop}
use Rattle.std.specs.Prelude.{◌||◌, ◌==◌, nat_lt, not, min, replicate, is_none, slice_index, slice_get, if◌then◌else◌}
use Rattle.std.specs.List.{list_all}
use Rattle.std.specs.Option.{option_map, option_and_then}
use Rattle.std.proofs.Math.ListN.{get_or-map}
use Rattle.std.proofs.lemmas.Bool.{and_from, and_parts, eq-eqb, eqb-true, not-true}
use Rattle.std.proofs.lemmas.List.{length-map, length-replicate, length-take, length-take-le, length-set}
use Rattle.std.proofs.lemmas.List.Folds.{list_all-append, list_all_at}
use Rattle.edi_host.specs.Blocks.{is_block}
use Rattle.edi_calls.specs.declared.kinds.FileKind.{FileKind}
use Rattle.edi_calls.specs.State as calls
use Rattle.edi_calls.specs.State.{File, blocks_of, find_file, find_slot, first_free, is_title, is_titled, most_bytes, pages_of, put_slot, slot_at}
use Rattle.edi_calls.specs.Calls as made
use Rattle.edi_calls.specs.Calls.{open_slot, slot_for}
use Rattle.edi_calls.proofs.Indices.{IsIndexOf, first_index-found}
use Rattle.edi_image.specs.Entries.{block_at, is_data}
use Rattle.edi_image.specs.Image.{Holds, entries_from, entries_of, mount_fault_of, slot_in, slots_of}
use Rattle.edi_image.specs.Records.{FileRecord, maps_of}
use Rattle.edi_image.specs.Rules.{is_in}
use Rattle.edi_image.specs.Stored.{StoredFile, IsKeptOf, are_data, is_stored}
use Rattle.edi_image.specs.Build.{all_two, filled, map_block, two}
use Rattle.edi_image.specs.Bytes.{bytes_of_record, bytes_of_slot}
use Rattle.edi_image.proofs.KeptFiles.{file_of}
use Rattle.edi_catalog.specs.Files.{file_titled}
use Rattle.edi_catalog.specs.Plan.{ArePut, AreFree, are_different, blocks_used, content_of, part, used_in}
use Rattle.edi_catalog.specs.Putting.{IsNew}
use Rattle.edi_catalog.specs.SlotsStored.{stored_file}
use Rattle.edi_catalog.specs.Storing.{index_for}
use Rattle.edi_catalog.specs.Writing.{IsRecordAt, IsWritten, is_protected, patched, put_file, with_entry}
use Rattle.edi_catalog.proofs.Changed.{all_set, written_changes}
use Rattle.edi_catalog.proofs.Changing.{has_catalogue}
use Rattle.edi_catalog.proofs.EntryFrames.{length-entries_from}
use Rattle.edi_catalog.proofs.FileIndices.{data_at}
use Rattle.edi_catalog.proofs.FreeBlocks.{free_enough, free_found, free_from}
use Rattle.edi_catalog.proofs.NewlyLaid.{IsLaid, laid_fits, new_file}
use Rattle.edi_catalog.proofs.PageBytes.{file_in}
use Rattle.edi_catalog.proofs.PutBlocks.{put_more, put_none}
use Rattle.edi_catalog.proofs.Sizes.{slots_kept, taken_same}
use Rattle.edi_catalog.proofs.StoredFiles.{length_record}
use Rattle.edi_catalog.proofs.StoredImage.{stored_holds}
use Rattle.edi_catalog.proofs.StoredIndex.{slot_for_same}
use Rattle.edi_statuses.proofs.always.Stored.{files_in, files_stored}

-- ---- images

-- there is a valid image of so many blocks, of 512 bytes each, that holds these files
pub record IsImage (count : ℕ) (slots : List (Option File)) : Type 0 where
  pub blocks : List (List ℕ)
  pub many : length blocks ≡ count
  pub sized : list_all is_block blocks ≡ true
  pub holds : Holds blocks slots

kept_in : (blocks : List (List ℕ)) → mount_fault_of blocks ≡ None → IsKeptOf blocks (files_in blocks)
kept_in blocks valid = record { valid = valid; slots = refl }

pub slots_many : (blocks : List (List ℕ)) → length (slots_of blocks) ≡ 256
unfolding slots_of entries_of
slots_many blocks = length-map (entries_from blocks 0 256) (slot_in blocks) ∙ length-entries_from blocks 0 256

-- ---- blocks of 512 bytes

passes_at : {X : Type 0} (test : X → Bool) (xs : List X) (i : ℕ) (d : X) → list_all test xs ≡ true → i < length xs → test (get_or xs i d) ≡ true
passes_at test xs i d all within = go (test (get_or xs i d)) refl
  where
    go : (b : Bool) → test (get_or xs i d) ≡ b → test (get_or xs i d) ≡ true
    go true e = e
    go false e = absurd (let no : true ≡ false = sym all ∙ list_all_at test xs i d within e in cc)

block_long : (blocks : List (List ℕ)) (n : ℕ) → list_all is_block blocks ≡ true → n < length blocks → length (block_at blocks n) ≡ 512
block_long blocks n sized within = eqb-true (length (block_at blocks n)) 512 (passes_at is_block blocks n [] sized within)

block_set : (blocks : List (List ℕ)) (n : ℕ) (block : List ℕ) → list_all is_block blocks ≡ true → length block ≡ 512
    → list_all is_block (set blocks n block) ≡ true
block_set blocks n block sized long = all_set is_block blocks n block sized (eq-eqb (length block) 512 long)

length_filled : (bytes : List ℕ) → length bytes ≤ 512 → length (filled 512 bytes) ≡ 512
unfolding filled
length_filled bytes few =
    length-append bytes (replicate (512 - length bytes) 0) ∙ ap (λ n. length bytes + n) (length-replicate {A = ℕ} (512 - length bytes) 0) ∙ omega (arith, few)

length_two : (numbers : List ℕ) → length (all_two numbers) ≡ 2 * length numbers
unfolding two
length_two [] = refl
length_two (n ∷ numbers) = (let later : length (all_two numbers) ≡ 2 * length numbers = length_two numbers in omega (arith, later))

length_map : (pages : List ℕ) → length pages ≤ 255 → length (map_block pages) ≡ 512
unfolding map_block two
length_map pages few =
    length_filled (two (length pages) ++ all_two pages) (let all : length (all_two pages) ≡ 2 * length pages = length_two pages in omega (arith, all, few))

length_part : {A : Type 0} (size : ℕ) (items : List A) (i : ℕ) → length (part size items i) ≤ size
length_part size items i = (let cut : length (take size (drop (size * i) items)) ≡ min size (length (drop (size * i) items)) =
    length-take size (drop (size * i) items) in omega (arith, cut))

content_long : (file : StoredFile) (bytes : List ℕ) (i : ℕ) → length (content_of file bytes i) ≡ 512
content_long file bytes i = go (nat_lt i (length file.record_.maps))
  where
    go : (b : Bool) → length (if b then map_block (part 255 file.pages i) else filled 512 (part 512 bytes (i - length file.record_.maps))) ≡ 512
    go true = length_map (part 255 file.pages i) (length_part 255 file.pages i)
    go false = length_filled (part 512 bytes (i - length file.record_.maps)) (length_part 512 bytes (i - length file.record_.maps))

patched_long : (at : ℕ) (entry block : List ℕ) → length block ≡ 512 → length entry ≡ 64 → at + 64 ≤ 512 → length (patched at entry block) ≡ 512
patched_long at entry block long entry_long within =
    length-append (take at block) (entry ++ drop (at + length entry) block)
    ∙ ap (λ n. length (take at block) + n) (length-append entry (drop (at + length entry) block))
    ∙ omega (arith, length-take-le at block (omega (arith, long, within)), long, entry_long, length-drop (at + length entry) block)

-- ---- blocks are put one after another

module _ (numbers : List ℕ) (content : ℕ → List ℕ) (old : List (List ℕ)) where
  abbrev laid : ℕ → List (List ℕ)
  laid zero = old
  laid (suc i) = set (laid i) (slice_index numbers i) (content i)

  record IsLaidSo (n : ℕ) : Type 0 where
    put : ArePut numbers content n old (laid n)
    sized : list_all is_block (laid n) ≡ true

  laid_so : are_different numbers ≡ true → are_data (length old) numbers ≡ true → list_all is_block old ≡ true
      → ((i : ℕ) → length (content i) ≡ 512) → (n : ℕ) → n ≤ length numbers → IsLaidSo n
  laid_so different data_ sized long zero h = record { put = put_none numbers content old; sized = sized }
  laid_so different data_ sized long (suc i) h =
      let before : IsLaidSo i = laid_so different data_ sized long i (omega (arith, h)) in
      let below : slice_index numbers i < length (laid i) =
      (let low : slice_index numbers i < length old = (data_at (length old) numbers i (omega (arith, h)) data_).1 in
      let many : length (laid i) ≡ length old = before.put.as_many in omega (arith, low, many)) in
      let next : i + 1 ≡ suc i = omega arith in
      record {
        put =
            subst (λ k. ArePut numbers content k old (laid (suc i))) next
            (put_more numbers content i old (laid i) (laid (suc i)) different (omega (arith, h)) below before.put refl);
        sized = block_set (laid i) (slice_index numbers i) (content i) before.sized (long i);
      }

-- ---- an entry is written

record IsWrittenSo (slot : ℕ) (entry : List ℕ) (old new : List (List ℕ)) : Type 0 where
  written : IsWritten slot entry old new
  many : length new ≡ length old
  sized : list_all is_block new ≡ true

written_so : (old : List (List ℕ)) (slot : ℕ) (entry : List ℕ) → list_all is_block old ≡ true → slot < 256 → 33 ≤ length old → length entry ≡ 64
    → IsWrittenSo slot entry old (with_entry old slot entry)
written_so old slot entry sized within room long =
    let few : slot / 8 < 32 = omega (arith, within) in
    let whole : length (block_at old (1 + slot / 8)) ≡ 512 = block_long old (1 + slot / 8) sized (omega (arith, few, room)) in
    record {
      written = record { whole = whole; now = refl };
      many = length-set old (1 + slot / 8) _;
      sized =
          block_set old (1 + slot / 8) _ sized
          (patched_long (64 * (slot % 8)) entry (block_at old (1 + slot / 8)) whole long (omega arith));
    }

-- ---- room for a file

all_take : (test : ℕ → Bool) (n : ℕ) (xs : List ℕ) → list_all test xs ≡ true → list_all test (take n xs) ≡ true
all_take test n xs h =
    (and_parts (list_all test (take n xs)) (list_all test (drop n xs))
    (sym (list_all-append test (take n xs) (drop n xs)) ∙ ap (list_all test) (take-append-drop n xs) ∙ h)).0

out_take : (m n : ℕ) (xs : List ℕ) → is_in m xs ≡ false → is_in m (take n xs) ≡ false
out_take m zero xs h = refl
out_take m (suc n) [] h = refl
out_take m (suc n) (x ∷ xs) h = go (x == m) refl h (λ rest. out_take m n xs rest)
  where
    go : (b : Bool) → (x == m) ≡ b → (b || is_in m xs) ≡ false → (is_in m xs ≡ false → is_in m (take n xs) ≡ false)
        → ((x == m) || is_in m (take n xs)) ≡ false
    go true e h later = absurd (let no : true ≡ false = h in cc)
    go false e h later = ap (λ b. b || is_in m (take n xs)) e ∙ later h

different_take : (n : ℕ) (xs : List ℕ) → are_different xs ≡ true → are_different (take n xs) ≡ true
different_take zero xs h = refl
different_take (suc n) [] h = refl
different_take (suc n) (x ∷ xs) h =
    let parts = and_parts (not (is_in x xs)) (are_different xs) h in
    and_from (not (is_in x (take n xs))) (are_different (take n xs))
    (ap not (out_take x n xs (not-true (is_in x xs) parts.0))) (different_take n xs parts.1)

free_take : (count : ℕ) (files : List (Option StoredFile)) (n : ℕ) (items : List ℕ) → AreFree count files items → AreFree count files (take n items)
free_take count files n items free = record {
  on_drive = all_take (is_data 33 count) n items free.on_drive;
  unused = all_take (λ m. not (is_in m (blocks_used files))) n items free.unused;
  different = different_take n items free.different;
}

-- ---- a file is stored

protected_same : (blocks : List (List ℕ)) (file : Option StoredFile) → made.is_protected (option_map (file_of blocks) file) ≡ is_protected file
protected_same blocks None = refl
protected_same blocks (Some file) = refl

-- a slot that may be used is not that of a protected file
slot_open : (slots : List (Option File)) (title : List ℕ) (slot : ℕ) → slot_for slots title ≡ Some slot
    → made.is_protected (find_file slots title) ≡ false
slot_open slots title slot h = go (find_slot slots title) h
  where
    go : (o : Option ℕ)
        → (if is_none o then first_free slots else option_and_then (λ index. if made.is_protected (slot_at slots index) then None else Some index) o)
        ≡ Some slot
        → made.is_protected (option_and_then (slot_at slots) o) ≡ false
    go None h = refl
    go (Some k) h = chosen (made.is_protected (slot_at slots k)) refl h
      where
        chosen : (b : Bool) → made.is_protected (slot_at slots k) ≡ b → (if b then None else Some k) ≡ Some slot
            → made.is_protected (slot_at slots k) ≡ false
        chosen true e h = absurd (let no : None ≡ Some slot = h in cc)
        chosen false e h = e

slot_within : (slots : List (Option File)) (title : List ℕ) (slot : ℕ) → slot_for slots title ≡ Some slot → slot < length slots
slot_within slots title slot h = go (find_slot slots title) refl h
  where
    go : (o : Option ℕ) → find_slot slots title ≡ o
        → (if is_none o then first_free slots else option_and_then (λ index. if made.is_protected (slot_at slots index) then None else Some index) o)
        ≡ Some slot
        → slot < length slots
    go None e h = (first_index-found is_none slots slot h).within
    go (Some k) e h = chosen (made.is_protected (slot_at slots k)) h
      where
        chosen : (b : Bool) → (if b then None else Some k) ≡ Some slot → slot < length slots
        chosen true h = absurd (let no : None ≡ Some slot = h in cc)
        chosen false h =
            let one : Some k ≡ Some slot = h in
            let same : k ≡ slot = cc in
            subst (λ n. n < length slots) same (first_index-found (is_titled title) slots k e).within

module _ (old : List (List ℕ)) (title : List ℕ) (kind : FileKind) (bytes : List ℕ) (slot : ℕ) (sized : list_all is_block old ≡ true)
    (valid : mount_fault_of old ≡ None) (titled : is_title title ≡ true) (short : length bytes ≤ most_bytes)
    (room : blocks_of (length bytes) + 33 + calls.blocks_taken (slots_of old) ≤ length old) (free_slot : slot_for (slots_of old) title ≡ Some slot) where
  abbrev count : ℕ
  count = length old

  abbrev files : List (Option StoredFile)
  files = files_in old

  kept : IsKeptOf old files
  kept = kept_in old valid

  stored : list_all (is_stored count) files ≡ true
  stored = files_stored old sized valid

  -- the blocks that are free, and so many of them as the file takes
  abbrev items : List ℕ
  items = free_from (blocks_used files) 33 (count - 33)

  enough : blocks_of (length bytes) ≤ length items
  enough =
      free_enough count files items (blocks_of (length bytes)) (count - 33) stored
      (omega (arith, room, taken_same old count files sized refl stored kept)) (omega (arith, room)) refl

  abbrev chosen : List ℕ
  chosen = take (blocks_of (length bytes)) items

  abbrev maps_many : ℕ
  maps_many = blocks_of (length bytes) - pages_of (length bytes)

  abbrev file : StoredFile
  file =
      new_file title kind (maps_of (slice_index (take maps_many chosen) 0) (slice_get (take maps_many chosen) 1)) (drop maps_many chosen) (length bytes)

  is_laid : IsLaid count files file
  is_laid =
      laid_fits count files title kind (length bytes) maps_many (slice_index (take maps_many chosen) 0) (slice_get (take maps_many chosen) 1) chosen
      (take maps_many chosen) (drop maps_many chosen)
      (free_take count files (blocks_of (length bytes)) items (free_found count files items (count - 33) (omega (arith, room)) refl))
      (length-take-le (blocks_of (length bytes)) items enough) refl refl refl titled short refl refl

  closed : is_protected (file_titled title files) ≡ false
  closed =
      sym (protected_same old (file_titled title files)) ∙ ap made.is_protected (sym (file_in old title files kept)) ∙ slot_open (slots_of old) title slot free_slot

  index : index_for title files ≡ Some slot
  index = sym (slot_for_same old title files kept closed) ∙ free_slot

  within : slot < 256
  within = subst (λ n. slot < n) (slots_many old) (slot_within (slots_of old) title slot free_slot)

  put : IsLaidSo (used_in (Some file)) (content_of file bytes) old (length (used_in (Some file)))
  put =
      laid_so (used_in (Some file)) (content_of file bytes) old is_laid.free.different is_laid.free.on_drive sized (content_long file bytes)
      (length (used_in (Some file))) (omega arith)

  abbrev laid_blocks : List (List ℕ)
  laid_blocks = laid (used_in (Some file)) (content_of file bytes) old (length (used_in (Some file)))

  entry_long : length (bytes_of_record file.record_) ≡ 64
  entry_long = length_record file.record_ titled

  wrote : IsWrittenSo slot (bytes_of_record file.record_) laid_blocks (with_entry laid_blocks slot (bytes_of_record file.record_))
  wrote =
      written_so laid_blocks slot (bytes_of_record file.record_) put.sized within
      (let many : length laid_blocks ≡ length old = put.put.as_many in omega (arith, room, many)) entry_long

  abbrev new : List (List ℕ)
  new = with_entry laid_blocks slot (bytes_of_record file.record_)

  pub image_stored : IsImage (length old) (put_slot (slots_of old) slot (Some (stored_file title kind bytes)))
  image_stored =
      let made_it : IsNew slot file bytes old new = record { laid = laid_blocks; put = put.put; written = wrote.written } in
      let now = stored_holds old new files slot count file bytes within refl kept stored is_laid refl entry_long index made_it in
      record {
        blocks = new;
        many = wrote.many ∙ put.put.as_many;
        sized = wrote.sized;
        holds = record { valid = now.kept.valid; files = now.slots };
      }

-- ---- the entry of a file is changed, or freed

module _ (old : List (List ℕ)) (slot : ℕ) (r : Option FileRecord) (sized : list_all is_block old ≡ true) (valid : mount_fault_of old ≡ None)
    (below : slot < 256) (at : IsRecordAt (files_in old) slot r) (long : length (bytes_of_slot r) ≡ 64) where
  pub image_changed : IsImage (length old) (put_file slot r (slots_of old))
  image_changed =
      let kept_files = files_stored old sized valid in
      let wrote : IsWrittenSo slot (bytes_of_slot r) old (with_entry old slot (bytes_of_slot r)) =
      written_so old slot (bytes_of_slot r) sized below (has_catalogue (length old) (files_in old) slot r kept_files at) long in
      let now = written_changes old (with_entry old slot (bytes_of_slot r)) (files_in old) slot (length old) r below (kept_in old valid) kept_files at long
      wrote.written in
      record {
        blocks = with_entry old slot (bytes_of_slot r);
        many = wrote.many;
        sized = wrote.sized;
        holds = record { valid = now.kept.valid; files = now.slots };
      }

-- the file in a slot, as it is kept and as it is in the image
pub record HasFileAt (blocks : List (List ℕ)) (slot : ℕ) : Type 0 where
  pub file : StoredFile
  pub there : get_or (files_in blocks) slot None ≡ Some file
  pub in_image : slot_at (slots_of blocks) slot ≡ Some (file_of blocks file)

file_at : (blocks : List (List ℕ)) (slot : ℕ) → mount_fault_of blocks ≡ None → (f : File) → slot_at (slots_of blocks) slot ≡ Some f → HasFileAt blocks slot
file_at blocks slot valid f is = go (get_or (files_in blocks) slot None) refl
  where
    here : slot_at (slots_of blocks) slot ≡ option_map (file_of blocks) (get_or (files_in blocks) slot None)
    here = ap (λ s. slot_at s slot) (slots_kept blocks (files_in blocks) (kept_in blocks valid)) ∙ get_or-map (option_map (file_of blocks)) (files_in blocks) slot None

    go : (o : Option StoredFile) → get_or (files_in blocks) slot None ≡ o → HasFileAt blocks slot
    go None e = absurd (let no : Some f ≡ None = sym is ∙ here ∙ ap (option_map (file_of blocks)) e in cc)
    go (Some file) e = record { file = file; there = e; in_image = here ∙ ap (option_map (file_of blocks)) e }

-- the file that a title finds
pub titled_file : (blocks : List (List ℕ)) (title : List ℕ) (slot : ℕ) → mount_fault_of blocks ≡ None → find_slot (slots_of blocks) title ≡ Some slot
    → HasFileAt blocks slot × (slot < 256)
titled_file blocks title slot valid found = (go (slot_at (slots_of blocks) slot) refl, subst (λ n. slot < n) (slots_many blocks) is.within)
  where
    is : IsIndexOf (is_titled title) (slots_of blocks) slot
    is = first_index-found (is_titled title) (slots_of blocks) slot found

    go : (o : Option File) → slot_at (slots_of blocks) slot ≡ o → HasFileAt blocks slot
    go None e = absurd (let no : false ≡ true = ap (is_titled title) (sym e) ∙ is.passes None in cc)
    go (Some f) e = file_at blocks slot valid f e
