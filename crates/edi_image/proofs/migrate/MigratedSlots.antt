-- The files of an image whose files lie one after another.
use Rattle.std.proofs.Common.{◌≡◌, ℕ, zero, suc, ◌+◌, ◌<◌, ◌≤◌, true, false, List, [], ◌∷◌, ◌++◌, length, take, get_or, refl, ap, sym, subst, ◌∙◌, arith}
use Rattle.std.specs.Prelude.{◌&&◌, ◌==◌, nat_le, nat_lt, map, flat_map, replicate, if◌then◌else◌, Option, Some, None, IfSome, ⊤}
use Rattle.std.specs.List.{list_all, range_with_len}
use Rattle.std.specs.Option.{option_map}
use Rattle.std.proofs.lemmas.Bool.{le-leb, lt-ltb, and_parts, and_from}
use Rattle.std.proofs.lemmas.List.{map-append}
use Rattle.std.proofs.lemmas.List.Folds.{flat_map-map}
use Rattle.edi_calls.specs.State.{is_title, most_bytes, pages_of}
use Rattle.edi_image.specs.declared.entries.Said.TheVariants as said
use Rattle.edi_image.specs.Records.{FileRecord}
use Rattle.edi_image.specs.Rules.{first_broken}
use Rattle.edi_image.specs.Entries.{block_at, entry_says}
use Rattle.edi_image.specs.Image.{header_block, header_rules, slot_in, slot_rules, entry_at, entries_from, entries_of, slots_of, numbers_of, numbers_in, Holds}
use Rattle.edi_image.specs.migrate.OldImage.{old_entries_of, old_slots_of, old_fault_of}
use Rattle.edi_image.specs.migrate.OldFiles.{is_old_stored, old_files_of}
use Rattle.edi_image.specs.migrate.MigratedSlots.{migrated_slots}
use Rattle.edi_image.specs.Stored.{StoredFile, stored_of, are_data, is_record}
use Rattle.edi_image.specs.Bytes.{bytes_of_slot}
use Rattle.edi_image.specs.migrate.Migrated.{blocks_of_slots, moved, moved_from}
use Rattle.edi_image.proofs.FileRules.{goes_on}
use Rattle.edi_image.proofs.ImageRules.{rules_of}
use Rattle.edi_image.proofs.Empty.{kept_rules, header_true}
use Rattle.edi_image.proofs.KeptFiles.{file_of, slots_kept}
use Rattle.edi_image.proofs.UsedBlocks.{none_right}
use Rattle.edi_image.proofs.EntryBytes.{said_of, says_slot}
use Rattle.edi_image.proofs.migrate.OldRules.{old_shape, one_numbers}
use Rattle.edi_image.proofs.migrate.OldMounts.{old_rules_of}
use Rattle.edi_image.proofs.migrate.MigratedMaps.{numbers_of_map}
use Rattle.edi_image.proofs.migrate.MigratedRules.{IsWhole, whole_of, IsLaid, AreLaid, AreUntitled, untitled, slots_hold}

-- ---- the entries

abbrev pub AreRecords : ℕ → List (Option FileRecord) → Type 0
AreRecords count [] = ⊤
AreRecords count (r ∷ records) = IfSome r (λ q. is_record count q ≡ true) × AreRecords count records

moved_record : (count n first : ℕ) (file : StoredFile) → IsWhole n file → 33 ≤ first → first < count → is_record count (moved first file) ≡ true
moved_record count n first file whole low high =
    let shape = old_shape n file.record_ whole.record_ in
    let many : length file.pages ≡ pages_of file.record_.length = whole.many in
    let few : nat_le (pages_of file.record_.length) 255 ≡ true = le-leb (pages_of file.record_.length) 255 (subst (λ k. k ≤ 255) many whole.few) in
    let inside : are_data count (first ∷ []) ≡ true =
    ap (λ b. b && true) (and_from (nat_le 33 first) (nat_lt first count) (le-leb 33 first low) (lt-ltb first count high)) in
    let short : nat_le file.record_.length most_bytes ≡ true = le-leb file.record_.length most_bytes (let s : file.record_.length ≤ 130560 = shape.short in
    omega arith) in
    and_from (is_title file.record_.title && nat_le file.record_.length most_bytes && are_data count (first ∷ []))
    (1 == (if nat_le (pages_of file.record_.length) 255 then 1 else 2))
    (and_from (is_title file.record_.title && nat_le file.record_.length most_bytes) (are_data count (first ∷ []))
    (and_from (is_title file.record_.title) (nat_le file.record_.length most_bytes) shape.title short) inside)
    (ap (λ b. 1 == (if b then 1 else 2)) few)

pub moved_records : (count n first : ℕ) (files : List (Option StoredFile)) → list_all (is_old_stored n) files ≡ true → 33 ≤ first
    → first + blocks_of_slots files ≤ count → AreRecords count (moved_from first files)
moved_records count n first [] stored low high = tt
moved_records count n first (None ∷ files) stored low high = (tt, moved_records count n (first + 0) files stored (omega arith) (omega arith))
moved_records count n first (Some file ∷ files) stored low high =
    let parts = and_parts (is_old_stored n (Some file)) (list_all (is_old_stored n) files) stored in (
      moved_record count n first file (whole_of n file parts.0) low (omega arith),
      moved_records count n (first + (1 + length file.pages)) files parts.1 (omega arith) (omega arith),
    )

-- the entries say the records
pub entries_say : (new : List (List ℕ)) (slot : ℕ) (records : List (Option FileRecord)) → AreRecords (length new) records
    → ((k : ℕ) → k < length records → entry_at new (slot + k) ≡ bytes_of_slot (get_or records k None))
    → entries_from new slot (length records) ≡ map said_of records
entries_say new slot [] fit at = refl
entries_say new slot (r ∷ records) fit at =
    let here : entry_at new slot ≡ bytes_of_slot r =
    ap (entry_at new) (let same : slot ≡ slot + 0 = omega arith in same) ∙ at 0 (omega arith) in
    ap (λ s. s ∷ entries_from new (slot + 1) (length records))
    (ap (entry_says (length new)) here ∙ says_slot (length new) r fit.0)
    ∙ ap (λ ss. said_of r ∷ ss)
    (entries_say new (slot + 1) records fit.1
    (λ k h. ap (entry_at new) (let same : slot + 1 + k ≡ slot + suc k = omega arith in same) ∙ at (suc k) (omega arith)))

-- ---- the files

file_moved : (new old : List (List ℕ)) (first n : ℕ) (file : StoredFile) → IsLaid new old first file → IsWhole n file
    → slot_in new (said.File (moved first file)) ≡ Some (file_of old file)
file_moved new old first n file laid whole =
    let count = length file.pages in
    let numbers : numbers_of new (pages_of file.record_.length) (first ∷ []) ≡ range_with_len (first + 1) count =
    one_numbers new (moved first file) first count refl whole.many whole.short
    ∙ ap (λ b. numbers_in b count) laid.map_ ∙ numbers_of_map (first + 1) count in
    let pages : flat_map (block_at new) (range_with_len (first + 1) count) ≡ flat_map (block_at old) file.pages =
    sym (flat_map-map (λ b. b) (block_at new) (range_with_len (first + 1) count))
    ∙ ap (flat_map (λ b. b)) laid.pages_
    ∙ flat_map-map (λ b. b) (block_at old) file.pages in
    ap (λ bs. Some (record { title = file.record_.title; kind = file.record_.kind; protected = file.record_.protected; bytes = take file.record_.length bs }))
    (ap (flat_map (block_at new)) numbers ∙ pages)

pub files_moved : (new old : List (List ℕ)) (first n : ℕ) (files : List (Option StoredFile)) → AreLaid new old first files
    → list_all (is_old_stored n) files ≡ true
    → map (slot_in new) (map said_of (moved_from first files)) ≡ map (option_map (file_of old)) files
files_moved new old first n [] laid stored = refl
files_moved new old first n (None ∷ files) laid stored = ap (λ fs. None ∷ fs) (files_moved new old (first + 0) n files laid.1 stored)
files_moved new old first n (Some file ∷ files) laid stored =
    let parts = and_parts (is_old_stored n (Some file)) (list_all (is_old_stored n) files) stored in
    ap (λ f. f ∷ map (slot_in new) (map said_of (moved_from (first + (1 + length file.pages)) files)))
    (file_moved new old first n file laid.0 (whole_of n file parts.0))
    ∙ ap (λ fs. Some (file_of old file) ∷ fs) (files_moved new old (first + (1 + length file.pages)) n files laid.1 parts.1)

free_files : (old : List (List ℕ)) (n : ℕ) → map (option_map (file_of old)) (replicate n None) ≡ replicate n None
free_files old zero = refl
free_files old (suc n) = ap (λ fs. None ∷ fs) (free_files old n)

pub old_slots : (old : List (List ℕ)) → map (option_map (file_of old)) (old_files_of old) ≡ migrated_slots old
unfolding old_slots_of
old_slots old =
    map-append (option_map (file_of old)) (map (stored_of old) (old_entries_of old)) (replicate 192 None)
    ∙ ap (λ fs. fs ++ map (option_map (file_of old)) (replicate 192 None)) (sym (slots_kept old (old_entries_of old)))
    ∙ ap (λ fs. map (slot_in old) (old_entries_of old) ++ fs) (free_files old 192)

-- ---- the image

-- what is known of the blocks of the new image
pub record IsMigrated (new old : List (List ℕ)) (files : List (Option StoredFile)) : Type 0 where
  pub least : 64 ≤ length new
  pub most : length new ≤ 4096
  pub room : 33 + blocks_of_slots files ≤ length new
  pub header : block_at new 0 ≡ header_block 2 (length new)
  pub slots : length (moved_from 33 files) ≡ 256
  pub entries : (k : ℕ) → k < length (moved_from 33 files) → entry_at new k ≡ bytes_of_slot (get_or (moved_from 33 files) k None)
  pub laid : AreLaid new old 33 files

no_old_rules : first_broken [] (slot_rules 5 [] 0 [] (old_entries_of [])) ≡ None
unfolding old_entries_of
no_old_rules = refl

old_untitled : (old : List (List ℕ)) → old_fault_of old ≡ None → AreUntitled [] (old_files_of old)
old_untitled [] h = untitled [] 0 [] (old_entries_of []) [] 192 no_old_rules
old_untitled (block ∷ blocks) h =
    untitled (block ∷ blocks) 0 [] (old_entries_of (block ∷ blocks)) _ 192
    (none_right [] (header_rules 1 (block ∷ blocks)) (slot_rules 5 (block ∷ blocks) 0 [] (old_entries_of (block ∷ blocks)))
    (sym (old_rules_of (block ∷ blocks) (omega arith)) ∙ h))

pub migrated_holds : (new old : List (List ℕ)) (n : ℕ) → old_fault_of old ≡ None → list_all (is_old_stored n) (old_files_of old) ≡ true
    → IsMigrated new old (old_files_of old) → Holds new (migrated_slots old)
unfolding entries_of slots_of
migrated_holds new old n none stored is =
    let files = old_files_of old in
    let entries : entries_from new 0 256 ≡ map said_of (moved_from 33 files) =
    ap (entries_from new 0) (sym is.slots)
    ∙ entries_say new 0 (moved_from 33 files) (moved_records (length new) n 33 files stored (omega arith) is.room)
    (λ k h. ap (entry_at new) (let same : 0 + k ≡ k = omega arith in same) ∙ is.entries k h) in
    let rules : first_broken [] (slot_rules 33 new 0 [] (entries_from new 0 256)) ≡ None =
    ap (λ es. first_broken [] (slot_rules 33 new 0 [] es)) entries
    ∙ slots_hold new old 0 33 n [] files [] is.laid (omega arith) is.room stored (old_untitled old none) (λ b h. absurd (let no : false ≡ true = h in cc)) in
    let header : first_broken [] (header_rules 2 new) ≡ None =
    kept_rules _ _ (le-leb 64 (length new) is.least) (header_true (length new) _ _ is.most is.header) in
    record {
      valid =
          rules_of new (let some : 64 ≤ length new = is.least in omega arith)
          ∙ goes_on [] [] (header_rules 2 new) (slot_rules 33 new 0 [] (entries_from new 0 256)) header refl ∙ rules;
      files = ap (map (slot_in new)) entries ∙ files_moved new old 33 n files is.laid stored ∙ old_slots old;
    }
