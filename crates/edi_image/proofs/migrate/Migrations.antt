-- A migration, from the old image to what the drive has.
use Rattle.std.proofs.Common.{◌≡◌, ℕ, zero, suc, ◌+◌, ◌*◌, ◌/◌, ◌≤◌, true, false, List, [], ◌∷◌, ◌++◌, length, drop, refl, ap, sym, subst, ◌∙◌, arith}
use Rattle.std.proofs.Common.{length-append, length-drop}
use Rattle.std.specs.Prelude.{nat_le, map, flat_map, replicate, if◌then◌else◌, Option, Some, None}
use Rattle.std.specs.List.{list_all}
use Rattle.std.specs.Option.{option_map}
use Rattle.std.proofs.lemmas.List.{length-map, length-take-le}
use Rattle.std.proofs.lemmas.List.Folds.{flat_map-map}
use Rattle.edi_image.specs.Entries.{block_at}
use Rattle.std.proofs.lemmas.Bool.{le-leb, and_parts, and_from}
use Rattle.edi_host.specs.Blocks.{resized}
use Rattle.edi_host.specs.BytesAsBlocks.{blocks_of}
use Rattle.edi_calls.specs.State.{most_bytes, pages_of}
use Rattle.edi_calls.specs.State as calls
use Rattle.edi_image.specs.declared.migrate.migrating.MigrateEnd.{MigrateEnd}
use Rattle.edi_image.specs.declared.migrate.migrating.MigrateEnd.TheVariants as end
use Rattle.edi_image.specs.Image.{Holds}
use Rattle.edi_image.specs.migrate.OldImage.{old_fault_of, old_slots_of}
use Rattle.edi_image.specs.migrate.OldFiles.{is_old_stored, old_files_of}
use Rattle.edi_image.specs.migrate.MigratedSlots.{migrated_slots}
use Rattle.edi_image.specs.Stored.{StoredFile, blocks_in, blocks_taken, is_sized}
use Rattle.edi_image.specs.migrate.Migrated.{blocks_of_slots, migrated_bytes, HasRoom, AreStored, IfFull, MigrateAnswers, MigrateLeaves, MigrateTouches}
use Rattle.edi_image.specs.migrate.Migrated.{is_image_fault, refuses}
use Rattle.edi_image.proofs.Empty.{length-resized}
use Rattle.edi_image.proofs.migrate.MigratedRules.{whole_of}
use Rattle.edi_image.proofs.KeptFiles.{file_of}
use Rattle.edi_image.proofs.migrate.MigratedSlots.{old_slots}
use Rattle.edi_image.proofs.migrate.MigratedBytes.{AreFull, pages_blocks, length-blocks_bytes, old_full, length-old_files, IsMade, is_made, image_holds_old}

-- ---- what is refused

pub refuses_leaves : (e : MigrateEnd) (count : ℕ) (image before : List (List ℕ)) → refuses e ≡ true → MigrateLeaves e count image before before
refuses_leaves end.Ok count image before h = absurd (let no : false ≡ true = h in cc)
refuses_leaves (end.Image broken) count image before h = refl
refuses_leaves (end.Full wanted free) count image before h = refl
refuses_leaves end.Fault count image before h = tt
refuses_leaves end.NoMemory count image before h = refl

pub refuses_touches : {D : Type 0} (e : MigrateEnd) (drive : D) → MigrateTouches e drive drive
refuses_touches end.Ok drive = tt
refuses_touches (end.Image broken) drive = refl
refuses_touches (end.Full wanted free) drive = refl
refuses_touches end.Fault drive = tt
refuses_touches end.NoMemory drive = tt

-- ---- the files of an old image

pub all_old_sized : (n : ℕ) (files : List (Option StoredFile)) → list_all (is_old_stored n) files ≡ true → list_all is_sized files ≡ true
all_old_sized n [] h = refl
all_old_sized n (None ∷ files) h = all_old_sized n files h
all_old_sized n (Some file ∷ files) h =
    let parts = and_parts (is_old_stored n (Some file)) (list_all (is_old_stored n) files) h in
    let short : file.record_.length ≤ 130560 = (whole_of n file parts.0).short in
    and_from (nat_le file.record_.length most_bytes) (list_all is_sized files) (le-leb file.record_.length most_bytes (omega arith))
    (all_old_sized n files parts.1)

pub taken_same : (n : ℕ) (files : List (Option StoredFile)) → list_all (is_old_stored n) files ≡ true → blocks_taken files ≡ blocks_of_slots files
taken_same n [] h = refl
taken_same n (None ∷ files) h = (let later : blocks_taken files ≡ blocks_of_slots files = taken_same n files h in omega (arith, later))
taken_same n (Some file ∷ files) h =
    let parts = and_parts (is_old_stored n (Some file)) (list_all (is_old_stored n) files) h in
    let whole = whole_of n file parts.0 in
    let many : length file.pages ≡ pages_of file.record_.length = whole.many in
    let few : nat_le (pages_of file.record_.length) 255 ≡ true = le-leb (pages_of file.record_.length) 255 (subst (λ k. k ≤ 255) many whole.few) in
    let later : blocks_taken files ≡ blocks_of_slots files = taken_same n files parts.1 in
    ap (λ b. pages_of file.record_.length + (if b then 1 else 2) + blocks_taken files) few
    ∙ (let same : pages_of file.record_.length + 1 + blocks_taken files ≡ 1 + length file.pages + blocks_of_slots files =
    ap (λ k. k + 1 + blocks_taken files) (sym many) ∙ omega (arith, later) in same)

-- ---- the blocks that the slots take

slot_taken : (old : List (List ℕ)) (file : Option StoredFile) → AreFull old → is_old_stored (length old) file ≡ true
    → calls.blocks_in (option_map (file_of old) file) ≡ blocks_in file
slot_taken old None full h = refl
slot_taken old (Some file) full h =
    let whole = whole_of (length old) file h in
    let pages : length (flat_map (block_at old) file.pages) ≡ 512 * length file.pages =
    ap length (sym (flat_map-map (λ b. b) (block_at old) file.pages))
    ∙ length-blocks_bytes (map (block_at old) file.pages) (pages_blocks old file.pages full whole.data_)
    ∙ ap (λ n. 512 * n) (length-map file.pages (block_at old)) in
    let many : length file.pages ≡ (file.record_.length + 511) / 512 = whole.many in
    ap calls.blocks_of (length-take-le file.record_.length (flat_map (block_at old) file.pages) (omega (arith, pages, many)))

slots_taken : (old : List (List ℕ)) (files : List (Option StoredFile)) → AreFull old → list_all (is_old_stored (length old)) files ≡ true
    → calls.blocks_taken (map (option_map (file_of old)) files) ≡ blocks_taken files
slots_taken old [] full h = refl
slots_taken old (file ∷ files) full h =
    let parts = and_parts (is_old_stored (length old) file) (list_all (is_old_stored (length old)) files) h in
    ap (λ n. n + calls.blocks_taken (map (option_map (file_of old)) files)) (slot_taken old file full parts.0)
    ∙ ap (λ n. blocks_in file + n) (slots_taken old files full parts.1)

free_taken : (slots : List (Option calls.File)) (n : ℕ) → calls.blocks_taken (slots ++ replicate n None) ≡ calls.blocks_taken slots
free_taken [] zero = refl
free_taken [] (suc n) = (let later : calls.blocks_taken (replicate n None) ≡ 0 = free_taken [] n in omega (arith, later))
free_taken (slot ∷ slots) n = ap (λ k. calls.blocks_in slot + k) (free_taken slots n)

old_taken : (given : List ℕ) (old : List (List ℕ)) → old ≡ blocks_of given → AreStored old
    → calls.blocks_taken (old_slots_of old) ≡ blocks_taken (old_files_of old)
old_taken given old is stored =
    sym (free_taken (old_slots_of old) 192) ∙ ap calls.blocks_taken (sym (old_slots old))
    ∙ slots_taken old (old_files_of old) (subst AreFull (sym is) (old_full given)) stored

pub room_told : (given : List ℕ) (old : List (List ℕ)) (count : ℕ) → old ≡ blocks_of given → AreStored old
    → HasRoom count (blocks_taken (old_files_of old)) old → HasRoom count (calls.blocks_taken (old_slots_of (blocks_of given))) (blocks_of given)
room_told given old count is stored room =
    subst (λ image. HasRoom count (calls.blocks_taken (old_slots_of image)) image) is
    (subst (λ n. HasRoom count n old) (sym (old_taken given old is stored)) room)

pub refusal_told : (e : MigrateEnd) (given : List ℕ) (old : List (List ℕ)) (count : ℕ) → old ≡ blocks_of given → refuses e ≡ true
    → MigrateAnswers e count (blocks_taken (old_files_of old)) old → IfFull e (AreStored old)
    → MigrateAnswers e count (calls.blocks_taken (old_slots_of (blocks_of given))) (blocks_of given)
refusal_told end.Ok given old count is h answers stored = absurd (let no : false ≡ true = h in cc)
refusal_told (end.Image broken) given old count is h answers stored =
    subst (λ image. (old_fault_of image ≡ Some broken) × (is_image_fault broken ≡ true)) is answers
refusal_told (end.Full wanted free) given old count is h answers stored =
    subst (λ image. MigrateAnswers (end.Full wanted free) count (calls.blocks_taken (old_slots_of image)) image) is
    (subst (λ n. MigrateAnswers (end.Full wanted free) count n old) (sym (old_taken given old is stored)) answers)
refusal_told end.Fault given old count is h answers stored = absurd (let no : false ≡ true = h in cc)
refusal_told end.NoMemory given old count is h answers stored = tt

-- ---- the new image

has_room : (count : ℕ) (old : List (List ℕ)) → list_all (is_old_stored (length old)) (old_files_of old) ≡ true
    → HasRoom count (blocks_taken (old_files_of old)) old
    → 33 + blocks_of_slots (old_files_of old) ≤ count
has_room count old stored room =
    let fits : blocks_taken (old_files_of old) + 33 ≤ count = room.1 in
    omega (arith, fits, taken_same (length old) (old_files_of old) stored)

image_made : (given : List ℕ) (old : List (List ℕ)) (count : ℕ) (bytes : List ℕ) → old ≡ blocks_of given
    → HasRoom count (blocks_taken (old_files_of old)) old → bytes ≡ migrated_bytes old count (old_files_of old) → list_all (is_old_stored (length old))
    (old_files_of old) ≡ true
    → IsMade old count (old_files_of old) bytes
image_made given old count bytes o room b stored =
    is_made old count (old_files_of old) bytes (subst AreFull (sym o) (old_full given)) stored (length-old_files old) (has_room count old stored room) b

-- its blocks have room on the drive
pub image_fits : (given : List ℕ) (old image : List (List ℕ)) (count : ℕ) (bytes seen : List ℕ) → old ≡ blocks_of given
    → HasRoom count (blocks_taken (old_files_of old)) old → bytes ≡ migrated_bytes old count (old_files_of old) → list_all (is_old_stored (length old))
    (old_files_of old) ≡ true
    → seen ≡ bytes → image ≡ blocks_of seen → length image ≤ count
image_fits given old image count bytes seen o room b stored s i =
    let many : length (blocks_of bytes) ≡ 33 + blocks_of_slots (old_files_of old) = (image_made given old count bytes o room b stored).many in
    omega (arith, ap length (i ∙ ap blocks_of s), many, has_room count old stored room)

pub migration_leaves : (given : List ℕ) (old image : List (List ℕ)) (count : ℕ) (bytes seen : List ℕ) (before between after : List (List ℕ))
    → old ≡ blocks_of given → HasRoom count (blocks_taken (old_files_of old)) old → bytes ≡ migrated_bytes old count (old_files_of old)
    → list_all (is_old_stored (length old)) (old_files_of old) ≡ true → seen ≡ bytes → image ≡ blocks_of seen → 64 ≤ count → count ≤ 4096
    → between ≡ resized before count → (length image ≤ length between → after ≡ image ++ drop (length image) between)
    → (length after ≡ count) × Holds after (migrated_slots (blocks_of given))
migration_leaves given old image count bytes seen before between after o room b stored s i least most r w =
    let fits : length image ≤ count = image_fits given old image count bytes seen o room b stored s i in
    let long : length between ≡ count = ap length r ∙ length-resized before count in
    let whole : after ≡ image ++ drop (length image) between = w (omega (arith, fits, long)) in
    let size : length after ≡ count =
    ap length whole ∙ length-append image (drop (length image) between) ∙ ap (λ k. length image + k) (length-drop (length image) between)
    ∙ omega (arith, fits, long) in (
      size,
      subst (λ blocks. Holds after (migrated_slots blocks)) o
          (image_holds_old after old (drop (length image) between) count bytes room.0 stored (has_room count old stored room) least most size
          (image_made given old count bytes o room b stored) (whole ∙ ap (λ bs. bs ++ drop (length image) between) (i ∙ ap blocks_of s))),
    )
