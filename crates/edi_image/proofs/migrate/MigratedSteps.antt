-- Steps of the loops that put the bytes of an image together.
use Rattle.std.proofs.Common.{◌≡◌, ℕ, suc, ◌+◌, ◌<◌, ◌≤◌, true, List, [], ◌∷◌, ◌++◌, length, take, drop, get_or, set, ap, sym, ◌∙◌, arith, append_assoc}
use Rattle.std.proofs.Common.{append-nil}
use Rattle.std.specs.Prelude.{flat_map, Option, Some}
use Rattle.std.specs.List.{list_all, range_with_len}
use Rattle.std.specs.Option.{option_map}
use Rattle.std.proofs.Math.Seq.{take-length}
use Rattle.std.proofs.lemmas.Bool.{and_parts}
use Rattle.std.proofs.lemmas.List.{drop_more, drop_all, get_or_default}
use Rattle.std.proofs.lemmas.List.Folds.{flat_map-map}
use Rattle.std.proofs.lemmas.Grind.{flat_map-append}
use Rattle.edi_image.specs.Build.{map_block}
use Rattle.edi_image.specs.Entries.{block_at}
use Rattle.edi_image.specs.Image.{header_block}
use Rattle.edi_image.specs.Stored.{StoredFile}
use Rattle.edi_image.specs.migrate.OldFiles.{is_old_stored}
use Rattle.edi_image.specs.Bytes.{bytes_of_slot}
use Rattle.edi_image.specs.migrate.Migrated.{blocks_of_slot, blocks_of_slots, moved, moved_from, laid, laid_from, entries_bytes, blocks_bytes, migrated_bytes}
use Rattle.edi_image.proofs.Empty.{write_next}

-- the next of the items that are left
pub item_next : {A : Type 0} (items : List A) (i : ℕ) (item default : A) → i < length items → item ≡ get_or items i default
    → drop i items ≡ item ∷ drop (i + 1) items
item_next items i item default h e = drop_more items i default h ∙ ap (λ x. x ∷ drop (i + 1) items) (sym e)

pub none_left_over : {A : Type 0} (items : List A) (i : ℕ) (f : List A → List ℕ) (bytes goal : List ℕ) → length items ≤ i → f [] ≡ []
    → bytes ++ f (drop i items) ≡ goal → bytes ≡ goal
none_left_over items i f bytes goal h none so_far =
    sym (append-nil bytes) ∙ ap (λ bs. bytes ++ bs) (sym none) ∙ ap (λ xs. bytes ++ f xs) (sym (drop_all i items h)) ∙ so_far

-- ---- pages

pub page_on : (blocks : List (List ℕ)) (pages : List ℕ) (bytes after goal : List ℕ) (i page default : ℕ) → i < length pages → page ≡ get_or pages i default
    → bytes ++ flat_map (block_at blocks) (drop i pages) ≡ goal → after ≡ bytes ++ block_at blocks page
    → after ++ flat_map (block_at blocks) (drop (i + 1) pages) ≡ goal
page_on blocks pages bytes after goal i page default h e so_far a =
    ap (λ bs. bs ++ flat_map (block_at blocks) (drop (i + 1) pages)) a
    ∙ append_assoc bytes (block_at blocks page) (flat_map (block_at blocks) (drop (i + 1) pages))
    ∙ ap (λ ps. bytes ++ flat_map (block_at blocks) ps) (sym (item_next pages i page default h e))
    ∙ so_far

-- ---- entries

pub entry_on : (files : List (Option StoredFile)) (bytes after goal : List ℕ) (i first next : ℕ) (file : Option StoredFile)
    → drop i files ≡ file ∷ drop (i + 1) files → bytes ++ entries_bytes (moved_from first (drop i files)) ≡ goal
    → after ≡ bytes ++ bytes_of_slot (option_map (moved first) file) → next ≡ first + blocks_of_slot file
    → after ++ entries_bytes (moved_from next (drop (i + 1) files)) ≡ goal
entry_on files bytes after goal i first next file d so_far a n =
    let entry = bytes_of_slot (option_map (moved first) file) in
    ap (λ bs. bs ++ entries_bytes (moved_from next (drop (i + 1) files))) a
    ∙ append_assoc bytes entry (entries_bytes (moved_from next (drop (i + 1) files)))
    ∙ ap (λ k. bytes ++ (entry ++ entries_bytes (moved_from k (drop (i + 1) files)))) n
    ∙ ap (λ fs. bytes ++ entries_bytes (moved_from first fs)) (sym d)
    ∙ so_far

pub count_on : (files : List (Option StoredFile)) (i first next total : ℕ) (file : Option StoredFile) → drop i files ≡ file ∷ drop (i + 1) files
    → first + blocks_of_slots (drop i files) ≡ total → next ≡ first + blocks_of_slot file
    → next + blocks_of_slots (drop (i + 1) files) ≡ total
count_on files i first next total file d so_far n =
    let here : blocks_of_slots (drop i files) ≡ blocks_of_slot file + blocks_of_slots (drop (i + 1) files) = ap blocks_of_slots d in
    omega (arith, here, so_far, n)

pub count_room : (files : List (Option StoredFile)) (i first total most : ℕ) (file : Option StoredFile) → drop i files ≡ file ∷ drop (i + 1) files
    → first + blocks_of_slots (drop i files) ≡ total → total ≤ most → first + blocks_of_slot file ≤ most
count_room files i first total most file d so_far h =
    let here : blocks_of_slots (drop i files) ≡ blocks_of_slot file + blocks_of_slots (drop (i + 1) files) = ap blocks_of_slots d in
    omega (arith, here, so_far, h)

-- ---- the blocks of files

pub file_on : (old : List (List ℕ)) (files : List (Option StoredFile)) (bytes after goal : List ℕ) (i first next : ℕ) (file : Option StoredFile)
    → drop i files ≡ file ∷ drop (i + 1) files → bytes ++ blocks_bytes (laid_from old first (drop i files)) ≡ goal
    → after ≡ bytes ++ blocks_bytes (laid old first file) → next ≡ first + blocks_of_slot file
    → after ++ blocks_bytes (laid_from old next (drop (i + 1) files)) ≡ goal
file_on old files bytes after goal i first next file d so_far a n =
    let here = laid old first file in
    ap (λ bs. bs ++ blocks_bytes (laid_from old next (drop (i + 1) files))) a
    ∙ append_assoc bytes (blocks_bytes here) (blocks_bytes (laid_from old next (drop (i + 1) files)))
    ∙ ap (λ k. bytes ++ (blocks_bytes here ++ blocks_bytes (laid_from old k (drop (i + 1) files)))) n
    ∙ ap (λ bs. bytes ++ bs) (sym (flat_map-append (λ b. b) here (laid_from old (first + blocks_of_slot file) (drop (i + 1) files))))
    ∙ ap (λ fs. bytes ++ blocks_bytes (laid_from old first fs)) (sym d)
    ∙ so_far

pub stored_on : (n : ℕ) (files : List (Option StoredFile)) (i : ℕ) (file : Option StoredFile) → drop i files ≡ file ∷ drop (i + 1) files
    → list_all (is_old_stored n) (drop i files) ≡ true → (is_old_stored n file ≡ true) × (list_all (is_old_stored n) (drop (i + 1) files) ≡ true)
stored_on n files i file d all =
    and_parts (is_old_stored n file) (list_all (is_old_stored n) (drop (i + 1) files)) (sym (ap (list_all (is_old_stored n)) d) ∙ all)

pub file_put : (old : List (List ℕ)) (bytes between after : List ℕ) (first count : ℕ) (slot : Option StoredFile) (file : StoredFile)
    (pages seen : List ℕ) → slot ≡ Some file → pages ≡ file.pages → count ≡ length pages → seen ≡ pages
    → between ≡ bytes ++ map_block (range_with_len (first + 1) count)
    → after ≡ between ++ flat_map (block_at old) seen
    → after ≡ bytes ++ blocks_bytes (laid old first slot)
file_put old bytes between after first count slot file pages seen is p n s b a =
    let map_ = map_block (range_with_len (first + 1) (length file.pages)) in
    a ∙ ap (λ ps. between ++ flat_map (block_at old) ps) (s ∙ p)
    ∙ ap (λ bs. bs ++ flat_map (block_at old) file.pages) (b ∙ ap (λ k. bytes ++ map_block (range_with_len (first + 1) k)) (n ∙ ap length p))
    ∙ append_assoc bytes map_ (flat_map (block_at old) file.pages)
    ∙ ap (λ bs. bytes ++ (map_ ++ bs)) (sym (flat_map-map (λ b. b) (block_at old) file.pages))
    ∙ ap (λ o. bytes ++ blocks_bytes (laid old first o)) (sym is)

pub image_put : (old : List (List ℕ)) (count : ℕ) (files : List (Option StoredFile)) (header entries all : List ℕ) → header ≡ header_block 2 count
    → entries ≡ header ++ entries_bytes (moved_from 33 files) → all ≡ entries ++ blocks_bytes (laid_from old 33 files)
    → all ≡ migrated_bytes old count files
unfolding migrated_bytes
image_put old count files header entries all h e a =
    a ∙ ap (λ bs. bs ++ blocks_bytes (laid_from old 33 files)) (e ∙ ap (λ bs. bs ++ entries_bytes (moved_from 33 files)) h)
    ∙ append_assoc (header_block 2 count) (entries_bytes (moved_from 33 files)) (blocks_bytes (laid_from old 33 files))

-- ---- writing blocks

pub block_written : (blocks old between new : List (List ℕ)) (n : ℕ) (block default : List ℕ) → n < length blocks → block ≡ get_or blocks n default
    → (length blocks ≤ length old → between ≡ take n blocks ++ drop n old) → new ≡ set between n block
    → length blocks ≤ length old → new ≡ take (n + 1) blocks ++ drop (n + 1) old
block_written blocks old between new n block default h e so_far w big =
    w ∙ ap (λ b. set b n block) (so_far big)
    ∙ write_next blocks old n block (e ∙ get_or_default blocks n default [] h) h (omega arith)
    ∙ ap (λ m. take m blocks ++ drop m old) (let one : suc n ≡ n + 1 = omega arith in one)

pub blocks_written : (blocks old new : List (List ℕ)) (n : ℕ) → n ≡ length blocks
    → (length blocks ≤ length old → new ≡ take n blocks ++ drop n old) → length blocks ≤ length old → new ≡ blocks ++ drop (length blocks) old
blocks_written blocks old new n e so_far big =
    so_far big ∙ ap (λ m. take m blocks ++ drop m old) e ∙ ap (λ xs. xs ++ drop (length blocks) old) (take-length blocks)
