-- The blocks of a file, once its contents are put, are its maps and its pages.
use Rattle.std.proofs.Common.{◌≡◌, ℕ, suc, ◌+◌, ◌-◌, ◌*◌, ◌/◌, ◌%◌, ◌^◌, ◌≤◌, ◌<◌, true, List, [], ◌∷◌, ◌++◌, length, take, drop, replicate, get_or, Some}
use Rattle.std.proofs.Common.{None, refl, ap, sym, ◌∙◌, arith, min, length-append, length-drop, append_assoc, append-nil, take-append-drop, drop-drop}
use Rattle.std.specs.Prelude.{◌==◌, flat_map, if◌then◌else◌}
use Rattle.std.proofs.lemmas.Bool.{eq-eqb, and_from, and_parts, lt-ltb, le-ltb, cases_lt}
use Rattle.std.proofs.Common.{inl, inr}
use Rattle.std.proofs.lemmas.List.{length-take, get_or_append_left, get_or-append-add, take_at, take_all, nil_from_length}
use Rattle.std.proofs.Math.Seq.{take-append-add}
use Rattle.std.proofs.lemmas.List.Folds.{list_all-append}
use Rattle.edi_image.specs.Build.{filled, two, all_two, map_block}
use Rattle.edi_image.specs.Rules.{first_broken, used_by, page_rules}
use Rattle.edi_image.specs.Entries.{short_at, shorts, block_at, is_data}
use Rattle.edi_image.specs.Image.{map_rules, maps_rules, numbers_in, numbers_of}
use Rattle.edi_image.specs.Stored.{StoredFile, are_data}
use Rattle.edi_catalog.specs.Plan.{part, content_of, used_in, are_different, ArePut}
use Rattle.edi_image.proofs.MapRules.{used_by-page_rules}
use Rattle.edi_image.proofs.FileRules.{used_by-append}
use Rattle.edi_catalog.proofs.Different.{passes, passes_append, none_broken, woven, woven_different}

-- ---- a map block

two_number : (n : ℕ) → 2 ^ 8 * (n / 256) + n % 256 ≡ n
two_number n = omega arith

shorts_two : (numbers zeros : List ℕ) → shorts (length numbers) (all_two numbers ++ zeros) ≡ numbers
unfolding two
shorts_two [] zeros = refl
shorts_two (n ∷ numbers) zeros =
    ap (λ m. m ∷ shorts (length numbers) (all_two numbers ++ zeros)) (two_number n)
    ∙ ap (λ ns. n ∷ ns) (shorts_two numbers zeros)

block_numbers : (numbers : List ℕ) → numbers_in (map_block numbers) (length numbers) ≡ numbers
unfolding map_block filled two
block_numbers numbers = shorts_two numbers _

block_count : (numbers : List ℕ) → short_at (map_block numbers) 0 ≡ length numbers
unfolding map_block filled two
block_count numbers = two_number (length numbers)

-- ---- maps

-- each of these maps has its part of the page numbers
abbrev pub AreMaps : (maps pages : List ℕ) → List (List ℕ) → Type 0
AreMaps maps pages blocks = (j : ℕ) → j < length maps → block_at blocks (get_or maps j 0) ≡ map_block (part 255 pages j)

first_part : (maps pages : List ℕ) (m : ℕ) (blocks : List (List ℕ)) → AreMaps (m ∷ maps) pages blocks → block_at blocks m ≡ map_block (take 255 pages)
first_part maps pages m blocks are = are 0 (omega arith)

rest_parts : (maps pages : List ℕ) (m : ℕ) (blocks : List (List ℕ)) → AreMaps (m ∷ maps) pages blocks → AreMaps maps (drop 255 pages) blocks
rest_parts maps pages m blocks are j h =
    are (suc j) (omega arith)
    ∙ ap (λ n. map_block (take 255 (drop n pages))) (let more : 255 * suc j ≡ 255 + 255 * j = omega arith in more)
    ∙ ap (λ ps. map_block (take 255 ps)) (sym (drop-drop (255 * j) 255 pages))

length_first : (pages : List ℕ) → min (length pages) 255 ≡ length (take 255 pages)
length_first pages = (let size : length (take 255 pages) ≡ min 255 (length pages) = length-take 255 pages in omega arith)

numbers_first : (pages : List ℕ) (m : ℕ) (blocks : List (List ℕ)) → block_at blocks m ≡ map_block (take 255 pages)
    → numbers_in (block_at blocks m) (min (length pages) 255) ≡ take 255 pages
numbers_first pages m blocks is =
    ap (λ b. numbers_in b (min (length pages) 255)) is
    ∙ ap (numbers_in (map_block (take 255 pages))) (length_first pages)
    ∙ block_numbers (take 255 pages)

pub maps_tell : (maps pages : List ℕ) (blocks : List (List ℕ)) → AreMaps maps pages blocks → length pages ≤ 255 * length maps
    → numbers_of blocks (length pages) maps ≡ pages
maps_tell [] pages blocks are h = sym (nil_from_length pages (omega arith))
maps_tell (m ∷ maps) pages blocks are h =
    let size : length (drop 255 pages) ≡ length pages - 255 = length-drop 255 pages in
    ap (λ ns. ns ++ numbers_of blocks (length pages - 255) maps) (numbers_first pages m blocks (first_part maps pages m blocks are))
    ∙ ap (λ n. take 255 pages ++ numbers_of blocks n maps) (sym size)
    ∙ ap (λ ns. take 255 pages ++ ns) (maps_tell maps (drop 255 pages) blocks (rest_parts maps pages m blocks are) (omega arith))
    ∙ take-append-drop 255 pages

-- ---- their rules

pages_pass : (count slot : ℕ) (pages : List ℕ) → are_data count pages ≡ true → passes (page_rules 33 count slot pages) ≡ true
pages_pass count slot [] h = refl
pages_pass count slot (page ∷ pages) h =
    (let parts = and_parts (is_data 33 count page) (are_data count pages) h in
    and_from (is_data 33 count page) (passes (page_rules 33 count slot pages)) parts.0 (pages_pass count slot pages parts.1))

data_parts : (count : ℕ) (pages : List ℕ) → are_data count pages ≡ true
    → (are_data count (take 255 pages) ≡ true) × (are_data count (drop 255 pages) ≡ true)
data_parts count pages h =
    and_parts (are_data count (take 255 pages)) (are_data count (drop 255 pages))
    (sym (list_all-append (is_data 33 count) (take 255 pages) (drop 255 pages)) ∙ ap (are_data count) (take-append-drop 255 pages) ∙ h)

map_passes : (slot m : ℕ) (pages : List ℕ) (blocks : List (List ℕ)) → block_at blocks m ≡ map_block (take 255 pages)
    → are_data (length blocks) (take 255 pages) ≡ true → passes (map_rules 33 blocks slot (min (length pages) 255) m) ≡ true
map_passes slot m pages blocks is data_ =
    and_from (short_at (block_at blocks m) 0 == min (length pages) 255) _
    (eq-eqb _ _ (ap (λ b. short_at b 0) is ∙ block_count (take 255 pages) ∙ sym (length_first pages)))
    (ap (λ ns. passes (page_rules 33 (length blocks) slot ns)) (numbers_first pages m blocks is)
    ∙ pages_pass (length blocks) slot (take 255 pages) data_)

maps_pass : (slot : ℕ) (maps pages : List ℕ) (blocks : List (List ℕ)) → AreMaps maps pages blocks → are_data (length blocks) pages ≡ true
    → passes (maps_rules 33 blocks slot (length pages) maps) ≡ true
maps_pass slot [] pages blocks are data_ = refl
maps_pass slot (m ∷ maps) pages blocks are data_ =
    let size : length (drop 255 pages) ≡ length pages - 255 = length-drop 255 pages in
    let parts = data_parts (length blocks) pages data_ in
    passes_append (map_rules 33 blocks slot (min (length pages) 255) m) (maps_rules 33 blocks slot (length pages - 255) maps)
    (map_passes slot m pages blocks (first_part maps pages m blocks are) parts.0)
    (ap (λ n. passes (maps_rules 33 blocks slot n maps)) (sym size)
    ∙ maps_pass slot maps (drop 255 pages) blocks (rest_parts maps pages m blocks are) parts.1)

pub maps_use : (slot : ℕ) (maps pages : List ℕ) (blocks : List (List ℕ)) → AreMaps maps pages blocks
    → used_by (maps_rules 33 blocks slot (length pages) maps) ≡ woven maps pages
maps_use slot [] pages blocks are = refl
maps_use slot (m ∷ maps) pages blocks are =
    let size : length (drop 255 pages) ≡ length pages - 255 = length-drop 255 pages in
    used_by-append (map_rules 33 blocks slot (min (length pages) 255) m) (maps_rules 33 blocks slot (length pages - 255) maps)
    ∙ ap (λ ns. (m ∷ ns) ++ used_by (maps_rules 33 blocks slot (length pages - 255) maps))
    (used_by-page_rules 33 (length blocks) slot (numbers_in (block_at blocks m) (min (length pages) 255))
    ∙ numbers_first pages m blocks (first_part maps pages m blocks are))
    ∙ ap (λ n. m ∷ (take 255 pages ++ used_by (maps_rules 33 blocks slot n maps))) (sym size)
    ∙ ap (λ ns. m ∷ (take 255 pages ++ ns)) (maps_use slot maps (drop 255 pages) blocks (rest_parts maps pages m blocks are))

-- no rule on them is broken
pub maps_keep : (slot : ℕ) (maps pages : List ℕ) (blocks : List (List ℕ)) → AreMaps maps pages blocks → are_data (length blocks) pages ≡ true
    → are_different (maps ++ pages) ≡ true → first_broken [] (maps_rules 33 blocks slot (length pages) maps) ≡ None
maps_keep slot maps pages blocks are data_ different =
    none_broken [] (maps_rules 33 blocks slot (length pages) maps) (maps_pass slot maps pages blocks are data_)
    (ap are_different (maps_use slot maps pages blocks are) ∙ woven_different maps pages different)

-- ---- pages

-- each of these pages has its part of the bytes
abbrev pub ArePages : (pages bytes : List ℕ) → List (List ℕ) → Type 0
ArePages pages bytes blocks = (j : ℕ) → j < length pages → block_at blocks (get_or pages j 0) ≡ filled 512 (part 512 bytes j)

next_pages : (p : ℕ) (pages bytes : List ℕ) (blocks : List (List ℕ)) → ArePages (p ∷ pages) bytes blocks → ArePages pages (drop 512 bytes) blocks
next_pages p pages bytes blocks are j h =
    are (suc j) (omega arith)
    ∙ ap (λ n. filled 512 (take 512 (drop n bytes))) (let more : 512 * suc j ≡ 512 + 512 * j = omega arith in more)
    ∙ ap (λ bs. filled 512 (take 512 bs)) (sym (drop-drop (512 * j) 512 bytes))

filled_all : (size : ℕ) (bytes : List ℕ) → size ≤ length bytes → filled size bytes ≡ bytes
unfolding filled
filled_all size bytes h = (let none : size - length bytes ≡ 0 = omega arith in ap (λ n. bytes ++ replicate n 0) none ∙ append-nil bytes)

starts_filled : (bytes back : List ℕ) → take (length bytes) (filled 512 bytes ++ back) ≡ bytes
unfolding filled
starts_filled bytes back =
    ap (take (length bytes)) (append_assoc bytes (replicate (512 - length bytes) 0) back)
    ∙ take_at bytes (replicate (512 - length bytes) 0 ++ back) (length bytes) refl

first_page : (block bytes back : List ℕ) → block ≡ filled 512 (take 512 bytes) → (length bytes ≤ 512)
    → take (length bytes) (block ++ back) ≡ bytes
first_page block bytes back is few =
    ap (λ b. take (length bytes) (b ++ back)) (is ∙ ap (filled 512) (take_all 512 bytes few)) ∙ starts_filled bytes back

more_pages : (block bytes back : List ℕ) → block ≡ filled 512 (take 512 bytes) → 512 < length bytes
    → take (length (drop 512 bytes)) back ≡ drop 512 bytes → take (length bytes) (block ++ back) ≡ bytes
more_pages block bytes back is many later =
    let full : length (take 512 bytes) ≡ min 512 (length bytes) = length-take 512 bytes in
    let size : length (drop 512 bytes) ≡ length bytes - 512 = length-drop 512 bytes in
    let sum : length bytes ≡ length (take 512 bytes) + length (drop 512 bytes) = omega arith in
    ap (λ b. take (length bytes) (b ++ back)) (is ∙ filled_all 512 (take 512 bytes) (omega arith))
    ∙ ap (λ n. take n (take 512 bytes ++ back)) sum
    ∙ take-append-add (take 512 bytes) back (length (drop 512 bytes))
    ∙ ap (λ bs. take 512 bytes ++ bs) later
    ∙ take-append-drop 512 bytes

pub pages_hold : (pages bytes : List ℕ) (blocks : List (List ℕ)) → ArePages pages bytes blocks → length bytes ≤ 512 * length pages
    → take (length bytes) (flat_map (block_at blocks) pages) ≡ bytes
pages_hold [] bytes blocks are h = (let none : bytes ≡ [] = nil_from_length bytes (omega arith) in rw none refl)
pages_hold (p ∷ pages) bytes blocks are h =
    let size : length (drop 512 bytes) ≡ length bytes - 512 = length-drop 512 bytes in
    let later : take (length (drop 512 bytes)) (flat_map (block_at blocks) pages) ≡ drop 512 bytes =
    pages_hold pages (drop 512 bytes) blocks (next_pages p pages bytes blocks are) (omega arith) in
    elim (cases_lt 512 (length bytes)) [
      | inl many ↦ more_pages (block_at blocks p) bytes (flat_map (block_at blocks) pages) (are 0 (omega arith)) many later
      | inr few ↦ first_page (block_at blocks p) bytes (flat_map (block_at blocks) pages) (are 0 (omega arith)) few
    ]

-- ---- what was put

pub put_maps : (file : StoredFile) (bytes : List ℕ) (many : ℕ) (old new : List (List ℕ))
    → ArePut (used_in (Some file)) (content_of file bytes) many old new → length (used_in (Some file)) ≤ many
    → AreMaps file.record_.maps file.pages new
put_maps file bytes many old new put all j h =
    let size : length (file.record_.maps ++ file.pages) ≡ length file.record_.maps + length file.pages =
    length-append file.record_.maps file.pages in
    ap (block_at new) (sym (get_or_append_left file.record_.maps file.pages 0 j h))
    ∙ put.there j (omega arith)
    ∙ ap (λ b. if b then map_block (part 255 file.pages j) else filled 512 (part 512 bytes (j - length file.record_.maps)))
    (lt-ltb j (length file.record_.maps) h)

pub put_pages : (file : StoredFile) (bytes : List ℕ) (many : ℕ) (old new : List (List ℕ))
    → ArePut (used_in (Some file)) (content_of file bytes) many old new → length (used_in (Some file)) ≤ many
    → ArePages file.pages bytes new
put_pages file bytes many old new put all j h =
    let size : length (file.record_.maps ++ file.pages) ≡ length file.record_.maps + length file.pages =
    length-append file.record_.maps file.pages in
    let index : length file.record_.maps + j - length file.record_.maps ≡ j = omega arith in
    ap (block_at new) (sym (get_or-append-add file.record_.maps file.pages j 0))
    ∙ put.there (length file.record_.maps + j) (omega arith)
    ∙ ap
    (λ b. if b then map_block (part 255 file.pages (length file.record_.maps + j))
    else filled 512 (part 512 bytes (length file.record_.maps + j - length file.record_.maps)))
    (le-ltb (length file.record_.maps + j) (length file.record_.maps) (omega arith))
    ∙ ap (λ k. filled 512 (part 512 bytes k)) index
