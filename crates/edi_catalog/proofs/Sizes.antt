-- Each block has 512 bytes, so a file has as many bytes as its entry says.
use Rattle.std.proofs.Common.{◌≡◌, ℕ, zero, suc, ◌+◌, ◌*◌, ◌<◌, Bool, true, List, [], ◌∷◌, length, get_or, Option, Some, None, refl, sym, ap, subst, ◌∙◌}
use Rattle.std.proofs.Common.{arith, length-append}
use Rattle.std.specs.Prelude.{◌&&◌, ◌==◌, map, flat_map, nat_le, nat_lt, slice_index, slice_index_or, IfSome, min}
use Rattle.std.specs.List.{list_all}
use Rattle.std.specs.Option.{option_map, option_and_then}
use borrow.Author.Tests.{ltb-true}
use Rattle.std.proofs.lemmas.Bool.{eqb-true}
use Rattle.std.proofs.lemmas.List.{length-take}
use Rattle.edi_host.specs.Blocks.{is_block}
use Rattle.edi_calls.specs.State.{blocks_of, pages_of}
use Rattle.edi_calls.specs.State as calls
use Rattle.edi_image.specs.Entries.{block_at, is_data}
use Rattle.edi_image.specs.Image.{slots_of}
use Rattle.edi_image.specs.Stored.{StoredFile, are_data, is_record, is_stored, blocks_taken, bytes_in, IsKeptOf}
use Rattle.edi_catalog.specs.Files.{file_titled, find_index}
use Rattle.edi_image.proofs.Spelled.{both}
use Rattle.edi_image.proofs.KeptFiles.{file_of, slots_are}

-- what is known where an option has something
pub some_fact : {A : Type 0} (P : A → Type 0) (o : Option A) (x : A) → o ≡ Some x → IfSome o P → P x
some_fact P None x e h = absurd (let no : None ≡ Some x = e in cc)
some_fact P (Some y) x e h = (let is : Some y ≡ Some x = e in let same : y ≡ x = cc in subst P same h)

-- what passes a test everywhere passes it at a place
all_at : {X : Type 0} (test : X → Bool) (xs : List X) (i : ℕ) (other : X) → list_all test xs ≡ true → i < length xs → test (get_or xs i other) ≡ true
all_at test [] i other all within = absurd (omega arith)
all_at test (x ∷ xs) zero other all within = (both (test x) (list_all test xs) all).0
all_at test (x ∷ xs) (suc i) other all within = all_at test xs i other (both (test x) (list_all test xs) all).1 (omega arith)

block_sized : (blocks : List (List ℕ)) (n : ℕ) → list_all is_block blocks ≡ true → n < length blocks → length (block_at blocks n) ≡ 512
block_sized blocks n all within = eqb-true (length (block_at blocks n)) 512 (all_at is_block blocks n [] all within)

data_below : (count : ℕ) (pages : List ℕ) (i : ℕ) → are_data count pages ≡ true → i < length pages → slice_index pages i < count
data_below count pages i all within =
    let page = slice_index pages i in
    ltb-true page count (both (nat_le 33 page) (nat_lt page count) (all_at (is_data 33 count) pages i 0 all within)).1

-- each page of a file has 512 bytes
pub page_sized : (blocks : List (List ℕ)) (count : ℕ) (pages : List ℕ) (i : ℕ) → list_all is_block blocks ≡ true → length blocks ≡ count
    → are_data count pages ≡ true → i < length pages → length (block_at blocks (slice_index pages i)) ≡ 512
page_sized blocks count pages i all many data_ within =
    let below : slice_index pages i < count = data_below count pages i data_ within in
    block_sized blocks (slice_index pages i) all (omega (arith, below, many))

pages_sized : (f : ℕ → List ℕ) (pages : List ℕ) → ((i : ℕ) → i < length pages → length (f (slice_index pages i)) ≡ 512)
    → length (flat_map f pages) ≡ 512 * length pages
pages_sized f [] whole = refl
pages_sized f (page ∷ pages) whole =
    let first : length (f page) ≡ 512 = whole 0 (omega arith) in
    let rest : length (flat_map f pages) ≡ 512 * length pages = pages_sized f pages (λ i h. whole (suc i) (omega arith)) in
    omega (arith, first, rest, length-append (f page) (flat_map f pages))

-- the file of a title is kept as every other
pub kept_at : (count : ℕ) (files : List (Option StoredFile)) (index : ℕ) → list_all (is_stored count) files ≡ true
    → is_stored count (slice_index_or files index None) ≡ true
kept_at count [] index all = refl
kept_at count (file ∷ files) zero all = (both (is_stored count file) (list_all (is_stored count) files) all).0
kept_at count (file ∷ files) (suc index) all = kept_at count files index (both (is_stored count file) (list_all (is_stored count) files) all).1

pub titled_kept : (count : ℕ) (title : List ℕ) (files : List (Option StoredFile)) → list_all (is_stored count) files ≡ true
    → is_stored count (file_titled title files) ≡ true
titled_kept count title files all = go (find_index title files) where
  go : (index : Option ℕ) → is_stored count (option_and_then (λ k. slice_index_or files k None) index) ≡ true
  go None = refl
  go (Some k) = kept_at count files k all

pub titled_stored : (count : ℕ) (title : List ℕ) (files : List (Option StoredFile)) (file : StoredFile) → list_all (is_stored count) files ≡ true
    → file_titled title files ≡ Some file → is_stored count (Some file) ≡ true
titled_stored count title files file all is = subst (λ o. is_stored count o ≡ true) is (titled_kept count title files all)

-- what is kept of a file: its pages lie on the drive, and they are as many as its length wants
pub kept_pages : (count : ℕ) (file : StoredFile) → is_stored count (Some file) ≡ true
    → (are_data count file.pages ≡ true) × (length file.pages ≡ pages_of file.record_.length)
kept_pages count file kept =
    let parts = both (is_record count file.record_ && are_data count file.pages) (length file.pages == pages_of file.record_.length) kept in (
      (both (is_record count file.record_) (are_data count file.pages) parts.0).1,
      eqb-true (length file.pages) (pages_of file.record_.length) parts.1,
    )

pub bytes_sized : (blocks : List (List ℕ)) (count : ℕ) (file : StoredFile) → list_all is_block blocks ≡ true → length blocks ≡ count
    → is_stored count (Some file) ≡ true → length (bytes_in blocks file) ≡ file.record_.length
bytes_sized blocks count file all many kept =
    let fits = kept_pages count file kept in
    let long : length (flat_map (block_at blocks) file.pages) ≡ 512 * length file.pages =
    pages_sized (block_at blocks) file.pages (λ i h. page_sized blocks count file.pages i all many fits.0 h) in
    let cut : length (bytes_in blocks file) ≡ min file.record_.length (length (flat_map (block_at blocks) file.pages)) =
    length-take file.record_.length (flat_map (block_at blocks) file.pages) in
    enough file.record_.length (length file.pages) (length (flat_map (block_at blocks) file.pages)) (length (bytes_in blocks file)) fits.1 long cut
  where
    enough : (n pages long cut : ℕ) → pages ≡ pages_of n → long ≡ 512 * pages → cut ≡ min n long → cut ≡ n
    enough n pages long cut p l c = omega (arith, p, l, c)

-- the files of an image take as many blocks as those that are kept
taken_kept : (blocks : List (List ℕ)) (count : ℕ) (files : List (Option StoredFile)) → list_all is_block blocks ≡ true → length blocks ≡ count
    → list_all (is_stored count) files ≡ true → calls.blocks_taken (map (option_map (file_of blocks)) files) ≡ blocks_taken files
taken_kept blocks count [] all many kept = refl
taken_kept blocks count (None ∷ files) all many kept = ap (λ n. 0 + n) (taken_kept blocks count files all many kept)
taken_kept blocks count (Some file ∷ files) all many kept =
    let parts = both (is_stored count (Some file)) (list_all (is_stored count) files) kept in
    ap (λ n. blocks_of n + calls.blocks_taken (map (option_map (file_of blocks)) files)) (bytes_sized blocks count file all many parts.0)
    ∙ ap (λ n. blocks_of file.record_.length + n) (taken_kept blocks count files all many parts.1)

-- the slots of an image are those that are kept
pub slots_kept : (blocks : List (List ℕ)) (files : List (Option StoredFile)) → IsKeptOf blocks files
    → slots_of blocks ≡ map (option_map (file_of blocks)) files
slots_kept blocks files kept = slots_are blocks ∙ ap (map (option_map (file_of blocks))) (sym kept.slots)

pub taken_same : (blocks : List (List ℕ)) (count : ℕ) (files : List (Option StoredFile)) → list_all is_block blocks ≡ true → length blocks ≡ count
    → list_all (is_stored count) files ≡ true → IsKeptOf blocks files → calls.blocks_taken (slots_of blocks) ≡ blocks_taken files
taken_same blocks count files all many stored kept = ap calls.blocks_taken (slots_kept blocks files kept) ∙ taken_kept blocks count files all many stored
