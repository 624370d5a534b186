-- Places of files in their slots, and the blocks that they take.
use Rattle.std.proofs.Common.{◌≡◌, ℕ, zero, suc, ◌≤◌, ◌<◌, true, false, List, [], ◌∷◌, length, Option, Some, None, refl, sym, ap, subst, ◌∙◌, arith}
use Rattle.std.specs.Prelude.{◌&&◌, ◌==◌, nat_le, nat_lt, if◌then◌else◌, slice_index, slice_index_or, IfSome, Ok}
use Rattle.std.specs.List.{list_all}
use Rattle.std.specs.Option.{option_map}
use borrow.Author.Tests.{ltb-true}
use Rattle.std.proofs.lemmas.Bool.{eqb-true, leb-true}
use Rattle.edi_calls.specs.State.{is_title, most_bytes, pages_of}
use Rattle.edi_image.specs.Stored.{StoredFile, is_titled, is_record, is_stored, are_data, is_sized}
use Rattle.edi_catalog.specs.Files.{find_index, file_titled, PageIs}
use Rattle.edi_image.specs.Entries.{block_at, is_data}
use Rattle.edi_image.proofs.Spelled.{both}
use Rattle.edi_catalog.proofs.Sizes.{kept_pages, titled_kept}

-- the index of a slot that passes, where none before it does
pub index_at : (title : List ℕ) (files : List (Option StoredFile)) (index : ℕ) (file : Option StoredFile)
    → ((k : ℕ) → k < index → is_titled title (slice_index_or files k None) ≡ false) → index < length files
    → file ≡ slice_index_or files index file → is_titled title file ≡ true → find_index title files ≡ Some index
index_at title [] index file before within is here = absurd (omega arith)
index_at title (first ∷ files) zero file before within is here =
    ap (λ b. if b then Some 0 else option_map suc (find_index title files)) (ap (is_titled title) (sym is) ∙ here)
index_at title (first ∷ files) (suc index) file before within is here =
    let fails : is_titled title first ≡ false = before 0 (omega arith) in
    let later : find_index title files ≡ Some index =
    index_at title files index file (λ k h. before (suc k) (omega arith)) (omega arith) is here in
    ap (λ b. if b then Some 0 else option_map suc (find_index title files)) fails ∙ ap (option_map suc) later

-- no index, where no slot passes
pub index_none : (title : List ℕ) (files : List (Option StoredFile))
    → ((k : ℕ) → k < length files → is_titled title (slice_index_or files k None) ≡ false) → find_index title files ≡ None
index_none title [] all = refl
index_none title (file ∷ files) all =
    let first : is_titled title file ≡ false = all 0 (omega arith) in
    let later : find_index title files ≡ None = index_none title files (λ k h. all (suc k) (omega arith)) in
    ap (λ b. if b then Some 0 else option_map suc (find_index title files)) first ∙ ap (option_map suc) later

-- files that are kept are not too long
sized : (count : ℕ) (file : Option StoredFile) → is_stored count file ≡ true → is_sized file ≡ true
sized count None h = refl
sized count (Some file) h =
    let pages = both (is_record count file.record_ && are_data count file.pages) (length file.pages == pages_of file.record_.length) h in
    let whole = both (is_record count file.record_) (are_data count file.pages) pages.0 in
    let maps = both (is_title file.record_.title && nat_le file.record_.length most_bytes && are_data count file.record_.maps) _ whole.0 in
    let data_ = both (is_title file.record_.title && nat_le file.record_.length most_bytes) (are_data count file.record_.maps) maps.0 in
    (both (is_title file.record_.title) (nat_le file.record_.length most_bytes) data_.0).1

pub all_sized : (count : ℕ) (files : List (Option StoredFile)) → list_all (is_stored count) files ≡ true → list_all is_sized files ≡ true
all_sized count [] h = refl
all_sized count (file ∷ files) h =
    let parts = both (is_stored count file) (list_all (is_stored count) files) h in
    ap (λ b. b && list_all is_sized files) (sized count file parts.0) ∙ all_sized count files parts.1

-- ---- the pages of a file

pub data_at : (count : ℕ) (pages : List ℕ) (i : ℕ) → i < length pages → are_data count pages ≡ true
    → (33 ≤ slice_index pages i) × (slice_index pages i < count)
data_at count [] i h d = absurd (omega arith)
data_at count (page ∷ pages) zero h d =
    let fits = both (is_data 33 count page) (are_data count pages) d in
    let below = both (nat_le 33 page) (nat_lt page count) fits.0 in
    (leb-true 33 page below.0, ltb-true page count below.1)
data_at count (page ∷ pages) (suc i) h d = data_at count pages i (omega arith) (both (is_data 33 count page) (are_data count pages) d).1

-- the number of a page, looked up in the files as they are kept
pub page_kept : (title : List ℕ) (i page : ℕ) (fs files : List (Option StoredFile)) → fs ≡ files
    → Some page ≡ option_map (λ (file : StoredFile). slice_index file.pages i) (file_titled title fs)
    → Some page ≡ option_map (λ (file : StoredFile). slice_index file.pages i) (file_titled title files)
page_kept title i page fs files same is =
    is ∙ ap (λ f. option_map (λ (file : StoredFile). slice_index file.pages i) (file_titled title f)) same

-- it lies behind the catalogue and on the drive: a file has as many page numbers as pages
pub page_stands : (count : ℕ) (title : List ℕ) (files : List (Option StoredFile)) (i page n : ℕ) → list_all (is_stored count) files ≡ true
    → Some page ≡ option_map (λ (file : StoredFile). slice_index file.pages i) (file_titled title files) → n ≡ page
    → IfSome (file_titled title files) (λ file. i < pages_of file.record_.length) → (33 ≤ n) × (n < count)
page_stands count title files i page n all is same inside = go (file_titled title files) (titled_kept count title files all) is inside where
  go : (o : Option StoredFile) → is_stored count o ≡ true → Some page ≡ option_map (λ (file : StoredFile). slice_index file.pages i) o
      → IfSome o (λ file. i < pages_of file.record_.length) → (33 ≤ n) × (n < count)
  go None kept is inside = absurd (let no_page : Some page ≡ None = is in cc)
  go (Some file) kept is inside =
      let pages = kept_pages count file kept in
      let here : Some page ≡ Some (slice_index file.pages i) = is in
      let it : page ≡ slice_index file.pages i = cc in
      subst (λ k. (33 ≤ k) × (k < count)) (sym (same ∙ it)) (data_at count file.pages i (subst (λ m. i < m) (sym pages.1) inside) pages.0)

pub page_is : {X : Type 0} (E : Type 0) (x : X) (o : Option StoredFile) (i page : ℕ) (bytes : List ℕ) (blocks : List (List ℕ))
    → Some page ≡ option_map (λ (file : StoredFile). slice_index file.pages i) o → block_at blocks page ≡ bytes
    → PageIs {E = E} (Ok x) o i bytes blocks
page_is E x None i page bytes blocks is here = absurd (let no_page : Some page ≡ None = is in cc)
page_is E x (Some file) i page bytes blocks is here =
    let same0 : Some page ≡ Some (slice_index file.pages i) = is in
    let same : slice_index file.pages i ≡ page = cc in
    ap (block_at blocks) same ∙ here

-- a file has as many page numbers as pages
pub page_inside : (count : ℕ) (title : List ℕ) (files : List (Option StoredFile)) (i : ℕ) → list_all (is_stored count) files ≡ true
    → IfSome (file_titled title files) (λ file. i < pages_of file.record_.length)
    → IfSome (file_titled title files) (λ file. i < length file.pages)
page_inside count title files i all = go (file_titled title files) (titled_kept count title files all) where
  go : (o : Option StoredFile) → is_stored count o ≡ true → IfSome o (λ file. i < pages_of file.record_.length)
      → IfSome o (λ file. i < length file.pages)
  go None kept inside = tt
  go (Some file) kept inside =
      let parts = both (is_record count file.record_ && are_data count file.pages) (length file.pages == pages_of file.record_.length) kept in
      subst (λ n. i < n) (sym (eqb-true (length file.pages) (pages_of file.record_.length) parts.1)) inside
