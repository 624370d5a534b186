-- The numbers of maps and pages of a file that is kept.
use Rattle.std.proofs.Common.{◌≡◌, inl, inr, ℕ, ◌+◌, ◌-◌, ◌*◌, ◌/◌, ◌≤◌, ◌<◌, true, length, get_or, Some, ap, sym, subst, ◌∙◌, arith}
use Rattle.std.specs.Prelude.{◌&&◌, ◌==◌, nat_le, nat_lt, if◌then◌else◌}
use Rattle.std.proofs.lemmas.Bool.{eqb-true, leb-true, leb-false, ltb-true, and_parts, and_from, cases_Bool}
use Rattle.std.proofs.lemmas.List.Folds.{list_all-append}
use Rattle.edi_calls.specs.State.{is_title, most_bytes, pages_of, blocks_of}
use Rattle.edi_image.specs.Entries.{is_data}
use Rattle.edi_image.specs.Stored.{StoredFile, are_data, is_record, is_stored}
use Rattle.edi_catalog.specs.Plan.{used_in}
use Rattle.edi_catalog.proofs.FreeBlocks.{length-used_in}
use Rattle.edi_catalog.proofs.Unchanged.{all_in}
use Rattle.edi_catalog.proofs.PutBlocks.{in_at}

pub record IsShaped (count : ℕ) (file : StoredFile) : Type 0 where
  pub titled : is_title file.record_.title ≡ true
  pub short : file.record_.length ≤ most_bytes
  pub maps_data : are_data count file.record_.maps ≡ true
  pub maps_many : length file.record_.maps ≡ (if nat_le (pages_of file.record_.length) 255 then 1 else 2)
  pub pages_data : are_data count file.pages ≡ true
  pub pages_many : length file.pages ≡ pages_of file.record_.length

pub shape_of : (count : ℕ) (file : StoredFile) → is_stored count (Some file) ≡ true → IsShaped count file
shape_of count file h =
    let pages = and_parts (is_record count file.record_ && are_data count file.pages) (length file.pages == pages_of file.record_.length) h in
    let whole = and_parts (is_record count file.record_) (are_data count file.pages) pages.0 in
    let maps = and_parts (is_title file.record_.title && nat_le file.record_.length most_bytes && are_data count file.record_.maps)
    (length file.record_.maps == (if nat_le (pages_of file.record_.length) 255 then 1 else 2)) whole.0 in
    let data_ = and_parts (is_title file.record_.title && nat_le file.record_.length most_bytes) (are_data count file.record_.maps) maps.0 in
    let title = and_parts (is_title file.record_.title) (nat_le file.record_.length most_bytes) data_.0 in
    record {
      titled = title.0;
      short = leb-true file.record_.length most_bytes title.1;
      maps_data = data_.1;
      maps_many = eqb-true (length file.record_.maps) _ maps.1;
      pages_data = whole.1;
      pages_many = eqb-true (length file.pages) _ pages.1;
    }

-- the maps have room for the page numbers, and the one before the last has no more room
pub maps_enough : (count : ℕ) (file : StoredFile) → IsShaped count file
    → (length file.pages ≤ 255 * length file.record_.maps) × (255 * (length file.record_.maps - 1) ≤ length file.pages)
maps_enough count file shape =
    let short : file.record_.length ≤ 261120 = shape.short in
    let pages : length file.pages ≡ (file.record_.length + 511) / 512 = shape.pages_many in
    elim (cases_Bool (nat_le (pages_of file.record_.length) 255)) [
      | inl few ↦
          let one : length file.record_.maps ≡ 1 = shape.maps_many ∙ ap (λ b. if b then 1 else 2) few in
          let less : (file.record_.length + 511) / 512 ≤ 255 = leb-true _ 255 few in
          (omega arith, omega arith)
      | inr many ↦
          let two : length file.record_.maps ≡ 2 = shape.maps_many ∙ ap (λ b. if b then 1 else 2) many in
          let more : 255 < (file.record_.length + 511) / 512 = leb-false _ 255 many in
          (omega arith, omega arith)
    ]

-- the pages have room for the bytes, and those before the last have not
pub pages_enough : (count : ℕ) (file : StoredFile) → IsShaped count file
    → (file.record_.length ≤ 512 * length file.pages) × (512 * (length file.pages - 1) ≤ file.record_.length)
pages_enough count file shape =
    let pages : length file.pages ≡ (file.record_.length + 511) / 512 = shape.pages_many in
    (omega arith, omega arith)

pub length_used : (count : ℕ) (file : StoredFile) → is_stored count (Some file) ≡ true
    → length (used_in (Some file)) ≡ blocks_of file.record_.length
length_used count file h = length-used_in count (Some file) h

pub used_data : (count : ℕ) (file : StoredFile) → IsShaped count file → are_data count (used_in (Some file)) ≡ true
used_data count file shape =
    list_all-append (is_data 33 count) file.record_.maps file.pages
    ∙ and_from (are_data count file.record_.maps) (are_data count file.pages) shape.maps_data shape.pages_data

used_parts : (count : ℕ) (file : StoredFile) (i : ℕ) → is_stored count (Some file) ≡ true → i < length (used_in (Some file))
    → (nat_le 33 (get_or (used_in (Some file)) i 0) ≡ true) × (nat_lt (get_or (used_in (Some file)) i 0) count ≡ true)
used_parts count file i h less =
    let data_ : is_data 33 count (get_or (used_in (Some file)) i 0) ≡ true =
    all_in (is_data 33 count) (used_in (Some file)) (get_or (used_in (Some file)) i 0) (used_data count file (shape_of count file h))
    (in_at (used_in (Some file)) i less) in
    and_parts (nat_le 33 (get_or (used_in (Some file)) i 0)) _ data_

pub used_below : (count : ℕ) (file : StoredFile) (i : ℕ) → is_stored count (Some file) ≡ true → i < length (used_in (Some file))
    → get_or (used_in (Some file)) i 0 < count
used_below count file i h less = ltb-true _ count (used_parts count file i h less).1

pub used_behind : (count : ℕ) (file : StoredFile) (i : ℕ) → is_stored count (Some file) ≡ true → i < length (used_in (Some file))
    → 33 ≤ get_or (used_in (Some file)) i 0
used_behind count file i h less = leb-true 33 _ (used_parts count file i h less).0

-- a block's place in a file of so many bytes
pub index_within : (count : ℕ) (file : StoredFile) (size many i : ℕ) → is_stored count (Some file) ≡ true → size ≡ file.record_.length
    → many ≡ blocks_of size → i < many → i < length (used_in (Some file))
index_within count file size many i h e is less =
    subst (λ n. i < n) (is ∙ ap blocks_of e ∙ sym (length_used count file h)) less

pub all_within : (count : ℕ) (file : StoredFile) (size many i : ℕ) → is_stored count (Some file) ≡ true → size ≡ file.record_.length
    → many ≡ blocks_of size → many ≤ i → i ≤ many → length (used_in (Some file)) ≡ i
all_within count file size many i h e is past within =
    let all : length (used_in (Some file)) ≡ many = length_used count file h ∙ ap blocks_of (sym e) ∙ sym is in
    omega arith
