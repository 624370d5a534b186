-- A new file in free blocks.
use Rattle.std.proofs.Common.{◌≡◌, ℕ, ◌+◌, ◌-◌, ◌≤◌, Bool, true, false, List, [], ◌∷◌, ◌++◌, length, take, drop, Option, Some, refl, ap, sym, subst, ◌∙◌}
use Rattle.std.proofs.Common.{arith, length-drop, take-append-drop}
use Rattle.std.specs.Prelude.{◌&&◌, ◌==◌, nat_le, if◌then◌else◌, slice_index, slice_get}
use Rattle.std.proofs.lemmas.Bool.{eq-eqb, le-leb, and_parts, and_from}
use Rattle.std.proofs.lemmas.List.{length-take-le}
use Rattle.std.proofs.lemmas.List.Folds.{list_all-append}
use Rattle.edi_calls.specs.State.{is_title, most_bytes, pages_of, blocks_of}
use Rattle.edi_calls.specs.declared.kinds.FileKind.{FileKind}
use Rattle.edi_image.specs.Records.{maps_of}
use Rattle.edi_image.specs.Entries.{is_data}
use Rattle.edi_image.specs.Stored.{StoredFile, are_data, is_record, is_stored}
use Rattle.edi_catalog.specs.Plan.{used_in, AreFree}

-- one or two maps
maps_made : (maps : List ℕ) (few : Bool) → length maps ≡ (if few then 1 else 2) → maps_of (slice_index maps 0) (slice_get maps 1) ≡ maps
maps_made [] true e = absurd (omega arith)
maps_made [] false e = absurd (omega arith)
maps_made (a ∷ []) true e = refl
maps_made (a ∷ []) false e = absurd (omega arith)
maps_made (a ∷ b ∷ []) true e = absurd (omega arith)
maps_made (a ∷ b ∷ []) false e = refl
maps_made (a ∷ b ∷ d ∷ maps) true e = absurd (omega arith)
maps_made (a ∷ b ∷ d ∷ maps) false e = absurd (omega arith)

-- the number of pages behind the maps, whatever their number
parts_of : (size : ℕ) → blocks_of size - pages_of size ≡ (if nat_le (pages_of size) 255 then 1 else 2)
parts_of size = go (nat_le (pages_of size) 255) where
  go : (few : Bool) → pages_of size + (if few then 1 else 2) - pages_of size ≡ (if few then 1 else 2)
  go true = omega arith
  go false = omega arith

pub pages_fit : (size : ℕ) → pages_of size ≤ blocks_of size
pages_fit size = go (nat_le (pages_of size) 255) where
  go : (few : Bool) → pages_of size ≤ pages_of size + (if few then 1 else 2)
  go few = omega arith

abbrev pub new_file : (title : List ℕ) → FileKind → (maps pages : List ℕ) → (size : ℕ) → StoredFile
new_file title kind maps pages size = record {
  record_ = record { title = title; kind = kind; protected = false; maps = maps; length = size };
  pages = pages;
}

-- the blocks are the maps and the pages of the file
pub record IsLaid (count : ℕ) (files : List (Option StoredFile)) (file : StoredFile) : Type 0 where
  pub kept : is_stored count (Some file) ≡ true
  pub free : AreFree count files (used_in (Some file))

every : (a b c d : Bool) → a ≡ true → b ≡ true → c ≡ true → d ≡ true → (a && b && c && d) ≡ true
every a b c d ea eb ec ed = and_from (a && b && c) d (and_from (a && b) c (and_from a b ea eb) ec) ed

pub laid_fits : (count : ℕ) (files : List (Option StoredFile)) (title : List ℕ) (kind : FileKind) (size k first : ℕ) (second : Option ℕ)
    (blocks maps numbers : List ℕ) → AreFree count files blocks → length blocks ≡ blocks_of size → k ≡ blocks_of size - pages_of size
    → maps ≡ take k blocks → numbers ≡ drop k blocks → is_title title ≡ true → size ≤ most_bytes → first ≡ slice_index maps 0
    → second ≡ slice_get maps 1 → IsLaid count files (new_file title kind (maps_of first second) numbers size)
laid_fits count files title kind size k first second blocks maps numbers free many at m ns titled short f s =
    let fits : pages_of size ≤ blocks_of size = pages_fit size in
    let size_maps : length maps ≡ blocks_of size - pages_of size =
    ap length m ∙ length-take-le k blocks (omega arith) ∙ at in
    let few : length maps ≡ (if nat_le (pages_of size) 255 then 1 else 2) = size_maps ∙ parts_of size in
    let made : maps_of first second ≡ maps =
    ap (λ n. maps_of n second) f ∙ ap (maps_of (slice_index maps 0)) s ∙ maps_made maps (nat_le (pages_of size) 255) few in
    let size_pages : length numbers ≡ pages_of size = ap length ns ∙ length-drop k blocks ∙ omega arith in
    let whole : maps ++ numbers ≡ blocks =
    ap (λ xs. xs ++ numbers) m ∙ ap (λ xs. take k blocks ++ xs) ns ∙ take-append-drop k blocks in
    let data_ : (are_data count maps ≡ true) × (are_data count numbers ≡ true) =
    and_parts (are_data count maps) (are_data count numbers)
    (sym (list_all-append (is_data 33 count) maps numbers) ∙ ap (are_data count) whole ∙ free.on_drive) in
    let record_fits : is_record count (record { title = title; kind = kind; protected = false; maps = maps; length = size }) ≡ true =
    every (is_title title) (nat_le size most_bytes) (are_data count maps) (length maps == (if nat_le (pages_of size) 255 then 1 else 2))
    titled (le-leb size most_bytes short) data_.0 (eq-eqb _ _ few) in
    subst (λ ms. IsLaid count files (new_file title kind ms numbers size)) (sym made)
    (record {
      kept =
          and_from _ (length numbers == pages_of size)
          (and_from (is_record count (record { title = title; kind = kind; protected = false; maps = maps; length = size })) (are_data count numbers)
          record_fits data_.1)
          (eq-eqb (length numbers) (pages_of size) size_pages);
      free = subst (AreFree count files) (sym whole) free;
    })
