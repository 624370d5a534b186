-- The rules on an image of version 1, slot by slot.
use Rattle.std.proofs.Common.{◌≡◌, ℕ, ◌≤◌, Bool, true, false, List, [], ◌∷◌, ◌++◌, length, take, min, refl, ap, sym, ◌∙◌}
use Rattle.std.proofs.Common.{arith, append_assoc, append-nil}
use Rattle.std.specs.Prelude.{◌&&◌, ◌==◌, nat_le, map}
use Rattle.std.specs.List.{list_all, list_any}
use Rattle.std.specs.Str.{bytes_eq}
use Rattle.std.proofs.lemmas.Bool.{eqb-true, leb-true, and_parts}
use Rattle.edi_calls.specs.State.{is_title, without_blanks, pages_of}
use Rattle.edi_image.specs.Records.{FileRecord}
use Rattle.edi_image.specs.Rules.{is_in, first_broken, page_rules}
use Rattle.edi_image.specs.Entries.{short_at, block_at, are_zeros, is_data}
use Rattle.edi_image.specs.migrate.OldEntries.{is_old_entry, old_fields_fit, old_record_in, old_entry_says, old_most_bytes}
use Rattle.edi_image.specs.Image.{map_rules, maps_rules, file_rules, numbers_in, numbers_of}
use Rattle.edi_image.specs.migrate.OldImage.{old_entries_from}
use Rattle.edi_image.specs.migrate.OldFiles.{TakesMap, is_old_fit, is_old_record, old_said_at}
use Rattle.edi_image.proofs.MapRules.{used_by-page_rules}
use Rattle.edi_image.proofs.Versions.{Tell, says_fit}

-- ---- what is known of a record

pub record IsOldShaped (count : ℕ) (r : FileRecord) : Type 0 where
  pub title : is_title r.title ≡ true
  pub short : r.length ≤ 130560
  pub data_ : list_all (is_data 5 count) r.maps ≡ true
  pub one : length r.maps ≡ 1

pub old_shape : (count : ℕ) (r : FileRecord) → is_old_record count r ≡ true → IsOldShaped count r
old_shape count r h =
    let one = and_parts (is_title r.title && nat_le r.length old_most_bytes && list_all (is_data 5 count) r.maps) (length r.maps == 1) h in
    let data_ = and_parts (is_title r.title && nat_le r.length old_most_bytes) (list_all (is_data 5 count) r.maps) one.0 in
    let size = and_parts (is_title r.title) (nat_le r.length old_most_bytes) data_.0 in
    record { title = size.0; short = leb-true r.length old_most_bytes size.1; data_ = data_.1; one = eqb-true (length r.maps) 1 one.1 }

every : (a b c d : Bool) → a ≡ true → b ≡ true → c ≡ true → d ≡ true → (a && b && c && d) ≡ true
every a b c d ea eb ec ed = rw (ea, eb, ec, ed) refl

old_record_fits : (count : ℕ) (bytes : List ℕ) → is_old_entry count bytes ≡ true → is_old_record count (old_record_in bytes) ≡ true
old_record_fits count bytes h =
    let title : (is_title (without_blanks (take 12 bytes)) ≡ true) × (old_fields_fit count bytes ≡ true) = and_parts _ _ h in
    let map_ = and_parts _ _ (and_parts _ _ title.1).0 in
    let size = and_parts _ _ map_.0 in
    every _ _ _ _ title.0 size.1 (ap (λ b. b && true) map_.1) refl

pub old_entry_fits : (count : ℕ) (bytes : List ℕ) → is_old_fit count (old_entry_says count bytes) ≡ true
old_entry_fits count bytes =
    says_fit (is_old_fit count) refl refl (are_zeros bytes) (is_old_entry count bytes) (old_record_in bytes) (λ h. old_record_fits count bytes h)

-- ---- a map

-- the same where files lie from another block on
map_on : (low : ℕ) (used : List ℕ) (blocks : List (List ℕ)) (slot pages map : ℕ) → is_in map used ≡ false
    → (short_at (block_at blocks map) 0 == pages) ≡ true
    → first_broken used (map_rules low blocks slot pages map)
    ≡ first_broken (used ++ map ∷ []) (page_rules low (length blocks) slot (numbers_in (block_at blocks map) pages))
map_on low used blocks slot pages map new right = rw (new, right) refl

pub map_goes_on_from : (low : ℕ) (used0 used1 : List ℕ) (blocks : List (List ℕ)) (slot pages map count : ℕ) (block seen : List ℕ) → is_in map used0 ≡ false
    → used1 ≡ used0 ++ map ∷ [] → block_at blocks map ≡ block → (short_at block 0 == pages) ≡ true → seen ≡ numbers_in block pages
    → count ≡ length blocks
    → first_broken used0 (map_rules low blocks slot pages map) ≡ first_broken used1 (page_rules low count slot seen)
map_goes_on_from low used0 used1 blocks slot pages map count block seen new u is right s size =
    map_on low used0 blocks slot pages map new (ap (λ b. short_at b 0 == pages) is ∙ right)
    ∙ ap (λ us. first_broken us (page_rules low (length blocks) slot (numbers_in (block_at blocks map) pages))) (sym u)
    ∙ ap (λ ns. first_broken used1 (page_rules low (length blocks) slot ns)) (ap (λ b. numbers_in b pages) is ∙ sym s)
    ∙ ap (λ n. first_broken used1 (page_rules low n slot seen)) (sym size)

pub old_map_takes : (used0 used1 used2 : List ℕ) (blocks : List (List ℕ)) (slot pages map : ℕ) (block seen kept : List ℕ)
    → used1 ≡ used0 ++ map ∷ [] → block_at blocks map ≡ block → seen ≡ numbers_in block pages → seen ≡ kept → used2 ≡ used1 ++ seen
    → TakesMap used0 used2 (map_rules 5 blocks slot pages map) kept (numbers_in (block_at blocks map) pages)
old_map_takes used0 used1 used2 blocks slot pages map block seen kept u is s k more =
    let numbers : seen ≡ numbers_in (block_at blocks map) pages = s ∙ ap (λ b. numbers_in b pages) (sym is) in
    record {
      used =
          more ∙ ap (λ us. us ++ seen) u ∙ append_assoc used0 (map ∷ []) seen
          ∙ ap (λ ns. used0 ++ map ∷ ns) (numbers ∙ sym (used_by-page_rules 5 (length blocks) slot (numbers_in (block_at blocks map) pages)));
      pages_ = sym k ∙ numbers;
    }

-- ---- a file

pub one_rules : (low : ℕ) (blocks : List (List ℕ)) (slot : ℕ) (r : FileRecord) (first count : ℕ) → r.maps ≡ first ∷ [] → count ≡ pages_of r.length
    → r.length ≤ 130560 → maps_rules low blocks slot (pages_of r.length) r.maps ≡ map_rules low blocks slot count first
one_rules low blocks slot r first count m c short =
    let few : min (pages_of r.length) 255 ≡ count = omega arith in
    ap (maps_rules low blocks slot (pages_of r.length)) m
    ∙ append-nil (map_rules low blocks slot (min (pages_of r.length) 255) first)
    ∙ ap (λ n. map_rules low blocks slot n first) few

pub one_numbers : (blocks : List (List ℕ)) (r : FileRecord) (first count : ℕ) → r.maps ≡ first ∷ [] → count ≡ pages_of r.length
    → r.length ≤ 130560 → numbers_of blocks (pages_of r.length) r.maps ≡ numbers_in (block_at blocks first) count
one_numbers blocks r first count m c short =
    let few : min (pages_of r.length) 255 ≡ count = omega arith in
    ap (numbers_of blocks (pages_of r.length)) m
    ∙ append-nil (numbers_in (block_at blocks first) (min (pages_of r.length) 255))
    ∙ ap (numbers_in (block_at blocks first)) few

title_on : (low : ℕ) (used : List ℕ) (blocks : List (List ℕ)) (slot : ℕ) (titles : List (List ℕ)) (r : FileRecord)
    → list_any (bytes_eq r.title) titles ≡ false
    → first_broken used (file_rules low blocks slot titles r) ≡ first_broken used (maps_rules low blocks slot (pages_of r.length) r.maps)
title_on low used blocks slot titles r new = rw new refl

pub file_goes_on : (low : ℕ) (used : List ℕ) (blocks : List (List ℕ)) (slot : ℕ) (titles : List (List ℕ)) (r : FileRecord) (first count : ℕ)
    → list_any (bytes_eq r.title) titles ≡ false → r.maps ≡ first ∷ [] → count ≡ pages_of r.length → r.length ≤ 130560
    → first_broken used (file_rules low blocks slot titles r) ≡ first_broken used (map_rules low blocks slot count first)
file_goes_on low used blocks slot titles r first count new m c short =
    title_on low used blocks slot titles r new ∙ ap (first_broken used) (one_rules low blocks slot r first count m c short)

-- ---- all slots

pub old_tells : (blocks : List (List ℕ)) → Tell (old_said_at blocks) (old_entries_from blocks)
old_tells blocks = record { none = λ slot. refl; more = λ slot n. refl }
