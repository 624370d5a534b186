-- The rules of an image whose files lie one after another.
use Rattle.std.proofs.Common.{◌≡◌, ℕ, zero, suc, ◌+◌, ◌/◌, ◌<◌, ◌≤◌, Bool, true, false, List, [], ◌∷◌, ◌++◌, length, refl, ap, sym, subst, ◌∙◌, arith}
use Rattle.std.proofs.Common.{append_assoc, append-nil}
use Rattle.std.specs.Prelude.{◌&&◌, ◌||◌, ◌==◌, not, nat_le, nat_lt, map, replicate, if◌then◌else◌, Option, Some, None, ⊤}
use Rattle.std.specs.List.{list_all, list_any, range_with_len}
use Rattle.std.specs.Str.{bytes_eq}
use Rattle.std.proofs.lemmas.Bool.{eqb-true, eq-eqb, le-leb, lt-ltb, and_parts, and_from}
use Rattle.std.proofs.lemmas.List.Folds.{list_any-append}
use Rattle.edi_calls.specs.State.{pages_of}
use Rattle.edi_image.specs.declared.faults.MountFault.TheVariants as fault
use Rattle.edi_image.specs.declared.entries.Said.{Said}
use Rattle.edi_image.specs.declared.entries.Said.TheVariants as said
use Rattle.edi_image.specs.Build.{map_block}
use Rattle.edi_image.specs.Rules.{is_in, first_broken, used_by, page_rules}
use Rattle.edi_image.specs.Entries.{block_at, is_data}
use Rattle.edi_image.specs.Image.{maps_rules, entry_rules, slot_rules, numbers_in}
use Rattle.edi_image.specs.Stored.{StoredFile, stored_of, titles_of}
use Rattle.edi_image.specs.migrate.OldFiles.{is_old_record, is_old_stored}
use Rattle.edi_image.specs.migrate.Migrated.{blocks_of_slot, blocks_of_slots, moved, moved_from}
use Rattle.edi_image.proofs.UsedBlocks.{need_holds, none_right, none_both, map_used}
use Rattle.edi_image.proofs.EntryBytes.{said_of}
use Rattle.edi_image.proofs.migrate.OldRules.{old_shape, one_rules, file_goes_on, map_goes_on_from}
use Rattle.edi_image.proofs.migrate.MigratedMaps.{numbers_of_map, count_of_map}

-- ---- what is known of a file

pub record IsWhole (n : ℕ) (file : StoredFile) : Type 0 where
  pub many : length file.pages ≡ pages_of file.record_.length
  pub short : file.record_.length ≤ 130560
  pub few : length file.pages ≤ 255
  pub data_ : list_all (is_data 5 n) file.pages ≡ true
  pub record_ : is_old_record n file.record_ ≡ true

pub whole_of : (n : ℕ) (file : StoredFile) → is_old_stored n (Some file) ≡ true → IsWhole n file
whole_of n file h =
    let pages = and_parts (is_old_record n file.record_ && list_all (is_data 5 n) file.pages) (length file.pages == pages_of file.record_.length) h in
    let parts = and_parts (is_old_record n file.record_) (list_all (is_data 5 n) file.pages) pages.0 in
    let many : length file.pages ≡ (file.record_.length + 511) / 512 = eqb-true (length file.pages) (pages_of file.record_.length) pages.1 in
    let short : file.record_.length ≤ 130560 = (old_shape n file.record_ parts.0).short in
    record { many = many; short = short; few = omega (arith, many, short); data_ = parts.1; record_ = parts.0 }

-- its blocks in the new image
pub record IsLaid (new old : List (List ℕ)) (first : ℕ) (file : StoredFile) : Type 0 where
  pub map_ : block_at new first ≡ map_block (range_with_len (first + 1) (length file.pages))
  pub pages_ : map (block_at new) (range_with_len (first + 1) (length file.pages)) ≡ map (block_at old) file.pages

abbrev pub IsLaidIn : (new old : List (List ℕ)) → ℕ → Option StoredFile → Type 0
IsLaidIn new old first None = ⊤
IsLaidIn new old first (Some file) = IsLaid new old first file

abbrev pub AreLaid : (new old : List (List ℕ)) → ℕ → List (Option StoredFile) → Type 0
AreLaid new old first [] = ⊤
AreLaid new old first (file ∷ files) = IsLaidIn new old first file × AreLaid new old (first + blocks_of_slot file) files

-- no title stands twice, or among these
abbrev pub IsUntitled : List (List ℕ) → Option StoredFile → Type 0
IsUntitled titles None = ⊤
IsUntitled titles (Some file) = list_any (bytes_eq file.record_.title) titles ≡ false

abbrev pub AreUntitled : List (List ℕ) → List (Option StoredFile) → Type 0
AreUntitled titles [] = ⊤
AreUntitled titles (file ∷ files) = IsUntitled titles file × AreUntitled (titles ++ titles_of (file ∷ [])) files

-- ---- titles

not_true : (b : Bool) → not b ≡ true → b ≡ false
not_true true h = absurd (let no : false ≡ true = h in cc)
not_true false h = refl

free_untitled : (titles : List (List ℕ)) (n : ℕ) → AreUntitled titles (replicate n None)
free_untitled titles zero = tt
free_untitled titles (suc n) = (tt, free_untitled (titles ++ []) n)

pub untitled : (old : List (List ℕ)) (slot : ℕ) (titles : List (List ℕ)) (es : List Said) (used : List ℕ) (n : ℕ)
    → first_broken used (slot_rules 5 old slot titles es) ≡ None → AreUntitled titles (map (stored_of old) es ++ replicate n None)
untitled old slot titles [] used n h = free_untitled titles n
untitled old slot titles (said.Free ∷ es) used n h = (tt, untitled old (slot + 1) (titles ++ []) es used n h)
untitled old slot titles (said.Wrong ∷ es) used n h = absurd (let no : Some (fault.Entry slot) ≡ None = h in cc)
untitled old slot titles (said.File r ∷ es) used n h =
    let rules = slot_rules 5 old (slot + 1) (titles ++ r.title ∷ []) es in
    let holds = need_holds (not (list_any (bytes_eq r.title) titles)) (fault.Entry slot)
    (first_broken used (maps_rules 5 old slot (pages_of r.length) r.maps ++ rules)) h in (
      not_true (list_any (bytes_eq r.title) titles) holds.0,
      untitled old (slot + 1) (titles ++ r.title ∷ []) es (used ++ used_by (maps_rules 5 old slot (pages_of r.length) r.maps)) n
          (none_right used (maps_rules 5 old slot (pages_of r.length) r.maps) rules holds.1),
    )

-- ---- blocks below a number

abbrev pub AreBelow : ℕ → List ℕ → Type 0
AreBelow n used = (b : ℕ) → is_in b used ≡ true → b < n

below_new : (n : ℕ) (used : List ℕ) → AreBelow n used → is_in n used ≡ false
below_new n used below = go (is_in n used) refl where
  go : (b : Bool) → is_in n used ≡ b → is_in n used ≡ false
  go false e = e
  go true e = absurd (let h : n < n = below n e in omega arith)

or_false : (b : Bool) → (b || false) ≡ true → b ≡ true
or_false true h = refl
or_false false h = h

below_next : (n : ℕ) (used : List ℕ) → AreBelow n used → AreBelow (n + 1) (used ++ n ∷ [])
below_next n used below b h = go (is_in b used) refl (sym (list_any-append (λ m. m == b) used (n ∷ [])) ∙ h) where
  go : (t : Bool) → is_in b used ≡ t → (t || (n == b || false)) ≡ true → b < n + 1
  go true e k = (let l : b < n = below b e in omega arith)
  go false e k = (let same : n ≡ b = eqb-true n b (or_false (n == b) k) in omega arith)

-- pages that follow one another keep their rules
pages_hold : (count slot first n : ℕ) (used : List ℕ) → 33 ≤ first → first + n ≤ count → AreBelow first used
    → (first_broken used (page_rules 33 count slot (range_with_len first n)) ≡ None) × AreBelow (first + n) (used ++ range_with_len first n)
pages_hold count slot first zero used low high below = (
  refl,
  subst (λ us. AreBelow (first + 0) us) (sym (append-nil used)) (λ b h. (let l : b < first = below b h in omega arith)),
)
pages_hold count slot first (suc n) used low high below =
    let inside : (nat_le 33 first && nat_lt first count) ≡ true =
    and_from (nat_le 33 first) (nat_lt first count) (le-leb 33 first low) (lt-ltb first count (omega arith)) in
    let rest = pages_hold count slot (first + 1) n (used ++ first ∷ []) (omega arith) (omega arith) (below_next first used below) in (
      ap (λ t. if t then (if is_in first used then Some (fault.Shared first) else first_broken (used ++ first ∷ [])
          (page_rules 33 count slot (range_with_len (first + 1) n)))
          else Some (fault.Page slot first)) inside
          ∙ ap (λ t. if t then Some (fault.Shared first) else first_broken (used ++ first ∷ []) (page_rules 33 count slot (range_with_len (first + 1) n)))
          (below_new first used below)
          ∙ rest.0,
      λ b h.
          (let l : b < first + 1 + n = rest.1 b (ap (is_in b) (append_assoc used (first ∷ []) (range_with_len (first + 1) n)) ∙ h) in omega arith),
    )

-- ---- a file, and all files

entry_holds : (new old : List (List ℕ)) (slot first n : ℕ) (titles : List (List ℕ)) (file : StoredFile) (used : List ℕ)
    → IsLaid new old first file → 33 ≤ first → first + (1 + length file.pages) ≤ length new → IsWhole n file
    → list_any (bytes_eq file.record_.title) titles ≡ false → AreBelow first used
    → (first_broken used (entry_rules 33 new slot titles (said.File (moved first file))) ≡ None)
    × AreBelow (first + (1 + length file.pages)) (used ++ used_by (entry_rules 33 new slot titles (said.File (moved first file))))
entry_holds new old slot first n titles file used laid low high whole new_title below =
    let count = length file.pages in
    let numbers : range_with_len (first + 1) count ≡ numbers_in (map_block (range_with_len (first + 1) count)) count =
    sym (numbers_of_map (first + 1) count) in
    let pages = pages_hold (length new) slot (first + 1) count (used ++ first ∷ []) (omega arith) (omega arith) (below_next first used below) in
    let uses : used_by (entry_rules 33 new slot titles (said.File (moved first file))) ≡ first ∷ range_with_len (first + 1) count =
    ap used_by (one_rules 33 new slot (moved first file) first count refl whole.many whole.short)
    ∙ map_used new slot count first
    ∙ ap (λ b. first ∷ numbers_in b count) laid.map_ ∙ ap (λ ns. first ∷ ns) (sym numbers) in (
      file_goes_on 33 used new slot titles (moved first file) first count new_title refl whole.many whole.short
          ∙ map_goes_on_from 33 used (used ++ first ∷ []) new slot count first (length new) (map_block (range_with_len (first + 1) count))
          (range_with_len (first + 1) count) (below_new first used below) refl laid.map_
          (eq-eqb _ _ (count_of_map (first + 1) count)) numbers refl
          ∙ pages.0,
      λ b h.
          (let l : b < first + 1 + count =
          pages.1 b
          (ap (is_in b) (append_assoc used (first ∷ []) (range_with_len (first + 1) count) ∙ ap (λ us. used ++ us) (sym uses)) ∙ h) in omega arith),
    )

pub slots_hold : (new old : List (List ℕ)) (slot first n : ℕ) (titles : List (List ℕ)) (files : List (Option StoredFile)) (used : List ℕ)
    → AreLaid new old first files → 33 ≤ first → first + blocks_of_slots files ≤ length new → list_all (is_old_stored n) files ≡ true
    → AreUntitled titles files → AreBelow first used
    → first_broken used (slot_rules 33 new slot titles (map said_of (moved_from first files))) ≡ None
slots_hold new old slot first n titles [] used laid low high stored apart below = refl
slots_hold new old slot first n titles (None ∷ files) used laid low high stored apart below =
    slots_hold new old (slot + 1) (first + 0) n (titles ++ []) files used laid.1 (omega arith) (omega arith) stored apart.1
    (λ b h. (let l : b < first = below b h in omega arith))
slots_hold new old slot first n titles (Some file ∷ files) used laid low high stored apart below =
    let parts = and_parts (is_old_stored n (Some file)) (list_all (is_old_stored n) files) stored in
    let entry = entry_holds new old slot first n titles file used laid.0 low (omega arith) (whole_of n file parts.0) apart.0 below in
    none_both used (entry_rules 33 new slot titles (said.File (moved first file)))
    (slot_rules 33 new (slot + 1) (titles ++ file.record_.title ∷ []) (map said_of (moved_from (first + (1 + length file.pages)) files)))
    entry.0
    (slots_hold new old (slot + 1) (first + (1 + length file.pages)) n (titles ++ file.record_.title ∷ []) files _ laid.1 (omega arith)
    (omega arith) parts.1 apart.1 entry.1)
