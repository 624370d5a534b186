-- Blocks that differ only where no file lies hold the same files.
use Rattle.std.proofs.Common.{◌≡◌, inl, inr, ℕ, zero, suc, ◌+◌, ◌*◌, ◌/◌, ◌%◌, ◌≤◌, ◌<◌, Bool, true, false, List, [], ◌∷◌, ◌++◌, length, take, drop, map}
use Rattle.std.proofs.Common.{Option, Some, None, refl, ap, sym, subst, ◌∙◌, arith}
use Rattle.std.specs.Prelude.{not, ◌||◌, ◌==◌, nat_le, nat_lt, flat_map, slice_get, slice_index_or}
use Rattle.std.specs.List.{list_all}
use Rattle.std.proofs.lemmas.Bool.{eq-eqb, eqb-true, or_right, or_left, or_cases, not-true, leb-true, false_from_ne_true, true≢false}
use Rattle.std.proofs.lemmas.List.Folds.{list_any-append}
use Rattle.edi_calls.specs.State.{pages_of}
use Rattle.edi_image.specs.declared.entries.Said.{Said}
use Rattle.edi_image.specs.declared.entries.Said.TheVariants as said
use Rattle.edi_image.specs.Rules.{first_broken, is_in}
use Rattle.edi_image.specs.Entries.{block_at, is_data, entry_says}
use Rattle.edi_image.specs.Image.{header_rules, slot_rules, numbers_of, said_at, entry_at, entries_from, entries_of, image_rules, mount_fault_of, slots_of}
use Rattle.edi_image.specs.Stored.{StoredFile, stored_of, are_data, IsKeptOf}
use Rattle.edi_catalog.specs.Plan.{used_in, blocks_used, AreFree}
use Rattle.std.specs.Option.{option_map}
use Rattle.edi_image.proofs.Spelled.{both}
use Rattle.edi_image.proofs.KeptFiles.{file_of, slots_are}
use Rattle.edi_catalog.proofs.EntryFrames.{entries_same}
use Rattle.edi_catalog.proofs.OneEntry.{MapsSame, EntrySame, AllSame, slot_rules_same}
use Rattle.edi_catalog.proofs.Changed.{stored_same, header_same}

-- ---- numbers in lists

pub in_append : (n : ℕ) (xs ys : List ℕ) → is_in n (xs ++ ys) ≡ (is_in n xs || is_in n ys)
in_append n xs ys = list_any-append (λ m. m == n) xs ys

pub in_left : (n : ℕ) (xs ys : List ℕ) → is_in n xs ≡ true → is_in n (xs ++ ys) ≡ true
in_left n xs ys h = in_append n xs ys ∙ or_left (is_in n xs) (is_in n ys) h

pub in_right : (n : ℕ) (xs ys : List ℕ) → is_in n ys ≡ true → is_in n (xs ++ ys) ≡ true
in_right n xs ys h = in_append n xs ys ∙ or_right (is_in n xs) (is_in n ys) h

pub in_first : (n : ℕ) (xs : List ℕ) → is_in n (n ∷ xs) ≡ true
in_first n xs = or_left (n == n) (is_in n xs) (eq-eqb n n refl)

pub in_later : (n m : ℕ) (xs : List ℕ) → is_in n xs ≡ true → is_in n (m ∷ xs) ≡ true
in_later n m xs h = or_right (m == n) (is_in n xs) h

-- what holds of all holds of one of them
pub all_in : (p : ℕ → Bool) (xs : List ℕ) (n : ℕ) → list_all p xs ≡ true → is_in n xs ≡ true → p n ≡ true
all_in p [] n all h = absurd (let no : false ≡ true = h in cc)
all_in p (x ∷ xs) n all h =
    let parts = both (p x) (list_all p xs) all in
    elim (or_cases (x == n) (is_in n xs) h) [
      | inl here ↦ subst (λ m. p m ≡ true) (eqb-true x n here) parts.0
      | inr later ↦ all_in p xs n parts.1 later
    ]

-- ---- blocks

-- the blocks of these numbers are the same
abbrev pub SameAt : List ℕ → (old new : List (List ℕ)) → Type 0
SameAt numbers old new = (n : ℕ) → is_in n numbers ≡ true → block_at new n ≡ block_at old n

same_left : (xs ys : List ℕ) (old new : List (List ℕ)) → SameAt (xs ++ ys) old new → SameAt xs old new
same_left xs ys old new same = λ n h. same n (in_left n xs ys h)

same_right : (xs ys : List ℕ) (old new : List (List ℕ)) → SameAt (xs ++ ys) old new → SameAt ys old new
same_right xs ys old new same = λ n h. same n (in_right n xs ys h)

same_rest : (x : ℕ) (xs : List ℕ) (old new : List (List ℕ)) → SameAt (x ∷ xs) old new → SameAt xs old new
same_rest x xs old new same = λ n h. same n (in_later n x xs h)

pub flat_same : (numbers : List ℕ) (old new : List (List ℕ)) → SameAt numbers old new
    → flat_map (block_at new) numbers ≡ flat_map (block_at old) numbers
flat_same [] old new same = refl
flat_same (n ∷ numbers) old new same =
    ap (λ b. b ++ flat_map (block_at new) numbers) (same n (in_first n numbers))
    ∙ ap (λ bs. block_at old n ++ bs) (flat_same numbers old new (same_rest n numbers old new same))

-- ---- entries

-- what the rules of an entry look at is the same
maps_same : (maps : List ℕ) (old new : List (List ℕ)) → SameAt maps old new → MapsSame old new maps
maps_same [] old new same = tt
maps_same (m ∷ maps) old new same = (same m (in_first m maps), maps_same maps old new (same_rest m maps old new same))

entry_same : (s : Said) (old new : List (List ℕ)) → SameAt (used_in (stored_of old s)) old new → EntrySame old new s
entry_same said.Free old new same = tt
entry_same said.Wrong old new same = tt
entry_same (said.File r) old new same =
    maps_same r.maps old new (same_left r.maps (numbers_of old (pages_of r.length) r.maps) old new same)

all_same : (entries : List Said) (old new : List (List ℕ)) → SameAt (blocks_used (map (stored_of old) entries)) old new → AllSame old new entries
all_same [] old new same = tt
all_same (s ∷ entries) old new same = (
  entry_same s old new (same_left (used_in (stored_of old s)) (blocks_used (map (stored_of old) entries)) old new same),
  all_same entries old new (same_right (used_in (stored_of old s)) (blocks_used (map (stored_of old) entries)) old new same),
)

-- the files that are kept have the same bytes
files_same : (files : List (Option StoredFile)) (old new : List (List ℕ)) → SameAt (blocks_used files) old new
    → map (option_map (file_of new)) files ≡ map (option_map (file_of old)) files
files_same [] old new same = refl
files_same (None ∷ files) old new same = ap (λ fs. None ∷ fs) (files_same files old new same)
files_same (Some file ∷ files) old new same =
    let used : List ℕ = file.record_.maps ++ file.pages in
    ap (λ bs. Some (record { title = file.record_.title; kind = file.record_.kind; protected = file.record_.protected; bytes = take file.record_.length bs })
    ∷ map (option_map (file_of new)) files)
    (flat_same file.pages old new
    (same_right file.record_.maps file.pages old new (same_left used (blocks_used files) old new same)))
    ∙ ap (λ fs. option_map (file_of old) (Some file) ∷ fs) (files_same files old new (same_right used (blocks_used files) old new same))

-- the blocks of the catalogue are the same
abbrev pub SameStart : (old new : List (List ℕ)) → Type 0
SameStart old new = (n : ℕ) → n < 33 → block_at new n ≡ block_at old n

said_same : (slot : ℕ) (old new : List (List ℕ)) → length new ≡ length old → SameStart old new → slot < 256 → said_at new slot ≡ said_at old slot
said_same slot old new size start h =
    ap (λ n. entry_says n (entry_at new slot)) size
    ∙ ap (λ b. entry_says (length old) (take 64 (drop (64 * (slot % 8)) b))) (start (1 + slot / 8) (omega arith))

all_said_same : (old new : List (List ℕ)) → length new ≡ length old → SameStart old new → entries_from new 0 256 ≡ entries_from old 0 256
all_said_same old new size start = entries_same new old 0 256 (λ slot low high. said_same slot old new size start high)

-- ---- images

-- an image whose catalogue and whose used blocks are the same
pub record IsSameImage (old new : List (List ℕ)) (files : List (Option StoredFile)) : Type 0 where
  pub size : length new ≡ length old
  pub start : SameStart old new
  pub used : SameAt (blocks_used files) old new

rules_same : (old new : List (List ℕ)) (files : List (Option StoredFile)) → IsKeptOf old files → IsSameImage old new files
    → image_rules new ≡ image_rules old
unfolding image_rules entries_of
rules_same old new files kept same =
    let used : SameAt (blocks_used (map (stored_of old) (entries_from old 0 256))) old new =
    subst (λ fs. SameAt (blocks_used fs) old new) kept.slots same.used in
    ap (λ hs. hs ++ slot_rules 33 new 0 [] (entries_from new 0 256)) (header_same old new same.size (same.start 0 (omega arith)))
    ∙ ap (λ es. header_rules 2 old ++ slot_rules 33 new 0 [] es) (all_said_same old new same.size same.start)
    ∙ ap (λ rs. header_rules 2 old ++ rs) (slot_rules_same old new 0 [] (entries_from old 0 256) same.size (all_same (entries_from old 0 256) old new used))

fault_same : (old new : List (List ℕ)) → length new ≡ length old → image_rules new ≡ image_rules old → mount_fault_of new ≡ mount_fault_of old
fault_same [] [] size rules = refl
fault_same [] (c ∷ new) size rules = absurd (omega arith)
fault_same (b ∷ old) [] size rules = absurd (omega arith)
fault_same (b ∷ old) (c ∷ new) size rules = ap (first_broken []) rules

pub same_kept : (old new : List (List ℕ)) (files : List (Option StoredFile)) → IsKeptOf old files → IsSameImage old new files
    → IsKeptOf new files
unfolding entries_of
same_kept old new files kept same =
    let used : SameAt (blocks_used (map (stored_of old) (entries_from old 0 256))) old new =
    subst (λ fs. SameAt (blocks_used fs) old new) kept.slots same.used in
    record {
      valid = fault_same old new same.size (rules_same old new files kept same) ∙ kept.valid;
      slots =
          kept.slots ∙ sym (stored_same old new (entries_from old 0 256) (all_same (entries_from old 0 256) old new used))
          ∙ ap (map (stored_of new)) (sym (all_said_same old new same.size same.start));
    }

pub same_slots : (old new : List (List ℕ)) (files : List (Option StoredFile)) → IsKeptOf old files → IsSameImage old new files
    → slots_of new ≡ slots_of old
same_slots old new files kept same =
    slots_are new ∙ ap (map (option_map (file_of new))) (sym (same_kept old new files kept same).slots)
    ∙ files_same files old new same.used
    ∙ ap (map (option_map (file_of old))) kept.slots ∙ sym (slots_are old)

-- ---- free blocks

pub not_both : (numbers used : List ℕ) (n : ℕ) → list_all (λ m. not (is_in m used)) numbers ≡ true → is_in n used ≡ true → is_in n numbers ≡ false
not_both numbers used n unused h =
    false_from_ne_true (is_in n numbers)
    (λ there. let no : is_in n used ≡ false = not-true (is_in n used) (all_in (λ m. not (is_in m used)) numbers n unused there) in
    true≢false (sym h ∙ no))

pub not_early : (count : ℕ) (numbers : List ℕ) (n : ℕ) → are_data count numbers ≡ true → n < 33 → is_in n numbers ≡ false
not_early count numbers n data_ h =
    false_from_ne_true (is_in n numbers)
    (λ there. let low : 33 ≤ n = leb-true 33 n (both (nat_le 33 n) (nat_lt n count) (all_in (is_data 33 count) numbers n data_ there)).0 in
    omega arith)

-- blocks that differ in free ones alone
pub free_same : (count : ℕ) (files : List (Option StoredFile)) (numbers : List ℕ) (old new : List (List ℕ)) → AreFree count files numbers
    → length new ≡ length old → ((n : ℕ) → is_in n numbers ≡ false → block_at new n ≡ block_at old n) → IsSameImage old new files
free_same count files numbers old new free size others = record {
  size = size;
  start = λ n h. others n (not_early count numbers n free.on_drive h);
  used = λ n h. others n (not_both numbers (blocks_used files) n free.unused h);
}

-- ---- between two flushes

pub gets_same : (old new : List (List ℕ)) (n : ℕ) → slice_get new n ≡ slice_get old n → slice_index_or new n [] ≡ slice_index_or old n []
gets_same [] [] n e = refl
gets_same [] (b ∷ new) zero e = absurd (let no : Some b ≡ None = e in cc)
gets_same [] (b ∷ new) (suc n) e = gets_same [] new n e
gets_same (a ∷ old) [] zero e = absurd (let no : None ≡ Some a = e in cc)
gets_same (a ∷ old) [] (suc n) e = gets_same old [] n e
gets_same (a ∷ old) (b ∷ new) zero e = (let same : Some b ≡ Some a = e in cc)
gets_same (a ∷ old) (b ∷ new) (suc n) e = gets_same old new n e

-- a set of blocks: all those of these numbers
abbrev pub among : List ℕ → ℕ → List ℕ → Bool
among numbers n block = is_in n numbers
