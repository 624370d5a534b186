-- Slots in which one file is released.
use Rattle.std.proofs.Common.{◌≡◌, ◌∙◌, ℕ, zero, suc, ◌+◌, Bool, true, false, List, [], ◌∷◌, Option, Some, None, refl, sym, ap, true≢false}
use Rattle.std.specs.Prelude.{if◌then◌else◌, slice_set}
use Rattle.std.specs.Option.{option_and_then, option_map}
use Rattle.std.proofs.lemmas.List.{get_or-set_same, set-get_or}
use Rattle.edi_calls.specs.State.{File, blocks_in, blocks_taken, find_file, find_slot, first_index, is_titled, slot_at}
use Rattle.edi_calls.specs.Calls.{is_protected, slot_for}
use Rattle.edi_calls.proofs.Indices.{first_index-found}
use Rattle.edi_catalog.specs.SlotsChanged.{changed_at, file_protected, slots_changed}

-- ---- one slot is changed

first_index-set : (test : Option File → Bool) (slots : List (Option File)) (i : ℕ) (slot : Option File) → test slot ≡ test (slot_at slots i)
    → first_index test (slice_set slots i slot) ≡ first_index test slots
first_index-set test [] i slot same = refl
first_index-set test (first ∷ slots) zero slot same = ap (λ b. if b then Some 0 else option_map suc (first_index test slots)) same
first_index-set test (first ∷ slots) (suc i) slot same =
    ap (λ o. if test first then Some 0 else option_map suc o) (first_index-set test slots i slot same)

taken-set : (slots : List (Option File)) (i : ℕ) (slot : Option File) → blocks_in slot ≡ blocks_in (slot_at slots i)
    → blocks_taken (slice_set slots i slot) ≡ blocks_taken slots
taken-set [] i slot same = refl
taken-set (first ∷ slots) zero slot same = ap (λ n. n + blocks_taken slots) same
taken-set (first ∷ slots) (suc i) slot same = ap (λ n. blocks_in first + n) (taken-set slots i slot same)

-- ---- one file is released

abbrev pub release : List ℕ → List (Option File) → List (Option File)
release title slots = slots_changed (file_protected false) title slots

same_titled : (title : List ℕ) (slot : Option File) → is_titled title (option_and_then (file_protected false) slot) ≡ is_titled title slot
same_titled title None = refl
same_titled title (Some file) = refl

same_size : (slot : Option File) → blocks_in (option_and_then (file_protected false) slot) ≡ blocks_in slot
same_size None = refl
same_size (Some file) = refl

open_here : (slot : Option File) → is_protected (option_and_then (file_protected false) slot) ≡ false
open_here None = refl
open_here (Some file) = refl

was_open : (slot : Option File) → is_protected slot ≡ false → option_and_then (file_protected false) slot ≡ slot
was_open None open_ = refl
was_open (Some file) open_ = ap (λ p. Some (record file { protected = p })) (sym open_)

module _ (title : List ℕ) (slots : List (Option File)) where
  -- a file that is not protected is released already
  pub released_same : is_protected (find_file slots title) ≡ false → release title slots ≡ slots
  released_same open_ = go (find_slot slots title) open_ where
    go : (o : Option ℕ) → is_protected (option_and_then (slot_at slots) o) ≡ false → changed_at (file_protected false) o slots ≡ slots
    go None open_ = refl
    go (Some i) open_ = ap (slice_set slots i) (was_open (slot_at slots i) open_) ∙ set-get_or slots i None

  -- the release takes and gives no block
  pub released_taken : blocks_taken (release title slots) ≡ blocks_taken slots
  released_taken = go (find_slot slots title) where
    go : (o : Option ℕ) → blocks_taken (changed_at (file_protected false) o slots) ≡ blocks_taken slots
    go None = refl
    go (Some i) = taken-set slots i _ (same_size (slot_at slots i))

  found_same : find_slot (release title slots) title ≡ find_slot slots title
  found_same = go (find_slot slots title) where
    go : (o : Option ℕ) → first_index (is_titled title) (changed_at (file_protected false) o slots) ≡ first_index (is_titled title) slots
    go None = refl
    go (Some i) = first_index-set (is_titled title) slots i _ (same_titled title (slot_at slots i))

  -- behind it the file is not protected
  released_open : (i : ℕ) → find_slot slots title ≡ Some i → slot_at (release title slots) i ≡ option_and_then (file_protected false) (slot_at slots i)
  released_open i found =
      let within = (first_index-found (is_titled title) slots i found).within in
      ap (λ o. slot_at (changed_at (file_protected false) o slots) i) found ∙ get_or-set_same slots i _ None within

  pub release_opens : is_protected (find_file (release title slots) title) ≡ false
  release_opens = go (find_slot slots title) refl where
    go : (o : Option ℕ) → find_slot slots title ≡ o → is_protected (find_file (release title slots) title) ≡ false
    go None none = ap (λ o. is_protected (option_and_then (slot_at (release title slots)) o)) (found_same ∙ none)
    go (Some i) found =
        ap (λ o. is_protected (option_and_then (slot_at (release title slots)) o)) (found_same ∙ found)
        ∙ ap is_protected (released_open i found)
        ∙ open_here (slot_at slots i)

  -- a protected file has a slot, where it is stored behind its release
  pub release_has_slot : is_protected (find_file slots title) ≡ true → (i : ℕ) × (find_slot slots title ≡ Some i)
      × (slot_for (release title slots) title ≡ Some i)
  release_has_slot protected = go (find_slot slots title) refl where
    go : (o : Option ℕ) → find_slot slots title ≡ o → (i : ℕ) × (find_slot slots title ≡ Some i) × (slot_for (release title slots) title ≡ Some i)
    go None none = absurd (true≢false (sym protected ∙ ap (λ o. is_protected (option_and_then (slot_at slots) o)) none))
    go (Some i) found =
        let here : is_protected (slot_at (release title slots) i) ≡ false = ap is_protected (released_open i found) ∙ open_here (slot_at slots i) in
        let there = found_same ∙ found in
        (i, found, rw there (rw here refl))
