-- The files of which one is changed still use no block twice.
use Rattle.std.proofs.Common.{◌≡◌, ◌⊎◌, inl, inr, ℕ, zero, suc, true, List, [], ◌∷◌, ◌++◌, Some, None, Option, refl, ap, sym, subst, ◌∙◌, set, get_or}
use Rattle.std.specs.Option.{option_and_then}
use Rattle.std.proofs.lemmas.Bool.{or_cases, false_from_ne_true, true≢false}
use Rattle.edi_image.specs.Records.{FileRecord}
use Rattle.edi_image.specs.Rules.{is_in}
use Rattle.edi_image.specs.Stored.{StoredFile}
use Rattle.edi_catalog.specs.Files.{file_titled, find_index}
use Rattle.edi_catalog.specs.Plan.{are_different, blocks_used, used_in, AreFree}
use Rattle.edi_catalog.specs.Writing.{IsRecordAt, put_kept, kept_as}
use Rattle.edi_catalog.proofs.Different.{AreApart, different_join, different_left, different_right, different_apart}
use Rattle.edi_catalog.proofs.Unchanged.{in_append, in_left, in_right, not_both}

-- what is used then was used, or is used by the new file
in_set : (files : List (Option StoredFile)) (index : ℕ) (file : Option StoredFile) (n : ℕ) → is_in n (blocks_used (set files index file)) ≡ true
    → (is_in n (blocks_used files) ≡ true) ⊎ (is_in n (used_in file) ≡ true)
in_set [] index file n h = inl h
in_set (f ∷ files) zero file n h =
    elim (or_cases (is_in n (used_in file)) (is_in n (blocks_used files)) (sym (in_append n (used_in file) (blocks_used files)) ∙ h)) [
      | inl new ↦ inr new
      | inr other ↦ inl (in_right n (used_in f) (blocks_used files) other)
    ]
in_set (f ∷ files) (suc index) file n h =
    elim (or_cases (is_in n (used_in f)) (is_in n (blocks_used (set files index file))) (sym (in_append n (used_in f) (blocks_used (set files index file))) ∙ h)) [
      | inl here ↦ inl (in_left n (used_in f) (blocks_used files) here)
      | inr later ↦
          elim (in_set files index file n later) [
            | inl was ↦ inl (in_right n (used_in f) (blocks_used files) was)
            | inr new ↦ inr new
          ]
    ]

-- the pages of one file
pub pages_apart : (title : List ℕ) (files : List (Option StoredFile)) (file : StoredFile) → are_different (blocks_used files) ≡ true
    → file_titled title files ≡ Some file → are_different file.pages ≡ true
pages_apart title files file d is =
    different_right file.record_.maps file.pages (subst (λ o. are_different (used_in o) ≡ true) is (go (find_index title files))) where
      at : (fs : List (Option StoredFile)) (index : ℕ) → are_different (blocks_used fs) ≡ true → are_different (used_in (get_or fs index None)) ≡ true
      at [] index d = refl
      at (f ∷ fs) zero d = different_left (used_in f) (blocks_used fs) d
      at (f ∷ fs) (suc index) d = at fs index (different_right (used_in f) (blocks_used fs) d)

      go : (index : Option ℕ) → are_different (used_in (option_and_then (λ k. get_or files k None) index)) ≡ true
      go None = refl
      go (Some k) = at files k d

-- a slot gets a file that uses none of the blocks
pub set_apart : (files : List (Option StoredFile)) (index : ℕ) (file : Option StoredFile) → are_different (blocks_used files) ≡ true
    → are_different (used_in file) ≡ true → AreApart (blocks_used files) (used_in file) → are_different (blocks_used (set files index file)) ≡ true
set_apart [] index file d new apart = d
set_apart (f ∷ files) zero file d new apart =
    different_join (used_in file) (blocks_used files) new (different_right (used_in f) (blocks_used files) d)
    (λ n h. false_from_ne_true (is_in n (blocks_used files))
    (λ there. true≢false (sym h ∙ apart n (in_right n (used_in f) (blocks_used files) there))))
set_apart (f ∷ files) (suc index) file d new apart =
    different_join (used_in f) (blocks_used (set files index file)) (different_left (used_in f) (blocks_used files) d)
    (set_apart files index file (different_right (used_in f) (blocks_used files) d) new
    (λ n h. apart n (in_right n (used_in f) (blocks_used files) h)))
    (λ n h. false_from_ne_true (is_in n (blocks_used (set files index file))) (λ there.
    elim (in_set files index file n there) [
      | inl was ↦ true≢false (sym was ∙ different_apart (used_in f) (blocks_used files) d n h)
      | inr now ↦ true≢false (sym now ∙ apart n (in_left n (used_in f) (blocks_used files) h))
    ]))

-- a slot gets a file with the blocks of its own
set_same : (files : List (Option StoredFile)) (index : ℕ) (file : Option StoredFile) → used_in file ≡ used_in (get_or files index None)
    → blocks_used (set files index file) ≡ blocks_used files
set_same [] index file same = refl
set_same (f ∷ files) zero file same = ap (λ ns. ns ++ blocks_used files) same
set_same (f ∷ files) (suc index) file same = ap (λ ns. used_in f ++ ns) (set_same files index file same)

pub free_apart : (count : ℕ) (files : List (Option StoredFile)) (index : ℕ) (file : StoredFile) → are_different (blocks_used files) ≡ true
    → AreFree count files (used_in (Some file)) → are_different (blocks_used (set files index (Some file))) ≡ true
free_apart count files index file d free =
    set_apart files index (Some file) d free.different (λ n h. not_both (used_in (Some file)) (blocks_used files) n free.unused h)

pub put_apart : (files : List (Option StoredFile)) (index : ℕ) (r : Option FileRecord) → are_different (blocks_used files) ≡ true → IsRecordAt files index r
    → are_different (blocks_used (put_kept files index r)) ≡ true
put_apart files index None d at = set_apart files index None d refl (λ n h. refl)
put_apart files index (Some r) d at =
    let there : get_or files index None ≡ Some at.file = at.there in
    let same : used_in (kept_as (Some r) (get_or files index None)) ≡ used_in (get_or files index None) =
    ap (λ o. used_in (kept_as (Some r) o)) there ∙ ap (λ ms. ms ++ at.file.pages) at.fits.maps ∙ sym (ap used_in there) in
    ap are_different (set_same files index (kept_as (Some r) (get_or files index None)) same) ∙ d
