-- Where a file is stored: the slots that are kept, and those of the image.
use Rattle.std.proofs.Common.{◌≡◌, ℕ, zero, suc, ◌<◌, true, false, List, [], ◌∷◌, length, map, Option, Some, None, refl, ap, sym, ◌∙◌, arith}
use Rattle.std.specs.Prelude.{is_none, slice_index_or, if◌then◌else◌}
use Rattle.std.specs.Option.{option_map, option_and_then}
use Rattle.std.proofs.Math.ListN.{get_or-map}
use Rattle.edi_calls.specs.State.{File, first_free, slot_at}
use Rattle.edi_calls.specs.Calls.{open_slot, slot_for}
use Rattle.edi_calls.specs.Calls as calls
use Rattle.edi_image.specs.Image.{slots_of}
use Rattle.edi_image.specs.Stored.{StoredFile, IsKeptOf}
use Rattle.edi_catalog.specs.Files.{find_index, file_titled}
use Rattle.edi_catalog.specs.Writing.{is_protected}
use Rattle.edi_catalog.specs.Storing.{free_index, index_for}
use Rattle.edi_image.proofs.KeptFiles.{file_of, slots_are}
use Rattle.edi_catalog.proofs.WholeFiles.{index_same}

-- ---- the first free slot

pub free_at : (files : List (Option StoredFile)) (index : ℕ) (file : Option StoredFile)
    → ((k : ℕ) → k < index → is_none (slice_index_or files k None) ≡ false) → index < length files
    → file ≡ slice_index_or files index file → is_none file ≡ true → free_index files ≡ Some index
free_at [] index file before within is here = absurd (omega arith)
free_at (first ∷ files) zero file before within is here =
    ap (λ b. if b then Some 0 else option_map suc (free_index files)) (ap is_none (sym is) ∙ here)
free_at (first ∷ files) (suc index) file before within is here =
    let taken : is_none first ≡ false = before 0 (omega arith) in
    let later : free_index files ≡ Some index = free_at files index file (λ k h. before (suc k) (omega arith)) (omega arith) is here in
    ap (λ b. if b then Some 0 else option_map suc (free_index files)) taken ∙ ap (option_map suc) later

pub free_nowhere : (files : List (Option StoredFile))
    → ((k : ℕ) → k < length files → is_none (slice_index_or files k None) ≡ false) → free_index files ≡ None
free_nowhere [] all = refl
free_nowhere (file ∷ files) all =
    let first : is_none file ≡ false = all 0 (omega arith) in
    let later : free_index files ≡ None = free_nowhere files (λ k h. all (suc k) (omega arith)) in
    ap (λ b. if b then Some 0 else option_map suc (free_index files)) first ∙ ap (option_map suc) later

-- ---- in the image

none_same : (blocks : List (List ℕ)) (file : Option StoredFile) → is_none (option_map (file_of blocks) file) ≡ is_none file
none_same blocks None = refl
none_same blocks (Some file) = refl

free_same : (blocks : List (List ℕ)) (files : List (Option StoredFile))
    → first_free (map (option_map (file_of blocks)) files) ≡ free_index files
free_same blocks [] = refl
free_same blocks (file ∷ files) =
    ap (λ b. if b then Some 0 else option_map suc (first_free (map (option_map (file_of blocks)) files))) (none_same blocks file)
    ∙ ap (λ o. if is_none file then Some 0 else option_map suc o) (free_same blocks files)

protected_same : (blocks : List (List ℕ)) (file : Option StoredFile)
    → calls.is_protected (option_map (file_of blocks) file) ≡ is_protected file
protected_same blocks None = refl
protected_same blocks (Some file) = refl

open_same : (blocks : List (List ℕ)) (files : List (Option StoredFile)) (index : Option ℕ)
    → is_protected (option_and_then (λ k. slice_index_or files k None) index) ≡ false
    → option_and_then (λ k. if calls.is_protected (slot_at (map (option_map (file_of blocks)) files) k) then None else Some k) index ≡ index
open_same blocks files None h = refl
open_same blocks files (Some k) h =
    ap (λ b. if b then None else Some k)
    (ap calls.is_protected (get_or-map (option_map (file_of blocks)) files k None)
    ∙ protected_same blocks (slice_index_or files k None) ∙ h)

for_same : (blocks : List (List ℕ)) (title : List ℕ) (files : List (Option StoredFile)) → is_protected (file_titled title files) ≡ false
    → slot_for (map (option_map (file_of blocks)) files) title ≡ index_for title files
for_same blocks title files h =
    let slots : List (Option File) = map (option_map (file_of blocks)) files in
    ap (λ o. if is_none o then first_free slots else option_and_then (λ k. if calls.is_protected (slot_at slots k) then None else Some k) o)
    (index_same blocks title files)
    ∙ ap (λ o. if is_none (find_index title files) then o else option_and_then (λ k. if calls.is_protected (slot_at slots k) then None else Some k)
    (find_index title files))
    (free_same blocks files)
    ∙ ap (λ o. if is_none (find_index title files) then free_index files else o) (open_same blocks files (find_index title files) h)

pub slot_for_same : (blocks : List (List ℕ)) (title : List ℕ) (files : List (Option StoredFile)) → IsKeptOf blocks files
    → is_protected (file_titled title files) ≡ false → slot_for (slots_of blocks) title ≡ index_for title files
slot_for_same blocks title files kept h =
    ap (λ slots. slot_for slots title) (slots_are blocks ∙ ap (map (option_map (file_of blocks))) (sym kept.slots))
    ∙ for_same blocks title files h
