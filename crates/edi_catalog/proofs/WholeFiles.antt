-- Whole files, read page by page.
use Rattle.std.proofs.Common.{◌≡◌, ℕ, suc, ◌+◌, ◌*◌, ◌<◌, List, [], ◌∷◌, ◌++◌, length, take, get_or, Option, Some, None, refl, ap, sym, subst, ◌∙◌}
use Rattle.std.proofs.Common.{append_assoc, length-append, arith}
use Rattle.std.specs.Prelude.{flat_map, map, if◌then◌else◌, slice_index_or}
use Rattle.std.specs.Option.{option_map, option_and_then}
use Rattle.std.specs.Cmp.Lexicographic.{nat_list_eq_equiv}
use Rattle.std.proofs.Math.Seq.{take-append_seam}
use Rattle.std.proofs.Math.ListN.{get_or-map}
use Rattle.std.proofs.lemmas.List.{take_more, append-nil, get_or_default}
use Rattle.std.proofs.lemmas.Grind.{flat_map-append}
use Rattle.edi_calls.specs.State.{find_file, find_slot, slot_at}
use Rattle.edi_calls.specs.State as calls
use Rattle.edi_image.specs.Entries.{block_at}
use Rattle.edi_image.specs.Image.{slots_of}
use Rattle.edi_image.specs.Stored.{StoredFile, is_titled, bytes_in, IsKeptOf}
use Rattle.edi_catalog.specs.Files.{find_index, file_titled, Starts, FoundIs}
use Rattle.edi_image.proofs.KeptFiles.{file_of, slots_are}

-- a page behind the bytes up to an address
pub page_put : (at : ℕ) (into front copied bytes back : List ℕ) → front ≡ take at into → length front ≡ at → copied ≡ bytes → length copied ≡ 512
    → take (at + 512) (front ++ (copied ++ back)) ≡ take at into ++ bytes
page_put at into front copied bytes back is many same size =
    let index : at + 512 ≡ length (front ++ copied) = omega (arith, length-append front copied) in
    ap (λ n. take n (front ++ (copied ++ back))) index
    ∙ ap (take (length (front ++ copied))) (sym (append_assoc front copied back))
    ∙ take-append_seam (front ++ copied) back
    ∙ ap (λ xs. xs ++ copied) is ∙ ap (λ xs. take at into ++ xs) same

-- one more page
pub pages_more : (blocks : List (List ℕ)) (pages : List ℕ) (i : ℕ) (before after : List ℕ) → i < length pages
    → take (512 * i) before ≡ flat_map (block_at blocks) (take i pages)
    → take (512 * i + 512) after ≡ take (512 * i) before ++ block_at blocks (get_or pages i 0)
    → take (512 * (i + 1)) after ≡ flat_map (block_at blocks) (take (i + 1) pages)
pages_more blocks pages i before after h so_far more =
    let index : 512 * (i + 1) ≡ 512 * i + 512 = omega arith in
    ap (λ n. take n after) index ∙ more ∙ ap (λ xs. xs ++ block_at blocks (get_or pages i 0)) so_far
    ∙ ap (λ xs. flat_map (block_at blocks) (take i pages) ++ xs) (sym (append-nil (block_at blocks (get_or pages i 0))))
    ∙ sym (flat_map-append (block_at blocks) (take i pages) (get_or pages i 0 ∷ []))
    ∙ ap (flat_map (block_at blocks)) (sym (take_more pages i 0 h))

-- ---- the file of a title

titled_same : (blocks : List (List ℕ)) (title : List ℕ) (file : Option StoredFile)
    → calls.is_titled title (option_map (file_of blocks) file) ≡ is_titled title file
titled_same blocks title None = refl
titled_same blocks title (Some file) = nat_list_eq_equiv.symm file.record_.title title

pub index_same : (blocks : List (List ℕ)) (title : List ℕ) (files : List (Option StoredFile))
    → find_slot (map (option_map (file_of blocks)) files) title ≡ find_index title files
index_same blocks title [] = refl
index_same blocks title (file ∷ files) =
    ap (λ b. if b then Some 0 else option_map suc (find_slot (map (option_map (file_of blocks)) files) title)) (titled_same blocks title file)
    ∙ ap (λ o. if is_titled title file then Some 0 else option_map suc o) (index_same blocks title files)

pub file_same : (blocks : List (List ℕ)) (title : List ℕ) (files : List (Option StoredFile))
    → find_file (map (option_map (file_of blocks)) files) title ≡ option_map (file_of blocks) (file_titled title files)
file_same blocks title files =
    ap (option_and_then (slot_at (map (option_map (file_of blocks)) files))) (index_same blocks title files) ∙ go (find_index title files) where
      go : (index : Option ℕ) → option_and_then (slot_at (map (option_map (file_of blocks)) files)) index
          ≡ option_map (file_of blocks) (option_and_then (λ k. slice_index_or files k None) index)
      go None = refl
      go (Some k) = get_or-map (option_map (file_of blocks)) files k None

-- the file of a title in the image is the one that is kept
pub found_kept : (blocks : List (List ℕ)) (title : List ℕ) (files : List (Option StoredFile)) (file : StoredFile) (n : ℕ) (bytes : List ℕ)
    → IsKeptOf blocks files → file_titled title files ≡ Some file → Starts n (bytes_in blocks file) bytes
    → FoundIs n (find_file (slots_of blocks) title) bytes
found_kept blocks title files file n bytes kept is starts =
    let slots : slots_of blocks ≡ map (option_map (file_of blocks)) files =
    slots_are blocks ∙ ap (map (option_map (file_of blocks))) (sym kept.slots) in
    let found : find_file (slots_of blocks) title ≡ Some (file_of blocks file) =
    ap (λ s. find_file s title) slots ∙ file_same blocks title files ∙ ap (option_map (file_of blocks)) is in
    subst (λ o. FoundIs n o bytes) (sym found) starts

-- the file in the slot of a title
pub titled_at : (title : List ℕ) (files : List (Option StoredFile)) (index : ℕ) (there : Option StoredFile) (file : StoredFile)
    → find_index title files ≡ Some index → index < length files → there ≡ slice_index_or files index there → there ≡ Some file
    → file_titled title files ≡ Some file
titled_at title files index there file at within is here =
    ap (option_and_then (λ k. slice_index_or files k None)) at ∙ get_or_default files index None there within ∙ sym is ∙ here
