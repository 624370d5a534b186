-- A file that is kept is not too long.
use Rattle.std.proofs.Common.{◌≡◌, ◌≤◌, ℕ, zero, suc, Bool, true, ◌&&◌, List, [], ◌∷◌, Option, Some, None, refl, subst}
use Rattle.std.specs.Prelude.{slice_index_or}
use Rattle.std.specs.List.{list_all}
use Rattle.std.specs.Option.{option_map, option_and_then}
use Rattle.std.proofs.lemmas.Bool.{and_parts}
use Rattle.edi_calls.specs.State.{most_bytes}
use Rattle.edi_image.specs.Stored.{StoredFile, is_stored}
use Rattle.edi_catalog.specs.Files.{file_titled, find_index}
use Rattle.edi_catalog.proofs.FileShape.{shape_of}

stored_at : (count : ℕ) (files : List (Option StoredFile)) (i : ℕ) → list_all (is_stored count) files ≡ true → is_stored count (slice_index_or files i None) ≡ true
stored_at count [] i h = refl
stored_at count (file ∷ files) zero h = (and_parts (is_stored count file) (list_all (is_stored count) files) h).0
stored_at count (file ∷ files) (suc i) h = stored_at count files i (and_parts (is_stored count file) (list_all (is_stored count) files) h).1

pub titled_short : (count : ℕ) (title : List ℕ) (files : List (Option StoredFile)) (n : ℕ) → list_all (is_stored count) files ≡ true
    → option_map (λ (file : StoredFile). file.record_.length) (file_titled title files) ≡ Some n → n ≤ most_bytes
titled_short count title files n stored e = go (find_index title files) e
  where
    of_file : (x : Option StoredFile) → is_stored count x ≡ true → option_map (λ (file : StoredFile). file.record_.length) x ≡ Some n → n ≤ most_bytes
    of_file None s h = absurd (cc)
    of_file (Some file) s h = let same : file.record_.length ≡ n = cc in subst (λ k. k ≤ most_bytes) same (shape_of count file s).short

    go : (x : Option ℕ) → option_map (λ (file : StoredFile). file.record_.length) (option_and_then (λ index. slice_index_or files index None) x) ≡ Some n
        → n ≤ most_bytes
    go None h = absurd (cc)
    go (Some i) h = of_file (slice_index_or files i None) (stored_at count files i stored) h
