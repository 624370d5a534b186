-- The bytes of whole pages, and the byte at a position.
use Rattle.std.proofs.Common.{◌≡◌, ◌<◌, ℕ, zero, suc, ◌+◌, ◌*◌, List, [], ◌∷◌, ◌++◌, length, take, get_or, Option, Some, sym, ap, ◌∙◌, arith, length-append}
use Rattle.std.specs.Prelude.{◌/◌, ◌%◌, min, map, flat_map, slice_get, slice_index}
use Rattle.std.specs.Option.{option_map}
use Rattle.std.proofs.lemmas.List.{get_or_append_left, get_or-append-add, get_or-take, length-take}
use Rattle.std.proofs.lemmas.Option.{slice_get-get_or}
use Rattle.edi_calls.specs.State.{find_file}
use Rattle.edi_image.specs.Image.{slots_of}
use Rattle.edi_image.specs.Stored.{StoredFile, IsKeptOf}
use Rattle.edi_catalog.specs.Files.{file_titled}
use Rattle.edi_image.proofs.KeptFiles.{file_of, slots_are}
use Rattle.edi_catalog.proofs.WholeFiles.{file_same}

-- ---- bytes of whole pages

-- the index of a byte of a page among those of all pages
pub page_at : (f : ℕ → List ℕ) (pages : List ℕ) (i k : ℕ) → ((j : ℕ) → j < length pages → length (f (slice_index pages j)) ≡ 512) → k < 512 → i < length pages
    → (512 * i + k < length (flat_map f pages)) × (get_or (flat_map f pages) (512 * i + k) 0 ≡ get_or (f (slice_index pages i)) k 0)
page_at f [] i k whole h within = absurd (omega arith)
page_at f (p ∷ ps) zero k whole h within =
    let first : length (f p) ≡ 512 = whole 0 (omega arith) in
    let long : length (f p ++ flat_map f ps) ≡ length (f p) + length (flat_map f ps) = length-append (f p) (flat_map f ps) in
    let index : 512 * 0 + k ≡ k = omega arith in (
      omega (arith, first, long),
      ap (λ n. get_or (f p ++ flat_map f ps) n 0) index ∙ get_or_append_left (f p) (flat_map f ps) 0 k (omega (arith, first)),
    )
page_at f (p ∷ ps) (suc i) k whole h within =
    let first : length (f p) ≡ 512 = whole 0 (omega arith) in
    let long : length (f p ++ flat_map f ps) ≡ length (f p) + length (flat_map f ps) = length-append (f p) (flat_map f ps) in
    let index : 512 * suc i + k ≡ length (f p) + (512 * i + k) = omega (arith, first) in
    let rest = page_at f ps i k (λ j b. whole (suc j) (omega arith)) h (omega arith) in (
      omega (arith, first, long, rest.0),
      ap (λ n. get_or (f p ++ flat_map f ps) n 0) index ∙ get_or-append-add (f p) (flat_map f ps) (512 * i + k) 0 ∙ rest.1,
    )

-- the byte at a position of a text of n bytes, whose page is kept
pub byte_at : (f : ℕ → List ℕ) (pages : List ℕ) (n position i : ℕ) (page : List ℕ)
    → ((j : ℕ) → j < length pages → length (f (slice_index pages j)) ≡ 512) → position / 512 ≡ i → i < length pages → position < n
    → f (slice_index pages i) ≡ page → slice_get (take n (flat_map f pages)) position ≡ Some (slice_index page (position % 512))
byte_at f pages n position i page whole at within below is =
    let index : 512 * i + position % 512 ≡ position = omega (arith, at) in
    let there = page_at f pages i (position % 512) whole (omega arith) within in
    let many : length (take n (flat_map f pages)) ≡ min n (length (flat_map f pages)) = length-take n (flat_map f pages) in
    slice_get-get_or (take n (flat_map f pages)) position 0 (omega (arith, many, index, there.0))
    ∙ ap Some
    (get_or-take n (flat_map f pages) position 0 below
    ∙ ap (λ k. get_or (flat_map f pages) k 0) (sym index) ∙ there.1 ∙ ap (λ xs. get_or xs (position % 512) 0) is)

-- ---- the file of a title

-- the file of a title in the image is the one that is kept
pub file_in : (blocks : List (List ℕ)) (title : List ℕ) (files : List (Option StoredFile)) → IsKeptOf blocks files
    → find_file (slots_of blocks) title ≡ option_map (file_of blocks) (file_titled title files)
file_in blocks title files kept =
    ap (λ s. find_file s title) (slots_are blocks ∙ ap (map (option_map (file_of blocks))) (sym kept.slots)) ∙ file_same blocks title files
