-- Free blocks, found from the front.
use Rattle.std.proofs.Common.{◌≡◌, ℕ, zero, suc, ◌+◌, ◌-◌, ◌≤◌, ◌<◌, Bool, true, false, List, [], ◌∷◌, ◌++◌, length, Option, Some, None, refl, ap, sym}
use Rattle.std.proofs.Common.{subst, ◌∙◌, arith, length-append, append-nil}
use Rattle.std.specs.Prelude.{not, ◌&&◌, ◌||◌, ◌==◌, nat_le, nat_lt, if◌then◌else◌}
use Rattle.std.specs.List.{list_all}
use Rattle.edi_calls.specs.State.{pages_of}
use Rattle.edi_image.specs.Rules.{is_in}
use Rattle.edi_image.specs.Entries.{is_data}
use Rattle.edi_image.specs.Stored.{StoredFile, are_data, is_record, is_stored, blocks_in, blocks_taken}
use Rattle.edi_catalog.specs.Plan.{used_in, blocks_used, are_different, AreFree}
use Rattle.std.proofs.lemmas.Bool.{eqb-true, or_from, le-leb, lt-ltb}
use Rattle.edi_image.proofs.Spelled.{both}
use Rattle.edi_calls.specs.State.{is_title, most_bytes}
use Rattle.std.proofs.Common.{ne_eqb}

-- the free ones of so many blocks from one on
abbrev pub free_from : (used : List ℕ) → ℕ → ℕ → List ℕ
free_from used n zero = []
free_from used n (suc k) = if is_in n used then free_from used (suc n) k else n ∷ free_from used (suc n) k

-- ---- one more block

over : (b : Bool) (n : ℕ) (xs ys back : List ℕ) → xs ≡ ys ++ back → (if b then xs else n ∷ xs) ≡ (if b then ys else n ∷ ys) ++ back
over true n xs ys back e = e
over false n xs ys back e = ap (λ zs. n ∷ zs) e

free_next : (used : List ℕ) (n k m : ℕ) → m ≡ n + k
    → free_from used n (suc k) ≡ free_from used n k ++ (if is_in m used then [] else m ∷ [])
free_next used n zero m e = (let same : n ≡ m = omega arith in ap (λ p. if is_in p used then [] else p ∷ []) same)
free_next used n (suc k) m e = over (is_in n used) n _ _ _ (free_next used (suc n) k m (omega arith))

pub free_more : (used items after : List ℕ) (block : ℕ) → 33 ≤ block → items ≡ free_from used 33 (block - 33) → is_in block used ≡ false
    → after ≡ items ++ block ∷ [] → after ≡ free_from used 33 (block + 1 - 33)
free_more used items after block low is unused e =
    let index : suc (block - 33) ≡ block + 1 - 33 = omega arith in
    e ∙ ap (λ xs. xs ++ block ∷ []) is
    ∙ ap (λ b. free_from used 33 (block - 33) ++ (if b then [] else block ∷ [])) (sym unused)
    ∙ sym (free_next used 33 (block - 33) block (omega arith))
    ∙ ap (free_from used 33) index

pub free_skips : (used items : List ℕ) (block : ℕ) → 33 ≤ block → items ≡ free_from used 33 (block - 33) → is_in block used ≡ true
    → items ≡ free_from used 33 (block + 1 - 33)
free_skips used items block low is again =
    let index : suc (block - 33) ≡ block + 1 - 33 = omega arith in
    is ∙ sym (append-nil (free_from used 33 (block - 33)))
    ∙ ap (λ b. free_from used 33 (block - 33) ++ (if b then [] else block ∷ [])) (sym again)
    ∙ sym (free_next used 33 (block - 33) block (omega arith))
    ∙ ap (free_from used 33) index

-- ---- what they are

one_if : (p : ℕ → Bool) (b : Bool) (n : ℕ) (xs : List ℕ) → (b ≡ false → p n ≡ true) → list_all p xs ≡ true
    → list_all p (if b then xs else n ∷ xs) ≡ true
one_if p true n xs h all = all
one_if p false n xs h all = ap (λ t. t && list_all p xs) (h refl) ∙ all

free_on_drive : (used : List ℕ) (count n k : ℕ) → 33 ≤ n → n + k ≤ count → are_data count (free_from used n k) ≡ true
free_on_drive used count n zero low high = refl
free_on_drive used count n (suc k) low high =
    one_if (is_data 33 count) (is_in n used) n _
    (λ e. ap (λ b. b && nat_lt n count) (le-leb 33 n low) ∙ lt-ltb n count (omega arith))
    (free_on_drive used count (suc n) k (omega arith) (omega arith))

free_unused : (used : List ℕ) (n k : ℕ) → list_all (λ m. not (is_in m used)) (free_from used n k) ≡ true
free_unused used n zero = refl
free_unused used n (suc k) =
    one_if (λ m. not (is_in m used)) (is_in n used) n _ (λ e. ap not e) (free_unused used (suc n) k)

none_if : (m : ℕ) (b : Bool) (n : ℕ) (xs : List ℕ) → m < n → is_in m xs ≡ false → is_in m (if b then xs else n ∷ xs) ≡ false
none_if m true n xs h none = none
none_if m false n xs h none = or_from (n == m) (is_in m xs) (ne_eqb n m (λ e. omega arith)) none

free_later : (used : List ℕ) (m n k : ℕ) → m < n → is_in m (free_from used n k) ≡ false
free_later used m n zero h = refl
free_later used m n (suc k) h = none_if m (is_in n used) n _ h (free_later used m (suc n) k (omega arith))

different_if : (b : Bool) (n : ℕ) (xs : List ℕ) → is_in n xs ≡ false → are_different xs ≡ true
    → are_different (if b then xs else n ∷ xs) ≡ true
different_if true n xs none d = d
different_if false n xs none d = ap (λ t. not t && are_different xs) none ∙ d

free_different : (used : List ℕ) (n k : ℕ) → are_different (free_from used n k) ≡ true
free_different used n zero = refl
free_different used n (suc k) =
    different_if (is_in n used) n _ (free_later used n (suc n) k (omega arith)) (free_different used (suc n) k)

pub free_found : (count : ℕ) (files : List (Option StoredFile)) (items : List ℕ) (k : ℕ) → 33 + k ≤ count
    → items ≡ free_from (blocks_used files) 33 k → AreFree count files items
free_found count files items k h is = record {
  on_drive = ap (are_data count) is ∙ free_on_drive (blocks_used files) count 33 k (omega arith) h;
  unused = ap (list_all (λ m. not (is_in m (blocks_used files)))) is ∙ free_unused (blocks_used files) 33 k;
  different = ap are_different is ∙ free_different (blocks_used files) 33 k;
}

-- ---- how many they are: a used block takes away one at most

apart : (x : ℕ) (used : List ℕ) (n k : ℕ) → x < n → free_from (x ∷ used) n k ≡ free_from used n k
apart x used n zero h = refl
apart x used n (suc k) h =
    ap (λ b. if b || is_in n used then free_from (x ∷ used) (suc n) k else n ∷ free_from (x ∷ used) (suc n) k) (ne_eqb x n (λ e. omega arith))
    ∙ ap (λ xs. if is_in n used then xs else n ∷ xs) (apart x used (suc n) k (omega arith))

at_most : (b : Bool) (n : ℕ) (xs : List ℕ) → length (if b then xs else n ∷ xs) ≤ suc (length xs)
at_most true n xs = omega arith
at_most false n xs = omega arith

both_grow : (b : Bool) (n : ℕ) (xs ys : List ℕ) → length xs ≤ suc (length ys)
    → length (if b then xs else n ∷ xs) ≤ suc (length (if b then ys else n ∷ ys))
both_grow true n xs ys h = h
both_grow false n xs ys h = omega arith

one_less_at : (x : ℕ) (used : List ℕ) (n k : ℕ) (b : Bool) → (x == n) ≡ b
    → length (free_from used (suc n) k) ≤ suc (length (free_from (x ∷ used) (suc n) k))
    → length (free_from used n (suc k)) ≤ suc (length (free_from (x ∷ used) n (suc k)))
one_less_at x used n k true e later =
    let here : x ≡ n = eqb-true x n e in
    let same : free_from (x ∷ used) n (suc k) ≡ free_from used (suc n) k =
    ap (λ b. if b || is_in n used then free_from (x ∷ used) (suc n) k else n ∷ free_from (x ∷ used) (suc n) k) e
    ∙ apart x used (suc n) k (omega arith) in
    subst (λ xs. length (free_from used n (suc k)) ≤ suc (length xs)) (sym same) (at_most (is_in n used) n (free_from used (suc n) k))
one_less_at x used n k false e later =
    subst
    (λ b. length (free_from used n (suc k))
    ≤ suc (length (if b || is_in n used then free_from (x ∷ used) (suc n) k else n ∷ free_from (x ∷ used) (suc n) k)))
    (sym e) (both_grow (is_in n used) n (free_from used (suc n) k) (free_from (x ∷ used) (suc n) k) later)

one_less : (x : ℕ) (used : List ℕ) (n k : ℕ) → length (free_from used n k) ≤ suc (length (free_from (x ∷ used) n k))
one_less x used n zero = omega arith
one_less x used n (suc k) = one_less_at x used n k (x == n) refl (one_less x used (suc n) k)

free_all : (n k : ℕ) → length (free_from [] n k) ≡ k
free_all n zero = refl
free_all n (suc k) = ap suc (free_all (suc n) k)

free_many : (used : List ℕ) (n k : ℕ) → k ≤ length (free_from used n k) + length used
free_many [] n k = (let all : length (free_from [] n k) ≡ k = free_all n k in omega arith)
free_many (x ∷ used) n k =
    let so_far : k ≤ length (free_from used n k) + length used = free_many used n k in
    let less : length (free_from used n k) ≤ suc (length (free_from (x ∷ used) n k)) = one_less x used n k in
    omega arith

-- the blocks that files use are as many as they take
pub length-used_in : (count : ℕ) (file : Option StoredFile) → is_stored count file ≡ true → length (used_in file) ≡ blocks_in file
length-used_in count None h = refl
length-used_in count (Some file) h =
    let pages = both (is_record count file.record_ && are_data count file.pages) (length file.pages == pages_of file.record_.length) h in
    let whole = both (is_record count file.record_) (are_data count file.pages) pages.0 in
    let maps = both (is_title file.record_.title && nat_le file.record_.length most_bytes && are_data count file.record_.maps)
    (length file.record_.maps == (if nat_le (pages_of file.record_.length) 255 then 1 else 2)) whole.0 in
    length-append file.record_.maps file.pages
    ∙ ap (λ n. n + length file.pages) (eqb-true (length file.record_.maps) _ maps.1)
    ∙ ap (λ n. (if nat_le (pages_of file.record_.length) 255 then 1 else 2) + n) (eqb-true (length file.pages) _ pages.1)
    ∙ omega arith

pub length-blocks_used : (count : ℕ) (files : List (Option StoredFile)) → list_all (is_stored count) files ≡ true
    → length (blocks_used files) ≡ blocks_taken files
length-blocks_used count [] h = refl
length-blocks_used count (file ∷ files) h =
    let parts = both (is_stored count file) (list_all (is_stored count) files) h in
    length-append (used_in file) (blocks_used files)
    ∙ ap (λ n. n + length (blocks_used files)) (length-used_in count file parts.0)
    ∙ ap (λ n. blocks_in file + n) (length-blocks_used count files parts.1)

pub free_enough : (count : ℕ) (files : List (Option StoredFile)) (items : List ℕ) (wanted k : ℕ) → list_all (is_stored count) files ≡ true
    → wanted + 33 + blocks_taken files ≤ count → 33 + k ≡ count → items ≡ free_from (blocks_used files) 33 k → wanted ≤ length items
free_enough count files items wanted k stored room end is =
    let used : length (blocks_used files) ≡ blocks_taken files = length-blocks_used count files stored in
    let many : k ≤ length (free_from (blocks_used files) 33 k) + length (blocks_used files) = free_many (blocks_used files) 33 k in
    let same : length items ≡ length (free_from (blocks_used files) 33 k) = ap length is in
    omega arith
