-- The blocks that a form in memory tells, over its calls.
use Rattle.std.proofs.Common.{◌≡◌, ◌≤◌, ◌⊎◌, inl, inr, ℕ, zero, suc, ◌-◌, ◌*◌, Bool, true, false, ◌&&◌, List, [], ◌∷◌, ◌++◌, length, map, take, drop}
use Rattle.std.proofs.Common.{replicate, Some, refl, sym, ap, ◌∙◌, arith}
use Rattle.std.specs.Prelude.{slice_set}
use Rattle.std.specs.Option.{option_map}
use Rattle.std.specs.List.{list_all}
use Rattle.std.specs.Simd.{first_chunks}
use Rattle.std.proofs.lemmas.Bool.{eq-eqb, eqb-true}
use Rattle.std.proofs.lemmas.List.Folds.{list_all-append}
use Rattle.std.proofs.lemmas.List.{length-drop, length-map, length-replicate, length-take-le, map-append, map-set, take-map}
use Rattle.std.proofs.lemmas.Option.{slice_get-map}
use Rattle.edi_host.specs.Blocks.{block_of, is_block, resized, zero_block, ReadLeaves, ResizeLeaves, ResizesOrNot, WriteLeaves}
use Rattle.edi_host.specs.Sized.{block_of-is_block}
use Rattle.edi_host.specs.declared.drive.DriveEnd.{DriveEnd}
use Rattle.edi_host.specs.declared.drive.DriveEnd.TheVariants as drive
use Rattle.edi_host.specs.declared.drive.ResizeEnd.{ResizeEnd}
use Rattle.edi_host.specs.declared.drive.ResizeEnd.TheVariants as resize

-- ---- reading

pub told_read : (end : DriveEnd) (n : ℕ) (into : List ℕ) (old new : List (List ℕ)) → length into ≡ 512
    → ReadLeaves end n into old new → ReadLeaves end n into (map block_of old) (map block_of new)
told_read drive.Ok n into old new long leaves = (
  ap (map block_of) leaves.0,
  slice_get-map block_of old n ∙ ap (option_map block_of) leaves.1 ∙ ap Some (block_of-is_block into long),
)
told_read drive.Failed n into old new long leaves = ap (map block_of) leaves

-- ---- writing

told_set : (blocks : List (List ℕ)) (n : ℕ) (from : List ℕ) → length from ≡ 512
    → map block_of (slice_set blocks n from) ≡ slice_set (map block_of blocks) n from
told_set blocks n from long =
    map-set block_of blocks n from ∙ ap (λ block. slice_set (map block_of blocks) n block) (block_of-is_block from long)

pub told_write : (end : DriveEnd) (n : ℕ) (from : List ℕ) (old new : List (List ℕ)) → length from ≡ 512
    → WriteLeaves end n from old new → WriteLeaves end n from (map block_of old) (map block_of new)
told_write drive.Ok n from old new long leaves = ap (map block_of) leaves ∙ told_set old n from long
told_write drive.Failed n from old new long leaves = go leaves where
  go : (new ≡ old) ⊎ (new ≡ slice_set old n from)
      → (map block_of new ≡ map block_of old) ⊎ (map block_of new ≡ slice_set (map block_of old) n from)
  go (inl same) = inl (ap (map block_of) same)
  go (inr set) = inr (ap (map block_of) set ∙ told_set old n from long)

-- ---- resizing

map_replicate : {A B : Type 0} (f : A → B) (n : ℕ) (x : A) → map f (replicate n x) ≡ replicate n (f x)
map_replicate f zero x = refl
map_replicate f (suc n) x = ap (λ ys. f x ∷ ys) (map_replicate f n x)

told_resized : (blocks : List (List ℕ)) (n : ℕ) → map block_of (resized blocks n) ≡ resized (map block_of blocks) n
told_resized blocks n =
    map-append block_of (take n blocks) (replicate (n - length blocks) zero_block)
    ∙ ap (λ front. front ++ map block_of (replicate (n - length blocks) zero_block)) (sym (take-map block_of n blocks))
    ∙ ap (λ more. take n (map block_of blocks) ++ more)
    (map_replicate block_of (n - length blocks) zero_block
    ∙ ap (replicate (n - length blocks)) (block_of-is_block zero_block (length-replicate {A = ℕ} 512 0))
    ∙ ap (λ k. replicate (n - k) zero_block) (sym (length-map blocks block_of)))

pub told_resize : (end : ResizeEnd) (n : ℕ) (old new : List (List ℕ)) → ResizesOrNot end n old new
    → ResizeLeaves end n (map block_of old) (map block_of new)
told_resize resize.Ok n old new leaves = ap (map block_of) leaves ∙ told_resized old n
told_resize resize.Failed n old new leaves = tt
told_resize resize.NoMemory n old new leaves = ap (map block_of) leaves

-- ---- what is kept are blocks

-- the first passes a test and the others do
both : (a b : Bool) → (a && b) ≡ true → (a ≡ true) × (b ≡ true)
both true b h = (refl, h)
both false b h = absurd (let no : false ≡ true = h in cc)

one_more : (block : List ℕ) (blocks : List (List ℕ)) → is_block block ≡ true → list_all is_block blocks ≡ true → list_all is_block (block ∷ blocks) ≡ true
one_more block blocks first rest = ap (λ b. b && list_all is_block blocks) first ∙ rest

pub chunks_are_blocks : (n : ℕ) (bytes : List ℕ) → 512 * n ≤ length bytes → list_all is_block (first_chunks 512 n bytes) ≡ true
chunks_are_blocks zero bytes within = refl
chunks_are_blocks (suc n) bytes within =
    one_more (take 512 bytes) (first_chunks 512 n (drop 512 bytes)) (eq-eqb (length (take 512 bytes)) 512 (length-take-le 512 bytes (omega (arith, within))))
    (chunks_are_blocks n (drop 512 bytes) (let rest : length (drop 512 bytes) ≡ length bytes - 512 = length-drop 512 bytes in omega (arith, rest, within)))

pub blocks_set : (blocks : List (List ℕ)) (n : ℕ) (block : List ℕ) → list_all is_block blocks ≡ true → length block ≡ 512
    → list_all is_block (slice_set blocks n block) ≡ true
blocks_set [] n block all long = refl
blocks_set (first ∷ blocks) zero block all long = one_more block blocks (eq-eqb (length block) 512 long)
    (both (is_block first) (list_all is_block blocks) all).1
blocks_set (first ∷ blocks) (suc n) block all long =
    let parts = both (is_block first) (list_all is_block blocks) all in
    one_more first (slice_set blocks n block) parts.0 (blocks_set blocks n block parts.1 long)

first_blocks : (n : ℕ) (blocks : List (List ℕ)) → list_all is_block blocks ≡ true → list_all is_block (take n blocks) ≡ true
first_blocks zero blocks all = refl
first_blocks (suc n) [] all = refl
first_blocks (suc n) (first ∷ blocks) all =
    let parts = both (is_block first) (list_all is_block blocks) all in
    one_more first (take n blocks) parts.0 (first_blocks n blocks parts.1)

zero_blocks : (n : ℕ) → list_all is_block (replicate n zero_block) ≡ true
zero_blocks zero = refl
zero_blocks (suc n) =
    one_more zero_block (replicate n zero_block) (eq-eqb (length zero_block) 512 (length-replicate {A = ℕ} 512 0)) (zero_blocks n)

pub blocks_resized : (end : ResizeEnd) (n : ℕ) (old new : List (List ℕ)) → list_all is_block old ≡ true → ResizesOrNot end n old new
    → list_all is_block new ≡ true
blocks_resized resize.Ok n old new all leaves =
    ap (list_all is_block) leaves ∙ list_all-append is_block (take n old) (replicate (n - length old) zero_block)
    ∙ ap (λ b. b && list_all is_block (replicate (n - length old) zero_block)) (first_blocks n old all) ∙ zero_blocks (n - length old)
blocks_resized resize.Failed n old new all leaves = ap (list_all is_block) leaves ∙ all
blocks_resized resize.NoMemory n old new all leaves = ap (list_all is_block) leaves ∙ all

-- what is told of them is what they are
pub told_as_kept : (blocks : List (List ℕ)) → list_all is_block blocks ≡ true → map block_of blocks ≡ blocks
told_as_kept [] all = refl
told_as_kept (block ∷ blocks) all =
    let parts = both (is_block block) (list_all is_block blocks) all in
    ap (λ x. x ∷ map block_of blocks) (block_of-is_block block (eqb-true (length block) 512 parts.0)) ∙ ap (λ xs. block ∷ xs) (told_as_kept blocks parts.1)
