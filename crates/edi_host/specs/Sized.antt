-- Words of contracts. Each block of a form in memory has 512 bytes.
use Rattle.std.proofs.Common.{◌≡◌, ℕ, ◌+◌, true, ◌&&◌, List, [], ◌∷◌, ◌++◌, length, map, take, replicate, refl, ap, subst, ◌∙◌, arith}
use Rattle.std.specs.List.{list_all}
use Rattle.std.proofs.lemmas.Bool.{eq-eqb}
use Rattle.std.proofs.lemmas.List.{length-append, length-replicate, length-take-le}
use Rattle.std.proofs.Math.Seq.{take-append_seam}
use Rattle.edi_host.specs.Blocks.{block_of, is_block}

-- 512 bytes are a block of their own
pub block_of-is_block : (bytes : List ℕ) → length bytes ≡ 512 → block_of bytes ≡ bytes
unfolding block_of
block_of-is_block bytes e = subst (λ n. take n (bytes ++ replicate 512 0) ≡ bytes) e (take-append_seam bytes (replicate 512 0))

length-block_of : (bytes : List ℕ) → length (block_of bytes) ≡ 512
unfolding block_of
length-block_of bytes =
    let zeros : List ℕ = replicate 512 0 in
    let many : length zeros ≡ 512 = length-replicate {A = ℕ} 512 0 in
    let all : length (bytes ++ zeros) ≡ length bytes + length zeros = length-append bytes zeros in
    length-take-le 512 (bytes ++ zeros) (omega (arith, many, all))

-- whatever the bytes are, each is a block
pub all_are_blocks : (blocks : List (List ℕ)) → list_all is_block (map block_of blocks) ≡ true
all_are_blocks [] = refl
all_are_blocks (block ∷ blocks) = ap (λ b. b && list_all is_block (map block_of blocks)) (eq-eqb (length (block_of block)) 512 (length-block_of block))
    ∙ all_are_blocks blocks
