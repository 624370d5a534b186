-- Block 0 as it is written.
use Rattle.std.proofs.Common.{◌≡◌, ℕ, ◌<◌, ◌^◌, ◌/◌, ◌%◌, List, [], ◌∷◌, ◌++◌, drop, ap, ◌∙◌, arith}
use Rattle.std.specs.Prelude.{replicate}
use Rattle.std.specs.Int.{bytes_high_first}
use Rattle.std.proofs.lemmas.List.{drop-replicate}
use Rattle.edi_image.specs.Image.{header_block}

pub header_made : (version count : ℕ) (start back : List ℕ)
    → start ≡ 69 ∷ 68 ∷ 73 ∷ 83 ∷ 0 ∷ version ∷ count / 256 ∷ count % 256 ∷ [] → back ≡ drop 8 (replicate 512 0)
    → start ++ back ≡ header_block version count
unfolding header_block
header_made version count start back s b =
    ap (λ xs. xs ++ back) s
    ∙ ap (λ xs. 69 ∷ 68 ∷ 73 ∷ 83 ∷ 0 ∷ version ∷ count / 256 ∷ count % 256 ∷ xs) (b ∙ drop-replicate 8 512 0)

-- a number in two bytes
pub two_bytes : (n : ℕ) (buffer : List ℕ) → n < 2 ^ 16 → buffer ≡ bytes_high_first 2 n → buffer ++ [] ≡ n / 256 ∷ n % 256 ∷ []
two_bytes n buffer h e = ap (λ b. b ++ []) e ∙ (let high : n / 256 % 256 ≡ n / 256 = omega arith in ap (λ m. m ∷ n % 256 ∷ []) high)
