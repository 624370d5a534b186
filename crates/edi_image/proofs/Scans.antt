-- Steps of the loops over page numbers and over titles.
use Rattle.std.proofs.Common.{◌≡◌, ℕ, zero, suc, ◌+◌, ◌*◌, ◌^◌, ◌<◌, List, [], ◌∷◌, ◌++◌, length, drop, get_or, refl, ap, sym, ◌∙◌, append_assoc, arith}
use Rattle.std.proofs.Common.{length-drop}
use Rattle.std.proofs.lemmas.List.{get_or-drop}
use Rattle.edi_image.specs.Entries.{short_at, shorts}
use Rattle.edi_image.specs.Image.{numbers_in}

-- ---- page numbers

shorts_more : (bytes : List ℕ) (n : ℕ) → 2 * n + 1 < length bytes
    → shorts (suc n) bytes ≡ shorts n bytes ++ short_at bytes (2 * n) ∷ []
shorts_more [] n h = absurd (omega arith)
shorts_more (b ∷ []) n h = absurd (omega arith)
shorts_more (b ∷ d ∷ bytes) zero h = refl
shorts_more (b ∷ d ∷ bytes) (suc n) h =
    let high : 2 * suc n ≡ suc (suc (2 * n)) = omega arith in
    let low : 2 * suc n + 1 ≡ suc (suc (2 * n + 1)) = omega arith in
    let value : short_at (b ∷ d ∷ bytes) (2 * suc n) ≡ short_at bytes (2 * n) =
    ap (λ m. 2 ^ 8 * get_or (b ∷ d ∷ bytes) m 0 + get_or (b ∷ d ∷ bytes) (2 * suc n + 1) 0) high
    ∙ ap (λ m. 2 ^ 8 * get_or bytes (2 * n) 0 + get_or (b ∷ d ∷ bytes) m 0) low in
    ap (λ ns. (2 ^ 8 * b + d) ∷ ns) (shorts_more bytes n (omega arith))
    ∙ ap (λ v. (2 ^ 8 * b + d) ∷ (shorts n bytes ++ v ∷ [])) (sym value)

pub numbers_more : (start before after : List ℕ) (block : List ℕ) (n number : ℕ) → 2 * n + 3 < length block
    → number ≡ short_at block (2 + 2 * n) → before ≡ start ++ numbers_in block n → after ≡ before ++ number ∷ []
    → after ≡ start ++ numbers_in block (n + 1)
numbers_more start before after block n number h v b a =
    let first : get_or (drop 2 block) (2 * n) 0 ≡ get_or block (2 + 2 * n) 0 = get_or-drop 2 block (2 * n) 0 in
    let second : get_or (drop 2 block) (2 * n + 1) 0 ≡ get_or block (2 + (2 * n + 1)) 0 = get_or-drop 2 block (2 * n + 1) 0 in
    let same : short_at (drop 2 block) (2 * n) ≡ short_at block (2 + 2 * n) =
    ap (λ x. 2 ^ 8 * x + get_or (drop 2 block) (2 * n + 1) 0) first
    ∙ ap (λ x. 2 ^ 8 * get_or block (2 + 2 * n) 0 + x) second
    ∙ (let index : 2 + (2 * n + 1) ≡ 2 + 2 * n + 1 = omega arith in ap (λ m. 2 ^ 8 * get_or block (2 + 2 * n) 0 + get_or block m 0) index) in
    a ∙ ap (λ xs. xs ++ number ∷ []) b ∙ append_assoc start (numbers_in block n) (number ∷ [])
    ∙ ap (λ x. start ++ (numbers_in block n ++ x ∷ [])) (v ∙ sym same)
    ∙ ap (λ xs. start ++ xs) (sym (shorts_more (drop 2 block) n (omega (arith, length-drop 2 block))))
    ∙ ap (λ m. start ++ numbers_in block m) (let one : suc n ≡ n + 1 = omega arith in one)
