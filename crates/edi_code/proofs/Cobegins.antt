-- The words of the branches of a `cobegin`.
use Rattle.std.proofs.Common.{◌≡◌, ℕ, suc, ◌*◌, ◌%◌, ◌<◌, ◌≤◌, ◌^◌, List, [], ◌∷◌, length, refl, ap, ◌∙◌, arith}
use Rattle.std.proofs.lemmas.Bool.{le-leb, lt-ltb}
use Rattle.std.specs.Cmp.Derive.{both_true}
use Rattle.std.specs.Prelude.{true, ◌&&◌, ◌==◌, map, All}
use Rattle.std.specs.List.{list_all}
use Rattle.edi_target.specs.Op.{Branch, address_of_words, high_word, low_word, branch_words, is_count, has_frame}
use Rattle.edi_target.specs.Decode.{branches_of}

-- the words of branches give them again
pub branches_again : (bs : List Branch) → branches_of (branch_words bs) ≡ bs
branches_again [] = refl
branches_again (b ∷ bs) =
    let here : address_of_words (high_word b.address) (low_word b.address) ≡ b.address = omega arith in
    ap (λ (a : ℕ). record { need = b.need; address = a } ∷ branches_of (branch_words bs)) here ∙ ap (λ (l : List Branch). b ∷ l) (branches_again bs)

words_length : (bs : List Branch) → length (branch_words bs) ≡ 3 * length bs
words_length [] = refl
words_length (b ∷ bs) = omega (arith, words_length bs)

-- each branch of a block that is there has a frame
pub frames_true : (f : ℕ → Branch) (ns : List ℕ) (m : ℕ) → ((n : ℕ) → n < m → 5 ≤ (f n).need) → All (λ n. n < m) ns → list_all has_frame (map f ns) ≡ true
frames_true f [] m fits there = refl
frames_true f (n ∷ ns) m fits there =
    both_true (le-leb 5 (f n).need (fits n (there 0 0 (omega arith)))) (frames_true f ns m fits (λ i d l. there (suc i) d (omega arith)))

eq_zero : (n : ℕ) → n ≡ 0 → (n == 0) ≡ true
eq_zero n e = ap (λ (k : ℕ). k == 0) e

-- a `cobegin` of such branches can be written
pub cobegin_whole : (bs : List Branch) (ws : List ℕ) → ws ≡ branch_words bs → 1 ≤ length bs → length bs < 2 ^ 16 → list_all has_frame bs ≡ true
    → ((length ws % 3 == 0) && (is_count (length (branches_of ws)) && list_all has_frame (branches_of ws))) ≡ true
cobegin_whole bs ws e some few frames =
    let read : branches_of ws ≡ bs = ap branches_of e ∙ branches_again bs in
    let long : length ws ≡ 3 * length bs = ap length e ∙ words_length bs in
    both_true (eq_zero (length ws % 3) (omega (arith, long)))
    (ap (λ (l : List Branch). is_count (length l) && list_all has_frame l) read
    ∙ both_true (both_true (le-leb 1 (length bs) some) (lt-ltb (length bs) (2 ^ 16) few)) frames)
