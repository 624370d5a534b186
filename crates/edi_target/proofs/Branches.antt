-- The branches that words give, and the integers that words hold.
use Rattle.std.proofs.Common.{◌≡◌, ℕ, ◌+◌, ◌*◌, ◌/◌, ◌%◌, ◌<◌, ◌^◌, ℤ, pos, negsuc, true, List, [], ◌∷◌, Some, length, take, get_or, zero, suc, refl, ap}
use Rattle.std.proofs.Common.{sym, ◌∙◌, arith}
use Rattle.std.proofs.Math.Seq.{take-length}
use Rattle.std.specs.Prelude.{FitsSigned, slice_get}
use Rattle.std.specs.Int.{w16}
use Rattle.std.proofs.lemmas.Bool.{lt-ltb}
use Rattle.edi_target.specs.Op.{address_of_words, branch_words, is_integer, cobegin, words_of}
use Rattle.edi_target.specs.Decode.{branches_of}
use Rattle.edi_target.specs.Reading.{AreWords}
use Rattle.edi_target.proofs.Reading.{branches_spelled}

pub branch_count : (ws : List ℕ) → length (branches_of ws) ≡ length ws / 3
branch_count [] = refl
branch_count (a ∷ []) = refl
branch_count (a ∷ b ∷ []) = refl
branch_count (a ∷ b ∷ c ∷ ws) = let h : length (branches_of ws) ≡ length ws / 3 = branch_count ws in omega arith

-- the words of a COBEGIN, from those of its branches
pub cobegin_words : (line : ℕ) (ws : List ℕ) → AreWords ws → length ws % 3 ≡ 0 → words_of (cobegin line (branches_of ws)) ≡ 42 ∷ length ws / 3 ∷ line ∷ ws
cobegin_words line ws w whole =
    let all : 3 * (length ws / 3) ≡ length ws = omega arith in
    let h : branch_words (branches_of (take (3 * (length ws / 3)) ws)) ≡ take (3 * (length ws / 3)) ws =
    (branches_spelled (length ws / 3) ws w (omega arith)).0 in
    let e : take (3 * (length ws / 3)) ws ≡ ws = ap (λ (k : ℕ). take k ws) all ∙ take-length ws in
    let words : branch_words (branches_of ws) ≡ ws = ap (λ (l : List ℕ). branch_words (branches_of l)) (sym e) ∙ h ∙ e in
    rw (branch_count ws, words) refl

pub integer_fits : (z : ℤ) → FitsSigned w16 z → is_integer z ≡ true
integer_fits (pos n) f = lt-ltb n (2 ^ 15) f.sfits
integer_fits (negsuc n) f = lt-ltb n (2 ^ 15) f.sfits

-- where the words of a branch stand among those of all
pub branch_at : (ws : List ℕ) (i : ℕ) → 3 * i + 2 < length ws → slice_get (branches_of ws) i ≡ Some
    (record { need = get_or ws (3 * i) 0; address = address_of_words (get_or ws (3 * i + 1) 0) (get_or ws (3 * i + 2) 0) })
branch_at [] i l = absurd (omega arith)
branch_at (a ∷ []) i l = absurd (omega arith)
branch_at (a ∷ b ∷ []) i l = absurd (omega arith)
branch_at (a ∷ b ∷ c ∷ ws) zero l = refl
branch_at (a ∷ b ∷ c ∷ ws) (suc i) l =
    let three : 3 * suc i ≡ suc (suc (suc (3 * i))) = omega arith in
    let four : 3 * suc i + 1 ≡ suc (suc (suc (3 * i + 1))) = omega arith in
    let five : 3 * suc i + 2 ≡ suc (suc (suc (3 * i + 2))) = omega arith in
    rw (five, four, three) (branch_at ws i (omega arith))
