-- A map block of numbers that follow one another.
use Rattle.std.proofs.Common.{◌≡◌, ℕ, zero, suc, ◌+◌, ◌-◌, ◌*◌, ◌/◌, ◌%◌, ◌^◌, ◌≤◌, ◌<◌, List, [], ◌∷◌, ◌++◌, length, replicate, refl, ap, sym, ◌∙◌, arith}
use Rattle.std.proofs.Common.{length-append, append_assoc, append-nil, take}
use Rattle.std.specs.List.{range_with_len}
use Rattle.std.specs.Int.{bytes_high_first}
use Rattle.std.proofs.lemmas.List.{length-replicate, take-replicate}
use Rattle.std.proofs.lemmas.List.FromFn.{length-range_with_len}
use Rattle.edi_image.specs.Build.{filled, two, all_two, map_block}
use Rattle.edi_image.specs.Entries.{short_at, shorts}
use Rattle.edi_image.specs.Image.{numbers_in}

two_read : (n : ℕ) → 2 ^ 8 * (n / 256) + n % 256 ≡ n
two_read n = omega arith

shorts_read : (first n : ℕ) (rest : List ℕ) → shorts n (all_two (range_with_len first n) ++ rest) ≡ range_with_len first n
unfolding two
shorts_read first zero rest = refl
shorts_read first (suc n) rest =
    ap (λ v. v ∷ shorts n (all_two (range_with_len (first + 1) n) ++ rest)) (two_read first)
    ∙ ap (λ ns. first ∷ ns) (shorts_read (first + 1) n rest)

pub numbers_of_map : (first n : ℕ) → numbers_in (map_block (range_with_len first n)) n ≡ range_with_len first n
unfolding map_block filled two
numbers_of_map first n = shorts_read first n _

pub count_of_map : (first n : ℕ) → short_at (map_block (range_with_len first n)) 0 ≡ n
unfolding map_block filled two
count_of_map first n = two_read (length (range_with_len first n)) ∙ length-range_with_len first n

pub length-all_two-range : (first n : ℕ) → length (all_two (range_with_len first n)) ≡ 2 * n
unfolding two
length-all_two-range first zero = refl
length-all_two-range first (suc n) =
    let later : length (all_two (range_with_len (first + 1) n)) ≡ 2 * n = length-all_two-range (first + 1) n in
    omega (arith, later)

pub length-map_block : (first n : ℕ) → n ≤ 255 → length (map_block (range_with_len first n)) ≡ 512
unfolding map_block filled two
length-map_block first n h =
    let numbers : length (all_two (range_with_len first n)) ≡ 2 * n = length-all_two-range first n in
    ap (λ k. suc (suc k))
    (length-append (all_two (range_with_len first n)) (replicate (512 - suc (suc (length (all_two (range_with_len first n))))) 0)
    ∙ ap (λ k. length (all_two (range_with_len first n)) + k) (length-replicate (512 - suc (suc (length (all_two (range_with_len first n))))) 0))
    ∙ omega (arith, numbers)

-- ---- as it is put behind other bytes

pub two_put : (bytes after buffer : List ℕ) (n : ℕ) → n < 2 ^ 16 → buffer ≡ bytes_high_first 2 n → after ≡ bytes ++ buffer → after ≡ bytes ++ two n
unfolding two
two_put bytes after buffer n h e a =
    a ∙ ap (λ bs. bytes ++ bs) e
    ∙ (let high : n / 256 % 256 ≡ n / 256 = omega arith in ap (λ m. bytes ++ (m ∷ n % 256 ∷ [])) high)

length-two : (n : ℕ) → length (two n) ≡ 2
unfolding two
length-two n = refl

pub numbers_from : (bytes : List ℕ) (first count : ℕ)
    → bytes ++ all_two (range_with_len (first + 0) (count - 0)) ≡ bytes ++ all_two (range_with_len first count)
numbers_from bytes first count =
    let same : first + 0 ≡ first = omega arith in
    let all : count - 0 ≡ count = omega arith in
    ap (λ n. bytes ++ all_two (range_with_len n (count - 0))) same ∙ ap (λ n. bytes ++ all_two (range_with_len first n)) all

-- the first of the numbers that are left
pub numbers_on : (bytes after goal : List ℕ) (first i count : ℕ) → suc i ≤ count
    → bytes ++ all_two (range_with_len (first + i) (count - i)) ≡ goal → after ≡ bytes ++ two (first + i)
    → after ++ all_two (range_with_len (first + (i + 1)) (count - (i + 1))) ≡ goal
numbers_on bytes after goal first i count h so_far a =
    let left : count - i ≡ suc (count - (i + 1)) = omega arith in
    let next : first + (i + 1) ≡ first + i + 1 = omega arith in
    ap (λ bs. bs ++ all_two (range_with_len (first + (i + 1)) (count - (i + 1)))) a
    ∙ ap (λ m. (bytes ++ two (first + i)) ++ all_two (range_with_len m (count - (i + 1)))) next
    ∙ append_assoc bytes (two (first + i)) (all_two (range_with_len (first + i + 1) (count - (i + 1))))
    ∙ ap (λ m. bytes ++ all_two (range_with_len (first + i) m)) (sym left)
    ∙ so_far

pub numbers_done : (bytes goal : List ℕ) (first i count : ℕ) → count ≤ i → bytes ++ all_two (range_with_len (first + i) (count - i)) ≡ goal → bytes ≡ goal
numbers_done bytes goal first i count h so_far =
    let none : count - i ≡ 0 = omega arith in
    sym (append-nil bytes) ∙ ap (λ n. bytes ++ all_two (range_with_len (first + i) n)) (sym none) ∙ so_far

-- parts that were put one behind another
parts_put : (start numbered filled_ rest bytes one numbers : List ℕ) (zeros : ℕ) → numbered ≡ start ++ one → filled_ ≡ numbered ++ numbers
    → rest ≡ replicate zeros 0 → bytes ≡ filled_ ++ rest → bytes ≡ start ++ ((one ++ numbers) ++ replicate zeros 0)
parts_put start numbered filled_ rest bytes one numbers zeros a b z r =
    r ∙ ap (λ bs. bs ++ rest) (b ∙ ap (λ bs. bs ++ numbers) a ∙ append_assoc start one numbers)
    ∙ ap (λ bs. (start ++ (one ++ numbers)) ++ bs) z ∙ append_assoc start (one ++ numbers) (replicate zeros 0)

-- a map block, and the zeros in it
pub map_put : (start numbered filled_ rest bytes : List ℕ) (first n at : ℕ) → n ≤ 255 → at ≡ 512 - 2 - 2 * n → numbered ≡ start ++ two n
    → filled_ ≡ numbered ++ all_two (range_with_len first n) → rest ≡ take at (replicate 512 0) → bytes ≡ filled_ ++ rest
    → bytes ≡ start ++ map_block (range_with_len first n)
unfolding map_block filled
map_put start numbered filled_ rest bytes first n at h e a b z r =
    let front : length (two n ++ all_two (range_with_len first n)) ≡ 2 + 2 * n =
    length-append (two n) (all_two (range_with_len first n)) ∙ ap (λ k. k + length (all_two (range_with_len first n))) (length-two n)
    ∙ ap (λ k. 2 + k) (length-all_two-range first n) in
    let left : at ≡ 512 - length (two n ++ all_two (range_with_len first n)) = omega (arith, front, e) in
    parts_put start numbered filled_ rest bytes (two n) (all_two (range_with_len first n)) (512 - length (two n ++ all_two (range_with_len first n))) a b
    (z ∙ take-replicate at 512 0 (omega arith) ∙ ap (λ k. replicate k 0) left) r
    ∙ ap (λ k. start ++ ((two k ++ all_two (range_with_len first n)) ++ replicate (512 - length (two k ++ all_two (range_with_len first n))) 0))
    (sym (length-range_with_len first n))
