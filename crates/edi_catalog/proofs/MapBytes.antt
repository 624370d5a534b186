-- The bytes of a map block, number by number.
use Rattle.std.proofs.Common.{◌≡◌, ℕ, ◌+◌, ◌-◌, ◌*◌, ◌/◌, ◌%◌, ◌^◌, ◌≤◌, ◌<◌, List, [], ◌∷◌, ◌++◌, length, take, drop, replicate, get_or, refl, ap, sym, ◌∙◌}
use Rattle.std.proofs.Common.{arith, min, append_assoc, append-nil, length-append}
use Rattle.std.specs.Int.{bytes_high_first}
use Rattle.std.proofs.lemmas.List.{take_at, drop-replicate, take_more, take_all, length-take-le, drop-drop, drop_at, take_min}
use Rattle.edi_image.specs.Build.{filled, two, all_two, map_block}
use Rattle.edi_catalog.specs.Plan.{part}

pub two_written : (n : ℕ) → n < 2 ^ 16 → bytes_high_first 2 n ≡ two n
unfolding two
two_written n h = (let high : n / 256 % 256 ≡ n / 256 = omega arith in ap (λ m. m ∷ n % 256 ∷ []) high)

length-two : (n : ℕ) → length (two n) ≡ 2
unfolding two
length-two n = refl

length-all_two : (numbers : List ℕ) → length (all_two numbers) ≡ 2 * length numbers
length-all_two [] = refl
length-all_two (n ∷ numbers) =
    let later : length (all_two numbers) ≡ 2 * length numbers = length-all_two numbers in
    let first : length (two n) ≡ 2 = length-two n in
    length-append (two n) (all_two numbers) ∙ omega arith

all_two_more : (numbers : List ℕ) (n : ℕ) → all_two (numbers ++ n ∷ []) ≡ all_two numbers ++ two n
all_two_more [] n = append-nil (two n)
all_two_more (m ∷ numbers) n =
    ap (λ bs. two m ++ bs) (all_two_more numbers n) ∙ sym (append_assoc (two m) (all_two numbers) (two n))

pub map_more : (pages before after : List ℕ) (i page : ℕ) → i < length pages → page ≡ get_or pages i 0
    → before ≡ two (length pages) ++ (all_two (take i pages) ++ replicate (512 - (2 + 2 * i)) 0)
    → after ≡ take (2 + 2 * i) before ++ (two page ++ drop (2 + 2 * i + 2) before)
    → after ≡ two (length pages) ++ (all_two (take (i + 1) pages) ++ replicate (512 - (2 + 2 * (i + 1))) 0)
map_more pages before after i page h is b e =
    let front : List ℕ = two (length pages) ++ all_two (take i pages) in
    let zeros : List ℕ = replicate (512 - (2 + 2 * i)) 0 in
    let whole : before ≡ front ++ zeros = b ∙ sym (append_assoc (two (length pages)) (all_two (take i pages)) zeros) in
    let size : length front ≡ 2 + 2 * i =
    length-append (two (length pages)) (all_two (take i pages))
    ∙ ap (λ k. k + length (all_two (take i pages))) (length-two (length pages))
    ∙ ap (λ k. 2 + k) (length-all_two (take i pages))
    ∙ ap (λ k. 2 + 2 * k) (length-take-le i pages (omega arith)) in
    let left : take (2 + 2 * i) before ≡ front = ap (take (2 + 2 * i)) whole ∙ take_at front zeros (2 + 2 * i) size in
    let right : drop (2 + 2 * i + 2) before ≡ replicate (512 - (2 + 2 * (i + 1))) 0 =
    sym (drop-drop 2 (2 + 2 * i) before)
    ∙ ap (λ bs. drop 2 bs) (ap (drop (2 + 2 * i)) whole ∙ drop_at front zeros (2 + 2 * i) size)
    ∙ drop-replicate 2 (512 - (2 + 2 * i)) 0
    ∙ ap (λ k. replicate k 0) (let same : 512 - (2 + 2 * i) - 2 ≡ 512 - (2 + 2 * (i + 1)) = omega arith in same) in
    let numbers : all_two (take (i + 1) pages) ≡ all_two (take i pages) ++ two page =
    ap all_two (take_more pages i 0 h) ∙ all_two_more (take i pages) (get_or pages i 0)
    ∙ ap (λ n. all_two (take i pages) ++ two n) (sym is) in
    e ∙ ap (λ bs. bs ++ (two page ++ drop (2 + 2 * i + 2) before)) left
    ∙ ap (λ bs. front ++ (two page ++ bs)) right
    ∙ append_assoc (two (length pages)) (all_two (take i pages)) (two page ++ replicate (512 - (2 + 2 * (i + 1))) 0)
    ∙ ap (λ bs. two (length pages) ++ bs)
    (sym (append_assoc (all_two (take i pages)) (two page) (replicate (512 - (2 + 2 * (i + 1))) 0)))
    ∙ ap (λ bs. two (length pages) ++ (bs ++ replicate (512 - (2 + 2 * (i + 1))) 0)) (sym numbers)

pub map_done : (pages block : List ℕ) (i : ℕ) → length pages ≤ i
    → i ≤ length pages
    → block ≡ two (length pages) ++ (all_two (take i pages) ++ replicate (512 - (2 + 2 * i)) 0) → block ≡ map_block pages
unfolding map_block filled
map_done pages block i past within e =
    let all : take i pages ≡ pages = take_all i pages past in
    let size : length (two (length pages) ++ all_two pages) ≡ 2 + 2 * i =
    length-append (two (length pages)) (all_two pages)
    ∙ ap (λ k. k + length (all_two pages)) (length-two (length pages))
    ∙ ap (λ k. 2 + k) (length-all_two pages) ∙ omega arith in
    e ∙ ap (λ ps. two (length pages) ++ (all_two ps ++ replicate (512 - (2 + 2 * i)) 0)) all
    ∙ sym (append_assoc (two (length pages)) (all_two pages) (replicate (512 - (2 + 2 * i)) 0))
    ∙ ap (λ k. (two (length pages) ++ all_two pages) ++ replicate (512 - k) 0) (sym size)

pub short_put : (bytes front back buffer : List ℕ) (at n : ℕ) → n < 2 ^ 16 → front ≡ take at bytes → back ≡ drop at bytes
    → buffer ≡ bytes_high_first 2 n ++ drop 2 back → front ++ buffer ≡ take at bytes ++ (two n ++ drop (at + 2) bytes)
short_put bytes front back buffer at n h f b e =
    ap (λ xs. xs ++ buffer) f
    ∙ ap (λ xs. take at bytes ++ xs)
    (e ∙ ap (λ xs. xs ++ drop 2 back) (two_written n h)
    ∙ ap (λ xs. two n ++ xs) (ap (drop 2) b ∙ drop-drop 2 at bytes))

-- ---- parts of a list

pub part_taken : {A : Type 0} (items rest front : List A) (size i at many : ℕ) → at ≡ size * i → rest ≡ drop at items
    → many ≡ min (length rest) size → front ≡ take many rest → front ≡ part size items i
part_taken items rest front size i at many a r m f =
    let turned : min (length rest) size ≡ min size (length rest) = omega arith in
    f ∙ ap (λ k. take k rest) (m ∙ turned) ∙ take_min size rest ∙ ap (take size) (r ∙ ap (λ k. drop k items) a)

pub page_made : (bytes start back : List ℕ) → start ≡ bytes → back ≡ drop (length bytes) (replicate 512 0) → start ++ back ≡ filled 512 bytes
unfolding filled
page_made bytes start back s b =
    ap (λ xs. xs ++ back) s ∙ ap (λ xs. bytes ++ xs) (b ∙ drop-replicate (length bytes) 512 0)
