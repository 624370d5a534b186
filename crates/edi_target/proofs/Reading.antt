-- What an instruction's words give, and what words an instruction was read from.
use Rattle.std.proofs.Common.{◌≡◌, ℕ, zero, suc, ◌+◌, ◌-◌, ◌*◌, ◌^◌, ◌<◌, ◌≤◌, ℤ, pos, negsuc, Bool, true, false, ◌&&◌, List, [], ◌∷◌, ◌++◌, Option, Some}
use Rattle.std.proofs.Common.{None, length, take, drop, refl, ap, sym, ◌∙◌, subst, arith, length-append, length-drop, ◌⊎◌, get_or, Fits}
use Rattle.std.proofs.Math.Seq.{take-append_seam, take-length}
use Rattle.std.specs.Prelude.{FitsSigned, IfSome, nat_lt, if◌then◌else◌, slice_get}
use Rattle.std.specs.Int.{w16}
use mir.Val.{sel}
use Rattle.std.proofs.lemmas.Option.{slice_get_past}
use Rattle.edi_target.specs.View.{Found}
use Rattle.std.proofs.lemmas.Bool.{le-ltb, lt-ltb, ltb-true, ltb-false}
use Rattle.std.proofs.lemmas.Int.{to_z-of_z, of_z-to_z}
use Rattle.std.proofs.lemmas.List.{drop-drop, drop_all, length-take-le, take-append-drop}
use Rattle.std.proofs.lemmas.List.Elements.{All-drop}
use Rattle.edi_target.specs.Op.{Instruction, Branch, words_of, is_allowed, has_integers, is_integer, branch_words, high_word, low_word, address_of_words}
use Rattle.edi_target.specs.Op.{word_of_integer, integer_of_word, const, text, zeros, address, field, index, load, store, add, sub, mul, div, mod_, neg}
use Rattle.edi_target.specs.Op.{not_, eq, ne, lt, le, gt, ge, union, minus, meet, in_, member, check, jump, false_, and, or, loop, entry, call, call_p, proc}
use Rattle.edi_target.specs.Op.{return, halt, when, retry, done, cobegin, exit, quiet}
use Rattle.edi_target.specs.Decode.{Row, rows, no_operands, one_word, two_words, three_words, four_words, five_words, one_target}
use Rattle.edi_target.specs.Reading.{Reads, AreWords}
use Rattle.edi_target.specs.Decode.{counted_text, counted_branches, branches_of, shaped, if_allowed, decode}
use Rattle.edi_target.proofs.Stands.{shaped_long}

-- ---- operands

address_again : (a : ℕ) → address_of_words (high_word a) (low_word a) ≡ a
address_again a = omega arith

high_again : (high low : ℕ) → low < 2 ^ 16 → high_word (address_of_words high low) ≡ high
high_again high low l = omega arith

low_again : (high low : ℕ) → low < 2 ^ 16 → low_word (address_of_words high low) ≡ low
low_again high low l = omega arith

length-branch_words : (bs : List Branch) → length (branch_words bs) ≡ 3 * length bs
length-branch_words [] = refl
length-branch_words (b ∷ bs) = let h : length (branch_words bs) ≡ 3 * length bs = length-branch_words bs in omega arith

branches_again : (bs : List Branch) → branches_of (branch_words bs) ≡ bs
branches_again [] = refl
branches_again (b ∷ bs) =
    ap (λ (a : ℕ). record { need = b.need; address = a } ∷ branches_of (branch_words bs)) (address_again b.address)
    ∙ ap (λ (l : List Branch). b ∷ l) (branches_again bs)

pub both_true : (a b : Bool) → (a && b) ≡ true → (a ≡ true) × (b ≡ true)
both_true true b e = (refl, e)
both_true false b e = (e, cc)

fits : (z : ℤ) → is_integer z ≡ true → FitsSigned w16 z
fits (pos n) e = record { sfits = ltb-true n (2 ^ 15) e }
fits (negsuc n) e = record { sfits = ltb-true n (2 ^ 15) e }

integer_again : (z : ℤ) → is_integer z ≡ true → integer_of_word (word_of_integer z) ≡ z
integer_again z e = to_z-of_z w16 z (fits z e)

-- ---- the words of an instruction give it again

counted : {X : Type 0} (f : List ℕ → X) (m n : ℕ) (ws rest : List ℕ) → length ws ≡ m → if◌then◌else◌ {A = Option (X × ℕ)} (nat_lt (length (ws ++ rest)) m)
    None (Some (f (take m (ws ++ rest)), n)) ≡ Some (f ws, n)
counted {X = X} f m n ws rest e =
    subst (λ (k : ℕ). if◌then◌else◌ {A = Option (X × ℕ)} (nat_lt (length (ws ++ rest)) k) None (Some (f (take k (ws ++ rest)), n)) ≡ Some (f ws, n)) e
    (rw (le-ltb (length (ws ++ rest)) (length ws) (omega (arith, length-append ws rest)), take-append_seam ws rest) refl)

pub shaped_again : (op : Instruction) (rest : List ℕ) → has_integers op ≡ true → shaped (words_of op ++ rest) ≡ Some (op, length (words_of op))
shaped_again (const a) rest e = refl
shaped_again (text ws) rest e = let n : length ws + 2 ≡ length (words_of (text ws)) = omega arith in
    counted (λ l. text l) (length ws) (length ws + 2) ws rest refl ∙ ap (λ (k : ℕ). Some (text ws, k)) n
shaped_again (zeros a) rest e = refl
shaped_again (address a b) rest e = refl
shaped_again (field a) rest e = refl
shaped_again (index a b c d) rest e =
    let h : is_integer a ≡ true = (both_true (is_integer a) (is_integer b) e).0 in
    let k : is_integer b ≡ true = (both_true (is_integer a) (is_integer b) e).1 in
    rw (integer_again a h, integer_again b k) refl
shaped_again (load a) rest e = refl
shaped_again (store a) rest e = refl
shaped_again (add a) rest e = refl
shaped_again (sub a) rest e = refl
shaped_again (mul a) rest e = refl
shaped_again (div a) rest e = refl
shaped_again (mod_ a) rest e = refl
shaped_again (neg a) rest e = refl
shaped_again not_ rest e = refl
shaped_again (eq a) rest e = refl
shaped_again (ne a) rest e = refl
shaped_again lt rest e = refl
shaped_again le rest e = refl
shaped_again gt rest e = refl
shaped_again ge rest e = refl
shaped_again union rest e = refl
shaped_again minus rest e = refl
shaped_again meet rest e = refl
shaped_again in_ rest e = refl
shaped_again (member a) rest e = refl
shaped_again (check a b c) rest e =
    let h : is_integer a ≡ true = (both_true (is_integer a) (is_integer b) e).0 in
    let k : is_integer b ≡ true = (both_true (is_integer a) (is_integer b) e).1 in
    rw (integer_again a h, integer_again b k) refl
shaped_again (jump a) rest e = ap (λ (n : ℕ). Some (jump n, 3)) (address_again a)
shaped_again (false_ a) rest e = ap (λ (n : ℕ). Some (false_ n, 3)) (address_again a)
shaped_again (and a) rest e = ap (λ (n : ℕ). Some (and n, 3)) (address_again a)
shaped_again (or a) rest e = ap (λ (n : ℕ). Some (or n, 3)) (address_again a)
shaped_again (loop a) rest e = ap (λ (n : ℕ). Some (loop n, 3)) (address_again a)
shaped_again (entry a b c d f) rest e = refl
shaped_again (call k a line) rest e = ap (λ (n : ℕ). Some (call k n line, 5)) (address_again a)
shaped_again (call_p a b c) rest e = refl
shaped_again (proc k a) rest e = ap (λ (n : ℕ). Some (proc k n, 4)) (address_again a)
shaped_again (return a b) rest e = refl
shaped_again (halt a) rest e = refl
shaped_again (when a) rest e = refl
shaped_again (retry a) rest e = ap (λ (n : ℕ). Some (retry n, 3)) (address_again a)
shaped_again done rest e = refl
shaped_again (cobegin line bs) rest e =
    let n : 3 * length bs + 3 ≡ length (words_of (cobegin line bs)) = omega (arith, length-branch_words bs) in
    counted (λ (l : List ℕ). cobegin line (branches_of l)) (3 * length bs) (3 * length bs + 3) (branch_words bs) rest (length-branch_words bs)
    ∙ ap (λ (l : List Branch). Some (cobegin line l, 3 * length bs + 3)) (branches_again bs)
    ∙ ap (λ (k : ℕ). Some (cobegin line bs, k)) n
shaped_again exit rest e = refl
shaped_again (quiet a) rest e = ap (λ (n : ℕ). Some (quiet n, 3)) (address_again a)

pub decode_again : (op : Instruction) (rest : List ℕ) → is_allowed op ≡ true → has_integers op ≡ true → decode (words_of op ++ rest) ≡ Some
    (op, length (words_of op))
unfolding decode
decode_again op rest e i =
    ap if_allowed (shaped_again op rest i)
    ∙ ap (λ (b : Bool). if◌then◌else◌ {A = Option (Instruction × ℕ)} b (Some (op, length (words_of op))) None) e

-- ---- an instruction was read from its words

-- words from which nothing was read, or which begin with those of the instruction that was
Spelled : List ℕ → Option (Instruction × ℕ) → Type 0
Spelled ws None = Unit {0}
Spelled ws (Some x) = (ws ≡ words_of x.0 ++ drop x.1 ws) × (x.1 ≡ length (words_of x.0)) × (has_integers x.0 ≡ true)

-- the row of the number k
Sound : ℕ → Row → Type 0
Sound k row = (words : List ℕ) → AreWords words → Spelled (k ∷ words) (row words)

-- an instruction has these words
Writes : Instruction → List ℕ → Type 0
Writes op ws = (words_of op ≡ ws) × (has_integers op ≡ true)

-- the first of some words, and the rest of them, are words
first_word : (a : ℕ) (words : List ℕ) → AreWords (a ∷ words) → a < 2 ^ 16
first_word a words w = w 0 0 (omega arith)

rest_words : (a : ℕ) (words : List ℕ) → AreWords (a ∷ words) → AreWords words
rest_words a words w = λ k d l. w (suc k) d (omega arith)

no_operands_sound : (k : ℕ) (op : Instruction) → Writes op (k ∷ []) → Sound k (no_operands op)
unfolding Spelled Sound Writes
no_operands_sound k op e = λ words w. rw e.0 (refl, refl, e.1)

one_word_sound : (k : ℕ) (op : ℕ → Instruction) → ((a : ℕ) → Writes (op a) (k ∷ a ∷ [])) → Sound k (one_word op)
unfolding Spelled Sound Writes
one_word_sound k op e = λ words w. by_words words
  where
    by_words : (ws : List ℕ) → Spelled (k ∷ ws) (one_word op ws)
    by_words [] = tt
    by_words (a ∷ ws) = rw (e a).0 (refl, refl, (e a).1)

two_words_sound : (k : ℕ) (op : ℕ → ℕ → Instruction) → ((a b : ℕ) → a < 2 ^ 16 → b < 2 ^ 16 → Writes (op a b) (k ∷ a ∷ b ∷ [])) → Sound k (two_words op)
unfolding Spelled Sound Writes
two_words_sound k op e = λ words w. by_words words w
  where
    by_words : (ws : List ℕ) → AreWords ws → Spelled (k ∷ ws) (two_words op ws)
    by_words (a ∷ b ∷ ws) w =
        let h = e a b (first_word a (b ∷ ws) w) (first_word b ws (rest_words a (b ∷ ws) w)) in
        rw h.0 (refl, refl, h.1)
    by_words ws w = tt

three_words_sound : (k : ℕ) (op : ℕ → ℕ → ℕ → Instruction) → ((a b c : ℕ) → a < 2 ^ 16 → b < 2 ^ 16 → c < 2 ^ 16 → Writes (op a b c) (k ∷ a ∷ b ∷ c ∷ []))
    → Sound k (three_words op)
unfolding Spelled Sound Writes
three_words_sound k op e = λ words w. by_words words w
  where
    by_words : (ws : List ℕ) → AreWords ws → Spelled (k ∷ ws) (three_words op ws)
    by_words (a ∷ b ∷ c ∷ ws) w =
        let v = rest_words a (b ∷ c ∷ ws) w in
        let h = e a b c (first_word a (b ∷ c ∷ ws) w) (first_word b (c ∷ ws) v) (first_word c ws (rest_words b (c ∷ ws) v)) in
        rw h.0 (refl, refl, h.1)
    by_words ws w = tt

four_words_sound : (k : ℕ) (op : ℕ → ℕ → ℕ → ℕ → Instruction)
    → ((a b c d : ℕ) → a < 2 ^ 16 → b < 2 ^ 16 → c < 2 ^ 16 → Writes (op a b c d) (k ∷ a ∷ b ∷ c ∷ d ∷ [])) → Sound k (four_words op)
unfolding Spelled Sound Writes
four_words_sound k op e = λ words w. by_words words w
  where
    by_words : (ws : List ℕ) → AreWords ws → Spelled (k ∷ ws) (four_words op ws)
    by_words (a ∷ b ∷ c ∷ d ∷ ws) w =
        let v = rest_words a (b ∷ c ∷ d ∷ ws) w in
        let h = e a b c d (first_word a (b ∷ c ∷ d ∷ ws) w) (first_word b (c ∷ d ∷ ws) v) (first_word c (d ∷ ws) (rest_words b (c ∷ d ∷ ws) v)) in
        rw h.0 (refl, refl, h.1)
    by_words ws w = tt

five_words_sound : (k : ℕ) (op : ℕ → ℕ → ℕ → ℕ → ℕ → Instruction) → ((a b c d f : ℕ) → Writes (op a b c d f) (k ∷ a ∷ b ∷ c ∷ d ∷ f ∷ []))
    → Sound k (five_words op)
unfolding Spelled Sound Writes
five_words_sound k op e = λ words w. by_words words
  where
    by_words : (ws : List ℕ) → Spelled (k ∷ ws) (five_words op ws)
    by_words (a ∷ b ∷ c ∷ d ∷ f ∷ ws) = rw (e a b c d f).0 (refl, refl, (e a b c d f).1)
    by_words ws = tt

text_sound : Sound 2 counted_text
unfolding Spelled Sound Writes
text_sound = λ words w. by_words words
  where
    by_count : (n : ℕ) (ws : List ℕ) (b : Bool) → nat_lt (length ws) n ≡ b → Spelled (2 ∷ n ∷ ws) (if◌then◌else◌ b None (Some (text (take n ws), n + 2)))
    by_count n ws true e = tt
    by_count n ws false e =
        let le : n ≤ length ws = ltb-false (length ws) n e in
        let len : length (take n ws) ≡ n = length-take-le n ws le in
        let two : n + 2 ≡ suc (suc n) = omega arith in
        (rw (len, two) (ap (λ (l : List ℕ). 2 ∷ n ∷ l) (sym (take-append-drop n ws))), rw (len) (omega arith), refl)

    by_words : (ws : List ℕ) → Spelled (2 ∷ ws) (counted_text ws)
    by_words [] = tt
    by_words (n ∷ ws) = by_count n ws (nat_lt (length ws) n) refl

-- words that are there in threes are those of the branches that they give
pub branches_spelled : (n : ℕ) (words : List ℕ) → AreWords words → 3 * n ≤ length words
    → (branch_words (branches_of (take (3 * n) words)) ≡ take (3 * n) words) × (length (branches_of (take (3 * n) words)) ≡ n)
branches_spelled zero words w l = (refl, refl)
branches_spelled (suc n) [] w l = absurd (omega arith)
branches_spelled (suc n) (a ∷ []) w l = absurd (omega arith)
branches_spelled (suc n) (a ∷ b ∷ []) w l = absurd (omega arith)
branches_spelled (suc n) (a ∷ b ∷ c ∷ ws) w l =
    let v = rest_words b (c ∷ ws) (rest_words a (b ∷ c ∷ ws) w) in
    let h = branches_spelled n ws (rest_words c ws v) (omega arith) in
    let three : 3 * suc n ≡ suc (suc (suc (3 * n))) = omega arith in
    rw (three, high_again b c (first_word c ws v), low_again b c (first_word c ws v), h.0, h.1) (refl, refl)

-- ---- the rows

-- the words of a row's operands, for the integers and the addresses among them
integer_word : (a : ℕ) → a < 2 ^ 16 → word_of_integer (integer_of_word a) ≡ a
integer_word a l = of_z-to_z w16 a l

is_integer-word : (a : ℕ) → a < 2 ^ 16 → is_integer (integer_of_word a) ≡ true
is_integer-word a l = by_sign (nat_lt a (2 ^ 15)) refl
  where
    by_sign : (b : Bool) → nat_lt a (2 ^ 15) ≡ b → is_integer (sel b (pos a) (negsuc (2 ^ 16 - suc a))) ≡ true
    by_sign true e = e
    by_sign false e = lt-ltb (2 ^ 16 - suc a) (2 ^ 15) (omega (arith, ltb-false a (2 ^ 15) e))

two_integers : (a b : ℕ) → a < 2 ^ 16 → b < 2 ^ 16 → (is_integer (integer_of_word a) && is_integer (integer_of_word b)) ≡ true
two_integers a b l m = rw (is_integer-word a l, is_integer-word b m) refl

target_sound : (k : ℕ) (op : ℕ → Instruction) → ((a : ℕ) → Writes (op a) (k ∷ high_word a ∷ low_word a ∷ [])) → Sound k (one_target op)
unfolding Writes
target_sound k op e = two_words_sound k (λ high low. op (address_of_words high low))
    (λ a b l m. (rw ((e (address_of_words a b)).0, high_again a b m, low_again a b m) refl, (e (address_of_words a b)).1))

cobegin_sound : Sound 42 counted_branches
unfolding Spelled Sound Writes
cobegin_sound = λ words w. by_words words w
  where
    by_count : (n line : ℕ) (ws : List ℕ) (b : Bool) → AreWords ws → nat_lt (length ws) (3 * n) ≡ b → Spelled (42 ∷ n ∷ line ∷ ws)
        (if◌then◌else◌ b None (Some (cobegin line (branches_of (take (3 * n) ws)), 3 * n + 3)))
    by_count n line ws true w e = tt
    by_count n line ws false w e =
        let le : 3 * n ≤ length ws = ltb-false (length ws) (3 * n) e in
        let h = branches_spelled n ws w le in
        let three : 3 * n + 3 ≡ suc (suc (suc (3 * n))) = omega arith in (
          rw (h.1, h.0, three) (ap (λ (l : List ℕ). 42 ∷ n ∷ line ∷ l) (sym (take-append-drop (3 * n) ws))),
          omega (arith, h.1, length-branch_words (branches_of (take (3 * n) ws))),
          refl,
        )

    by_words : (ws : List ℕ) → AreWords ws → Spelled (42 ∷ ws) (counted_branches ws)
    by_words [] w = tt
    by_words (n ∷ []) w = tt
    by_words (n ∷ line ∷ ws) w = by_count n line ws (nat_lt (length ws) (3 * n)) (rest_words line ws (rest_words n (line ∷ ws) w)) refl

-- each row of a part of the table, the first of them that of the number k
AllSound : ℕ → List Row → Type 0
AllSound k [] = Unit {0}
AllSound k (row ∷ rows) = Sound k row × AllSound (suc k) rows

rows_sound : AllSound 0 rows
unfolding AllSound Sound Spelled Writes
rows_sound = (
  λ words w. tt,
  (
    one_word_sound 1 const (λ a. (refl, refl)),
    (
      text_sound,
      (
        one_word_sound 3 zeros (λ a. (refl, refl)),
        (
          two_words_sound 4 address (λ a b l m. (refl, refl)),
          (
            one_word_sound 5 field (λ a. (refl, refl)),
            (
              four_words_sound 6 (λ low high. index (integer_of_word low) (integer_of_word high))
                  (λ a b c d l m n. (rw (integer_word a l, integer_word b m) refl, two_integers a b l m)),
              (
                one_word_sound 7 load (λ a. (refl, refl)),
                (
                  one_word_sound 8 store (λ a. (refl, refl)),
                  (
                    one_word_sound 9 add (λ a. (refl, refl)),
                    (
                      one_word_sound 10 sub (λ a. (refl, refl)),
                      (
                        one_word_sound 11 mul (λ a. (refl, refl)),
                        (
                          one_word_sound 12 div (λ a. (refl, refl)),
                          (
                            one_word_sound 13 mod_ (λ a. (refl, refl)),
                            (
                              one_word_sound 14 neg (λ a. (refl, refl)),
                              (
                                no_operands_sound 15 not_ (refl, refl),
                                (
                                  one_word_sound 16 eq (λ a. (refl, refl)),
                                  (
                                    one_word_sound 17 ne (λ a. (refl, refl)),
                                    (
                                      no_operands_sound 18 lt (refl, refl),
                                      (
                                        no_operands_sound 19 le (refl, refl),
                                        (
                                          no_operands_sound 20 gt (refl, refl),
                                          (
                                            no_operands_sound 21 ge (refl, refl),
                                            (
                                              no_operands_sound 22 union (refl, refl),
                                              (
                                                no_operands_sound 23 minus (refl, refl),
                                                (
                                                  no_operands_sound 24 meet (refl, refl),
                                                  (
                                                    no_operands_sound 25 in_ (refl, refl),
                                                    (
                                                      one_word_sound 26 member (λ a. (refl, refl)),
                                                      (
                                                        three_words_sound 27 (λ low high. check (integer_of_word low) (integer_of_word high))
                                                            (λ a b c l m n. (rw (integer_word a l, integer_word b m) refl, two_integers a b l m)),
                                                        (
                                                          target_sound 28 jump (λ a. (refl, refl)),
                                                          (
                                                            target_sound 29 false_ (λ a. (refl, refl)),
                                                            (
                                                              target_sound 30 and (λ a. (refl, refl)),
                                                              (
                                                                target_sound 31 or (λ a. (refl, refl)),
                                                                (
                                                                  target_sound 32 loop (λ a. (refl, refl)),
                                                                  (
                                                                    five_words_sound 33 entry (λ a b c d f. (refl, refl)),
                                                                    (
                                                                      four_words_sound 34 (λ level high low. call level (address_of_words high low))
                                                                          (λ a b c d l m n. (rw (high_again b c n, low_again b c n) refl, refl)),
                                                                      (
                                                                        three_words_sound 35 call_p (λ a b c l m n. (refl, refl)),
                                                                        (
                                                                          three_words_sound 36 (λ level high low. proc level (address_of_words high low))
                                                                              (λ a b c l m n. (rw (high_again b c n, low_again b c n) refl, refl)),
                                                                          (
                                                                            two_words_sound 37 return (λ a b l m. (refl, refl)),
                                                                            (
                                                                              one_word_sound 38 halt (λ a. (refl, refl)),
                                                                              (
                                                                                one_word_sound 39 when (λ a. (refl, refl)),
                                                                                (
                                                                                  target_sound 40 retry (λ a. (refl, refl)),
                                                                                  (
                                                                                    no_operands_sound 41 done (refl, refl),
                                                                                    (
                                                                                      cobegin_sound,
                                                                                      (
                                                                                        no_operands_sound 43 exit (refl, refl),
                                                                                        (
                                                                                          target_sound 44 quiet (λ a. (refl, refl)),
                                                                                          tt,
                                                                                        ),
                                                                                      ),
                                                                                    ),
                                                                                  ),
                                                                                ),
                                                                              ),
                                                                            ),
                                                                          ),
                                                                        ),
                                                                      ),
                                                                    ),
                                                                  ),
                                                                ),
                                                              ),
                                                            ),
                                                          ),
                                                        ),
                                                      ),
                                                    ),
                                                  ),
                                                ),
                                              ),
                                            ),
                                          ),
                                        ),
                                      ),
                                    ),
                                  ),
                                ),
                              ),
                            ),
                          ),
                        ),
                      ),
                    ),
                  ),
                ),
              ),
            ),
          ),
        ),
      ),
    ),
  ),
)

picked : (k i : ℕ) (table : List Row) (words : List ℕ) → AllSound k table → AreWords words
    → Spelled ((k + i) ∷ words) (elim (slice_get table i) [ None ↦ None | Some row ↦ row words ])
unfolding AllSound Sound Spelled
picked k i [] words s w = tt
picked k zero (row ∷ table) words s w =
    let here : k ≡ k + zero = omega arith in
    subst (λ (j : ℕ). Spelled (j ∷ words) (row words)) here (s.0 words w)
picked k (suc i) (row ∷ table) words s w =
    let there : suc k + i ≡ k + suc i = omega arith in
    subst (λ (j : ℕ). Spelled (j ∷ words) (elim (slice_get table i) [ None ↦ None | Some row ↦ row words ])) there (picked (suc k) i table words s.1 w)

shaped_spelled : (words : List ℕ) → AreWords words → Spelled words (shaped words)
unfolding Spelled
shaped_spelled [] w = tt
shaped_spelled (number ∷ words) w =
    let none : zero + number ≡ number = omega arith in
    subst (λ (j : ℕ). Spelled (j ∷ words) (shaped (number ∷ words))) none (picked 0 number rows words rows_sound (rest_words number words w))

-- what was read has a word at least, and ends inside the words
shaped_within : (words : List ℕ) (op : Instruction) (n : ℕ) → AreWords words → Some (op, n) ≡ shaped words → (0 < n) × (n ≤ length words)
unfolding Spelled
shaped_within words op n w e =
    let s : Spelled words (Some (op, n)) = subst (Spelled words) (sym e) (shaped_spelled words w) in
    let long : (0 < length words) × (0 < n) =
    subst (λ (x : Option (Instruction × ℕ)). IfSome x (λ found. (0 < length words) × (0 < found.1))) (sym e) (shaped_long words) in
    let all : length words ≡ length (words_of op) + length (drop n words) = ap length s.0 ∙ length-append (words_of op) (drop n words) in
    (long.1, omega (arith, all, s.1))

-- what was read at an address ends behind it, and inside the words
pub ends_there : (words rest : List ℕ) (at : ℕ) (op : Instruction) (n : ℕ) → AreWords words → at ≤ length words → rest ≡ drop at words
    → Some (op, n) ≡ shaped rest → (at < at + n) × (at + n ≤ length words)
ends_there words rest at op n w l e s =
    let h = shaped_within (drop at words) op n (All-drop (λ word. word < 2 ^ 16) at words w) (s ∙ ap shaped e) in
    (omega (arith, h.0), omega (arith, h.1, length-drop at words))

-- where an instruction was read, and its operands are allowed, it stands
pub shaped_reads : (words : List ℕ) (at : ℕ) (op : Instruction) (n : ℕ) → AreWords words → shaped (drop at words) ≡ Some (op, n) → is_allowed op ≡ true
    → Reads words at op (at + n)
unfolding Spelled
shaped_reads words at op n w e a =
    let s : Spelled (drop at words) (Some (op, n)) = subst (Spelled (drop at words)) e
    (shaped_spelled (drop at words) (All-drop (λ word. word < 2 ^ 16) at words w)) in
    record {
      allowed = a;
      integers = s.2;
      stands = s.0 ∙ ap (λ (l : List ℕ). words_of op ++ l) (drop-drop n at words);
      follows = ap (λ (k : ℕ). at + k) s.1;
    }

-- where an instruction stands it is read
pub reads_decode : (words : List ℕ) (at : ℕ) (op : Instruction) (next : ℕ) → Reads words at op next → decode (drop at words) ≡ Some (op, next - at)
reads_decode words at op next r =
    let n : length (words_of op) ≡ next - at = omega (arith, r.follows) in
    ap decode r.stands ∙ decode_again op (drop next words) r.allowed r.integers ∙ ap (λ (k : ℕ). Some (op, k)) n

-- ---- what the code knows

with_first : (x : ℕ) (xs : List ℕ) → x < 2 ^ 16 → AreWords xs → AreWords (x ∷ xs)
with_first x xs f w = by_index
  where
    by_index : AreWords (x ∷ xs)
    by_index zero d l = f
    by_index (suc k) d l = w k d (omega arith)

-- the elements of a slice of words are words
pub are_words : (xs : List ℕ) → ((i : ℕ) → Fits w16 (get_or xs i 0)) → AreWords xs
are_words [] h = λ k d l. absurd (omega arith)
are_words (x ∷ xs) h = with_first x xs (h 0).fits (are_words xs (λ i. h (suc i)))

-- there is no row of a number above the last
pub no_row : (number : ℕ) (words : List ℕ) → 45 ≤ number → None ≡ shaped (number ∷ words)
no_row number words l = sym (ap (λ (r : Option Row). elim r [ None ↦ None | Some row ↦ row words ]) (slice_get_past rows number l))

-- behind the last word nothing is read
pub past_end : (words : List ℕ) (at : ℕ) → (length words < at) ⊎ (length words < length words) → decode (drop at words) ≡ None
unfolding decode
past_end words at h =
    let l : length words ≤ at = omega arith in
    ap (λ (ws : List ℕ). if_allowed (shaped ws)) (drop_all at words l)

-- the words from an address on
pub part_from : (words rest : List ℕ) (at : ℕ) → at ≤ length words → rest ≡ take (length words - at) (drop at words) → rest ≡ drop at words
part_from words rest at l e =
    let all : length words - at ≡ length (drop at words) = omega (arith, length-drop at words) in
    e ∙ ap (λ (k : ℕ). take k (drop at words)) all ∙ take-length (drop at words)

pub unread : (words rest : List ℕ) (at : ℕ) → rest ≡ drop at words → None ≡ shaped rest → decode (drop at words) ≡ None
unfolding decode
unread words rest at e s = ap (λ (ws : List ℕ). if_allowed (shaped ws)) (sym e) ∙ ap if_allowed (sym s)

some_is : (x y : Instruction × ℕ) → Some x ≡ Some y → x ≡ y
some_is x y e = cc

some_is_none : (x : Instruction × ℕ) → Some x ≡ None → ⊥
some_is_none x e = let P : Option (Instruction × ℕ) → Type 0 = λ o. elim o [ None ↦ ⊥ | Some y ↦ Unit {0} ] in subst P e tt

-- where nothing is read no instruction stands
pub nothing_there : (words : List ℕ) (at : ℕ) → decode (drop at words) ≡ None → (op : Instruction) (next : ℕ) → Reads words at op next → ⊥
nothing_there words at e op next r = some_is_none (op, next - at) (sym (reads_decode words at op next r) ∙ e)

pub found_there : (words rest : List ℕ) (at : ℕ) (op : Instruction) (n : ℕ) (whole : Bool) → AreWords words → rest ≡ drop at words
    → Some (op, n) ≡ shaped rest → (whole && is_allowed op) ≡ true → Found words at op (at + n)
unfolding decode
found_there words rest at op n whole w e s a =
    let allowed : is_allowed op ≡ true = (both_true whole (is_allowed op) a).1 in
    let shape : shaped (drop at words) ≡ Some (op, n) = ap shaped (sym e) ∙ sym s in
    let length_is : n ≡ at + n - at = omega arith in
    record {
      decoded =
          ap if_allowed shape
          ∙ ap (λ (b : Bool). if◌then◌else◌ {A = Option (Instruction × ℕ)} b (Some (op, n)) None) allowed
          ∙ ap (λ (k : ℕ). Some (op, k)) length_is;
      reads = shaped_reads words at op n w shape allowed;
    }

pub forbidden : (words rest : List ℕ) (at : ℕ) (op : Instruction) (n : ℕ) (whole : Bool) → rest ≡ drop at words → Some (op, n) ≡ shaped rest → whole ≡ true
    → (whole && is_allowed op) ≡ false → decode (drop at words) ≡ None
unfolding decode
forbidden words rest at op n whole e s w a =
    let refused : is_allowed op ≡ false = ap (λ (b : Bool). b && is_allowed op) (sym w) ∙ a in
    ap (λ (ws : List ℕ). if_allowed (shaped ws)) (sym e)
    ∙ ap if_allowed (sym s)
    ∙ ap (λ (b : Bool). if◌then◌else◌ {A = Option (Instruction × ℕ)} b (Some (op, n)) None) refused

-- ---- the law

allowed_is_read : (r : Option (Instruction × ℕ)) (x : Instruction × ℕ) → if_allowed r ≡ Some x → (r ≡ Some x) × (is_allowed x.0 ≡ true)
allowed_is_read None x e = absurd (some_is_none x (sym e))
allowed_is_read (Some y) x e = by_test (is_allowed y.0) refl e
  where
    by_test : (b : Bool) → is_allowed y.0 ≡ b → if◌then◌else◌ {A = Option (Instruction × ℕ)} b (Some y) None ≡ Some x → (Some y ≡ Some x)
        × (is_allowed x.0 ≡ true)
    by_test true t e = (e, subst (λ (z : Instruction × ℕ). is_allowed z.0 ≡ true) (some_is y x e) t)
    by_test false t e = absurd (some_is_none x (sym e))

pub decode_reads : (words : List ℕ) (at : ℕ) (op : Instruction) (n : ℕ) → AreWords words → decode (drop at words) ≡ Some (op, n) → Reads words at op (at + n)
unfolding decode
decode_reads words at op n w e = let h = allowed_is_read (shaped (drop at words)) (op, n) e in shaped_reads words at op n w h.0 h.1

pub reads_decode_at : (words : List ℕ) (at : ℕ) (op : Instruction) (n : ℕ) → Reads words at op (at + n) → decode (drop at words) ≡ Some (op, n)
reads_decode_at words at op n r =
    let length_is : at + n - at ≡ n = omega arith in
    reads_decode words at op (at + n) r ∙ ap (λ (k : ℕ). Some (op, k)) length_is
