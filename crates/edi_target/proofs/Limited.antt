-- The first bytes of a code file decide whether it has a code.
use Rattle.std.proofs.Common.{◌≡◌, ℕ, zero, suc, ◌+◌, ◌*◌, ◌<◌, ◌≤◌, Bool, true, false, ◌&&◌, nat_le, List, [], ◌∷◌, length, take, drop, Option, Some, None}
use Rattle.std.proofs.Common.{refl, sym, ap, ◌∙◌, arith, leb-true, leb-false}
use Rattle.std.specs.Prelude.{◌==◌, ◌||◌, nat_lt, slice_index, ◌^◌, ◌/◌}
use Rattle.std.proofs.lemmas.Bool.{le-leb, lt-leb}
use Rattle.std.proofs.lemmas.List.{length-take-le, take_all, drop-take, get_or-take}
use Rattle.edi_target.specs.Check.{unless, or_else, fields_fault, numbers_fault, words_fault}
use Rattle.edi_target.specs.File.{short_at, number_at, words_of_bytes, zeros_fault, header_fault, size_fault, code_fault_of}
use Rattle.edi_target.specs.declared.code_fault.CodeFault.{CodeFault}
use Rattle.edi_target.specs.declared.code_fault.CodeFault.TheVariants as fault
use Rattle.edi_target.specs.Limit.{most_fetched, FirstBytesDecide}

take_take : (n m : ℕ) (xs : List ℕ) → n ≤ m → take n (take m xs) ≡ take n xs
take_take zero m xs le = refl
take_take (suc n) zero xs le = absurd (omega (arith, le))
take_take (suc n) (suc m) [] le = refl
take_take (suc n) (suc m) (x ∷ xs) le = ap (λ ys. x ∷ ys) (take_take n m xs (omega (arith, le)))

-- the part of so many bytes that begins at an address
part_same : (n m k : ℕ) (xs : List ℕ) → n + m ≤ k → take m (drop n (take k xs)) ≡ take m (drop n xs)
part_same n m k xs le = sym (drop-take n m (take k xs)) ∙ ap (drop n) (take_take (n + m) k xs le) ∙ drop-take n m xs

-- ---- the header lies in the first bytes

module _ (k : ℕ) (xs : List ℕ) (le : 32 ≤ k) where
  byte_same : (i : ℕ) → i < 32 → slice_index (take k xs) i ≡ slice_index xs i
  byte_same i lt = get_or-take k xs i 0 (omega (arith, lt, le))

  short_same : (i : ℕ) → i < 31 → short_at (take k xs) i ≡ short_at xs i
  short_same i lt = λ j. 2 ^ 8 * byte_same i (omega (arith, lt)) j + byte_same (i + 1) (omega (arith, lt)) j

  number_same : (i : ℕ) → i < 29 → number_at (take k xs) i ≡ number_at xs i
  number_same i lt = λ j. 2 ^ 16 * short_same i (omega (arith, lt)) j + short_same (i + 2) (omega (arith, lt)) j

  -- more than ten parameters are a fault whatever stands in their places
  fields_same : (count start parameters : ℕ) → fields_fault count start parameters (take parameters (drop 13 (take k xs))) ≡ fields_fault count start
      parameters (take parameters (drop 13 xs))
  fields_same count start parameters = ap (λ f. or_else (unless (nat_le 1 count && nat_le count 4194304) (fault.Header 4 (count / 2 ^ 24)))
      (or_else (unless (nat_lt start count) (fault.Header 8 (start / 2 ^ 24))) f)) (go (nat_le parameters 10) refl)
    where
      go : (b : Bool) → nat_le parameters 10 ≡ b →
          or_else (unless b (fault.Header 12 parameters)) (numbers_fault [] 13 (take parameters (drop 13 (take k xs)))) ≡ or_else
          (unless b (fault.Header 12 parameters)) (numbers_fault [] 13 (take parameters (drop 13 xs)))
      go true e =
          let few : parameters ≤ 10 = leb-true parameters 10 e in
          ap (numbers_fault [] 13) (part_same 13 parameters k xs (omega (arith, few, le)))
      go false e = refl

  header_same : header_fault (take k xs) ≡ header_fault xs
  header_same =
      let magic : short_at (take k xs) 0 ≡ short_at xs 0 = short_same 0 (omega arith) in
      let version : short_at (take k xs) 2 ≡ short_at xs 2 = short_same 2 (omega arith) in
      let count : number_at (take k xs) 4 ≡ number_at xs 4 = number_same 4 (omega arith) in
      let entry : number_at (take k xs) 8 ≡ number_at xs 8 = number_same 8 (omega arith) in
      let parameters : slice_index (take k xs) 12 ≡ slice_index xs 12 = byte_same 12 (omega arith) in
      let first : slice_index (take k xs) 0 ≡ slice_index xs 0 = byte_same 0 (omega arith) in
      let third : slice_index (take k xs) 2 ≡ slice_index xs 2 = byte_same 2 (omega arith) in
      let header : take 32 (take k xs) ≡ take 32 xs = take_take 32 k xs le in
      (λ j. or_else (unless (magic j == 60693) (fault.Header 0 (first j)))
      (or_else (unless (version j == 1 || version j == 2) (fault.Header 2 (third j)))
      (or_else (fields_fault (count j) (entry j) (parameters j) (take (parameters j) (drop 13 (take k xs))))
      (zeros_fault (13 + parameters j) (drop (13 + parameters j) (header j))))))
      ∙ ap (λ f. or_else (unless (short_at xs 0 == 60693) (fault.Header 0 (slice_index xs 0)))
      (or_else (unless (short_at xs 2 == 1 || short_at xs 2 == 2) (fault.Header 2 (slice_index xs 2)))
      (or_else f
      (zeros_fault (13 + slice_index xs 12) (drop (13 + slice_index xs 12) (take 32 xs))))))
      (fields_same (number_at xs 4) (number_at xs 8) (slice_index xs 12))

-- ---- a header without fault tells a size that the first bytes pass

first_none : (a b : Option CodeFault) → or_else a b ≡ None → a ≡ None
first_none (Some f) b e = e
first_none None b e = refl

second_none : (a b : Option CodeFault) → or_else a b ≡ None → b ≡ None
second_none (Some f) b e = absurd (cc)
second_none None b e = e

kept : (b : Bool) (f : CodeFault) → unless b f ≡ None → b ≡ true
kept true f e = refl
kept false f e = absurd (cc)

and_right : (a b : Bool) → (a && b) ≡ true → b ≡ true
and_right true b e = e
and_right false b e = absurd (cc)

few_words : (xs : List ℕ) → header_fault xs ≡ None → number_at xs 4 ≤ 4194304
few_words xs e =
    leb-true (number_at xs 4) 4194304 (and_right (nat_le 1 (number_at xs 4)) _
    (kept _ _ (first_none _ _ (first_none _ _ (second_none _ _ (second_none _ _ e))))))

-- a file that is longer than its header tells is over there
over : (xs : List ℕ) → 32 + 2 * number_at xs 4 < length xs → size_fault xs ≡ Some (fault.Over (32 + 2 * number_at xs 4))
over xs more =
    (λ j. or_else (unless (le-leb (32 + 2 * number_at xs 4) (length xs) (omega (arith, more)) j) (fault.Short (length xs)))
    (unless (lt-leb (length xs) (32 + 2 * number_at xs 4) more j) (fault.Over (32 + 2 * number_at xs 4))))

-- the faults behind the header
abbrev behind : List ℕ → Option CodeFault
behind xs = or_else (size_fault xs) (words_fault (short_at xs 2 == 2) (words_of_bytes (drop 32 xs)) (number_at xs 8) (slice_index xs 12))

fault_is : (xs : List ℕ) → 32 ≤ length xs → code_fault_of xs ≡ or_else (header_fault xs) (behind xs)
unfolding code_fault_of
fault_is xs le = ap (λ b. or_else (unless b (fault.Short (length xs))) (or_else (header_fault xs) (behind xs))) (le-leb 32 (length xs) le)

behind_is : (xs : List ℕ) → 8388640 < length xs → header_fault xs ≡ None → behind xs ≡ Some (fault.Over (32 + 2 * number_at xs 4))
behind_is xs more none =
    ap (λ f. or_else f (words_fault (short_at xs 2 == 2) (words_of_bytes (drop 32 xs)) (number_at xs 8) (slice_index xs 12)))
    (over xs (omega (arith, more, few_words xs none)))

-- a file with more bytes than any code has a fault, and the first bytes have the same
long_faults : (xs : List ℕ) → 8388641 ≤ length xs → (f : CodeFault) × (code_fault_of (take most_fetched xs) ≡ Some f) × (code_fault_of xs ≡ Some f)
long_faults xs more = go (header_fault xs) refl
  where
    many : length (take most_fetched xs) ≡ 8388641
    many = length-take-le most_fetched xs more

    front : code_fault_of (take most_fetched xs) ≡ or_else (header_fault xs) (behind (take most_fetched xs))
    front = fault_is (take most_fetched xs) (omega (arith, many)) ∙ ap (λ h. or_else h (behind (take most_fetched xs)))
        (header_same most_fetched xs (omega arith))

    go : (h : Option CodeFault) → header_fault xs ≡ h → (f : CodeFault) × (code_fault_of (take most_fetched xs) ≡ Some f) × (code_fault_of xs ≡ Some f)
    go (Some f) e = (f, front ∙ ap (λ h. or_else h (behind (take most_fetched xs))) e, fault_is xs (omega (arith, more)) ∙ ap (λ h. or_else h (behind xs)) e)
    go None e = (
      fault.Over (32 + 2 * number_at xs 4),
      front ∙ ap (λ h. or_else h (behind (take most_fetched xs))) e
          ∙ behind_is (take most_fetched xs) (omega (arith, many)) (header_same most_fetched xs (omega arith) ∙ e)
          ∙ ap (λ n. Some (fault.Over (32 + 2 * n))) (number_same most_fetched xs (omega arith) 4 (omega arith)),
      fault_is xs (omega (arith, more)) ∙ ap (λ h. or_else h (behind xs)) e ∙ behind_is xs (omega (arith, more)) e,
    )

pub first_bytes_decide : FirstBytesDecide
first_bytes_decide bytes = go (nat_le (length bytes) 8388641) refl
  where
    go : (b : Bool) → nat_le (length bytes) 8388641 ≡ b →
        (code_fault_of (take most_fetched bytes) ≡ code_fault_of bytes) × (code_fault_of (take most_fetched bytes) ≡ None → take most_fetched bytes ≡ bytes)
    go true e =
        let all : take most_fetched bytes ≡ bytes = take_all most_fetched bytes (leb-true (length bytes) 8388641 e) in
        (ap code_fault_of all, λ none. all)
    go false e =
        let more : 8388641 < length bytes = leb-false (length bytes) 8388641 e in
        let f : (f : CodeFault) × (code_fault_of (take most_fetched bytes) ≡ Some f) × (code_fault_of bytes ≡ Some f) = long_faults bytes
        (omega (arith, more)) in
        (f.1 ∙ sym f.2, λ none. let wrong : Some f.0 ≡ None = sym f.1 ∙ none in absurd (cc))
