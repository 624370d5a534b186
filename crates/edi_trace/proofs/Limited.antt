-- The first bytes of a file of choices decide how it is read.
use Rattle.std.proofs.Common.{◌≡◌, ℕ, zero, suc, ◌+◌, ◌-◌, ◌*◌, ◌<◌, ◌≤◌, Bool, true, false, ◌&&◌, if◌then◌else◌, nat_le, cond, List, [], ◌∷◌, ◌++◌, length}
use Rattle.std.proofs.Common.{take, drop, refl, sym, subst, ap, ◌∙◌, arith, leb-true, leb-false, append_assoc, length-append}
use Rattle.std.specs.List.{slice_split, onto_first, list_all}
use Rattle.std.proofs.lemmas.List.{length-take-le, take_all, take-append-drop}
use Rattle.edi_trace.specs.Lines.{Reading, values, bad_line, is_digit, number_of, is_choice, is_line_feed, with_value, read_rest, read_parts, read_of}
use Rattle.edi_trace.specs.Limit.{most_fetched, FirstBytesDecide}
use Rattle.edi_calls.proofs.Storing.{and_first, and_second}

-- ---- the parts of a longer list

-- the last part goes on with the first of the others
abbrev joined : List (List ℕ) → List (List ℕ) → List (List ℕ)
joined [] others = others
joined (last ∷ []) [] = last ∷ []
joined (last ∷ []) (first ∷ others) = (last ++ first) ∷ others
joined (part ∷ next ∷ parts) others = part ∷ joined (next ∷ parts) others

-- there is one at least
abbrev Some-part : List (List ℕ) → Type 0
Some-part parts = (first : List ℕ) × (others : List (List ℕ)) × (parts ≡ first ∷ others)

some_part : (bytes : List ℕ) → Some-part (slice_split is_line_feed bytes)
some_part [] = ([], [], refl)
some_part (b ∷ bytes) = go (is_line_feed b) (slice_split is_line_feed bytes) (some_part bytes)
  where
    go : (t : Bool) (parts : List (List ℕ)) → Some-part parts → Some-part (cond t ([] ∷ parts) (onto_first b parts))
    go true parts s = ([], parts, refl)
    go false parts s = (b ∷ s.0, s.1, ap (onto_first b) s.2)

joined_some : (part : List ℕ) (parts others : List (List ℕ)) → Some-part (joined (part ∷ parts) others)
joined_some part [] [] = (part, [], refl)
joined_some part [] (first ∷ others) = (part ++ first, others, refl)
joined_some part (next ∷ parts) others = (part, joined (next ∷ parts) others, refl)

onto_joined : (b : ℕ) (part : List ℕ) (parts others : List (List ℕ)) → onto_first b (joined (part ∷ parts) others) ≡ joined (onto_first b (part ∷ parts)) others
onto_joined b part [] [] = refl
onto_joined b part [] (first ∷ others) = refl
onto_joined b part (next ∷ parts) others = refl

split_append : (bytes more : List ℕ) → slice_split is_line_feed (bytes ++ more) ≡ joined (slice_split is_line_feed bytes) (slice_split is_line_feed more)
split_append [] more =
    let s : Some-part (slice_split is_line_feed more) = some_part more in
    s.2 ∙ sym (ap (joined ([] ∷ [])) s.2)
split_append (b ∷ bytes) more =
    go (is_line_feed b) (slice_split is_line_feed bytes) (some_part bytes) (slice_split is_line_feed (bytes ++ more)) (split_append bytes more)
  where
    go : (t : Bool) (parts : List (List ℕ)) → Some-part parts → (all : List (List ℕ)) → all ≡ joined parts (slice_split is_line_feed more) →
        cond t ([] ∷ all) (onto_first b all) ≡ joined (cond t ([] ∷ parts) (onto_first b parts)) (slice_split is_line_feed more)
    go true parts s all e =
        ap (λ x. [] ∷ x) (e ∙ ap (λ x. joined x (slice_split is_line_feed more)) s.2)
        ∙ sym (ap (λ x. joined ([] ∷ x) (slice_split is_line_feed more)) s.2)
    go false parts s all e =
        ap (onto_first b) (e ∙ ap (λ x. joined x (slice_split is_line_feed more)) s.2)
        ∙ onto_joined b s.0 s.1 (slice_split is_line_feed more)
        ∙ sym (ap (λ x. joined (onto_first b x) (slice_split is_line_feed more)) s.2)

-- ---- how many bytes the parts have, with the line feeds between them

abbrev bytes_in : List (List ℕ) → ℕ
bytes_in [] = 0
bytes_in (last ∷ []) = length last
bytes_in (part ∷ next ∷ parts) = length part + 1 + bytes_in (next ∷ parts)

onto_bytes : (b : ℕ) (part : List ℕ) (parts : List (List ℕ)) → bytes_in (onto_first b (part ∷ parts)) ≡ suc (bytes_in (part ∷ parts))
onto_bytes b part [] = refl
onto_bytes b part (next ∷ parts) = omega arith

split_bytes : (bytes : List ℕ) → bytes_in (slice_split is_line_feed bytes) ≡ length bytes
split_bytes [] = refl
split_bytes (b ∷ bytes) = go (is_line_feed b) (slice_split is_line_feed bytes) (some_part bytes) (split_bytes bytes)
  where
    go : (t : Bool) (parts : List (List ℕ)) → Some-part parts → bytes_in parts ≡ length bytes → bytes_in (cond t ([] ∷ parts) (onto_first b parts)) ≡ suc
        (length bytes)
    go true parts s e =
        let here : bytes_in ([] ∷ parts) ≡ bytes_in ([] ∷ s.0 ∷ s.1) = ap (λ x. bytes_in ([] ∷ x)) s.2 in
        let there : bytes_in parts ≡ bytes_in (s.0 ∷ s.1) = ap bytes_in s.2 in
        omega (arith, here, there, e)
    go false parts s e =
        let here : bytes_in (onto_first b parts) ≡ bytes_in (onto_first b (s.0 ∷ s.1)) = ap (λ x. bytes_in (onto_first b x)) s.2 in
        let there : bytes_in parts ≡ bytes_in (s.0 ∷ s.1) = ap bytes_in s.2 in
        let one : bytes_in (onto_first b (s.0 ∷ s.1)) ≡ suc (bytes_in (s.0 ∷ s.1)) = onto_bytes b s.0 s.1 in
        omega (arith, here, there, one, e)

-- ---- so many bytes have a bad line, and keep it whatever follows

-- a choice has three bytes at most
choice_short : (line : List ℕ) → is_choice line ≡ true → length line ≤ 3
choice_short line is =
    leb-true (length line) 3
    (and_second (nat_le 1 (length line)) (nat_le (length line) 3)
    (and_first (nat_le 1 (length line) && nat_le (length line) 3) (list_all is_digit line)
    (and_first (nat_le 1 (length line) && nat_le (length line) 3 && list_all is_digit line) (nat_le (number_of line) 255) is)))

abbrev Bad : ℕ → Reading → Reading → Type 0
Bad n one other = (k : ℕ) × (one ≡ bad_line k) × (other ≡ bad_line k)

read_more : (n : ℕ) (line : List ℕ) (parts : List (List ℕ)) → Some-part parts →
    read_parts n (line ∷ parts) ≡ (if is_choice line && nat_le n 65536 then with_value (number_of line) (read_parts (n + 1) parts) else bad_line n)
read_more n line parts s = subst (λ x. read_parts n (line ∷ x)
    ≡ (if is_choice line && nat_le n 65536 then with_value (number_of line) (read_parts (n + 1) x) else bad_line n)) (sym s.2) refl

-- the last part: some bytes, or five at least where a further line might still be read
last_bad : (n : ℕ) (rest : List ℕ) (others : List (List ℕ)) → 0 < length rest → (n ≤ 65536 → 3 < length rest) → Bad n (read_parts n (rest ∷ []))
    (read_parts n (joined (rest ∷ []) others))
last_bad n [] others some long = absurd (omega (arith, some))
last_bad n (c ∷ rest) [] some long = (n, refl, refl)
last_bad n (c ∷ rest) (first ∷ []) some long = (n, refl, refl)
last_bad n (c ∷ rest) (first ∷ next ∷ others) some long = (n, refl, go (is_choice ((c ∷ rest) ++ first) && nat_le n 65536) refl)
  where
    go : (t : Bool) → (is_choice ((c ∷ rest) ++ first) && nat_le n 65536) ≡ t →
        (if t then with_value (number_of ((c ∷ rest) ++ first)) (read_parts (n + 1) (next ∷ others)) else bad_line n) ≡ bad_line n
    go true e =
        let short : length ((c ∷ rest) ++ first) ≤ 3 = choice_short ((c ∷ rest) ++ first) (and_first (is_choice ((c ∷ rest) ++ first)) (nat_le n 65536) e) in
        let early : n ≤ 65536 = leb-true n 65536 (and_second (is_choice ((c ∷ rest) ++ first)) (nat_le n 65536) e) in
        let long' : 3 < length (c ∷ rest) = long early in
        absurd (omega (arith, short, long', length-append (c ∷ rest) first))
    go false e = refl

stays_bad : (n : ℕ) (parts others : List (List ℕ)) → 1 ≤ n → n ≤ 65537 → 262149 ≤ bytes_in parts + 4 * n
    → Bad n (read_parts n parts) (read_parts n (joined parts others))
stays_bad n [] others from to many = absurd (omega (arith, from, to, many))
stays_bad n (rest ∷ []) others from to many = last_bad n rest others (omega (arith, to, many)) (λ early. omega (arith, early, many))
stays_bad n (line ∷ part ∷ parts) others from to many = go (stays_bad (n + 1) (part ∷ parts) others) (is_choice line && nat_le n 65536) refl
  where
    go : (1 ≤ n + 1 → n + 1 ≤ 65537 → 262149 ≤ bytes_in (part ∷ parts) + 4 * (n + 1) → Bad (n + 1) (read_parts (n + 1) (part ∷ parts))
        (read_parts (n + 1) (joined (part ∷ parts) others))) →
        (t : Bool) → (is_choice line && nat_le n 65536) ≡ t → Bad n (read_parts n (line ∷ part ∷ parts)) (read_parts n (line ∷ joined (part ∷ parts) others))
    go next true e =
        let short : length line ≤ 3 = choice_short line (and_first (is_choice line) (nat_le n 65536) e) in
        let early : n ≤ 65536 = leb-true n 65536 (and_second (is_choice line) (nat_le n 65536) e) in
        let rest : Bad (n + 1) (read_parts (n + 1) (part ∷ parts)) (read_parts (n + 1) (joined (part ∷ parts) others)) =
        next (omega arith) (omega (arith, early)) (omega (arith, many, short)) in (
          rest.0,
          ap (λ t. if t then with_value (number_of line) (read_parts (n + 1) (part ∷ parts)) else bad_line n) e ∙ ap (with_value (number_of line)) rest.1,
          read_more n line (joined (part ∷ parts) others) (joined_some part parts others)
              ∙ ap (λ t. if t then with_value (number_of line) (read_parts (n + 1) (joined (part ∷ parts) others)) else bad_line n) e
              ∙ ap (with_value (number_of line)) rest.2,
        )
    go next false e = (
      n,
      ap (λ t. if t then with_value (number_of line) (read_parts (n + 1) (part ∷ parts)) else bad_line n) e,
      read_more n line (joined (part ∷ parts) others) (joined_some part parts others)
          ∙ ap (λ t. if t then with_value (number_of line) (read_parts (n + 1) (joined (part ∷ parts) others)) else bad_line n) e,
    )

long_is_bad : (front behind : List ℕ) → length front ≡ 262145 → Bad 1 (read_of front) (read_of (front ++ behind))
long_is_bad front behind many =
    subst (λ x. Bad 1 (read_of front) (read_parts 1 x)) (sym (split_append front behind))
    (stays_bad 1 (slice_split is_line_feed front) (slice_split is_line_feed behind) (omega arith) (omega arith) (omega (arith, split_bytes front, many)))

pub first_bytes_decide : FirstBytesDecide
first_bytes_decide bytes = go (nat_le (length bytes) 262145) refl
  where
    go : (b : Bool) → nat_le (length bytes) 262145 ≡ b →
        (read_of (take most_fetched bytes) ≡ read_of bytes)
        × ((choices : List ℕ) → read_of (take most_fetched bytes) ≡ values choices → take most_fetched bytes ≡ bytes)
    go true e =
        let all : take most_fetched bytes ≡ bytes = take_all most_fetched bytes (leb-true (length bytes) 262145 e) in
        (ap read_of all, λ choices is. all)
    go false e =
        let more : 262145 < length bytes = leb-false (length bytes) 262145 e in
        let bad : Bad 1 (read_of (take most_fetched bytes)) (read_of (take most_fetched bytes ++ drop most_fetched bytes)) =
        long_is_bad (take most_fetched bytes) (drop most_fetched bytes) (length-take-le most_fetched bytes (omega (arith, more))) in (
          bad.1 ∙ sym bad.2 ∙ ap read_of (take-append-drop most_fetched bytes),
          λ choices is. let wrong : bad_line bad.0 ≡ values choices = sym bad.1 ∙ is in absurd (cc),
        )
