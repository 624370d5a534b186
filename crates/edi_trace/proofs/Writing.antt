-- Files of choices, as they are written.
use Rattle.std.proofs.Common.{◌≡◌, ℕ, zero, suc, ◌+◌, ◌*◌, ◌/◌, ◌<◌, ◌≤◌, Bool, true, false, cond, List, [], ◌∷◌, ◌++◌, length, take, get_or, refl}
use Rattle.std.proofs.Common.{sym, ap, ◌∙◌, arith, append_assoc, le-leb, inl, inr, eqb-true}
use Rattle.std.specs.Prelude.{not, nat_le, ◌&&◌, ◌==◌, if◌then◌else◌, decimal}
use Rattle.std.specs.List.{slice_split, onto_first, list_all}
use Rattle.std.proofs.lemmas.List.{take_more}
use Rattle.std.proofs.Math.Nat.{eq-or-lt_of_le}
use Rattle.std.specs.Fmt.{digits}
use Rattle.edi_calls.proofs.Storing.{and_first, and_second}
use Rattle.edi_trace.specs.Drawn.{most_kept}
use Rattle.edi_trace.specs.Lines.{values, bad_line, is_choice, is_line_feed, number_of, with_value, read_parts, read_of, written}
use Rattle.edi_trace.proofs.Readings.{read_cut}

-- one more line
written-append : (vs : List ℕ) (v : ℕ) → written (vs ++ v ∷ []) ≡ written vs ++ (decimal v ++ 10 ∷ [])
written-append [] v = refl
written-append (w ∷ vs) v =
    ap (λ bs. decimal w ++ 10 ∷ bs) (written-append vs v) ∙ sym (append_assoc (decimal w) (10 ∷ written vs) (decimal v ++ 10 ∷ []))

pub written-more : (vs : List ℕ) (i : ℕ) → i < length vs → written (take (i + 1) vs) ≡ written (take i vs) ++ (decimal (get_or vs i 0) ++ 10 ∷ [])
written-more vs i h = ap written (take_more vs i 0 h) ∙ written-append (take i vs) (get_or vs i 0)

-- each choice is written as a line that reads as it
abbrev reads_back : ℕ → Bool
reads_back v = is_choice (decimal v) && (number_of (decimal v) == v) && list_all (λ c. not (is_line_feed c)) (decimal v)

-- the numbers from one on, so many of them
abbrev pub all_from : (ℕ → Bool) → ℕ → ℕ → Bool
all_from test start zero = true
all_from test start (suc n) = test start && all_from test (start + 1) n

within : (test : ℕ → Bool) (start n v : ℕ) → all_from test start n ≡ true → start ≤ v → v < start + n → test v ≡ true
within test start zero v h from to = absurd (omega arith)
within test start (suc n) v h from to =
    elim (eq-or-lt_of_le from) [
      | inl same ↦ ap test (sym same) ∙ and_first (test start) (all_from test (start + 1) n) h
      | inr more ↦ within test (start + 1) n v (and_second (test start) (all_from test (start + 1) n) h) (omega arith) (omega arith)
    ]

-- so does each of 32 numbers, in eight parts
reads_of : (k : ℕ) → k < 8 → all_from reads_back (32 * k) 32 ≡ true
unfolding digits
reads_of zero h = refl
reads_of (suc zero) h = refl
reads_of (suc (suc zero)) h = refl
reads_of (suc (suc (suc zero))) h = refl
reads_of (suc (suc (suc (suc zero)))) h = refl
reads_of (suc (suc (suc (suc (suc zero))))) h = refl
reads_of (suc (suc (suc (suc (suc (suc zero)))))) h = refl
reads_of (suc (suc (suc (suc (suc (suc (suc zero))))))) h = refl
reads_of (suc (suc (suc (suc (suc (suc (suc (suc k)))))))) h = absurd (omega arith)

each_reads_back : (v : ℕ) → v < 256 → reads_back v ≡ true
each_reads_back v h = within reads_back (32 * (v / 32)) 32 v (reads_of (v / 32) (omega arith)) (omega arith) (omega arith)

-- a line is cut off the front
split_line : (line rest : List ℕ) → list_all (λ c. not (is_line_feed c)) line ≡ true
    → slice_split is_line_feed (line ++ 10 ∷ rest) ≡ line ∷ slice_split is_line_feed rest
split_line [] rest h = refl
split_line (c ∷ cs) rest h = go (is_line_feed c) h (split_line cs rest)
  where
    go : (b : Bool) → (not b && list_all (λ c. not (is_line_feed c)) cs) ≡ true
        → (list_all (λ c. not (is_line_feed c)) cs ≡ true → slice_split is_line_feed (cs ++ 10 ∷ rest) ≡ cs ∷ slice_split is_line_feed rest)
        → cond b ([] ∷ slice_split is_line_feed (cs ++ 10 ∷ rest)) (onto_first c (slice_split is_line_feed (cs ++ 10 ∷ rest)))
        ≡ (c ∷ cs) ∷ slice_split is_line_feed rest
    go true h more = absurd (cc)
    go false h more = ap (onto_first c) (more h)

read_written : (n : ℕ) (vs : List ℕ) → ((i : ℕ) → get_or vs i 0 < 256) → n + length vs ≤ most_kept + 1
    → read_parts n (slice_split is_line_feed (written vs)) ≡ values vs
read_written n [] bytes room = refl
read_written n (v ∷ vs) bytes room =
    let ok : reads_back v ≡ true = each_reads_back v (bytes 0) in
    let front : (is_choice (decimal v) && (number_of (decimal v) == v)) ≡ true = and_first _ (list_all (λ c. not (is_line_feed c)) (decimal v)) ok in
    let good : is_choice (decimal v) ≡ true = and_first _ (number_of (decimal v) == v) front in
    let is : number_of (decimal v) ≡ v = eqb-true _ _ (and_second (is_choice (decimal v)) (number_of (decimal v) == v) front) in
    let plain : list_all (λ c. not (is_line_feed c)) (decimal v) ≡ true =
    and_second (is_choice (decimal v) && (number_of (decimal v) == v)) _ ok in
    let room_for : nat_le n most_kept ≡ true = le-leb _ _ (omega arith) in
    let rest : read_parts (n + 1) (slice_split is_line_feed (written vs)) ≡ values vs =
    read_written (n + 1) vs (λ i. bytes (suc i)) (omega arith) in
    read_cut n (written (v ∷ vs)) (decimal v) (written vs) (split_line (decimal v) (written vs) plain)
    ∙ ap (λ b. if b then with_value (number_of (decimal v)) (read_parts (n + 1) (slice_split is_line_feed (written vs))) else bad_line n)
    (ap (λ b. b && nat_le n most_kept) good ∙ room_for)
    ∙ ap (λ m. with_value m (read_parts (n + 1) (slice_split is_line_feed (written vs)))) is
    ∙ ap (with_value v) rest

-- the file of at most 65,536 choices reads as they are
pub read_back : (vs bytes : List ℕ) → ((i : ℕ) → get_or vs i 0 < 256) → bytes ≡ written vs → length vs ≤ most_kept → read_of bytes ≡ values vs
read_back vs bytes fits is room = ap read_of is ∙ read_written 1 vs fits (omega arith)
