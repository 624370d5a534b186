-- The first bytes of a file of points decide how it is read.
use Rattle.std.proofs.Common.{◌≡◌, ℕ, suc, ◌+◌, ◌*◌, ◌<◌, ◌≤◌, Bool, true, false, ◌&&◌, if◌then◌else◌, nat_le, cond, List, [], ◌∷◌, ◌++◌, length}
use Rattle.std.proofs.Common.{take, drop, refl, sym, subst, ap, ◌∙◌, arith, leb-true, leb-false, length-append, Option, Some, None}
use Rattle.std.specs.List.{slice_split, onto_first, list_all}
use Rattle.std.proofs.lemmas.Bool.{and_parts}
use Rattle.std.proofs.lemmas.List.{length-take-le, take_all, take-append-drop}
use Rattle.edi_trace.specs.Lines.{is_digit, number_of}
use Rattle.edi_tree.specs.Tree.{Program}
use Rattle.edi_debug.specs.stops.Stops.{Watched}
use Rattle.edi_debug.specs.Points.{Reading, bad_line, is_blank, is_line_feed, is_name, is_number, point_of, seen_at, spelled, spelled_by, with_point}
use Rattle.edi_debug.specs.Points.{read_parts, read_of}
use Rattle.edi_debug.proofs.Names.{name_is_short}
use Rattle.edi_runs.specs.watch.Limit.{most_fetched, FirstBytesDecide}

-- ---- the parts of a longer list

-- the last part goes on with the first of the others
abbrev joined : List (List ℕ) → List (List ℕ) → List (List ℕ)
joined [] others = others
joined (last ∷ []) [] = last ∷ []
joined (last ∷ []) (first ∷ others) = (last ++ first) ∷ others
joined (part ∷ next ∷ parts) others = part ∷ joined (next ∷ parts) others

-- there is one at least
abbrev Some-part : List (List ℕ) → Type 0
Some-part parts = (first : List ℕ) × (others : List (List ℕ)) × (parts ≡ first ∷ others)

some_part : (p : ℕ → Bool) (bytes : List ℕ) → Some-part (slice_split p bytes)
some_part p [] = ([], [], refl)
some_part p (b ∷ bytes) = go (p b) (slice_split p bytes) (some_part p bytes)
  where
    go : (t : Bool) (parts : List (List ℕ)) → Some-part parts → Some-part (cond t ([] ∷ parts) (onto_first b parts))
    go true parts s = ([], parts, refl)
    go false parts s = (b ∷ s.0, s.1, ap (onto_first b) s.2)

joined_some : (part : List ℕ) (parts others : List (List ℕ)) → Some-part (joined (part ∷ parts) others)
joined_some part [] [] = (part, [], refl)
joined_some part [] (first ∷ others) = (part ++ first, others, refl)
joined_some part (next ∷ parts) others = (part, joined (next ∷ parts) others, refl)

onto_joined : (b : ℕ) (part : List ℕ) (parts others : List (List ℕ)) → onto_first b (joined (part ∷ parts) others) ≡ joined (onto_first b (part ∷ parts)) others
onto_joined b part [] [] = refl
onto_joined b part [] (first ∷ others) = refl
onto_joined b part (next ∷ parts) others = refl

split_append : (p : ℕ → Bool) (bytes more : List ℕ) → slice_split p (bytes ++ more) ≡ joined (slice_split p bytes) (slice_split p more)
split_append p [] more =
    let s : Some-part (slice_split p more) = some_part p more in
    s.2 ∙ sym (ap (joined ([] ∷ [])) s.2)
split_append p (b ∷ bytes) more =
    go (p b) (slice_split p bytes) (some_part p bytes) (slice_split p (bytes ++ more)) (split_append p bytes more)
  where
    go : (t : Bool) (parts : List (List ℕ)) → Some-part parts → (all : List (List ℕ)) → all ≡ joined parts (slice_split p more) →
        cond t ([] ∷ all) (onto_first b all) ≡ joined (cond t ([] ∷ parts) (onto_first b parts)) (slice_split p more)
    go true parts s all e =
        ap (λ x. [] ∷ x) (e ∙ ap (λ x. joined x (slice_split p more)) s.2)
        ∙ sym (ap (λ x. joined ([] ∷ x) (slice_split p more)) s.2)
    go false parts s all e =
        ap (onto_first b) (e ∙ ap (λ x. joined x (slice_split p more)) s.2)
        ∙ onto_joined b s.0 s.1 (slice_split p more)
        ∙ sym (ap (λ x. joined (onto_first b x) (slice_split p more)) s.2)

-- ---- how many bytes the parts have, with the line feeds between them

abbrev bytes_in : List (List ℕ) → ℕ
bytes_in [] = 0
bytes_in (last ∷ []) = length last
bytes_in (part ∷ next ∷ parts) = length part + 1 + bytes_in (next ∷ parts)

onto_bytes : (b : ℕ) (part : List ℕ) (parts : List (List ℕ)) → bytes_in (onto_first b (part ∷ parts)) ≡ suc (bytes_in (part ∷ parts))
onto_bytes b part [] = refl
onto_bytes b part (next ∷ parts) = omega arith

split_bytes : (p : ℕ → Bool) (bytes : List ℕ) → bytes_in (slice_split p bytes) ≡ length bytes
split_bytes p [] = refl
split_bytes p (b ∷ bytes) = go (p b) (slice_split p bytes) (some_part p bytes) (split_bytes p bytes)
  where
    go : (t : Bool) (parts : List (List ℕ)) → Some-part parts → bytes_in parts ≡ length bytes → bytes_in (cond t ([] ∷ parts) (onto_first b parts)) ≡ suc
        (length bytes)
    go true parts s e =
        let here : bytes_in ([] ∷ parts) ≡ bytes_in ([] ∷ s.0 ∷ s.1) = ap (λ x. bytes_in ([] ∷ x)) s.2 in
        let there : bytes_in parts ≡ bytes_in (s.0 ∷ s.1) = ap bytes_in s.2 in
        omega (arith, here, there, e)
    go false parts s e =
        let here : bytes_in (onto_first b parts) ≡ bytes_in (onto_first b (s.0 ∷ s.1)) = ap (λ x. bytes_in (onto_first b x)) s.2 in
        let there : bytes_in parts ≡ bytes_in (s.0 ∷ s.1) = ap bytes_in s.2 in
        let one : bytes_in (onto_first b (s.0 ∷ s.1)) ≡ suc (bytes_in (s.0 ∷ s.1)) = onto_bytes b s.0 s.1 in
        omega (arith, here, there, one, e)

-- ---- so many bytes have a bad line, and keep it whatever follows

-- a spelled line has 256 bytes at most: five digits, a blank and a name
spelled_short : (parts : List (List ℕ)) (pair : ℕ × List ℕ) → spelled_by parts ≡ Some pair → bytes_in parts ≤ 256
spelled_short [] pair e = absurd (cc)
spelled_short (digits ∷ []) pair e = absurd (cc)
spelled_short (digits ∷ name ∷ []) pair e = go (is_number digits && is_name name) refl e
  where
    go : (t : Bool) → (is_number digits && is_name name) ≡ t → (if t then Some (number_of digits, name) else None) ≡ Some pair
        → bytes_in (digits ∷ name ∷ []) ≤ 256
    go true f g =
        let both = and_parts (is_number digits) (is_name name) f in
        let in_number = and_parts (nat_le 1 (length digits) && nat_le (length digits) 5 && list_all is_digit digits) (nat_le (number_of digits) 65535) both.0 in
        let digits_few = and_parts (nat_le 1 (length digits) && nat_le (length digits) 5) (list_all is_digit digits) in_number.0 in
        let few = and_parts (nat_le 1 (length digits)) (nat_le (length digits) 5) digits_few.0 in
        omega (arith, leb-true (length digits) 5 few.1, leb-true (length name) 250 (name_is_short name both.1))
    go false f g = absurd (cc)
spelled_short (digits ∷ name ∷ part ∷ parts) pair e = absurd (cc)

point_short : (tree : Program) (line : List ℕ) (p : Watched) → point_of tree line ≡ Some p → length line ≤ 256
point_short tree line p e = go (spelled line) refl e
  where
    go : (o : Option (ℕ × List ℕ)) → spelled line ≡ o → seen_at tree o ≡ Some p → length line ≤ 256
    go None f g = absurd (cc)
    go (Some pair) f g = omega (arith, spelled_short (slice_split is_blank line) pair f, split_bytes is_blank line)

abbrev Bad : Reading → Reading → Type 0
Bad one other = (k : ℕ) × (one ≡ bad_line k) × (other ≡ bad_line k)

module _ (tree : Program) where
  read_more : (n : ℕ) (line : List ℕ) (parts : List (List ℕ)) → Some-part parts
      → read_parts tree n (line ∷ parts) ≡ (if nat_le n 64 then with_point n (point_of tree line) (read_parts tree (n + 1) parts) else bad_line n)
  read_more n line parts s =
      subst (λ x. read_parts tree n (line ∷ x)
      ≡ (if nat_le n 64 then with_point n (point_of tree line) (read_parts tree (n + 1) x) else bad_line n)) (sym s.2) refl

  -- a line that is too long is bad
  long_line : (n : ℕ) (line : List ℕ) (rest : Reading) → (n ≤ 64 → 256 < length line)
      → (if nat_le n 64 then with_point n (point_of tree line) rest else bad_line n) ≡ bad_line n
  long_line n line rest long = go (nat_le n 64) refl
    where
      point : (o : Option Watched) → point_of tree line ≡ o → n ≤ 64 → with_point n o rest ≡ bad_line n
      point None e early = refl
      point (Some p) e early =
          let short : length line ≤ 256 = point_short tree line p e in
          let long_ : 256 < length line = long early in
          absurd (omega (arith, short, long_))

      go : (t : Bool) → nat_le n 64 ≡ t → (if t then with_point n (point_of tree line) rest else bad_line n) ≡ bad_line n
      go true e = point (point_of tree line) refl (leb-true n 64 e)
      go false e = refl

  -- the last part: some bytes, and more than a line may have where a further line might still be read
  last_bad : (n : ℕ) (rest : List ℕ) (others : List (List ℕ)) → 0 < length rest → (n ≤ 64 → 256 < length rest)
      → Bad (read_parts tree n (rest ∷ [])) (read_parts tree n (joined (rest ∷ []) others))
  last_bad n [] others some long = absurd (omega (arith, some))
  last_bad n (c ∷ rest) [] some long = (n, refl, refl)
  last_bad n (c ∷ rest) (first ∷ []) some long = (n, refl, refl)
  last_bad n (c ∷ rest) (first ∷ next ∷ others) some long = (
    n,
    refl,
    long_line n ((c ∷ rest) ++ first) (read_parts tree (n + 1) (next ∷ others))
        (λ early. let long_ : 256 < length (c ∷ rest) = long early in omega (arith, long_, length-append (c ∷ rest) first)),
  )

  abbrev behind : ℕ → List ℕ → List (List ℕ) → Reading
  behind n part parts = read_parts tree (n + 1) (part ∷ parts)

  abbrev joined_behind : ℕ → List ℕ → List (List ℕ) → List (List ℕ) → Reading
  joined_behind n part parts others = read_parts tree (n + 1) (joined (part ∷ parts) others)

  stays_bad : (n : ℕ) (parts others : List (List ℕ)) → 1 ≤ n → n ≤ 65 → 16706 ≤ bytes_in parts + 257 * n
      → Bad (read_parts tree n parts) (read_parts tree n (joined parts others))
  stays_bad n [] others from to many = absurd (omega (arith, from, to, many))
  stays_bad n (rest ∷ []) others from to many = last_bad n rest others (omega (arith, to, many)) (λ early. omega (arith, early, many))
  stays_bad n (line ∷ part ∷ parts) others from to many =
      go (stays_bad (n + 1) (part ∷ parts) others) (nat_le n 64) refl (point_of tree line) refl
    where
      same : read_parts tree n (line ∷ joined (part ∷ parts) others)
          ≡ (if nat_le n 64 then with_point n (point_of tree line) (joined_behind n part parts others) else bad_line n)
      same = read_more n line (joined (part ∷ parts) others) (joined_some part parts others)

      go : (1 ≤ n + 1 → n + 1 ≤ 65 → 16706 ≤ bytes_in (part ∷ parts) + 257 * (n + 1) → Bad (behind n part parts) (joined_behind n part parts others)) → (t : Bool) → nat_le n 64 ≡ t
          → (o : Option Watched) → point_of tree line ≡ o
          → Bad (read_parts tree n (line ∷ part ∷ parts)) (read_parts tree n (line ∷ joined (part ∷ parts) others))
      go next false e o f = (
        n,
        ap (λ t. if t then with_point n (point_of tree line) (behind n part parts) else bad_line n) e,
        same ∙ ap (λ t. if t then with_point n (point_of tree line) (joined_behind n part parts others) else bad_line n) e,
      )
      go next true e None f = (
        n,
        ap (λ t. if t then with_point n (point_of tree line) (behind n part parts) else bad_line n) e ∙ ap (λ o. with_point n o (behind n part parts)) f,
        same ∙ ap (λ t. if t then with_point n (point_of tree line) (joined_behind n part parts others) else bad_line n) e ∙ ap (λ o. with_point n o (joined_behind n part parts others)) f,
      )
      go next true e (Some p) f =
          let short : length line ≤ 256 = point_short tree line p f in
          let early : n ≤ 64 = leb-true n 64 e in
          let rest : Bad (behind n part parts) (joined_behind n part parts others) = next (omega arith) (omega (arith, early)) (omega (arith, many, short)) in (
            rest.0,
            ap (λ t. if t then with_point n (point_of tree line) (behind n part parts) else bad_line n) e ∙ ap (λ o. with_point n o (behind n part parts)) f ∙ ap (with_point n (Some p)) rest.1,
            same ∙ ap (λ t. if t then with_point n (point_of tree line) (joined_behind n part parts others) else bad_line n) e ∙ ap (λ o. with_point n o (joined_behind n part parts others)) f
                ∙ ap (with_point n (Some p)) rest.2,
          )

  long_is_bad : (front behind : List ℕ) → length front ≡ 16449 → Bad (read_of tree front) (read_of tree (front ++ behind))
  long_is_bad front behind many =
      subst (λ x. Bad (read_of tree front) (read_parts tree 1 x)) (sym (split_append is_line_feed front behind))
      (stays_bad 1 (slice_split is_line_feed front) (slice_split is_line_feed behind) (omega arith) (omega arith)
      (omega (arith, split_bytes is_line_feed front, many)))

pub first_bytes_decide : FirstBytesDecide
first_bytes_decide tree bytes = go (nat_le (length bytes) 16449) refl
  where
    go : (b : Bool) → nat_le (length bytes) 16449 ≡ b → read_of tree (take most_fetched bytes) ≡ read_of tree bytes
    go true e = ap (read_of tree) (take_all most_fetched bytes (leb-true (length bytes) 16449 e))
    go false e =
        let more : 16449 < length bytes = leb-false (length bytes) 16449 e in
        let bad = long_is_bad tree (take most_fetched bytes) (drop most_fetched bytes) (length-take-le most_fetched bytes (omega (arith, more))) in
        bad.1 ∙ sym bad.2 ∙ ap (read_of tree) (take-append-drop most_fetched bytes)
