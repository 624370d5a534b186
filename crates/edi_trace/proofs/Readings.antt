-- Files of choices, read line by line.
use Rattle.std.proofs.Common.{◌≡◌, ℕ, ◌+◌, ◌<◌, ◌≤◌, Bool, true, false, cond, List, [], ◌∷◌, ◌++◌, length, refl, sym, ap, ◌∙◌, subst, arith, append-nil}
use Rattle.std.proofs.Common.{append_assoc, le-leb, leb-true, length-append, Some, None, Ok, Err}
use Rattle.std.specs.Prelude.{nat_le, ◌&&◌, if◌then◌else◌, ⊤}
use Rattle.std.specs.List.{slice_split, onto_first}
use Rattle.edi_trace.specs.Drawn.{most_kept}
use Rattle.edi_trace.specs.Lines.{Reading, values, bad_line, is_choice, is_line_feed, number_of, with_value, read_parts, read_of, ReadingAnswers}
use Rattle.edi_trace.specs.declared.file.ChoiceFault.TheVariants as fault

-- choices before those of a reading
abbrev pub with_values : List ℕ → Reading → Reading
with_values list (values rest) = values (list ++ rest)
with_values list (bad_line n) = bad_line n

with_values-one : (list : List ℕ) (value : ℕ) (r : Reading) → with_values (list ++ value ∷ []) r ≡ with_values list (with_value value r)
with_values-one list value (values rest) = ap values (append_assoc list (value ∷ []) rest)
with_values-one list value (bad_line n) = refl

-- parts of a file: there is always one
abbrev pub Parts : List (List ℕ) → Type 0
Parts [] = ⊥
Parts (part ∷ parts) = ⊤

cond-parts : (t : Bool) (ps qs : List (List ℕ)) → Parts ps → Parts qs → Parts (cond t ps qs)
cond-parts true ps qs h k = h
cond-parts false ps qs h k = k

onto_first-parts : (c : ℕ) (ps : List (List ℕ)) → Parts (onto_first c ps)
onto_first-parts c [] = tt
onto_first-parts c (p ∷ ps) = tt

split-parts : (p : ℕ → Bool) (bs : List ℕ) → Parts (slice_split p bs)
split-parts p [] = tt
split-parts p (b ∷ bs) = cond-parts (p b) _ _ tt (onto_first-parts b (slice_split p bs))

read_line : (n : ℕ) (line : List ℕ) (rest : List (List ℕ)) → Parts rest
    → read_parts n (line ∷ rest)
    ≡ (if is_choice line && nat_le n most_kept then with_value (number_of line) (read_parts (n + 1) rest) else bad_line n)
read_line n line [] h = absurd h
read_line n line (part ∷ rest) h = refl

-- a file that begins with a line
pub read_cut : (n : ℕ) (bytes line after : List ℕ)
    → slice_split is_line_feed bytes ≡ line ∷ slice_split is_line_feed after
    → read_parts n (slice_split is_line_feed bytes)
    ≡ (if is_choice line && nat_le n most_kept
    then with_value (number_of line) (read_parts (n + 1) (slice_split is_line_feed after)) else bad_line n)
read_cut n bytes line after cut =
    ap (read_parts n) cut ∙ read_line n line (slice_split is_line_feed after) (split-parts is_line_feed after)

-- where the reading of a file stands: the choices so far, and the bytes that are left
pub record LinesStand (list rest all : List ℕ) : Type 0 where
  pub so : with_values list (read_parts (length list + 1) (slice_split is_line_feed rest)) ≡ read_of all

pub stands_first : (all : List ℕ) → LinesStand [] all all
stands_first all = record { so = nothing_before (read_of all) }
  where
    nothing_before : (r : Reading) → with_values [] r ≡ r
    nothing_before (values rest) = refl
    nothing_before (bad_line n) = refl

pub stands_last : (list rest all : List ℕ) → LinesStand list rest all → rest ≡ [] → read_of all ≡ values list
stands_last list rest all h e =
    sym h.so ∙ ap (λ r. with_values list (read_parts (length list + 1) (slice_split is_line_feed r))) e
    ∙ ap values (append-nil list)

-- the next line, whether it is a choice or not
pub stands_line : (list rest all line after : List ℕ) (t : Bool) → LinesStand list rest all
    → slice_split is_line_feed rest ≡ line ∷ slice_split is_line_feed after
    → (is_choice line && nat_le (length list + 1) most_kept) ≡ t
    → with_values list (if t then with_value (number_of line) (read_parts (length list + 1 + 1) (slice_split is_line_feed after)) else bad_line
    (length list + 1)) ≡ read_of all
stands_line list rest all line after t h cut e =
    ap (λ b. with_values list (if b then with_value (number_of line) (read_parts (length list + 1 + 1) (slice_split is_line_feed after)) else bad_line
    (length list + 1))) (sym e)
    ∙ ap (with_values list) (sym (read_cut (length list + 1) rest line after cut)) ∙ h.so

pub stands_more : (list rest all line after : List ℕ) → LinesStand list rest all
    → slice_split is_line_feed rest ≡ line ∷ slice_split is_line_feed after
    → is_choice line ≡ true → length list < most_kept → LinesStand (list ++ number_of line ∷ []) after all
stands_more list rest all line after h cut good room = record {
  so =
      ap (λ n. with_values (list ++ number_of line ∷ []) (read_parts n (slice_split is_line_feed after))) longer
      ∙ with_values-one list (number_of line) (read_parts (length list + 1 + 1) (slice_split is_line_feed after))
      ∙ stands_line list rest all line after true h cut both;
}
  where
    longer : length (list ++ number_of line ∷ []) + 1 ≡ length list + 1 + 1
    longer = ap (λ n. n + 1) (length-append list (number_of line ∷ []))

    within : nat_le (length list + 1) most_kept ≡ true
    within = le-leb _ _ (omega arith)

    both : (is_choice line && nat_le (length list + 1) most_kept) ≡ true
    both = ap (λ b. b && nat_le (length list + 1) most_kept) good ∙ within

pub stands_bad : (list rest all line after : List ℕ) → LinesStand list rest all
    → slice_split is_line_feed rest ≡ line ∷ slice_split is_line_feed after
    → is_choice line ≡ false → read_of all ≡ bad_line (length list + 1)
stands_bad list rest all line after h cut bad =
    sym (stands_line list rest all line after false h cut (ap (λ b. b && nat_le (length list + 1) most_kept) bad))

pub stands_over : (list rest all line after : List ℕ) → LinesStand list rest all
    → slice_split is_line_feed rest ≡ line ∷ slice_split is_line_feed after
    → most_kept ≤ length list → read_of all ≡ bad_line (length list + 1)
stands_over list rest all line after h cut over =
    sym (stands_line list rest all line after false h cut (and_false (is_choice line) _ past))
  where
    not_le : (b : Bool) → nat_le (length list + 1) most_kept ≡ b → b ≡ false
    not_le false e = refl
    not_le true e = let le : length list + 1 ≤ most_kept = leb-true _ _ e in absurd (omega arith)

    past : nat_le (length list + 1) most_kept ≡ false
    past = let h = not_le (nat_le (length list + 1) most_kept) refl in h

    and_false : (a b : Bool) → b ≡ false → (a && b) ≡ false
    and_false true b h = h
    and_false false b h = refl

pub stands_open : (list rest all : List ℕ) → LinesStand list rest all → slice_split is_line_feed rest ≡ rest ∷ []
    → 0 < length rest → read_of all ≡ bad_line (length list + 1)
stands_open list [] all h cut some = absurd (omega arith)
stands_open list (c ∷ cs) all h cut some = sym h.so ∙ ap (λ ps. with_values list (read_parts (length list + 1) ps)) cut

-- what a line's choice tells of the line
pub choice_none : (line : List ℕ) → None ≡ (if is_choice line then Some (number_of line) else None) → is_choice line ≡ false
choice_none line h = go (is_choice line) h
  where
    go : (b : Bool) → None ≡ (if b then Some (number_of line) else None) → b ≡ false
    go true h = absurd (cc)
    go false h = refl

pub record IsLine (line : List ℕ) (value : ℕ) : Type 0 where
  pub good : is_choice line ≡ true
  pub value_is : number_of line ≡ value

pub choice_some : (line : List ℕ) (value : ℕ) → Some value ≡ (if is_choice line then Some (number_of line) else None) → IsLine line value
choice_some line value h = go (is_choice line) refl h
  where
    go : (b : Bool) → is_choice line ≡ b → Some value ≡ (if b then Some (number_of line) else None) → IsLine line value
    go true e h = record { good = e; value_is = cc }
    go false e h = absurd (cc)

pub answers_bad : {V : Type 0} (items : V → List ℕ) (r : Reading) (n m : ℕ) → r ≡ bad_line n → m ≡ n → ReadingAnswers items r (Err (fault.Line m))
answers_bad items r n m is same = subst (λ r. ReadingAnswers items r (Err (fault.Line m))) (sym is) same

pub answers_all : {V : Type 0} (items : V → List ℕ) (v : V) (r : Reading) → r ≡ values (items v) → ReadingAnswers items r (Ok v)
answers_all items v r is = subst (λ r. ReadingAnswers items r (Ok v)) (sym is) refl
