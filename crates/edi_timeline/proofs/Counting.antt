-- The lines of rows, one after another, and that there are as many stints as rows.
use Rattle.std.proofs.Common.{◌≡◌, ◌≤◌, ◌<◌, ◌+◌, ℕ, zero, suc, List, [], ◌∷◌, ◌++◌, length, refl, ap, sym, ◌∙◌, arith, append_assoc, append-nil}
use Rattle.std.specs.Prelude.{codes, take, drop, slice_index_or, Option}
use Rattle.edi_calls.specs.Outcome as outcome
use Rattle.edi_kernel.specs.declared.ends.Ending.{Ending}
use Rattle.edi_timeline.specs.declared.rows.Row.{Row}
use Rattle.edi_timeline.specs.Text.{stint_text, lines_text, most_lines, cut_text, text_of}
use Rattle.edi_timeline.specs.Told.{stint_in, stints_in}

pub as_many : (e : Ending) (all : List Row) (used : ℕ) (rows : List Row) → length (stints_in e all used rows) ≡ length rows
as_many e all used [] = refl
as_many e all used (r ∷ rows) = ap suc (as_many e all r.used rows)

-- the lines of the rows from this one on
pub lines_from : (e : Ending) (all : List Row) (used number : ℕ) (rows : List Row) (k : ℕ) (d : Row) → k < length rows →
    let r : Row = slice_index_or rows k d in
    lines_text number (stints_in e all used (drop k rows))
    ≡ stint_text number (stint_in e all (suc used) r) ++ (codes "\n" ++ lines_text (suc number) (stints_in e all r.used (drop (suc k) rows)))
lines_from e all used number [] k d l = absurd (omega (arith, l))
lines_from e all used number (r ∷ rows) zero d l = refl
lines_from e all used number (r ∷ rows) (suc k) d l = lines_from e all used number rows k d (omega (arith, l))

-- a text with the line of a row more
pub line_more : (e : Ending) (all : List Row) (used number : ℕ) (rows : List Row) (k : ℕ) (d : Row) (out put now : List ℕ) → k < length rows →
    let r : Row = slice_index_or rows k d in
    put ≡ out ++ stint_text number (stint_in e all (suc used) r) → now ≡ put ++ codes "\n" →
    now ++ lines_text (suc number) (stints_in e all r.used (drop (suc k) rows)) ≡ out ++ lines_text number (stints_in e all used (drop k rows))
line_more e all used number rows k d out put now l f g =
    let r : Row = slice_index_or rows k d in
    let line : List ℕ = stint_text number (stint_in e all (suc used) r) in
    let rest : List ℕ = lines_text (suc number) (stints_in e all r.used (drop (suc k) rows)) in
    ap (λ l. l ++ rest) (g ∙ ap (λ l. l ++ codes "\n") f)
    ∙ append_assoc (out ++ line) (codes "\n") rest
    ∙ append_assoc out line (codes "\n" ++ rest)
    ∙ ap (λ l. out ++ l) (sym (lines_from e all used number rows k d l))

pub taken_whole : {A : Type 0} (n : ℕ) (xs : List A) → length xs ≤ n → take n xs ≡ xs
taken_whole zero [] l = refl
taken_whole zero (x ∷ xs) l = absurd (omega (arith, l))
taken_whole (suc n) [] l = refl
taken_whole (suc n) (x ∷ xs) l = ap (λ ys. x ∷ ys) (taken_whole n xs (omega (arith, l)))

-- the same, as the loop over rows counts
pub line_on : (e : Ending) (rows : List Row) (used number k : ℕ) (d : Row) (out now : List ℕ) → k < length rows →
    now ≡ out ++ (stint_text (number + 1) (stint_in e rows (suc used) (slice_index_or rows k d)) ++ codes "\n") →
    now ++ lines_text (suc (number + 1)) (stints_in e rows (slice_index_or rows k d).used (drop (k + 1) rows))
    ≡ out ++ lines_text (suc number) (stints_in e rows used (drop k rows))
line_on e rows used number k d out now l f =
    let line : List ℕ = stint_text (number + 1) (stint_in e rows (suc used) (slice_index_or rows k d)) in
    let next : k + 1 ≡ suc k = omega arith in
    let one : number + 1 ≡ suc number = omega arith in
    ap (λ j. now ++ lines_text (suc (number + 1)) (stints_in e rows (slice_index_or rows k d).used (drop j rows))) next
    ∙ line_more e rows used (number + 1) rows k d out (out ++ line) now l refl (f ∙ sym (append_assoc out line (codes "\n")))
    ∙ ap (λ n. out ++ lines_text n (stints_in e rows used (drop k rows))) one

dropped : {A : Type 0} (n : ℕ) (xs : List A) → length xs ≤ n → drop n xs ≡ []
dropped zero [] l = refl
dropped zero (x ∷ xs) l = absurd (omega (arith, l))
dropped (suc n) [] l = refl
dropped (suc n) (x ∷ xs) l = dropped n xs (omega (arith, l))

-- behind the last row the lines are all lines
pub all_lines : (e : Ending) (rows : List Row) (used number k : ℕ) (out : List ℕ) → length rows ≤ k →
    out ++ lines_text number (stints_in e rows used (drop k rows)) ≡ lines_text 1 (stints_in e rows 0 rows) → out ≡ lines_text 1 (stints_in e rows 0 rows)
all_lines e rows used number k out l is =
    sym (append-nil out)
    ∙ ap (λ (rs : List Row). out ++ lines_text number (stints_in e rows used rs)) (sym (dropped k rows l))
    ∙ is

-- the lines are those of the text, where there are no more of them than it may have
pub whole_lines : (e : Ending) (rows : List Row) (count : ℕ) (how : Option outcome.Ending) (lines out : List ℕ) → length rows ≤ most_lines →
    lines ≡ lines_text 1 (stints_in e rows 0 rows) → out ≡ lines ++ cut_text count how → out ≡ text_of count how (stints_in e rows 0 rows)
whole_lines e rows count how lines out few is more =
    more
    ∙ ap (λ l. l ++ cut_text count how)
    (is ∙ ap (lines_text 1) (sym (taken_whole most_lines (stints_in e rows 0 rows) (omega (arith, few, as_many e rows 0 rows)))))
