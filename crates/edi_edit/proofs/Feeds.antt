-- Lines with no line feed: those of a text, those of a changed list, and that they are read again as they were.
use Rattle.std.proofs.Common.{◌≡◌, ℕ, zero, suc, inl, inr, List, [], ◌∷◌, ◌++◌, refl, ◌∙◌, ap, true, false, eqb, eq-eqb, set, Vec, Global, Result, Ok, Err}
use Rattle.std.proofs.Common.{IfOk}
use Rattle.std.specs.Prelude.{insert, remove}
use Rattle.std.proofs.lemmas.Bool.{ne_eqb, cases_eq}
use Rattle.edi_edit.specs.Lines.{lines_of, bytes_of_lines, with_byte, has_feed, HaveNoFeed}

pub no_feed-insert : (lines : List (List ℕ)) (i : ℕ) (line : List ℕ) → has_feed line ≡ false → HaveNoFeed lines → HaveNoFeed (insert lines i line)
no_feed-insert [] zero line one whole = (one, tt)
no_feed-insert [] (suc i) line one whole = (one, tt)
no_feed-insert (x ∷ lines) zero line one whole = (one, whole)
no_feed-insert (x ∷ lines) (suc i) line one whole = (whole.0, no_feed-insert lines i line one whole.1)

pub no_feed-remove : (lines : List (List ℕ)) (i : ℕ) → HaveNoFeed lines → HaveNoFeed (remove lines i)
no_feed-remove [] zero whole = tt
no_feed-remove [] (suc i) whole = tt
no_feed-remove (x ∷ lines) zero whole = whole.1
no_feed-remove (x ∷ lines) (suc i) whole = (whole.0, no_feed-remove lines i whole.1)

pub no_feed-set : (lines : List (List ℕ)) (i : ℕ) (line : List ℕ) → has_feed line ≡ false → HaveNoFeed lines → HaveNoFeed (set lines i line)
no_feed-set [] i line one whole = tt
no_feed-set (x ∷ lines) zero line one whole = (one, whole.1)
no_feed-set (x ∷ lines) (suc i) line one whole = (whole.0, no_feed-set lines i line one whole.1)

no_feed-with_byte : (b : ℕ) (lines : List (List ℕ)) → eqb b 10 ≡ false → HaveNoFeed lines → HaveNoFeed (with_byte b lines)
no_feed-with_byte b [] other whole = (rw other refl, tt)
no_feed-with_byte b (line ∷ lines) other whole = (rw other whole.0, whole.1)

pub no_feed-lines_of : (bytes : List ℕ) → HaveNoFeed (lines_of bytes)
no_feed-lines_of [] = tt
no_feed-lines_of (b ∷ bytes) =
    elim (cases_eq b 10) [
      | inl feed ↦ rw (eq-eqb b 10 feed) (refl, no_feed-lines_of bytes)
      | inr other ↦ rw (ne_eqb b 10 other) (no_feed-with_byte b (lines_of bytes) (ne_eqb b 10 other) (no_feed-lines_of bytes))
    ]

-- a line and its line feed are read as that line
first_line : (line rest : List ℕ) → has_feed line ≡ false → lines_of (line ++ 10 ∷ rest) ≡ line ∷ lines_of rest
first_line [] rest one = refl
first_line (b ∷ line) rest one =
    elim (cases_eq b 10) [
      | inl feed ↦ let end : true ≡ false = rw (eq-eqb b 10 feed) at one in absurd (cc)
      | inr other ↦
          rw (ne_eqb b 10 other) (ap (with_byte b) (first_line line rest (rw (ne_eqb b 10 other) at one)))
    ]

pub lines_of-bytes_of : (lines : List (List ℕ)) → HaveNoFeed lines → lines_of (bytes_of_lines lines) ≡ lines
lines_of-bytes_of [] whole = refl
lines_of-bytes_of (line ∷ lines) whole = first_line line (bytes_of_lines lines) whole.0 ∙ ap (λ ls. line ∷ ls) (lines_of-bytes_of lines whole.1)

pub read_again : {E : Type 0} → (r : Result (Vec ℕ Global) E) (lines : List (List ℕ)) → HaveNoFeed lines → IfOk r (λ bytes. bytes.items ≡ bytes_of_lines lines)
    → IfOk r (λ bytes. lines_of bytes.items ≡ lines)
read_again (Ok bytes) lines whole is = ap lines_of is ∙ lines_of-bytes_of lines whole
read_again (Err e) lines whole is = tt
