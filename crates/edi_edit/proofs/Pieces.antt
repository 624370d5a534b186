-- The pieces of a text between its line feeds.
use Rattle.std.proofs.Common.{◌≡◌, ℕ, suc, ◌+◌, ◌<◌, ◌≤◌, inl, inr, List, [], ◌∷◌, ◌++◌, length, refl, sym, ◌∙◌, ap, arith, take, drop, not, eqb, eq-eqb}
use Rattle.std.proofs.Common.{Vec, append_assoc, length-append, Global, IfOk, Result, Ok, Err}
use Rattle.std.specs.List.{prefix_len}
use Rattle.std.proofs.lemmas.Bool.{ne_eqb, cases_eq}
use Rattle.std.proofs.lemmas.List.{map-append}
use Rattle.std.proofs.lemmas.List.Sums.{sum_by-cons}
use Rattle.edi_edit.specs.Lines.{lines_of, with_byte, bytes_of_lines, size_of_lines}
use Rattle.edi_edit.specs.Steps.{plain}

-- the first piece, and the pieces of what follows its line feed
piece : (bytes : List ℕ) (n : ℕ) → 0 < length bytes → n ≡ prefix_len (λ byte. not (eqb byte 10)) bytes
    → lines_of bytes ≡ take n bytes ∷ lines_of (drop 1 (drop n bytes))
piece [] n some is = absurd (omega arith)
piece (b ∷ bytes) n some is =
    elim (cases_eq b 10) [
      | inl feed ↦ let none : n ≡ 0 = rw (eq-eqb b 10 feed) at is in rw (eq-eqb b 10 feed, none) refl
      | inr other ↦
          let more : n ≡ 1 + prefix_len (λ byte. not (eqb byte 10)) bytes = rw (ne_eqb b 10 other) at is in
          rw (ne_eqb b 10 other) (after b bytes n more (λ some. piece bytes (prefix_len (λ byte. not (eqb byte 10)) bytes) some refl))
    ]
  where
    after : (b : ℕ) (bytes : List ℕ) (n : ℕ) → n ≡ 1 + prefix_len (λ byte. not (eqb byte 10)) bytes
        → (0 < length bytes → lines_of bytes ≡ take (prefix_len (λ byte. not (eqb byte 10)) bytes) bytes
        ∷ lines_of (drop 1 (drop (prefix_len (λ byte. not (eqb byte 10)) bytes) bytes)))
        → with_byte b (lines_of bytes) ≡ take n (b ∷ bytes) ∷ lines_of (drop 1 (drop n (b ∷ bytes)))
    after b [] n more rest = let one : n ≡ suc 0 = omega arith in rw one refl
    after b (x ∷ bytes) n more rest =
        let next : n ≡ suc (prefix_len (λ byte. not (eqb byte 10)) (x ∷ bytes)) = omega arith in
        rw (next, rest (omega arith)) refl

-- one more piece
pub lines_of_more : {A : Type 0} → (lines : List (Vec ℕ A)) (line : Vec ℕ A) (rest bytes : List ℕ) (n : ℕ) → plain lines ++ lines_of rest ≡ lines_of bytes
    → line.items ≡ take n rest → 0 < length rest → n ≡ prefix_len (λ byte. not (eqb byte 10)) rest
    → plain (lines ++ line ∷ []) ++ lines_of (drop 1 (drop n rest)) ≡ lines_of bytes
lines_of_more lines line rest bytes n so_far here some is =
    ap (λ ls. ls ++ lines_of (drop 1 (drop n rest))) (map-append (λ v. v.items) lines (line ∷ []))
    ∙ append_assoc (plain lines) (line.items ∷ []) (lines_of (drop 1 (drop n rest)))
    ∙ ap (λ l. plain lines ++ l ∷ lines_of (drop 1 (drop n rest))) here
    ∙ ap (λ ls. plain lines ++ ls) (sym (piece rest n some is))
    ∙ so_far

-- the lines have at most one byte more than the text: the line feed of a last piece
size-cons : (line : List ℕ) (lines : List (List ℕ)) → size_of_lines (line ∷ lines) ≡ length line + 1 + size_of_lines lines
size-cons line lines = sum_by-cons (λ l. length l + 1) line lines

grown : (b : ℕ) (lines : List (List ℕ)) (n : ℕ) → size_of_lines lines ≤ n + 1 → size_of_lines (with_byte b lines) ≤ suc n + 1
grown b [] n small = omega (arith, size-cons (b ∷ []) [])
grown b (line ∷ lines) n small = omega (arith, size-cons (b ∷ line) lines, size-cons line lines)

pub size-lines_of : (bytes : List ℕ) → size_of_lines (lines_of bytes) ≤ length bytes + 1
size-lines_of [] = omega arith
size-lines_of (b ∷ bytes) =
    elim (cases_eq b 10) [
      | inl feed ↦ rw (eq-eqb b 10 feed) (let rest = size-lines_of bytes in omega (arith, size-cons [] (lines_of bytes)))
      | inr other ↦ rw (ne_eqb b 10 other) (grown b (lines_of bytes) (length bytes) (size-lines_of bytes))
    ]

-- the bytes of the lines are as many as their sizes say
length-bytes : (lines : List (List ℕ)) → length (bytes_of_lines lines) ≡ size_of_lines lines
length-bytes [] = refl
length-bytes (line ∷ lines) =
    let rest = length-bytes lines in
    omega (arith, length-append line (10 ∷ bytes_of_lines lines), size-cons line lines, rest)

pub small_bytes : {E : Type 0} → (r : Result (Vec ℕ Global) E) (lines : List (List ℕ)) (n : ℕ) → size_of_lines lines ≤ n
    → IfOk r (λ bytes. bytes.items ≡ bytes_of_lines lines) → IfOk r (λ bytes. length bytes.items ≤ n)
small_bytes (Ok bytes) lines n small is = omega (arith, ap length is, length-bytes lines, small)
small_bytes (Err e) lines n small is = tt
