-- Words of contracts. Titles as they are kept: 24 characters, filled with blanks.
use Rattle.std.specs.Prelude.{◌≡◌, ℕ, suc, ◌-◌, true, false, if◌then◌else◌, ◌==◌, List, [], ◌∷◌, ◌++◌, length, replicate, Option, Some, None, Bool}
use Rattle.std.proofs.Common.{refl, ap, sym, ◌∙◌, arith}
use Rattle.std.proofs.lemmas.Bool.{eqb-true}
use Rattle.edi_calls.specs.State.{is_title, before, without_blanks}

-- the title that characters are, without the blanks at their end; none where that is no title
abbrev pub title_from : List ℕ → Option (List ℕ)
title_from characters = let title = without_blanks characters in if is_title title then Some title else None

-- characters, and blanks behind them up to so many
unfoldable pub with_blanks : ℕ → List ℕ → List ℕ
with_blanks size characters = characters ++ replicate (size - length characters) 32

-- 24 characters that are a title with blanks behind it
pub record IsTitleField (characters : List ℕ) : Type 0 where
  pub size : length characters ≡ 24
  pub title : is_title (without_blanks characters) ≡ true

-- a blank before nothing is dropped, and another character is not
first_blank : (c n : ℕ) (b : Bool) → (c == 32) ≡ b
    → (if b then [] else c ∷ []) ++ replicate (suc n - length (if b then [] else c ∷ [])) 32 ≡ c ∷ replicate n 32
first_blank c n true e =
    let all : suc n - 0 ≡ suc n = omega arith in
    rw all (ap (λ d. d ∷ replicate n 32) (sym (eqb-true c 32 e)))
first_blank c n false e = let one : suc n - 1 ≡ n = omega arith in rw one refl

-- a character before characters and the blanks behind them
blanks_before : (c : ℕ) (cs kept : List ℕ) → kept ++ replicate (length cs - length kept) 32 ≡ cs
    → before c kept ++ replicate (suc (length cs) - length (before c kept)) 32 ≡ c ∷ cs
blanks_before c cs [] e =
    first_blank c (length cs) (c == 32) refl
    ∙ ap (λ ds. c ∷ ds) (let all : length cs - 0 ≡ length cs = omega arith in rw all at e)
blanks_before c cs (d ∷ ds) e =
    let one : suc (length cs) - suc (suc (length ds)) ≡ length cs - suc (length ds) = omega arith in
    rw one (ap (λ es. c ∷ es) e)

-- characters are what is left without blanks, and blanks behind it
pub without_blanks_filled : (cs : List ℕ) → without_blanks cs ++ replicate (length cs - length (without_blanks cs)) 32 ≡ cs
without_blanks_filled [] = refl
without_blanks_filled (c ∷ cs) = blanks_before c cs (without_blanks cs) (without_blanks_filled cs)

pub with_blanks-without_blanks : (cs : List ℕ) → IsTitleField cs → with_blanks 24 (without_blanks cs) ≡ cs
unfolding with_blanks
with_blanks-without_blanks cs field =
    ap (λ n. without_blanks cs ++ replicate (n - length (without_blanks cs)) 32) (sym field.size) ∙ without_blanks_filled cs
