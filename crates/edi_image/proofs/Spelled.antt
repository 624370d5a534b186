-- Titles, and the blanks behind them.
use Rattle.std.proofs.Common.{◌≡◌, ℕ, zero, suc, ◌-◌, ◌≤◌, ◌+◌, Bool, true, false, List, [], ◌∷◌, ◌++◌, length, refl, ap, subst, drop, length-append, arith}
use Rattle.std.specs.Prelude.{◌&&◌, ◌||◌, ◌==◌, nat_lt, if◌then◌else◌, replicate}
use Rattle.std.specs.List.{list_all}
use Rattle.std.proofs.lemmas.Bool.{eqb-true}
use Rattle.std.proofs.Common.{◌∙◌}
use borrow.Author.Tests.{ltb-true}
use Rattle.std.proofs.lemmas.List.{drop-replicate, length-replicate}
use Rattle.edi_image.specs.Titles.{IsTitleField}
use Rattle.edi_calls.specs.State.{is_title, is_letter, is_digit, is_title_character, before, without_blanks}

pub both : (a b : Bool) → (a && b) ≡ true → (a ≡ true) × (b ≡ true)
both true b h = (refl, h)
both false b h = absurd (let a : false ≡ true = h in cc)

-- no character of a title is a blank
pub no_blank : (c : ℕ) → is_title_character c ≡ true → (c == 32) ≡ false
no_blank c h = go (c == 32) refl where
  go : (b : Bool) → (c == 32) ≡ b → (c == 32) ≡ false
  go false e = e
  go true e =
      let blank : is_title_character 32 ≡ true = subst (λ n. is_title_character n ≡ true) (eqb-true c 32 e) h in
      absurd (let a : false ≡ true = blank in cc)

pub before_kept : (c : ℕ) (cs : List ℕ) → (c == 32) ≡ false → before c cs ≡ c ∷ cs
before_kept c [] e = ap (λ b. if b then [] else c ∷ []) e
before_kept c (d ∷ ds) e = refl

pub without_blanks-replicate : (n : ℕ) → without_blanks (replicate n 32) ≡ []
without_blanks-replicate zero = refl
without_blanks-replicate (suc n) = ap (before 32) (without_blanks-replicate n)

-- blanks behind characters that are none are dropped
pub without_blanks-characters : (cs : List ℕ) (n : ℕ) → list_all is_title_character cs ≡ true
    → without_blanks (cs ++ replicate n 32) ≡ cs
without_blanks-characters [] n h = without_blanks-replicate n
without_blanks-characters (c ∷ cs) n h =
    let parts : (is_title_character c ≡ true) × (list_all is_title_character cs ≡ true) = both _ _ h in
    ap (before c) (without_blanks-characters cs n parts.1) ∙ before_kept c cs (no_blank c parts.0)

-- a title has the characters of titles, and at most 24
letter_too : (c : ℕ) → is_letter c ≡ true → is_title_character c ≡ true
letter_too c h = ap (λ b. b || is_digit c || c == 95) h

pub title_characters : (cs : List ℕ) → is_title cs ≡ true → list_all is_title_character cs ≡ true
title_characters [] h = refl
title_characters (c ∷ cs) h =
    let parts : ((is_letter c && list_all is_title_character cs) ≡ true) × (nat_lt (length cs) 24 ≡ true) = both _ _ h in
    let first : (is_letter c ≡ true) × (list_all is_title_character cs ≡ true) = both _ _ parts.0 in
    ap (λ b. b && list_all is_title_character cs) (letter_too c first.0) ∙ first.1

pub title_length : (cs : List ℕ) → is_title cs ≡ true → length cs ≤ 24
title_length [] h = omega arith
title_length (c ∷ cs) h =
    let parts : ((is_letter c && list_all is_title_character cs) ≡ true) × (nat_lt (length cs) 24 ≡ true) = both _ _ h in
    omega (arith, ltb-true (length cs) 24 parts.1)

pub without_blanks-title : (cs : List ℕ) (n : ℕ) → is_title cs ≡ true → without_blanks (cs ++ replicate n 32) ≡ cs
without_blanks-title cs n h = without_blanks-characters cs n (title_characters cs h)

pub kept_made : (title start back : List ℕ) → is_title title ≡ true → start ≡ title → back ≡ drop (length title) (replicate 24 32)
    → without_blanks (start ++ back) ≡ title
kept_made title start back h s b =
    ap (λ t. without_blanks (t ++ back)) s
    ∙ ap (λ bs. without_blanks (title ++ bs)) (b ∙ drop-replicate (length title) 24 32)
    ∙ without_blanks-title title (24 - length title) h

-- the 24 characters that are kept of a title
pub field_made : (title start back : List ℕ) → is_title title ≡ true → start ≡ title → back ≡ drop (length title) (replicate 24 32)
    → IsTitleField (start ++ back)
field_made title start back h s b = record {
  size =
      length-append start back ∙ ap (λ n. n + length back) (ap length s)
      ∙ ap (λ n. length title + n) (ap length blanks ∙ length-replicate (24 - length title) 32)
      ∙ (let short : length title ≤ 24 = title_length title h in omega arith);
  title = ap is_title (kept_made title start back h s b) ∙ h;
} where
  blanks : back ≡ replicate (24 - length title) 32
  blanks = b ∙ drop-replicate (length title) 24 32
