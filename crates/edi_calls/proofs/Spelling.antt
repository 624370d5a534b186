-- The title that words spell.
use Rattle.std.proofs.Common.{◌≡◌, ℕ, zero, suc, Bool, true, false, List, [], ◌∷◌, ◌++◌, map, replicate, refl, sym, ap, subst, ◌∙◌, append_assoc}
use Rattle.std.proofs.lemmas.List.{append-nil}
use Rattle.std.specs.Prelude.{if◌then◌else◌, ◌==◌, ◌&&◌, nat_lt, length, Some, None}
use Rattle.std.specs.List.{list_all}
use Rattle.std.proofs.lemmas.Bool.{and_parts, eqb-true, false_from_ne_true, true≢false}
use Rattle.edi_calls.specs.State.{before, without_blanks, character, is_letter, is_title, is_title_character}
use Rattle.edi_calls.specs.Laws.{TitlesAreSpelled}
use Rattle.edi_calls.proofs.Blanks.{without_blanks-blank}

-- ---- what is left, and the blanks behind it

before_blanks : (c blanks : ℕ) (kept : List ℕ) → (more : ℕ) × (c ∷ (kept ++ replicate blanks 32) ≡ before c kept ++ replicate more 32)
before_blanks c blanks (d ∷ kept) = (blanks, refl)
before_blanks c blanks [] = go (c == 32) refl where
  go : (b : Bool) → (c == 32) ≡ b → (more : ℕ) × (c ∷ replicate blanks 32 ≡ (if b then [] else c ∷ []) ++ replicate more 32)
  go true e = (suc blanks, ap (λ d. d ∷ replicate blanks 32) (eqb-true c 32 e))
  go false e = (blanks, refl)

kept_and_blanks : (cs : List ℕ) → (blanks : ℕ) × (cs ≡ without_blanks cs ++ replicate blanks 32)
kept_and_blanks [] = (0, refl)
kept_and_blanks (c ∷ cs) =
    let rest = kept_and_blanks cs in
    let more = before_blanks c rest.0 (without_blanks cs) in
    (more.0, ap (λ ds. c ∷ ds) rest.1 ∙ more.1)

-- ---- a title has no blank

blanks_dropped : (cs : List ℕ) (blanks : ℕ) → without_blanks (cs ++ replicate blanks 32) ≡ without_blanks cs
blanks_dropped cs zero = ap without_blanks (append-nil cs)
blanks_dropped cs (suc blanks) =
    ap without_blanks (sym (append_assoc cs (32 ∷ []) (replicate blanks 32)))
    ∙ blanks_dropped (cs ++ 32 ∷ []) blanks ∙ without_blanks-blank cs

no_blank : (c : ℕ) → is_title_character c ≡ true → (c == 32) ≡ false
no_blank c h = false_from_ne_true (c == 32) (λ e. true≢false (sym (subst (λ d. is_title_character d ≡ true) (eqb-true c 32 e) h)))

letter_no_blank : (c : ℕ) → is_letter c ≡ true → (c == 32) ≡ false
letter_no_blank c h = false_from_ne_true (c == 32) (λ e. true≢false (sym (subst (λ d. is_letter d ≡ true) (eqb-true c 32 e) h)))

kept_before : (c : ℕ) (cs : List ℕ) → (c == 32) ≡ false → before c cs ≡ c ∷ cs
kept_before c [] e = ap (λ b. if b then [] else c ∷ []) e
kept_before c (d ∷ cs) e = refl

all_kept : (cs : List ℕ) → list_all is_title_character cs ≡ true → without_blanks cs ≡ cs
all_kept [] h = refl
all_kept (c ∷ cs) h =
    let parts = and_parts (is_title_character c) (list_all is_title_character cs) h in
    ap (before c) (all_kept cs parts.1) ∙ kept_before c cs (no_blank c parts.0)

title_kept : (title : List ℕ) → is_title title ≡ true → without_blanks title ≡ title
title_kept [] h = refl
title_kept (c ∷ cs) h =
    let few = and_parts (is_letter c && list_all is_title_character cs) (nat_lt (length cs) 24) h in
    let parts = and_parts (is_letter c) (list_all is_title_character cs) few.0 in
    ap (before c) (all_kept cs parts.1) ∙ kept_before c cs (letter_no_blank c parts.0)

-- ---- the law

spelled : (words title kept : List ℕ) → without_blanks (map character words) ≡ kept → (b : Bool) → is_title kept ≡ b
    → (if b then Some kept else None) ≡ Some title → (is_title title ≡ true) × ((blanks : ℕ) × (map character words ≡ title ++ replicate blanks 32))
spelled words title kept is true titled h =
    let same : kept ≡ title = cc in
    let whole = kept_and_blanks (map character words) in
    (sym (ap is_title same) ∙ titled, (whole.0, whole.1 ∙ ap (λ cs. cs ++ replicate whole.0 32) (is ∙ same)))
spelled words title kept is false titled h = absurd (let no : None ≡ Some title = h in cc)

pub titles_are_spelled : TitlesAreSpelled
titles_are_spelled words title = (
  λ h. spelled words title (without_blanks (map character words)) refl (is_title (without_blanks (map character words))) refl h,
  λ h.
      let kept : without_blanks (map character words) ≡ title =
      ap without_blanks h.1.1 ∙ blanks_dropped title h.1.0 ∙ title_kept title h.0 in
      ap (λ t. if is_title t then Some t else None) kept ∙ ap (λ b. if b then Some title else None) h.0,
)
