-- A title is its own, with no blank behind it.
use Rattle.std.proofs.Common.{◌≡◌, ◌∙◌, ℕ, Bool, true, false, List, [], ◌∷◌, length, Some, None, refl, sym, ap, true≢false}
use Rattle.std.specs.Prelude.{◌==◌, ◌&&◌, nat_lt, if◌then◌else◌}
use Rattle.std.specs.List.{list_all}
use Rattle.std.proofs.lemmas.Bool.{eqb-true}
use Rattle.edi_calls.specs.State.{before, is_letter, is_title, is_title_character, without_blanks}
use Rattle.edi_calls.proofs.Storing.{and_first, and_second}
use Rattle.edi_image.specs.Titles.{title_from}

kept : (c : ℕ) (cs : List ℕ) → is_title_character c ≡ true → before c cs ≡ c ∷ cs
kept c [] h = by_test (c == 32) refl where
  by_test : (b : Bool) → (c == 32) ≡ b → before c [] ≡ c ∷ []
  by_test true e = absurd (true≢false (sym h ∙ ap is_title_character (eqb-true c 32 e)))
  by_test false e = ap (λ b. if b then [] else c ∷ []) e
kept c (d ∷ ds) h = refl

no_blanks : (cs : List ℕ) → list_all is_title_character cs ≡ true → without_blanks cs ≡ cs
no_blanks [] h = refl
no_blanks (c ∷ cs) h =
    ap (before c) (no_blanks cs (and_second (is_title_character c) (list_all is_title_character cs) h))
    ∙ kept c cs (and_first (is_title_character c) (list_all is_title_character cs) h)

letter_is_character : (c : ℕ) → is_letter c ≡ true → is_title_character c ≡ true
letter_is_character c h = rw h refl

own_characters : (title : List ℕ) → is_title title ≡ true → without_blanks title ≡ title
own_characters [] h = absurd (true≢false (sym h))
own_characters (c ∷ cs) h =
    let front = and_first (is_letter c && list_all is_title_character cs) (nat_lt (length cs) 24) h in
    ap (before c) (no_blanks cs (and_second (is_letter c) (list_all is_title_character cs) front))
    ∙ kept c cs (letter_is_character c (and_first (is_letter c) (list_all is_title_character cs) front))

pub own_title : (title : List ℕ) → is_title title ≡ true → title_from title ≡ Some title
own_title title h =
    let own = own_characters title h in
    ap (λ t. if is_title t then Some t else None) own ∙ rw h refl
