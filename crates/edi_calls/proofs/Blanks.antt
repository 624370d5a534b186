-- Blanks at the end of a title.
use Rattle.std.proofs.Common.{◌≡◌, ℕ, ◌+◌, ◌<◌, false, List, [], ◌∷◌, ◌++◌, length, take, get_or, refl, sym, ap, ◌∙◌}
use Rattle.std.specs.Prelude.{if◌then◌else◌, ◌==◌}
use Rattle.std.proofs.lemmas.List.{take_more}
use Rattle.edi_calls.specs.State.{before, without_blanks}

-- a blank more at the end changes nothing
pub without_blanks-blank : (cs : List ℕ) → without_blanks (cs ++ 32 ∷ []) ≡ without_blanks cs
without_blanks-blank [] = refl
without_blanks-blank (c ∷ cs) = ap (before c) (without_blanks-blank cs)

-- before another character nothing is dropped
pub without_blanks-other : (cs : List ℕ) (d : ℕ) → (d == 32) ≡ false → without_blanks (cs ++ d ∷ []) ≡ cs ++ d ∷ []
without_blanks-other [] d h = ap (λ b. if b then [] else d ∷ []) h
without_blanks-other (c ∷ []) d h = ap (before c) (without_blanks-other [] d h)
without_blanks-other (c ∷ e ∷ cs) d h = ap (before c) (without_blanks-other (e ∷ cs) d h)

-- one more character that is a blank, or that is none
pub without_blanks-more_blank : (cs : List ℕ) (i : ℕ) → i < length cs → get_or cs i 0 ≡ 32
    → without_blanks (take (i + 1) cs) ≡ without_blanks (take i cs)
without_blanks-more_blank cs i h e =
    ap without_blanks (take_more cs i 0 h ∙ ap (λ c. take i cs ++ c ∷ []) e) ∙ without_blanks-blank (take i cs)

pub without_blanks-more_other : (cs : List ℕ) (i : ℕ) → i < length cs → (get_or cs i 0 == 32) ≡ false
    → without_blanks (take (i + 1) cs) ≡ take (i + 1) cs
without_blanks-more_other cs i h e =
    ap without_blanks (take_more cs i 0 h) ∙ without_blanks-other (take i cs) (get_or cs i 0) e ∙ sym (take_more cs i 0 h)
