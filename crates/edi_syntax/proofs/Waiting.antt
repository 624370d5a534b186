-- What waits for its `end`, counted from the outermost `begin` on.
use Rattle.std.proofs.Common.{◌≡◌, ℕ, zero, suc, ◌+◌, ◌<◌, ◌≤◌, List, [], ◌∷◌, Bool, true, false, ◌||◌, length, drop, refl, sym, ap, ◌∙◌, arith}
use Rattle.std.specs.Prelude.{nat_lt, slice_index_or}
use Rattle.std.proofs.lemmas.Bool.Decides.{nat_tests}
use Rattle.std.proofs.lemmas.List.{drop_more, at_drop_all}
use Rattle.edi_lex.specs.declared.symbol.Mark.{Mark}
use Rattle.edi_syntax.specs.Inside.{open_with, open_behind, has_begin, is_in_begin, one_more, height}

positive : (h : ℕ) → nat_lt 0 (suc h) ≡ true
positive h = grind (arith, nat_tests)

test_one_more : (h : ℕ) (o b : Bool) → nat_lt 0 h ≡ b → nat_lt 0 (one_more h o) ≡ (o || b)
test_one_more zero true b e = refl
test_one_more zero false b e = e
test_one_more (suc h) true b e = positive (suc h)
test_one_more (suc h) false b e = positive (suc h) ∙ sym (positive h) ∙ e

-- some do where a `begin` does
some_wait : (waiting : List Bool) → nat_lt 0 (height waiting) ≡ has_begin waiting
some_wait [] = refl
some_wait (o ∷ waiting) = test_one_more (height waiting) o (has_begin waiting) (some_wait waiting)

-- so many wait behind the marks before these
abbrev pub Waits : ℕ → List Mark → List Mark → Type 0
Waits count rest marks = (waiting : List Bool) × (height waiting ≡ count) × (open_behind waiting rest ≡ open_behind [] marks)

pub waits_on : (count next i : ℕ) (marks : List Mark) (m : Mark) → i < length marks → m ≡ slice_index_or marks i m → Waits count (drop i marks) marks
    → ((waiting : List Bool) → height waiting ≡ count → height (open_with m.symbol waiting) ≡ next) → Waits next (drop (i + 1) marks) marks
waits_on count next i marks m inside is w f = (
  open_with m.symbol w.0,
  f w.0 w.1,
  ap (λ n. open_behind (open_with n.symbol w.0) (drop (i + 1) marks)) is
      ∙ ap (open_behind w.0) (sym (drop_more marks i m inside)) ∙ w.2,
)

pub waits_end : (count i : ℕ) (marks : List Mark) → length marks ≤ i → Waits count (drop i marks) marks → nat_lt 0 count ≡ is_in_begin marks
waits_end count i marks none w = ap (nat_lt 0) (sym w.1) ∙ some_wait w.0 ∙ ap has_begin (sym (at_drop_all (open_behind w.0) marks i none) ∙ w.2)
