-- What is in front of marks.
use Rattle.std.proofs.Common.{◌≡◌, ℕ, List, ◌∷◌, Bool, true, false, refl, if◌then◌else◌}
use Rattle.std.specs.Prelude.{nat_eq}
use Rattle.edi_grammar.specs.Parser.{has}

cases : (b c : Bool) → (if b then true else c) ≡ false → (b ≡ false) × (c ≡ false)
cases true c e = cc
cases false c e = (refl, e)

-- a kind that is none of these is not the first of them, and none of the others
pub apart : (f a : ℕ) (more : List ℕ) → has f (a ∷ more) ≡ false → (nat_eq f a ≡ false) × (has f more ≡ false)
apart f a more e = cases (nat_eq f a) (has f more) e
