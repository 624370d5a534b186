-- A byte is below 256, wherever it stands.
use Rattle.std.proofs.Common.{◌≡◌, ℕ, zero, suc, ◌<◌, List, [], ◌∷◌, length, refl, arith}
use Rattle.std.specs.Prelude.{slice_index_or}
use Rattle.edi_explore.proofs.record.are_choices.Goals as goal

-- inside a list the default counts for nothing
inside : (xs : List ℕ) (k d : ℕ) → k < length xs → slice_index_or xs k d ≡ slice_index_or xs k 0
inside [] k d l = absurd (omega (arith, l))
inside (x ∷ xs) zero d l = refl
inside (x ∷ xs) (suc k) d l = inside xs k d (omega (arith, l))

pub returns : goal.returns
returns c = λ k d l. omega (arith, inside c.args.choices.now k d l, c.type_inv.choices k)
