-- Helper. The `when`s of a list of constructs.
use Rattle.std.specs.Prelude.{List, [], ◌∷◌}
use Rattle.edi_sights.specs.Counted.{Met}

-- one construct after another
abbrev pub folded : {X : Type 0} → (X → Met → Met) → List X → Met → Met
folded step [] met = met
folded step (x ∷ xs) met = folded step xs (step x met)
