-- Lists of types by their lengths.
use Rattle.std.proofs.Common.{◌≡◌, ◌≢◌, ℕ, suc, Bool, true, false, ◌&&◌, ◌==◌, List, [], ◌∷◌, length, map, refl, ap, arith}
use Rattle.std.proofs.lemmas.List.{length-map}
use Rattle.edi_static.specs.declared.operands.Typed as code_typed
use Rattle.edi_static.specs.Fitting.{same_types}

rest : (b : Bool) {c : Bool} → c ≡ false → (b && c) ≡ false
rest true h = h
rest false h = refl

lengths_differ : (ss ts : List ℕ) → length ss ≢ length ts → same_types ss ts ≡ false
lengths_differ [] [] h = absurd (h refl)
lengths_differ [] (t ∷ ts) h = refl
lengths_differ (s ∷ ss) [] h = refl
lengths_differ (s ∷ ss) (t ∷ ts) h = rest (s == t) (lengths_differ ss ts (λ e. h (ap suc e)))

-- as many parts as fields
pub parts_differ : (parts : List code_typed.Typed) (fields : List ℕ) → length parts ≢ length fields → same_types (map (λ p. p.of) parts) fields ≡ false
parts_differ parts fields h = lengths_differ (map (λ p. p.of) parts) fields (λ e. h (grind (arith, e, length-map parts (λ p. p.of))))
