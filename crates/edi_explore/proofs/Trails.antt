-- The choices that lead to a state, by one step back after another.
use Rattle.std.proofs.Common.{◌≡◌, ℕ, suc, Bool, if◌then◌else◌, List, length, Some, sym, ap, ap₂, ◌∙◌}
use Rattle.std.specs.Prelude.{slice_get}
use Rattle.std.proofs.lemmas.Bool.{eq-eqb, ne_eqb}
use Rattle.edi_explore.specs.declared.states.Origin.{Origin}
use Rattle.edi_explore.specs.declared.states.States.{States}
use Rattle.edi_explore.specs.States.{slots_of}
use Rattle.edi_explore.specs.Records.{noted, or_else, origin_of, trail}

module _ (s : States) (n : ℕ) (at : Origin) (later more : List ℕ) (is : more ≡ noted (length (slots_of s at.state)) at.index later) where
  abbrev all : Bool → List ℕ → List ℕ
  all b xs = if b then xs else trail s n (origin_of s at) xs

  -- the first state is reached
  pub trail_ends : at.state ≡ 0 → trail s (suc n) at later ≡ more
  trail_ends first = ap₂ all (eq-eqb at.state 0 first) (sym is)

  pub trail_goes : (next : Origin) → (at.state ≡ 0 → ⊥) → slice_get s.origins.items at.state ≡ Some next → trail s (suc n) at later ≡ trail s n next more
  trail_goes next not_first came = ap₂ all (ne_eqb at.state 0 not_first) (sym is) ∙ ap (λ o. trail s n (or_else at o) more) came
