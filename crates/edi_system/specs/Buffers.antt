-- Words of contracts. Writing to the buffer.
use Rattle.std.specs.Prelude.{◌≡◌, ℕ, true, false, nat_lt, List, [], ◌∷◌, ◌++◌, length, Option, Some, None, Result, Ok, Err}
use Rattle.edi_calls.specs.State.{most_bytes}
use Rattle.edi_system.specs.declared.ends.Stop.{Stop}
use Rattle.edi_system.specs.declared.ends.Stop.TheVariants as stop

-- a character is appended to the buffer, or there is none, or it has the greatest length
abbrev pub WritesTo : {X : Type 0} → Result X Stop → ℕ → (old new : Option (List ℕ)) → Type 0
WritesTo (Err stop.NoFile) c None new = new ≡ None
WritesTo (Ok x) c (Some bytes) new = (nat_lt (length bytes) most_bytes ≡ true) × (new ≡ Some (bytes ++ c ∷ []))
WritesTo (Err stop.FileLimit) c (Some bytes) new = (nat_lt (length bytes) most_bytes ≡ false) × (new ≡ Some bytes)
WritesTo _ c old new = ⊥
