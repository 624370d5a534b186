-- Taking the next leaves the members of the list as they are: which one is taken, choices say, but who is ready, they do not.
use Rattle.std.proofs.Common.{◌≡◌, ℕ, zero, suc, ◌+◌, ◌<◌, Bool, true, false, ◌||◌, List, [], ◌∷◌, ◌++◌, length, refl, ap, ◌∙◌, arith}
use Rattle.std.specs.Prelude.{◌%◌}
use Rattle.edi_calls.specs.Choice.{Choices, choice}
use Rattle.edi_calls.specs.Names.{Name, same}
use Rattle.edi_calls.specs.Ready.{has, Taking, nobody, taking, name_at, without_index, take_next}
use Rattle.edi_calls.proofs.Tables.{same-refl}
use Rattle.edi_meaning.proofs.Sound.{has-append, once-without_place, not-without_place}
use Rattle.edi_explored.specs.Covered.{Reordered}

-- a test before another
swap : (a b c : Bool) → (a || (b || c)) ≡ (b || (a || c))
swap true true c = refl
swap true false c = refl
swap false b c = refl

pub members_at : (l : List Name) (i : ℕ) → i < length l → (p : Name) → has (name_at l i ∷ without_index l i) p ≡ has l p
members_at [] i h p = absurd (omega (arith, h))
members_at (x ∷ xs) zero h p = refl
members_at (x ∷ xs) (suc i) h p =
    swap (same p (name_at xs i)) (same p x) (has (without_index xs i) p) ∙ ap (λ b. same p x || b) (members_at xs i (omega (arith, h)) p)

-- who is taken, and the others, are the ready ones
abbrev pub MembersTaken : List Name → Taking → Type 0
MembersTaken l nobody = l ≡ []
MembersTaken l (taking p others drawn) = Reordered l (p ∷ others)

pub members_taken : (choices : Choices) (drawn : ℕ) (l : List Name) → MembersTaken l (take_next choices drawn l)
members_taken choices drawn [] = refl
members_taken choices drawn (p ∷ []) = record { members = λ x. refl; once = λ o. o }
members_taken choices drawn (p ∷ q ∷ ready) =
    let i : ℕ = choice choices (drawn + 1) % length (p ∷ q ∷ ready) in
    record {
      members = members_at (p ∷ q ∷ ready) i (omega arith);
      once = λ o. (not-without_place (p ∷ q ∷ ready) i (omega arith) o, once-without_place (p ∷ q ∷ ready) i o);
    }

-- who goes to the back is among them
pub last_has : (others : List Name) (p : Name) → has (others ++ p ∷ []) p ≡ true
last_has others p = has-append others (p ∷ []) p ∙ ap (λ b. has others p || (b || false)) (same-refl p) ∙ right (has others p)
  where
    right : (b : Bool) → (b || true) ≡ true
    right true = refl
    right false = refl
