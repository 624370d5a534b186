-- What is named by lists of constructs, one after another.
use Rattle.std.proofs.Common.{◌≡◌, ℕ, ◌≤◌, List, [], ◌∷◌, length, map, drop, refl, ap, sym, ◌∙◌}
use Rattle.std.proofs.Math.ListN.{drop_of_length-le}
use Rattle.edi_tree.specs.View.{ClosedBranch, branches}
use Rattle.edi_sights.specs.named.Naming.{Naming, branches_named}

-- at the end of a loop over what the code has
pub all_named : {C X : Type 0} (see : C → X) (all : List X → Naming → Naming) (items : List C) (i : ℕ) (now whole : Naming) → all [] now ≡ now →
    all (map see (drop i items)) now ≡ whole → length items ≤ i → now ≡ whole
all_named see all items i now whole none h past = sym none ∙ (ap (λ rest. all (map see rest) now) (sym (drop_of_length-le items past)) ∙ h)

-- the line of the symbol that closes a branch counts for nothing
pub branches_any_end : (m n : ℕ) (bs : List ClosedBranch) (w : Naming) → branches_named (branches m bs) w ≡ branches_named (branches n bs) w
branches_any_end m n [] w = refl
branches_any_end m n (b ∷ bs) w = refl
