-- Loops that look for a call among the items of a list.
use Rattle.std.proofs.Common.{◌≡◌, ℕ, ◌+◌, Bool, true, false, ◌||◌, List, ◌∷◌, drop, sym, ap, ◌∙◌}

module _ {X : Type 0} (f : List X → Bool) (items : List X) (i : ℕ) (x : X) (here : Bool) (cut : drop i items ≡ x ∷ drop (i + 1) items)
    (all : f (drop i items) ≡ f items) (first : f (x ∷ drop (i + 1) items) ≡ (here || f (drop (i + 1) items))) where
  -- whether there is one among all, told by the next item and the rest
  among : (here || f (drop (i + 1) items)) ≡ f items
  among = sym (ap f cut ∙ first) ∙ all

  pub none_here : here ≡ false → f (drop (i + 1) items) ≡ f items
  none_here none = sym (ap (λ b. b || f (drop (i + 1) items)) none) ∙ among

  pub one_here : here ≡ true → true ≡ f items
  one_here some = sym (ap (λ b. b || f (drop (i + 1) items)) some) ∙ among
