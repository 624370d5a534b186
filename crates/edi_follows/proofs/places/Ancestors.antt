-- Whose instances a process may use, by names: its own and those of its ancestors.
use Rattle.std.proofs.Common.{◌≡◌, ℕ, zero, suc, ◌⊎◌, inl, inr, false, true, [], ◌∷◌, ◌++◌, refl, sym, subst, ap, ◌∙◌, arith, append_assoc, length-append}
use Rattle.edi_calls.specs.Names.{Name, same}
use Rattle.edi_calls.specs.Ready.{parent_of}
use Rattle.edi_calls.proofs.Tables.{same-refl}
use Rattle.edi_meaning.specs.Store.{ancestor, Owns}
use Rattle.edi_target.specs.Mach.{IsAncestor}
use Rattle.edi_target.proofs.segments.Pairs.{child_of, under_ancestor}

ancestor_all : (p q r : Name) → IsAncestor p q → IsAncestor q r → IsAncestor p r
ancestor_all p q r h k = (h.0 ++ k.0, omega (arith, length-append h.0 k.0, k.1), k.2 ∙ ap (λ y. y ++ k.0) h.2 ∙ append_assoc p h.0 k.0)

further : (q p : Name) → (q ≡ p) ⊎ IsAncestor q p → (parent_of q ≡ p) ⊎ IsAncestor (parent_of q) p
further [] p h = h
further (x ∷ q) p (inl e) = inr
    (subst (λ y. IsAncestor (parent_of (x ∷ q)) y) e (under_ancestor (parent_of (x ∷ q)) (x ∷ q) (child_of (x ∷ q) (omega arith) refl)))
further (x ∷ q) p (inr h) = inr
    (ancestor_all (parent_of (x ∷ q)) (x ∷ q) p (under_ancestor (parent_of (x ∷ q)) (x ∷ q) (child_of (x ∷ q) (omega arith) refl)) h)

generation_is : (n : ℕ) (p : Name) → (ancestor n p ≡ p) ⊎ IsAncestor (ancestor n p) p
generation_is zero p = inl refl
generation_is (suc n) p = further (ancestor n p) p (generation_is n p)

-- what p owns and is not p is an ancestor's
pub owns_ancestor : (p r : Name) → Owns p r → same r p ≡ false → IsAncestor r p
owns_ancestor p r o n = go (generation_is o.generation p)
  where
    go : (ancestor o.generation p ≡ p) ⊎ IsAncestor (ancestor o.generation p) p → IsAncestor r p
    go (inl e) = let same_name : same r p ≡ true = ap (λ y. same y p) (o.is ∙ e) ∙ same-refl p in absurd (cc)
    go (inr h) = subst (λ y. IsAncestor y p) (sym o.is) h
