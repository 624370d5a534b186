-- The ready processes without one of them.
use Rattle.std.proofs.Common.{◌≡◌, ◌⊎◌, inl, inr, Bool, true, false, ◌||◌, if◌then◌else◌, List, [], ◌∷◌, refl, sym, ap, ◌∙◌}
use Rattle.edi_calls.specs.Names.{Name, same}
use Rattle.edi_calls.specs.Ready.{has}
use Rattle.edi_calls.proofs.Names.{Once}
use Rattle.edi_calls.proofs.Tables.{same-refl, same-equal, same-or-other}
use Rattle.edi_meaning.proofs.Sound.{Each}
use Rattle.edi_explored.specs.Covered.{Reordered}

abbrev pub others_of : Name → List Name → List Name
others_of p [] = []
others_of p (q ∷ l) = if same p q then others_of p l else q ∷ others_of p l

-- who is among them
has_others : (p : Name) (l : List Name) (x : Name) → has (others_of p l) x ≡ (if same x p then false else has l x)
has_others p [] x = go (same x p)
  where
    go : (b : Bool) → false ≡ (if b then false else false)
    go true = refl
    go false = refl
has_others p (q ∷ l) x = go (same p q) refl (same x p) refl (has_others p l x)
  where
    go : (b : Bool) → same p q ≡ b → (c : Bool) → same x p ≡ c → has (others_of p l) x ≡ (if same x p then false else has l x) →
        has (if b then others_of p l else q ∷ others_of p l) x ≡ (if c then false else (same x q || has l x))
    go true e true f h = h ∙ ap (λ d. if d then false else has l x) f
    go true e false f h =
        h ∙ ap (λ d. if d then false else has l x) f ∙ ap (λ d. d || has l x) (sym (ap (same x) (sym (same-equal p q e)) ∙ f))
    go false e true f h =
        ap (λ d. d || has (others_of p l) x) (ap (λ y. same y q) (same-equal x p f) ∙ e) ∙ h ∙ ap (λ d. if d then false else has l x) f
    go false e false f h = ap (λ d. same x q || d) (h ∙ ap (λ d. if d then false else has l x) f)

once_others : (p : Name) (l : List Name) → Once l → Once (others_of p l)
once_others p [] o = tt
once_others p (q ∷ l) o = go (same p q) refl (once_others p l o.1)
  where
    none : (c : Bool) → same q p ≡ c → (if c then false else has l q) ≡ false
    none true e = refl
    none false e = o.0

    go : (b : Bool) → same p q ≡ b → Once (others_of p l) → Once (if b then others_of p l else q ∷ others_of p l)
    go true e h = h
    go false e h = (has_others p l q ∙ none (same q p) refl, h)

pub reordered : (p : Name) (l : List Name) → has l p ≡ true → Reordered l (p ∷ others_of p l)
reordered p l there = record {
  members = λ x. go x (same-or-other x p);
  once = λ o. (has_others p l p ∙ ap (λ d. if d then false else has l p) (same-refl p), once_others p l o);
}
  where
    go : (x : Name) → (x ≡ p) ⊎ (same x p ≡ false) → (same x p || has (others_of p l) x) ≡ has l x
    go x (inl e) = ap (λ y. same y p || has (others_of p l) y) e ∙ ap (λ d. d || has (others_of p l) p) (same-refl p) ∙ sym there ∙ ap (has l) (sym e)
    go x (inr n) = ap (λ d. d || has (others_of p l) x) n ∙ has_others p l x ∙ ap (λ d. if d then false else has l x) n

-- the same processes in another order
pub each_on : (P : Name → Type 0) (l other : List Name) → Reordered l other → Each P l → Each P other
each_on P l other m e = record { once = m.once e.once; holds = λ x h. e.holds x (sym (m.members x) ∙ h); all = λ x h. m.members x ∙ e.all x h }
